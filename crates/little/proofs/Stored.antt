-- Bytes stored in a list: where there is room for them, as single stores one after the other, and where there is none;
-- two runs of bytes side by side, the later one stored first; and a list laid part after part.
-- Assumes nothing.
use mathlib.Core.Path.{◌≡◌, ap, sym, ◌∙◌}
use mathlib.Core.Bool.{cond}
use mathlib.Core.List.{List, ◌++◌, append_assoc}
use Prim.Native.Nat.{ℕ, ◌+◌, ◌-◌, ◌≤◌, ◌<◌}
use native.Mathlib.Decide.{dec_lt}
use native.Mathlib.Nat.{zero-add}
use native.Mathlib.Omega.{arith}
use borrow.Author.Tests.{le-leb, lt-leb}
use borrow.Rule.Slice.PartMut.{put_mid}
use lib.ListN.{length, take, drop, length-append}
use lib.Seq.{length-take-le, take-append_seam, drop-append_seam, drop-append-add, drop-drop, sets, length-sets, sets-eq}
use Rattle.places.specs.Places.{overlaid}
use Rattle.places.proofs.Overlaid.{overlaid-length}
use Rattle.little.specs.Bytes.{put}

module _ (at : ℕ) (bytes old : List ℕ) where
  pub put-there
      : at + length bytes ≤ length old → put at bytes old ≡ take at old ++ bytes ++ drop (at + length bytes) old
  unfolding put
  put-there h =
      ap (λ t. cond t (take at old ++ bytes ++ drop (at + length bytes) old) old)
      (le-leb (at + length bytes) (length old) h)

  pub put-stored : at + length bytes ≤ length old → put at bytes old ≡ sets old at bytes
  put-stored h = put-there h ∙ sym (sets-eq bytes old at h)

  pub put-nowhere : length old < at + length bytes → put at bytes old ≡ old
  unfolding put
  put-nowhere h =
      ap (λ t. cond t (take at old ++ bytes ++ drop (at + length bytes) old) old)
      (lt-leb (at + length bytes) (length old) h)

  -- the list stays as long as it was
  pub length-put : at + length bytes ≤ length old → length (put at bytes old) ≡ length old
  length-put h = ap length (put-stored h) ∙ length-sets old at bytes

  -- with room for them or without
  pub put-keeps-length : length (put at bytes old) ≡ length old
  put-keeps-length =
      elim (dec_lt (length old) (at + length bytes)) [
        | yes h ↦ ap length (put-nowhere h)
        | no n ↦ length-put (omega arith)
      ]

-- stored as a part of the list that is put back in its place
pub put-between
    : (from k : ℕ) (xs old : List ℕ) → length xs ≡ k → from + k ≤ length old →
    take from old ++ (xs ++ drop k (drop from old)) ≡ put from xs old
put-between from k xs old e h =
    sym (append_assoc (take from old) xs (drop k (drop from old)))
    ∙ ap (λ l. take from old ++ xs ++ l) (drop-drop k from old ∙ ap (λ m. drop (from + m) old) (sym e))
    ∙ sym (put-there from xs old (omega arith))

-- and the same as the code has it, of a part that a call writes
pub put-mid
    : (from k : ℕ) (xs now old : List ℕ) → now ≡ xs → length xs ≡ k → from + k ≤ length old →
    put_mid from (from + k - from) old now ≡ put from xs old
put-mid from k xs now old w e h =
    let n : from + k - from ≡ k = omega arith in
    ap (λ j. put_mid from j old now) n ∙ ap (put_mid from k old) w ∙ put-between from k xs old e h

pub put-later-first
    : (xs ys old : List ℕ) → length xs + length ys ≤ length old →
    put 0 xs (put (length xs) ys old) ≡ (xs ++ ys) ++ drop (length xs + length ys) old
put-later-first xs ys old h =
    let n = length xs in
    let half = put n ys old in
    let rest = drop (n + length ys) old in
    let size : length (take n old) ≡ n = length-take-le n old (omega arith) in
    let seam : drop n half ≡ ys ++ rest =
    ap (drop n) (put-there n ys old h ∙ append_assoc (take n old) ys rest)
    ∙ ap (λ k. drop k (take n old ++ (ys ++ rest))) (sym size)
    ∙ drop-append_seam (take n old) (ys ++ rest) in
    put-there 0 xs half (omega (arith, length-put n ys old h))
    ∙ ap (λ k. xs ++ drop k half) (zero-add n)
    ∙ ap (λ l. xs ++ l) seam
    ∙ sym (append_assoc xs ys rest)

-- ---- laid part after part

-- what is stored where a list's laid part ends lengthens that
pub put-on
    : (laid xs old : List ℕ) → length laid + length xs ≤ length old →
    put (length laid) xs (overlaid laid old) ≡ overlaid (laid ++ xs) old
put-on laid xs old h =
    let n = length laid in
    let now = overlaid laid old in
    let size = overlaid-length old laid (omega arith) in
    put-there n xs now (omega arith)
    ∙ ap (λ l. l ++ xs ++ drop (n + length xs) now) (take-append_seam laid (drop n old))
    ∙ ap (λ l. laid ++ xs ++ l)
    (drop-append-add laid (drop n old) (length xs)
    ∙ drop-drop (length xs) n old
    ∙ ap (λ k. drop k old) (sym (length-append laid xs)))

-- a step of the code that lays it: the list before the store begins with what is laid, and so it does after it
pub laid-on
    : {now prev : List ℕ} (at : ℕ) (laid xs old : List ℕ) → prev ≡ overlaid laid old → now ≡ put at xs prev →
    at ≡ length laid → length laid + length xs ≤ length old → now ≡ overlaid (laid ++ xs) old
laid-on at laid xs old before step place h =
    step ∙ ap (put at xs) before ∙ ap (λ k. put k xs (overlaid laid old)) place ∙ put-on laid xs old h
