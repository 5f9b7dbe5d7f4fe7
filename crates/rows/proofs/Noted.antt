-- Lists that are written place by place: a list of numbers, and one of bytes that was cleared first, of which those
-- that aren't 0 are written.
-- Assumes nothing.
use mathlib.Core.Path.{◌≡◌, refl, ap, sym, ◌∙◌}
use mathlib.Core.Bool.{Bool, true, false, cond}
use mathlib.Core.List.{List, ◌++◌}
use Prim.Native.Nat.{ℕ, ◌+◌, ◌≤◌, ◌<◌}
use native.Mathlib.Nat.{le_refl, zero-add}
use native.Mathlib.Decide.{ℕ_discrete}
use native.Mathlib.Omega.{arith}
use borrow.Author.Tests.{eq-eqb, ne_eqb}
use lib.Dec.{eqb}
use lib.ListN.{length, get_or, set, drop, replicate, length-set, length-replicate, get_or-replicate}
use lib.Seq.{drop_at, set-get_or}
use Rattle.checked.specs.declared.refusal.Refusal.{Refusal}
use Rattle.checked.specs.Value.{Value}
use Rattle.checked.specs.Paper.{given, number_of}
use Rattle.checked.proofs.Refused.{given-code}
use Rattle.checked.proofs.Unique.{not-zero}
use Rattle.places.specs.Places.{table, over}
use Rattle.places.proofs.Tables.{length-table, table-is, over-none, over-at, over-past, length-over}
use Rattle.places.proofs.Copies.{copy-turn, copy-end}
use Rattle.little.specs.Bytes.{put}
use Rattle.little.proofs.Stored.{put-there}
use Rattle.rows.specs.Turns.{cleared, kept, noted}

-- ---- place by place

-- the first i places of a list are written, and it is as long as before
pub record Written (f : ℕ → ℕ) (old : List ℕ) (i : ℕ) (now : List ℕ) : Type 0 where
  pub first : now ≡ over f i old
  pub as-long : length now ≡ length old

module _ (f : ℕ → ℕ) (old : List ℕ) where
  pub nothing-written : Written f old 0 old
  nothing-written = record { first = sym (over-none f old); as-long = refl }

  pub one-more
      : (i : ℕ) (now later : List ℕ) → Written f old i now → later ≡ set now i (f i) → i < length old →
      Written f old (i + 1) later
  one-more i now later w e h = record {
    first = e ∙ copy-turn f old now i w.first (f i) refl h;
    as-long = ap length e ∙ length-set now i (f i) ∙ w.as-long;
  }

  -- after n turns
  pub all-written : (n i : ℕ) (now : List ℕ) → Written f old i now → i ≡ n → now ≡ over f n old
  all-written n i now w e = copy-end f old now i w.first n e

-- ---- bytes that are written where they aren't 0

-- so many zeros from the first place on clear as many places
pub zeros-clear : (n : ℕ) (bytes : List ℕ) → n ≤ length bytes → put 0 (replicate n 0) bytes ≡ cleared n bytes
zeros-clear n bytes room =
    let l = length-replicate {A = ℕ} n 0 in
    put-there 0 (replicate n 0) bytes (omega arith)
    ∙ ap (λ m. replicate n 0 ++ drop m bytes) (zero-add (length (replicate n 0)) ∙ l)
    ∙ ap (λ zeros. zeros ++ drop n bytes)
    (sym (table-is (λ i. 0) (replicate n 0) n l (λ i h. sym (get_or-replicate {A = ℕ} n i 0 0 h))))

-- where a place has 0, noting a byte there is writing it
pub noting : (now : List ℕ) (i byte : ℕ) → get_or now i 0 ≡ 0 → noted i byte now ≡ set now i byte
noting now i byte z =
    elim (ℕ_discrete byte 0) [
      | yes e ↦
          ap (λ t. cond t now (set now i byte)) (eq-eqb byte 0 e)
          ∙ sym (set-get_or now i 0)
          ∙ ap (set now i) (z ∙ sym e)
      | no m ↦ ap (λ t. cond t now (set now i byte)) (ne_eqb byte 0 m)
    ]

-- what is kept at place i is what is noted there
pub kept-noted : (i byte : ℕ) (bytes : List ℕ) → set bytes i (kept byte (get_or bytes i 0)) ≡ noted i byte bytes
kept-noted i byte bytes = either (eqb byte 0)
  where
    either : (t : Bool) → set bytes i (cond t (get_or bytes i 0) byte) ≡ cond t bytes (set bytes i byte)
    either true = set-get_or bytes i 0
    either false = refl

-- a value's code isn't written, and a refusal's is
pub value-noted : (v : Value) (i : ℕ) (codes : List ℕ) → codes ≡ noted i (given v).code codes
value-noted v i codes = sym (ap (λ n. noted i n codes) (given-code v))

pub refusal-noted : (r : Refusal) (i : ℕ) (codes : List ℕ) → set codes i (number_of r) ≡ noted i (number_of r) codes
refusal-noted r i codes = sym (ap (λ t. cond t codes (set codes i (number_of r))) (not-zero r))

-- a list whose first n places were cleared, and then written one by one
module _ (f : ℕ → ℕ) (n : ℕ) (old blank : List ℕ) (room : n ≤ length old) (b : blank ≡ cleared n old) where
  pub blank-long : length blank ≡ length old
  blank-long = ap length b ∙ length-over (λ i. 0) old n room

  -- a turn: place i was cleared, and no turn before this one wrote there
  pub one-noted
      : (i : ℕ) (now later : List ℕ) → Written f blank i now → later ≡ noted i (f i) now → i < n →
      Written f blank (i + 1) later
  one-noted i now later w e h =
      one-more f blank i now later w (e ∙ noting now i (f i) unwritten) (let l = blank-long in omega arith)
    where
      unwritten : get_or now i 0 ≡ 0
      unwritten =
          ap (λ l. get_or l i 0) w.first
          ∙ over-past f blank i i (le_refl i)
          ∙ ap (λ l. get_or l i 0) b
          ∙ over-at (λ i. 0) old n i h

  -- after the last turn: what is written over them is written over what was there
  pub all-noted : (i : ℕ) (now : List ℕ) → Written f blank i now → i ≡ n → now ≡ over f n old
  all-noted i now w e =
      w.first
      ∙ ap (λ m. over f m blank) e
      ∙ ap (over f n) b
      ∙ ap (λ l. table f n ++ l) (drop_at (table (λ i. 0) n) (drop n old) n (length-table (λ i. 0) n))
