-- A written block read: it has the layout, and its number and values are those that it was made of.
-- Assumes nothing.
use mathlib.Core.Path.{◌≡◌, refl, ap, ap₂, sym, ◌∙◌, subst}
use mathlib.Core.Logic.{◌⊎◌, inl, inr}
use mathlib.Core.List.{List, [], ◌∷◌, ◌++◌}
use Prim.Native.Nat.{ℕ, zero, suc, ◌+◌, ◌-◌, ◌*◌, ◌≤◌, ◌<◌}
use native.Mathlib.Decide.{dec_lt}
use native.Mathlib.Omega.{arith}
use lib.ListN.{length, get_or, replicate, length-replicate, get_or-eq_default}
use Rattle.places.specs.Places.{table}
use Rattle.places.proofs.Tables.{table-is}
use Rattle.places.proofs.Totals.{total-same}
use Rattle.little.specs.Bytes.{byte_at, Bytes, part, little, bytes_of, longs}
use Rattle.little.proofs.Little.{length-bytes, bytes-below, little-bytes, part-at}
use Rattle.little.proofs.Zeros.{part-zero}
use Rattle.little.proofs.Parts.{Begins, begins-all, begins-same, begins-less, begins-at, part-last, part-of-part}
use Rattle.little.proofs.Parts.{zero-in-part, bytes-append, bytes-zeros}
use Rattle.little.proofs.Longs.{length-longs, bytes-longs, longs-at}
use Rattle.layout.specs.Editions.{head_at, marks_at, check_at, Edition}
use Rattle.layout.specs.Layout.{block_number, count, edition, number_from, mark, check, weighed, check_sum, head_of}
use Rattle.layout.specs.Told.{LaidOutAs}
use Rattle.layout.specs.Sound.{fault_as}
use Rattle.layout.proofs.Check.{check-below}
use Rattle.layout.proofs.Layouts.{sound-exactly}
use Rattle.written.specs.Block.{before_check, block_of, Writable, Values}
use Rattle.written.specs.Run.{numbers_in, marks_in}
use Rattle.written.proofs.Sizes as sizes

-- the sum for the check looks at the bytes before the check alone
pub same-sum
    : (b u : List ℕ) → ((i : ℕ) → i < check_at → byte_at b i ≡ byte_at u i) → check_sum b ≡ check_sum u
unfolding check_sum
same-sum b u e = total-same (weighed b) (weighed u) check_at (λ i h. ap (λ x. suc i * x) (e i h))

module _ (E : Edition) (w : Writable E) (n : ℕ) (numbers marks : List ℕ) (v : Values E n numbers marks) where
  abbrev b : List ℕ
  b = block_of E n numbers marks

  abbrev u : List ℕ
  u = before_check E n numbers marks

  abbrev c : ℕ
  c = length numbers

  -- ---- the parts, from the last one on

  all : Begins (u ++ bytes_of 4 (check_sum u)) b
  all = begins-all (u ++ bytes_of 4 (check_sum u)) (sizes.block-is E n numbers marks)

  up-to-check : Begins (sizes.marked E n numbers marks ++ replicate (check_at - marks_at - length marks) 0) b
  up-to-check =
      begins-same (begins-less u (bytes_of 4 (check_sum u)) all) (sizes.before-check-is E n numbers marks)

  up-to-zeros : Begins (sizes.marked E n numbers marks) b
  up-to-zeros =
      begins-less (sizes.marked E n numbers marks) (replicate (check_at - marks_at - length marks) 0) up-to-check

  up-to-marks : Begins (sizes.filled E n numbers marks) b
  up-to-marks = begins-less (sizes.filled E n numbers marks) marks up-to-zeros

  up-to-unused : Begins (sizes.numbered E n numbers marks) b
  up-to-unused =
      begins-less (sizes.numbered E n numbers marks) (replicate (8 * (E.most - c)) 0) up-to-marks

  up-to-numbers : Begins (sizes.headed E n numbers marks) b
  up-to-numbers = begins-less (sizes.headed E n numbers marks) (longs numbers) up-to-unused

  up-to-head : Begins (sizes.counted E n numbers marks) b
  up-to-head = begins-less (sizes.counted E n numbers marks) (E.head numbers marks) up-to-numbers

  up-to-count : Begins ([] ++ bytes_of 4 n) b
  up-to-count = begins-less (bytes_of 4 n) (c ∷ E.tag ∷ []) up-to-head

  -- ---- what stands where

  number-part : part 0 4 b ≡ bytes_of 4 n
  number-part = part-last [] (bytes_of 4 n) 0 4 up-to-count refl (length-bytes 4 n)

  count-part : part 4 2 b ≡ c ∷ E.tag ∷ []
  count-part = part-last (bytes_of 4 n) (c ∷ E.tag ∷ []) 4 2 up-to-head (length-bytes 4 n) refl

  head-part : part head_at (E.first - head_at) b ≡ E.head numbers marks
  head-part =
      part-last (sizes.counted E n numbers marks) (E.head numbers marks) head_at (E.first - head_at) up-to-numbers
      (sizes.length-counted E n numbers marks) (let h = E.headed numbers marks in omega arith)

  numbers-part : part E.first (8 * c) b ≡ longs numbers
  numbers-part =
      part-last (sizes.headed E n numbers marks) (longs numbers) E.first (8 * c) up-to-unused
      (sizes.length-headed E n numbers marks) (length-longs numbers)

  unused-part : part (E.first + 8 * c) (8 * (E.most - c)) b ≡ replicate (8 * (E.most - c)) 0
  unused-part =
      part-last (sizes.numbered E n numbers marks) (replicate (8 * (E.most - c)) 0) (E.first + 8 * c)
      (8 * (E.most - c)) up-to-marks (sizes.length-numbered E n numbers marks) (length-replicate (8 * (E.most - c)) 0)

  marks-part : part marks_at c b ≡ marks
  marks-part =
      part-last (sizes.filled E n numbers marks) marks marks_at c up-to-zeros
      (sizes.length-filled E n numbers marks v.counted v.even) v.even

  past-part : part (marks_at + c) (check_at - marks_at - length marks) b ≡ replicate (check_at - marks_at - length marks) 0
  past-part =
      part-last (sizes.marked E n numbers marks) (replicate (check_at - marks_at - length marks) 0) (marks_at + c)
      (check_at - marks_at - length marks) up-to-check
      (sizes.length-marked E n numbers marks v.counted v.even)
      (length-replicate (check_at - marks_at - length marks) 0)

  check-part : part check_at 4 b ≡ bytes_of 4 (check_sum u)
  check-part =
      part-last u (bytes_of 4 (check_sum u)) check_at 4 all
      (sizes.length-before-check E n numbers marks v.counted v.even) (length-bytes 4 (check_sum u))

  -- ---- number, count and values

  pub written-number : block_number b ≡ n
  unfolding block_number
  written-number = ap little number-part ∙ little-bytes 4 n v.numbered

  pub written-count : count b ≡ c
  written-count = sym (part-at 4 2 b 0 (omega arith)) ∙ ap (λ l. byte_at l 0) count-part

  written-edition : edition b ≡ E.tag
  written-edition = sym (part-at 4 2 b 1 (omega arith)) ∙ ap (λ l. byte_at l 1) count-part

  pub written-at : (i : ℕ) → i < c → number_from E.first b i ≡ get_or numbers i 0
  unfolding number_from
  written-at i h =
      ap little
      (sym (part-of-part E.first (8 * c) (8 * i) 8 b (omega arith))
      ∙ ap (part (8 * i) 8) numbers-part
      ∙ longs-at numbers i h)
      ∙ little-bytes 8 (get_or numbers i 0) (v.sized i)

  pub written-mark : (i : ℕ) → i < c → mark b i ≡ get_or marks i 0
  written-mark i h = sym (part-at marks_at c b i h) ∙ ap (λ l. byte_at l i) marks-part

  pub written-numbers : numbers_in E b ≡ numbers
  written-numbers =
      ap (table (number_from E.first b)) written-count ∙ table-is (number_from E.first b) numbers c refl written-at

  pub written-marks : marks_in b ≡ marks
  written-marks = ap (table (mark b)) written-count ∙ table-is (mark b) marks c v.even written-mark

  -- ---- the check

  written-bytes : Bytes u
  written-bytes =
      subst Bytes (sym (sizes.before-check-is E n numbers marks))
      (bytes-append (sizes.marked E n numbers marks) (replicate (check_at - marks_at - length marks) 0)
      (bytes-append (sizes.filled E n numbers marks) marks
      (bytes-append (sizes.numbered E n numbers marks) (replicate (8 * (E.most - c)) 0)
      (bytes-append (sizes.headed E n numbers marks) (longs numbers)
      (bytes-append (sizes.counted E n numbers marks) (E.head numbers marks)
      (bytes-append (bytes_of 4 n) (c ∷ E.tag ∷ []) (bytes-below 4 n) two)
      (w.headed numbers marks)) (bytes-longs numbers)) (bytes-zeros (8 * (E.most - c)))) small)
      (bytes-zeros (check_at - marks_at - length marks)))
    where
      two : (i : ℕ) → byte_at (c ∷ E.tag ∷ []) i < 256
      two zero = let k = sizes.within E n numbers marks v.counted v.even in omega arith
      two (suc zero) = w.tagged
      two (suc (suc i)) = omega arith

      small : (i : ℕ) → byte_at marks i < 256
      small i =
          elim (dec_lt i c) [
            | yes h ↦ elim (v.marked i h) [ inl e ↦ omega arith | inr e ↦ let f = e.0 in omega arith ]
            | no h ↦
                let l : length marks ≤ i = let e = v.even in omega arith in
                let z = get_or-eq_default marks 0 l in omega arith
          ]

  written-check : check b ≡ check_sum b
  unfolding check
  written-check =
      let l = sizes.length-before-check E n numbers marks v.counted v.even in
      let below = begins-less u (bytes_of 4 (check_sum u)) all in
      ap little check-part
      ∙ little-bytes 4 (check_sum u) (check-below u written-bytes)
      ∙ sym (same-sum b u (λ i h. begins-at u below i (omega arith)))

  -- ---- the layout

  pub written-laid-out : LaidOutAs E b
  unfolding number_from
  written-laid-out =
      record {
        whole = sizes.length-block E n numbers marks v.counted v.even;
        counted = let e = written-count in let m = v.counted in omega arith;
        editioned = written-edition;
        headed = head-byte;
        unused_numbers = unused-number;
        unused_marks =
            λ i h k.
            let c = written-count in
            let f = E.full in unused-byte (marks_at + i) (omega arith) (omega arith);
        marked = place-marked;
        zeros_past = λ i h k. unused-byte i (let m = E.marked in let e = v.counted in omega arith) k;
        checked = written-check;
      }
    where
      head-byte : (i : ℕ) → head_at ≤ i → i < E.first → byte_at b i ≡ byte_at (head_of E b) (i - head_at)
      head-byte i h k =
          let s : head_at + (i - head_at) ≡ i = omega arith in
          ap (byte_at b) (sym s)
          ∙ sym (part-at head_at (E.first - head_at) b (i - head_at) (omega arith))
          ∙ ap (λ l. byte_at l (i - head_at)) head-part
          ∙ ap (λ l. byte_at l (i - head_at)) (sym (ap₂ E.head written-numbers written-marks))

      unused-number : (i : ℕ) → count b ≤ i → i < E.most → number_from E.first b i ≡ 0
      unused-number i h k =
          part-zero (E.first + 8 * i) 8 b
          (λ j l m.
          let e = written-count in
          let s : E.first + 8 * c + (j - (E.first + 8 * c)) ≡ j = omega arith in
          ap (byte_at b) (sym s)
          ∙ zero-in-part (E.first + 8 * c) (8 * (E.most - c)) b unused-part (j - (E.first + 8 * c)) (omega arith))

      unused-byte : (i : ℕ) → marks_at + c ≤ i → i < check_at → byte_at b i ≡ 0
      unused-byte i h k =
          let s : marks_at + c + (i - (marks_at + c)) ≡ i = omega arith in
          ap (byte_at b) (sym s)
          ∙ zero-in-part (marks_at + c) (check_at - marks_at - length marks) b past-part (i - (marks_at + c))
          (let e = v.even in omega arith)

      place-marked : (i : ℕ) → i < count b → (mark b i ≡ 0) ⊎ ((mark b i ≡ 1) × (number_from E.first b i ≡ 0))
      place-marked i h =
          let k : i < c = let e = written-count in omega arith in
          subst (λ m. (m ≡ 0) ⊎ ((m ≡ 1) × (number_from E.first b i ≡ 0))) (sym (written-mark i k))
          (subst (λ m. (get_or marks i 0 ≡ 0) ⊎ ((get_or marks i 0 ≡ 1) × (m ≡ 0))) (sym (written-at i k)) (v.marked i k))

  pub written-sound : fault_as E b ≡ 0
  written-sound = (sound-exactly E b).1 written-laid-out
