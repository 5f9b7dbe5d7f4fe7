-- A sound block written again from its number and its values: the same bytes.
-- Assumes nothing.
use mathlib.Core.Path.{◌≡◌, refl, ap, ap₂, sym, ◌∙◌}
use mathlib.Core.List.{List, [], ◌∷◌}
use Prim.Native.Nat.{ℕ, ◌+◌, ◌-◌, ◌*◌, ◌/◌, ◌%◌, ◌≤◌, ◌<◌}
use native.Mathlib.Decide.{dec_lt}
use native.Mathlib.Omega.{arith}
use lib.ListN.{length, take, replicate}
use lib.Seq.{take_all, get_or-take}
use Rattle.places.proofs.Tables.{length-table, table-at}
use Rattle.little.specs.Bytes.{byte_at, Bytes, part, little, bytes_of, longs}
use Rattle.little.proofs.Little.{bytes-little, part-bytes}
use Rattle.little.proofs.Listed.{two-listed}
use Rattle.little.proofs.Zeros.{part-bytes-zero}
use Rattle.little.proofs.Parts.{part-grown, part-is, zeros-part-is, length-part}
use Rattle.little.proofs.Longs.{longs-of-part}
use Rattle.layout.specs.Editions.{block_length, head_at, marks_at, check_at, Edition}
use Rattle.layout.specs.Layout.{block_number, count, number_from, mark, check, check_sum}
use Rattle.layout.specs.Told.{LaidOutAs}
use Rattle.written.specs.Block.{before_check, block_of}
use Rattle.written.specs.Run.{numbers_in, marks_in}
use Rattle.written.proofs.Sizes as sizes
use Rattle.written.proofs.Blocks.{same-sum}

-- bytes from the number that they stand for
bytes-of-part
    : (from k : ℕ) (b : List ℕ) → Bytes b → from + k ≤ length b → bytes_of k (little (part from k b)) ≡ part from k b
bytes-of-part from k b bytes h =
    ap (λ j. bytes_of j (little (part from k b))) (sym (length-part from k b h))
    ∙ bytes-little (part from k b) (part-bytes from k b bytes)

module _ (E : Edition) (b : List ℕ) (bytes : Bytes b) (l : LaidOutAs E b) where
  abbrev ns : List ℕ
  ns = numbers_in E b

  abbrev ms : List ℕ
  ms = marks_in b

  abbrev c : ℕ
  c = count b

  abbrev n : ℕ
  n = block_number b

  abbrev u : List ℕ
  u = before_check E n ns ms

  -- ---- sizes

  numbers-counted : length ns ≡ c
  numbers-counted = length-table (number_from E.first b) c

  marks-counted : length ms ≡ c
  marks-counted = length-table (mark b) c

  small : c ≤ 55
  small = let f = E.full in let h = E.headed ns ms in let m = l.counted in omega arith

  -- ---- the parts, from the first one on

  number-part : part 0 4 b ≡ bytes_of 4 n
  unfolding block_number
  number-part = sym (bytes-of-part 0 4 b bytes (let w = l.whole in omega arith))

  count-part : part 4 2 b ≡ length ns ∷ E.tag ∷ []
  count-part =
      sym (two-listed 4 b (let w = l.whole in omega arith))
      ∙ ap₂ (λ c t. c ∷ t ∷ []) (sym numbers-counted) l.editioned

  head-part : part head_at (E.first - head_at) b ≡ E.head ns ms
  head-part =
      part-is head_at (E.first - head_at) b (E.head ns ms)
      (let w = l.whole in let f = E.full in let h = E.headed ns ms in omega arith)
      (let h = E.headed ns ms in omega arith)
      (λ i h.
      let s : head_at + i - head_at ≡ i = omega arith in
      l.headed (head_at + i) (omega arith) (omega arith) ∙ ap (byte_at (E.head ns ms)) s)

  numbers-part : part E.first (8 * c) b ≡ longs ns
  unfolding number_from
  numbers-part =
      longs-of-part E.first c b (number_from E.first b)
      (λ i h.
      bytes-of-part (E.first + 8 * i) 8 b bytes
      (let w = l.whole in let f = E.full in let m = l.counted in omega arith))

  unused-part : part (E.first + 8 * c) (8 * (E.most - c)) b ≡ replicate (8 * (E.most - c)) 0
  unfolding number_from
  unused-part =
      zeros-part-is (E.first + 8 * c) (8 * (E.most - c)) b
      (let w = l.whole in let f = E.full in let m = l.counted in omega arith) zero-at
    where
      zero-at : (i : ℕ) → i < 8 * (E.most - c) → byte_at b (E.first + 8 * c + i) ≡ 0
      zero-at i h =
          let q = i / 8 in
          let r : 8 * q + i % 8 ≡ i = omega arith in
          part-bytes-zero (E.first + 8 * (c + q)) 8 b (l.unused_numbers (c + q) (omega arith) (omega arith))
          (E.first + 8 * c + i) (omega arith) (omega arith)

  marks-part : part marks_at c b ≡ ms
  marks-part =
      part-is marks_at c b ms (let w = l.whole in let s = small in omega arith) marks-counted
      (λ i h. sym (table-at (mark b) c i h))

  past-part : part (marks_at + c) (check_at - marks_at - c) b ≡ replicate (check_at - marks_at - c) 0
  past-part =
      zeros-part-is (marks_at + c) (check_at - marks_at - c) b (let w = l.whole in let s = small in omega arith) zero-at
    where
      zero-at : (i : ℕ) → i < check_at - marks_at - c → byte_at b (marks_at + c + i) ≡ 0
      zero-at i h =
          let p = E.marked in
          elim (dec_lt (c + i) E.most) [
            | yes k ↦
                let s : marks_at + (c + i) ≡ marks_at + c + i = omega arith in
                ap (byte_at b) (sym s) ∙ l.unused_marks (c + i) (omega arith) k
            | no k ↦ l.zeros_past (marks_at + c + i) (omega arith) (omega arith)
          ]

  -- ---- the block so far

  abbrev to-numbers : ℕ
  to-numbers = E.first + 8 * c

  number-so-far : take 4 b ≡ bytes_of 4 n
  number-so-far = part-grown [] (bytes_of 4 n) b 0 4 4 refl number-part refl

  count-so-far : take head_at b ≡ sizes.counted E n ns ms
  count-so-far = part-grown (bytes_of 4 n) (length ns ∷ E.tag ∷ []) b 4 2 head_at number-so-far count-part refl

  head-so-far : take E.first b ≡ sizes.headed E n ns ms
  head-so-far =
      part-grown (sizes.counted E n ns ms) (E.head ns ms) b head_at (E.first - head_at) E.first count-so-far
      head-part
      (let h = E.headed ns ms in omega arith)

  numbers-so-far : take to-numbers b ≡ sizes.numbered E n ns ms
  numbers-so-far =
      part-grown (sizes.headed E n ns ms) (longs ns) b E.first (8 * c) to-numbers head-so-far numbers-part refl

  unused-so-far : take marks_at b ≡ sizes.filled E n ns ms
  unused-so-far =
      part-grown (sizes.numbered E n ns ms) (replicate (8 * (E.most - length ns)) 0) b to-numbers (8 * (E.most - c))
      marks_at numbers-so-far
      (unused-part ∙ ap (λ k. replicate (8 * (E.most - k)) 0) (sym numbers-counted))
      (let f = E.full in let m = l.counted in omega arith)

  marks-so-far : take (marks_at + c) b ≡ sizes.marked E n ns ms
  marks-so-far = part-grown (sizes.filled E n ns ms) ms b marks_at c (marks_at + c) unused-so-far marks-part refl

  past-so-far : take check_at b ≡ u
  past-so-far =
      part-grown (sizes.marked E n ns ms) (replicate (check_at - marks_at - length ms) 0) b (marks_at + c)
      (check_at - marks_at - c) check_at marks-so-far
      (past-part ∙ ap (λ k. replicate (check_at - marks_at - k) 0) (sym marks-counted))
      (let s = small in omega arith)
      ∙ sym (sizes.before-check-is E n ns ms)

  -- ---- the check, and all of it

  sums : check_sum b ≡ check_sum u
  sums = same-sum b u (λ i h. sym (get_or-take check_at b i 0 h) ∙ ap (λ l. byte_at l i) past-so-far)

  check-part : part check_at 4 b ≡ bytes_of 4 (check_sum u)
  unfolding check
  check-part =
      sym (bytes-of-part check_at 4 b bytes (let w = l.whole in omega arith)) ∙ ap (bytes_of 4) (l.checked ∙ sums)

  pub written-again : block_of E n ns ms ≡ b
  written-again =
      sym
      (sym (take_all block_length b (let w = l.whole in omega arith))
      ∙ part-grown u (bytes_of 4 (check_sum u)) b check_at 4 block_length past-so-far check-part refl
      ∙ sym (sizes.block-is E n ns ms))
