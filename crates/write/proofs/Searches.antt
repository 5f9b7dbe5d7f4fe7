-- The search over a written run: what it finds is the field's first overflowed place, as block and place in it.
-- Assumes nothing.
use mathlib.Core.Path.{◌≡◌, ap, sym, ◌∙◌}
use mathlib.Core.Bool.{Bool}
use mathlib.Core.List.{List}
use Prim.Native.Nat.{ℕ, ◌+◌, ◌*◌, ◌/◌, ◌%◌, ◌^◌, ◌≤◌, ◌<◌}
use native.Mathlib.Decide.{dec_lt}
use native.Mathlib.Omega.{arith}
use borrow.Author.Tests.{eqb-true, eqb-false}
use lib.Dec.{eqb}
use lib.ListN.{length, get_or, drop, length-take, length-drop}
use Rattle.places.specs.Places.{first}
use Rattle.places.proofs.First.{first-within, first-holds, none-before}
use Rattle.layout.specs.Editions.{one}
use Rattle.layout.specs.Layout.{count, mark}
use Rattle.layout.specs.Sound.{fault_of}
use Rattle.layout.specs.Runs.{blocks, block_at}
use Rattle.search.specs.Search.{found_at, none, search_of, NoneBefore, QuietBefore}
use Rattle.search.proofs.Stages.{at-overflowed, at-none}
use Rattle.written.specs.Run.{blocks_for, held_at, run_for}
use Rattle.written.specs.Writing.{GoodField, Sized}
use Rattle.written.proofs.Promises.{one-writable}
use Rattle.written.proofs.Counts as counts
use Rattle.written.proofs.Runs as runs
use Rattle.write.specs.Overflowed.{FirstOverflowed, NoneOverflowed}

module _
    (first : ℕ)
    (numbers marks : List ℕ)
    (f : GoodField numbers marks)
    (sized : Sized numbers)
    (last : first + blocks_for one (length numbers) ≤ 2 ^ 32)
  where
    abbrev r : List ℕ
    r = run_for one first numbers marks

    abbrev n : ℕ
    n = blocks_for one (length numbers)

    same-blocks : blocks r ≡ n
    same-blocks = runs.run-blocks one one-writable.takes first numbers marks f.even

    sound : (p : ℕ) → p < n → fault_of (block_at r p) ≡ 0
    sound p h = runs.block-sound one one-writable first numbers marks f sized last p h

    counted : (p : ℕ) → p < n → count (block_at r p) ≡ length (held_at one p numbers)
    counted p h = runs.block-counted one one-writable first numbers marks f sized last p h

    marked : (p i : ℕ) → p < n → i < count (block_at r p) → mark (block_at r p) i ≡ get_or marks (55 * p + i) 0
    marked p i h l = runs.block-mark one one-writable first numbers marks f sized last p i h l

    -- place i of the block at position p is within the field, and a full block has 55
    within : (p i : ℕ) → p < n → i < count (block_at r p) → (55 * p + i < length numbers) × (i < 55)
    within p i h l =
        let c = counted p h in
        let a = length-take 55 (drop (55 * p) numbers) in
        let b = length-drop (55 * p) numbers in
        (omega arith, omega arith)

    -- no place of a block is overflowed where none of the field's up to its end is
    none-in : (p to : ℕ) → p < n → to ≤ count (block_at r p) →
        ((j : ℕ) → j < 55 * p + to → get_or marks j 0 ≡ 1 → ⊥) → NoneBefore (block_at r p) to
    none-in p to h l none i k e =
        none (55 * p + i) (omega arith) (sym (marked p i h (omega arith)) ∙ e)

    quiet-to : (p : ℕ) → p ≤ n → ((j : ℕ) → j < 55 * p → j < length numbers → get_or marks j 0 ≡ 1 → ⊥) → QuietBefore r p
    quiet-to p h none q k =
        let g : q < n = omega arith in
        let b = block_at r q in (
          sound q g,
          λ i l e.
              let w = within q i g l in
              none (55 * q + i) (omega arith) w.0 (sym (marked q i g l) ∙ e),
        )

    pub found-at : (j : ℕ) → FirstOverflowed marks j → search_of r ≡ found_at (j / 55) (j % 55)
    found-at j (h, o, b) =
        let p = j / 55 in
        let i = j % 55 in
        let e : 55 * p + i ≡ j = omega arith in
        let m = f.even in
        let k = counts.blocks-reach one one-writable.takes (length numbers) in
        let g : p < n = omega arith in
        let c = counted p g in
        let s = same-blocks in
        let t = length-take 55 (drop (55 * p) numbers) in
        let d = length-drop (55 * p) numbers in
        let l : i < count (block_at r p) = omega arith in
        at-overflowed r p i (runs.in-order one one-writable first numbers marks f sized last).whole (omega arith)
        (sound p g) (
          l,
          marked p i g l ∙ ap (λ j. get_or marks j 0) e ∙ o,
          none-in p i g (omega arith) (λ q a. b q (omega arith)),
        )
        (quiet-to p (omega arith) (λ q a w. b q (omega arith)))

    pub found-none : NoneOverflowed marks → search_of r ≡ none
    found-none z =
        let s = same-blocks in
        let m = f.even in
        at-none r (runs.in-order one one-writable first numbers marks f sized last).whole
        (quiet-to (blocks r) (omega arith) (λ j a w. z j (omega arith)))

-- ---- a field has a first overflowed place, or none

pub data Walk (marks : List ℕ) : Type 0 where
  overflowed : (j : ℕ) → FirstOverflowed marks j → Walk marks
  none-at-all : NoneOverflowed marks → Walk marks

pub walk : (marks : List ℕ) → Walk marks
walk marks =
    let set : ℕ → Bool = λ i. eqb (get_or marks i 0) 1 in
    let k = length marks in
    let p = first set k in
    let w = first-within set 0 k in
    let before : (j : ℕ) → j < p → get_or marks j 0 ≡ 1 → ⊥ =
    λ j h. eqb-false (get_or marks j 0) 1 (none-before set 0 k j (omega arith) h) in
    elim (dec_lt p k) [
      | yes h ↦
          let l : p < 0 + k = omega arith in
          overflowed p (h, eqb-true (get_or marks p 0) 1 (first-holds set 0 k l), before)
      | no h ↦ none-at-all (λ j l. before j (omega arith))
    ]
