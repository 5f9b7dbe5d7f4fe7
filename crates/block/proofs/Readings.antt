-- What the reader answers and what the lent lists hold afterwards, from the fault that reading meets.
-- Assumes nothing.
use mathlib.Core.Path.{◌≡◌, ap, sym, ◌∙◌}
use mathlib.Core.List.{List}
use Prim.Native.Nat.{ℕ, ◌≤◌, ◌<◌}
use native.Mathlib.Omega.{arith}
use lib.ListN.{length}
use Rattle.places.specs.Places.{over}
use Rattle.layout.specs.Editions.{Edition}
use Rattle.layout.specs.Layout.{block_number, count, number_from, mark}
use Rattle.layout.specs.Sound.{fault_as}
use Rattle.layout.specs.Reading.{read_fault_as, refused, given, reading_as, numbers_after_as, marks_after_as}
use Rattle.layout.proofs.Faults.{numbers-short, marks-short}
use Rattle.layout.proofs.Promises.{given-where-accepted, refused-at-0, written, lists-stay}

module _ (E : Edition) (b numbers marks : List ℕ) where
  -- with a fault, that is the answer, and both lists are as they were
  pub refused-so
      : (n : ℕ) → read_fault_as E b numbers marks ≡ n → (n ≡ 0 → ⊥) →
      (refused n ≡ reading_as E b numbers marks)
      × ((numbers ≡ numbers_after_as E b numbers marks) × (marks ≡ marks_after_as E b numbers marks))
  refused-so n f z =
      let g : read_fault_as E b numbers marks ≡ 0 → ⊥ = λ e. z (sym f ∙ e) in
      let l = lists-stay E b numbers marks g in
      (ap refused (sym f) ∙ sym (refused-at-0 E b numbers marks g), (sym l.0, sym l.1))

  -- so it is where one of the lists is too short for a sound block's values
  pub numbers-short-so
      : fault_as E b ≡ 0 → length numbers < count b →
      (refused 19 ≡ reading_as E b numbers marks)
      × ((numbers ≡ numbers_after_as E b numbers marks) × (marks ≡ marks_after_as E b numbers marks))
  numbers-short-so z h = refused-so 19 (numbers-short E b numbers marks z h) (λ e. omega arith)

  pub marks-short-so
      : fault_as E b ≡ 0 → count b ≤ length numbers → length marks < count b →
      (refused 19 ≡ reading_as E b numbers marks)
      × ((numbers ≡ numbers_after_as E b numbers marks) × (marks ≡ marks_after_as E b numbers marks))
  marks-short-so z h k = refused-so 19 (marks-short E b numbers marks z h k) (λ e. omega arith)

  -- with none, the block's number and count are the answer, and its values are written
  pub given-so
      : read_fault_as E b numbers marks ≡ 0 →
      (given (block_number b) (count b) ≡ reading_as E b numbers marks)
      × ((over (number_from E.first b) (count b) numbers ≡ numbers_after_as E b numbers marks)
      × (over (mark b) (count b) marks ≡ marks_after_as E b numbers marks))
  given-so f =
      let w = written E b numbers marks f in (sym (given-where-accepted E b numbers marks f), (sym w.0, sym w.1))
