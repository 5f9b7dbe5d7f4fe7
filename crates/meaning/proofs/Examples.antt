-- The twelve small runs at 8 bits, by computation: what each comes to over unlimited numbers, and its count of steps. 256 is the table's overflowed.
-- Assumes nothing.
use mathlib.Core.Path.{◌≡◌, refl}
use mathlib.Core.List.{List, [], ◌∷◌}
use Prim.Native.Nat.{ℕ}
use Rattle.whole.specs.DivMod.{◌/ℤ◌}
use Rattle.whole.specs.Logarithm.{log_of, log, log_within, ends}
use Rattle.checked.specs.Value.{limit_of}
use Rattle.shape.specs.Items.{kind_of, items}
use Rattle.meaning.specs.Meaning.{Meant, number, failed, meaning_from, meaning}
use Rattle.meaning.specs.Count.{digits, count_from, count}

abbrev comes-to : List ℕ → List ℕ → Meant → ℕ → Type 0
comes-to ks ns meant steps = (meaning (limit_of 8) (items ks ns) ≡ meant) × (count (limit_of 8) (items ks ns) ≡ steps)

pub small-meanings
    : comes-to (0 ∷ 0 ∷ 1 ∷ []) (255 ∷ 1 ∷ 0 ∷ []) (number 256) 3
    × comes-to (0 ∷ 0 ∷ 1 ∷ 0 ∷ 2 ∷ []) (255 ∷ 1 ∷ 0 ∷ 0 ∷ 0 ∷ []) (number 0) 5
    × comes-to (0 ∷ 0 ∷ 0 ∷ 1 ∷ 2 ∷ []) (0 ∷ 255 ∷ 1 ∷ 0 ∷ 0 ∷ []) (number 0) 5
    × comes-to (0 ∷ 0 ∷ 3 ∷ []) (7 ∷ 0 ∷ 0 ∷ []) (failed 1 2) 3
    × comes-to (0 ∷ 0 ∷ 1 ∷ 0 ∷ 3 ∷ []) (255 ∷ 1 ∷ 0 ∷ 0 ∷ 0 ∷ []) (failed 3 4) 5
    × comes-to (0 ∷ 0 ∷ 5 ∷ []) (2 ∷ 7 ∷ 0 ∷ []) (number 128) 6
    × comes-to (0 ∷ 0 ∷ 5 ∷ []) (2 ∷ 8 ∷ 0 ∷ []) (number 256) 7
    × comes-to (0 ∷ 0 ∷ 5 ∷ []) (16 ∷ 1 ∷ 0 ∷ []) (number 16) 4
    × comes-to (0 ∷ 0 ∷ 5 ∷ []) (0 ∷ 0 ∷ 0 ∷ []) (number 1) 3
    × comes-to (0 ∷ 0 ∷ 6 ∷ []) (2 ∷ 255 ∷ 0 ∷ []) (number 7) 10
    × comes-to (0 ∷ 0 ∷ 6 ∷ []) (10 ∷ 0 ∷ 0 ∷ []) (number 0) 3
    × comes-to (0 ∷ 0 ∷ 6 ∷ []) (1 ∷ 5 ∷ 0 ∷ []) (failed 2 2) 3
unfolding meaning_from count_from digits kind_of log_of log log_within ends ◌/ℤ◌
small-meanings =
    ((refl, refl), (refl, refl), (refl, refl), (refl, refl), (refl, refl), (refl, refl), (refl, refl), (refl, refl), (refl, refl), (refl, refl), (refl, refl), (refl, refl))
