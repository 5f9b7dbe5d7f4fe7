-- Recipes that take as many steps as any can: 1, then m times the limit M of W bits and a power.
-- Assumes nothing.
use Rattle.std.specs.Prelude.{◌≡◌, List, [], ◌∷◌, ℕ, zero, suc, ◌+◌, ◌-◌, ◌*◌, ◌/◌, length}
use Rattle.checked.specs.Value.{limit_of}
use Rattle.shape.specs.Items.{items}
use Rattle.shape.specs.Shape.{Good}
use Rattle.meaning.specs.Meaning.{number, meaning}
use Rattle.meaning.specs.Count.{count}

-- m times a literal and a power
abbrev pub powers_kinds : ℕ → List ℕ
powers_kinds zero = []
powers_kinds (suc m) = 0 ∷ 5 ∷ powers_kinds m

-- m times a literal M and the number 0 of a power
abbrev pub powers_numbers : ℕ → ℕ → List ℕ
powers_numbers M zero = []
powers_numbers M (suc m) = M ∷ 0 ∷ powers_numbers M m

abbrev pub reaching_kinds : ℕ → List ℕ
reaching_kinds m = 0 ∷ powers_kinds m

abbrev pub reaching_numbers : ℕ → ℕ → List ℕ
reaching_numbers W m = 1 ∷ powers_numbers (limit_of W) m

-- n items, the bound's count of steps, no refusal, and the number 1 at the end
abbrev pub Reaches : ℕ → ℕ → List ℕ → List ℕ → Type 0
Reaches W n ks ns =
    (length ks ≡ n)
    × (length ns ≡ n)
    × Good (limit_of W) 0 (items ks ns)
    × (count (limit_of W) (items ks ns) ≡ n + W * (n - 1) / 2)
    × (meaning (limit_of W) (items ks ns) ≡ number 1)
