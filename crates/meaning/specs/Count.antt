-- How many steps a recipe takes: one for each item begun, one for each binary digit of a power's exponent and one for
-- each unit of a logarithm's answer, where both operands fit, up to and with the refused item.
-- Assumes nothing.
use Rattle.std.specs.Prelude.{Bool, true, false, cond, ◌&&◌, List, [], ◌∷◌, ℕ, suc, ◌+◌, eqb, leb}
use Rattle.whole.specs.Logarithm.{log_of}
use Rattle.shape.specs.Items.{Operation, sum, product, quotient, remainder, power, logarithm, Kind, literal, operation, unknown, Item}
use Rattle.meaning.specs.Meaning.{top, under, refusal_on, hand_on}

-- how many binary digits a number has; 0 has none
unfoldable pub digits : ℕ → ℕ
digits n = cond (eqb n 0) 0 (suc (log_of 2 n))

-- the further steps of an operation, once it is begun and not refused: told of each operand whether it fits, since with
-- one that doesn't there are none
abbrev pub further : Operation → Bool → Bool → ℕ → ℕ → ℕ
further sum lfits rfits l r = 0
further product lfits rfits l r = 0
further quotient lfits rfits l r = 0
further remainder lfits rfits l r = 0
further power lfits rfits l r = cond (lfits && rfits) (digits r) 0
further logarithm lfits rfits l r = cond (lfits && rfits) (log_of l r) 0

-- at the limit M
abbrev pub further_at : ℕ → Operation → ℕ → ℕ → ℕ
further_at M o l r = further o (leb l M) (leb r M) l r

abbrev pub further_on : ℕ → List ℕ → Kind → ℕ
further_on M hand literal = 0
further_on M hand (operation o) = further_at M o (top (under hand)) (top hand)
further_on M hand unknown = 0

-- from here on, with these numbers on hand
unfoldable pub count_from : ℕ → List ℕ → List Item → ℕ
count_from M hand [] = 0
count_from M hand (x ∷ xs) =
    elim (eqb (refusal_on M hand x.kind) 0) [
      | true ↦ suc (further_on M hand x.kind + count_from M (hand_on hand x) xs)
      | false ↦ 1
    ]

abbrev pub count : ℕ → List Item → ℕ
count M xs = count_from M [] xs
