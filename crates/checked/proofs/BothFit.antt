-- Two values and both their numbers, where both fit.
-- Assumes nothing.
use mathlib.Core.Path.{◌≡◌, ap, subst}
use Prim.Native.Nat.{ℕ}
use Rattle.std.specs.Prelude.{Option, Some, None}
use Rattle.checked.specs.declared.types.Checked.TheVariants.{Fits, Overflowed}
use Rattle.checked.specs.Value.{Value, both_of}

Overflows : Option (ℕ × ℕ) → Type 0
Overflows (Some p) = ⊥
Overflows None = Unit {0}

left_in : Option (ℕ × ℕ) → ℕ
left_in (Some p) = p.0
left_in None = 0

right_in : Option (ℕ × ℕ) → ℕ
right_in (Some p) = p.1
right_in None = 0

-- two values with these numbers are the values that fit with them
pub both-are : (a b : Value) (l r : ℕ) → both_of a b ≡ Some (l, r) → (a ≡ Fits l) × (b ≡ Fits r)
unfolding Overflows left_in right_in
both-are (Fits m) (Fits n) l r e = (ap Fits (ap left_in e), ap Fits (ap right_in e))
both-are (Fits m) Overflowed l r e = absurd (subst Overflows e tt)
both-are Overflowed b l r e = absurd (subst Overflows e tt)
