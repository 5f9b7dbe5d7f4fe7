-- The packing width is the smallest number of bits that hold a range, and what the leading zeros leave of them.
-- Assumes nothing.
use mathlib.Core.Path.{◌≡◌, sym, subst}
use Prim.Native.Nat.{ℕ, zero, suc, ◌-◌, ◌^◌, ◌≤◌, ◌<◌}
use native.Mathlib.Nat.{pow-zero, le_antisymm}
use native.Mathlib.Numerals.{add-one}
use native.Mathlib.Omega.{arith}
use lib.Count.{count_leading_zeros, leading_of_zero, leading_top}
use Rattle.whole.specs.Logarithm.{log_of}
use Rattle.whole.proofs.Naturals.{log-of-floor, log-of-unique}
use Rattle.checked.proofs.Logarithms.{log-before}
use Rattle.field.specs.Range.{packing_width, SmallestWidth}

-- ---- the smallest width

-- a range is below the power of 2 at its width
pub width-bound : (range : ℕ) → range < 2 ^ packing_width range
unfolding packing_width
width-bound zero = omega (arith, pow-zero 2)
width-bound (suc below) =
    subst (λ w. suc below < 2 ^ w) (sym (add-one (log_of 2 (suc below))))
    (log-of-floor 2 (suc below) (omega arith) (omega arith)).1

-- and at no smaller one
pub width-least : (range w : ℕ) → range < 2 ^ w → packing_width range ≤ w
unfolding packing_width
width-least zero w h = omega arith
width-least (suc below) zero h = let f : ⊥ = omega (arith, pow-zero 2) in absurd f
width-least (suc below) (suc w) h = omega (arith, log-before 2 (suc below) w (omega arith) h)

-- there is one smallest width
pub smallest-unique : (range v w : ℕ) → SmallestWidth range v → SmallestWidth range w → v ≡ w
smallest-unique range v w p q = le_antisymm (p.1 w q.0) (q.1 v p.0)

-- ---- by the leading zeros

-- of W bits, what the leading zeros leave
pub width-from-zeros : (W range : ℕ) → range < 2 ^ W → W - count_leading_zeros W range ≡ packing_width range
unfolding packing_width
width-from-zeros W zero h = omega (arith, leading_of_zero W)
width-from-zeros W (suc below) h =
    let top = leading_top W (suc below) (omega arith) h in
    omega (arith, top.1, log-of-unique 2 (suc below) top.0 (omega arith) top.2 top.3)
