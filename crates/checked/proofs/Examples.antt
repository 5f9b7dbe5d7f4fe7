-- Worked examples, by computation: errors that look harmless, at 8 bits.
-- Assumes nothing.
use mathlib.Core.Path.{◌≡◌, refl}
use Rattle.whole.specs.DivMod.{◌/ℤ◌}
use Rattle.whole.specs.Logarithm.{ends, log_within, log, log_of}
use Rattle.checked.specs.declared.types.Checked.TheVariants.{Fits, Overflowed}
use Rattle.checked.specs.Value.{limit_of, checked_of, sum_of, product_of}
use Rattle.checked.specs.Paper.{given, refused, quotient_of, remainder_of, power_of, logarithm_of}

-- 16^1 is 16, though 16 * 16 is too large; 2^8 is overflowed and not refused; 0^0 is 1
powers : (power_of (limit_of 8) (Fits 16) (Fits 1) ≡ given (Fits 16)) × (power_of (limit_of 8) (Fits 2) (Fits 8) ≡ given Overflowed) × (power_of (limit_of 8) (Fits 0) (Fits 0) ≡ given (Fits 1))
unfolding checked_of
powers = (refl, refl, refl)

-- overflow does not stick through a product by 0, and stays through a sum with 0
zeros
    : (product_of (limit_of 8) (sum_of (limit_of 8) (Fits 255) (Fits 1)) (Fits 0) ≡ Fits 0)
    × (product_of (limit_of 8) (Fits 0) (sum_of (limit_of 8) (Fits 255) (Fits 1)) ≡ Fits 0)
    × (sum_of (limit_of 8) Overflowed (Fits 0) ≡ Overflowed)
unfolding checked_of
zeros = (refl, refl, refl)

-- the logarithm of 0 is 0 by definition; of 255 in base 2 it is 7; a base below 2 is refused
logarithms : (logarithm_of (Fits 10) (Fits 0) ≡ given (Fits 0)) × (logarithm_of (Fits 2) (Fits 255) ≡ given (Fits 7)) × (logarithm_of (Fits 1) (Fits 5) ≡ refused 2)
unfolding log_of log log_within ends ◌/ℤ◌
logarithms = (refl, refl, refl)

-- an overflowed left or argument is refused before a divisor 0 or a small base is
first-refusals : (quotient_of Overflowed (Fits 0) ≡ refused 3) × (quotient_of (Fits 7) (Fits 0) ≡ refused 1) × (logarithm_of (Fits 1) Overflowed ≡ refused 3)
first-refusals = (refl, refl, refl)

-- what is known with an overflowed operand
known
    : (quotient_of (Fits 7) Overflowed ≡ given (Fits 0))
    × (remainder_of (Fits 7) Overflowed ≡ given (Fits 7))
    × (logarithm_of Overflowed (Fits 7) ≡ given (Fits 0))
    × (power_of (limit_of 8) Overflowed (Fits 0) ≡ given (Fits 1))
    × (power_of (limit_of 8) (Fits 0) Overflowed ≡ given (Fits 0))
    × (power_of (limit_of 8) (Fits 1) Overflowed ≡ given (Fits 1))
    × (power_of (limit_of 8) (Fits 2) Overflowed ≡ given Overflowed)
    × (power_of (limit_of 8) Overflowed (Fits 1) ≡ given Overflowed)
    × (power_of (limit_of 8) Overflowed Overflowed ≡ given Overflowed)
unfolding checked_of
known = (refl, refl, refl, refl, refl, refl, refl, refl, refl)
