-- Worked examples at 8 bits, by computation.
-- Assumes nothing.
use mathlib.Core.Path.{◌≡◌, refl}
use lib.IntN.{pos, negsuc}
use Rattle.whole.specs.DivMod.{◌/ℤ◌, ◌%ℤ◌, rust_div, rust_rem}
use Rattle.signed.specs.Signed.{refused, number, quotient_of, remainder_of}

-- -7 by 2 is -3, remainder -1
minus-seven-by-two : (quotient_of 8 (negsuc 6) (pos 2) ≡ number (negsuc 2)) × (remainder_of (negsuc 6) (pos 2) ≡ number (negsuc 0))
unfolding quotient_of remainder_of rust_div rust_rem ◌/ℤ◌ ◌%ℤ◌
minus-seven-by-two = (refl, refl)

-- 7 by -2 is -3, remainder 1
seven-by-minus-two : (quotient_of 8 (pos 7) (negsuc 1) ≡ number (negsuc 2)) × (remainder_of (pos 7) (negsuc 1) ≡ number (pos 1))
unfolding quotient_of remainder_of rust_div rust_rem ◌/ℤ◌ ◌%ℤ◌
seven-by-minus-two = (refl, refl)

-- -128 by -1 is refusal 4, remainder 0
smallest-by-minus-one : (quotient_of 8 (negsuc 127) (negsuc 0) ≡ refused 4) × (remainder_of (negsuc 127) (negsuc 0) ≡ number (pos 0))
unfolding quotient_of remainder_of rust_div rust_rem ◌/ℤ◌ ◌%ℤ◌
smallest-by-minus-one = (refl, refl)
