-- The entries' definitions worked out at small slices.
-- Assumes nothing.
use mathlib.Core.Path.{◌≡◌, refl}
use mathlib.Core.List.{List, [], ◌∷◌}
use Prim.Native.Nat.{ℕ}
use Rattle.checked.specs.Value.{limit_of, checked_of}
use Rattle.checked.specs.Paper.{sums_of, divided_by}
use Rattle.little.specs.Bytes.{bytes_of}
use Rattle.razovinto.specs.Entry.{returned, afterwards}

-- eighteen bytes, each 9
abbrev nines : List ℕ
nines = 9 ∷ 9 ∷ 9 ∷ 9 ∷ 9 ∷ 9 ∷ 9 ∷ 9 ∷ 9 ∷ 9 ∷ 9 ∷ 9 ∷ 9 ∷ 9 ∷ 9 ∷ 9 ∷ 9 ∷ 9 ∷ []

-- 255 and 1 are 256: two bytes of the number, the mark 0, and the last two nines stay
pub sum-fits : afterwards (sums_of (limit_of 64) 255 1) nines ≡ 0 ∷ 1 ∷ 0 ∷ 0 ∷ 0 ∷ 0 ∷ 0 ∷ 0 ∷ 0 ∷ 0 ∷ 0 ∷ 0 ∷ 0 ∷ 0 ∷ 0 ∷ 0 ∷ 9 ∷ 9 ∷ []
unfolding returned afterwards bytes_of checked_of
sum-fits = refl

-- the largest number and 1: the number 0 with the mark 1
pub sum-overflows
    : afterwards (sums_of (limit_of 64) 18446744073709551615 1) nines ≡ 0 ∷ 0 ∷ 0 ∷ 0 ∷ 0 ∷ 0 ∷ 0 ∷ 0 ∷ 1 ∷ 0 ∷ 0 ∷ 0 ∷ 0 ∷ 0 ∷ 0 ∷ 0 ∷ 9 ∷ 9 ∷ []
unfolding returned afterwards bytes_of checked_of
sum-overflows = refl

-- a divisor 0 is refused with 1, and the slice stays; a slice of no bytes is refused with 19 before the divisor is looked at
pub divisor-zero : (returned (divided_by 7 0) nines ≡ 1) × (afterwards (divided_by 7 0) nines ≡ nines) × (returned (divided_by 7 0) [] ≡ 19)
unfolding returned afterwards
divisor-zero = (refl, refl, refl)
