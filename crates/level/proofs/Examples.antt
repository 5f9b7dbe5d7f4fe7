-- The scan's definition worked out at small levels.
-- Assumes nothing.
use mathlib.Core.Path.{◌≡◌, refl}
use mathlib.Core.Bool.{true, false}
use mathlib.Core.List.{[], ◌∷◌}
use lib.IntN.{pos, negsuc}
use lib.Ieee.{Float, nan, inf, fin, to_bits, size, span, climb}
use Rattle.places.specs.Places.{first_from}
use Rattle.reading.specs.Reading.{usable}
use Rattle.reading.specs.Order.{rank_of}
use Rattle.reading.specs.Level.{fault_of}
use Rattle.level.specs.Extent.{kept_of}
use Rattle.level.specs.Scan.{refused, ranged, scan_of}

abbrev one-and-a-half : Float
one-and-a-half = fin false 3 (negsuc 0)

abbrev plus-zero : Float
plus-zero = fin false 0 (pos 0)

abbrev minus-zero : Float
minus-zero = fin true 0 (pos 0)

abbrev minus-two : Float
minus-two = fin true 1 (pos 1)

-- 1.5, 0 and -0: of the two zeros, which are equal, the earlier is the least, with its own sign; what is under the
-- ground
-- counts too
zeros-equal
    : (scan_of (one-and-a-half ∷ plus-zero ∷ minus-zero ∷ []) (0 ∷ 1 ∷ 0 ∷ []) ≡ ranged 0 1069547520)
    × (scan_of (one-and-a-half ∷ minus-zero ∷ plus-zero ∷ []) (0 ∷ 1 ∷ 0 ∷ []) ≡ ranged 2147483648 1069547520)
    × (scan_of (one-and-a-half ∷ minus-two ∷ plus-zero ∷ []) (0 ∷ 1 ∷ 0 ∷ []) ≡ ranged 3221225472 1069547520)
unfolding scan_of fault_of usable first_from kept_of rank_of to_bits size span climb
zeros-equal = (refl, refl, refl)

-- the first NaN or infinity is named by its place, unless a bad mark stands there or before it
first-named
    : (scan_of (plus-zero ∷ nan ∷ inf true ∷ []) (0 ∷ 0 ∷ 0 ∷ []) ≡ refused 22 1)
    × (scan_of (plus-zero ∷ plus-zero ∷ inf true ∷ []) (0 ∷ 0 ∷ 1 ∷ []) ≡ refused 22 2)
    × (scan_of (plus-zero ∷ nan ∷ []) (0 ∷ 2 ∷ []) ≡ refused 15 1)
    × (scan_of (plus-zero ∷ nan ∷ []) (0 ∷ []) ≡ refused 6 0)
    × (scan_of [] [] ≡ refused 14 0)
unfolding scan_of fault_of usable first_from
first-named = (refl, refl, refl, refl, refl)
