-- A level is two lists of equal length: readings, which are 32-bit floats, and ground marks, 0 in air and 1 below
-- ground. In the logic a float is `nan`, `inf s`, or `fin s m e`: m * 2 ^ e, below zero where s is true.
-- Assumes nothing.
use Rattle.std.specs.Prelude.{Bool, true, false, cond, List, ℕ, eqb, leb, get_or, Float}
use Rattle.std.specs.Float.{nan, inf, fin}
use Rattle.reading.specs.declared.types.Reading.{Reading}
use Rattle.reading.specs.declared.types.Reading.TheVariants.{Air, Ground, Unusable}

-- neither NaN nor infinite
unfoldable pub usable : Float → Bool
usable nan = false
usable (inf s) = false
usable (fin s m e) = true

-- a number in the air, a number under the ground, or not usable
unfoldable pub reading_of : Float → ℕ → Reading
reading_of x mark = cond (usable x) (cond (eqb mark 0) (Air x) (Ground x)) Unusable

-- ---- at each place of a level

abbrev pub usable_at : List Float → ℕ → Bool
usable_at level i = usable (get_or level i nan)

-- a mark that is 0 or 1
abbrev pub marked_at : List ℕ → ℕ → Bool
marked_at grounds i = leb (get_or grounds i 0) 1
