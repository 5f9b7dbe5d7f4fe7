-- A place's fault, by its mark and then its reading.
-- Assumes nothing.
use Rattle.std.specs.Prelude.{cond, List, ℕ, leb, get_or, Float}
use Rattle.std.specs.Float.{nan}
use Rattle.reading.specs.Reading.{usable}

-- 15 for a mark not 0 or 1, then 22 for an unusable reading; 0 is none
unfoldable pub fault_of : Float → ℕ → ℕ
fault_of x mark = cond (leb mark 1) (cond (usable x) 0 22) 15

-- at each place of a level
abbrev pub fault_at : List Float → List ℕ → ℕ → ℕ
fault_at level grounds i = fault_of (get_or level i nan) (get_or grounds i 0)
