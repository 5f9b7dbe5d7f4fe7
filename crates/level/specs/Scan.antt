-- The scan of a level.
-- Assumes nothing.
use Rattle.std.specs.Prelude.{cond, List, ℕ, eqb, length, Float}
use Rattle.places.specs.Faults.{at_first_fault}
use Rattle.reading.specs.Level.{fault_at}
use Rattle.level.specs.Extent.{lowest, highest}

-- a refusal's number and place; or 0, 0 and the bits of the least and the greatest reading
pub record Scanned : Type 0 where
  pub code : ℕ
  pub place : ℕ
  pub least : ℕ
  pub greatest : ℕ

abbrev pub refused : ℕ → ℕ → Scanned
refused code place = record { code = code; place = place; least = 0; greatest = 0 }

abbrev pub ranged : ℕ → ℕ → Scanned
ranged least greatest = record { code = 0; place = 0; least = least; greatest = greatest }

abbrev pub extent_of : List Float → Scanned
extent_of level = ranged (lowest level (length level)) (highest level (length level))

-- 6 for lists of different lengths, 14 for an empty level, then the earliest fault, or the extent
unfoldable pub scan_of : List Float → List ℕ → Scanned
scan_of level grounds =
    cond (eqb (length level) (length grounds))
    (cond (eqb (length level) 0) (refused 14 0)
    (at_first_fault (fault_at level grounds) (length level) refused (extent_of level)))
    (refused 6 0)
