-- A field's range: its least and its greatest number, and how many bits pack what lies between them.
-- Assumes nothing.
use Rattle.std.specs.Prelude.{◌≡◌, cond, List, [], ◌∷◌, ℕ, zero, suc, ◌+◌, ◌-◌, ◌^◌, ◌≤◌, ◌<◌, min, max, eqb, length, get_or}
use Rattle.whole.specs.Logarithm.{log_of}
use Rattle.places.specs.Faults.{at_first_fault}
use Rattle.field.specs.Field.{fault_at}

-- what is kept of m and a list's numbers, where `keep` says which of two
unfoldable pub kept_from : (ℕ → ℕ → ℕ) → ℕ → List ℕ → ℕ
kept_from keep m [] = m
kept_from keep m (n ∷ ns) = kept_from keep (keep m n) ns

-- of a list that isn't empty
abbrev pub kept : (ℕ → ℕ → ℕ) → List ℕ → ℕ
kept keep [] = 0
kept keep (n ∷ ns) = kept_from keep n ns

abbrev pub least : List ℕ → ℕ
least numbers = kept min numbers

abbrev pub greatest : List ℕ → ℕ
greatest numbers = kept max numbers

-- some place of a list holds this number
abbrev pub Holds : List ℕ → ℕ → Type 0
Holds ns m = (i : ℕ) × (i < length ns) × (get_or ns i 0 ≡ m)

-- and every place does
abbrev pub Everywhere : List ℕ → ℕ → Type 0
Everywhere ns m = (i : ℕ) → i < length ns → get_or ns i 0 ≡ m

-- the packing width of a range: 0 for range 0, and log(2, range) + 1 otherwise
unfoldable pub packing_width : ℕ → ℕ
packing_width zero = 0
packing_width (suc below) = log_of 2 (suc below) + 1

-- the smallest w with range < 2^w
abbrev pub SmallestWidth : ℕ → ℕ → Type 0
SmallestWidth range w = (range < 2 ^ w) × ((v : ℕ) → range < 2 ^ v → w ≤ v)

-- ---- the scan

-- a refusal's number and place; or 0, 0 and the range
pub record Scanned : Type 0 where
  pub code : ℕ
  pub place : ℕ
  pub least : ℕ
  pub greatest : ℕ
  pub width : ℕ

abbrev pub refused : ℕ → ℕ → Scanned
refused code place = record { code = code; place = place; least = 0; greatest = 0; width = 0 }

abbrev pub ranged : ℕ → ℕ → ℕ → Scanned
ranged least greatest width = record { code = 0; place = 0; least = least; greatest = greatest; width = width }

abbrev pub range_of : List ℕ → Scanned
range_of numbers = ranged (least numbers) (greatest numbers) (packing_width (greatest numbers - least numbers))

-- the earliest fault, or the range
abbrev pub scan_places : List ℕ → List ℕ → Scanned
scan_places numbers marks = at_first_fault (fault_at numbers marks) (length numbers) refused (range_of numbers)

-- 6 for lists of different lengths, 14 for an empty field, then the places
unfoldable pub scan_of : List ℕ → List ℕ → Scanned
scan_of numbers marks =
    cond (eqb (length numbers) (length marks)) (cond (eqb (length numbers) 0) (refused 14 0) (scan_places numbers marks)) (refused 6 0)
