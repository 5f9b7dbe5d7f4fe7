-- A field is two lists of equal length: numbers, and marks. A mark is 0 where the number fits and 1 where it is overflowed, and then the number is 0.
-- Assumes nothing.
use Rattle.std.specs.Prelude.{◌≡◌, ◌⊎◌, Bool, cond, ◌&&◌, ◌||◌, List, ℕ, eqb, length, get_or}
use Rattle.places.specs.Faults.{FirstFault}
use Rattle.little.specs.Zeros.{zeros}

-- a mark that is 0 or 1, and with 1 the number 0
abbrev pub well_marked : ℕ → ℕ → Bool
well_marked mark number = eqb mark 0 || (eqb mark 1 && eqb number 0)

-- ---- a place's fault

-- by its mark alone: 15 for a mark not 0 or 1, or overflowed with number not 0; 0 is none
unfoldable pub mark_fault : ℕ → ℕ → ℕ
mark_fault mark number = cond (well_marked mark number) 0 15

-- in a scan, which takes no overflowed value: by its mark, then 3 for an overflowed one
unfoldable pub fault_of : ℕ → ℕ → ℕ
fault_of mark number = cond (eqb (mark_fault mark number) 0) (cond (eqb mark 0) 0 3) (mark_fault mark number)

-- ---- at each place of a field

abbrev pub well_marked_at : List ℕ → List ℕ → ℕ → Bool
well_marked_at numbers marks i = well_marked (get_or marks i 0) (get_or numbers i 0)

-- where overflowed values are taken like the others
abbrev pub mark_fault_at : List ℕ → List ℕ → ℕ → ℕ
mark_fault_at numbers marks i = mark_fault (get_or marks i 0) (get_or numbers i 0)

-- in a scan
abbrev pub fault_at : List ℕ → List ℕ → ℕ → ℕ
fault_at numbers marks i = fault_of (get_or marks i 0) (get_or numbers i 0)

-- ---- in the words of the promises

-- a mark not 0 or 1, or overflowed with number not 0
abbrev pub BadMark : ℕ → ℕ → Type 0
BadMark mark number = ((mark ≡ 0 → ⊥) × (mark ≡ 1 → ⊥)) ⊎ ((mark ≡ 1) × (number ≡ 0 → ⊥))

-- c is the fault at place i of the field, and no place before it has one
abbrev pub EndsAt : List ℕ → List ℕ → ℕ → ℕ → Type 0
EndsAt numbers marks c i = FirstFault (fault_at numbers marks) (length numbers) c i

-- ---- for the scan's helpers

-- the first n marks are 0
abbrev pub unmarked : List ℕ → ℕ → Bool
unmarked marks n = zeros 0 n marks
