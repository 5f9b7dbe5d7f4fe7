-- What turning a level into a field answers, and what the two lent lists hold afterwards.
-- Assumes nothing.
use Rattle.std.specs.Prelude.{◌≡◌, true, false, cond, ◌&&◌, List, ℕ, ◌≤◌, ◌<◌, eqb, leb, length, get_or, Float}
use Rattle.std.specs.Float.{nan}
use Rattle.places.specs.Places.{over}
use Rattle.places.specs.Faults.{at_first_fault}
use Rattle.reading.specs.Reading.{usable_at}
use Rattle.reading.specs.Level as level
use Rattle.turn.specs.Wholes.{is_whole, is_whole_at, value_at}

-- ---- a place's fault

-- as the scan gives it, by the mark and then as a reading; then 23 for a number that isn't whole and from 0 to
-- 16,777,215
unfoldable pub fault_of : Float → ℕ → ℕ
fault_of x mark = cond (eqb (level.fault_of x mark) 0) (cond (is_whole x) 0 23) (level.fault_of x mark)

abbrev pub fault_at : List Float → List ℕ → ℕ → ℕ
fault_at level grounds i = fault_of (get_or level i nan) (get_or grounds i 0)

-- ---- the answer

-- a refusal's number and place; or 0 and 0
pub record Turning : Type 0 where
  pub code : ℕ
  pub place : ℕ

abbrev pub refused : ℕ → ℕ → Turning
refused code place = record { code = code; place = place }

abbrev pub given : Turning
given = record { code = 0; place = 0 }

-- 6 for lists of different lengths, 14 for an empty level, 19 where either lent list is shorter, then the earliest
-- fault
unfoldable pub turning_of : List Float → List ℕ → List ℕ → List ℕ → Turning
turning_of level grounds numbers marks =
    cond (eqb (length level) (length grounds))
    (cond (eqb (length level) 0) (refused 14 0)
    (cond (leb (length level) (length numbers) && leb (length level) (length marks))
    (at_first_fault (fault_at level grounds) (length level) refused given) (refused 19 0)))
    (refused 6 0)

-- ---- the lent lists

-- each reading's value, and what is past the level's length stays; on refusal all stays
unfoldable pub numbers_after : List Float → List ℕ → List ℕ → List ℕ → List ℕ
numbers_after level grounds numbers marks =
    cond (eqb (turning_of level grounds numbers marks).code 0) (over (value_at level) (length level) numbers) numbers

-- as many marks of 0
unfoldable pub marks_after : List Float → List ℕ → List ℕ → List ℕ → List ℕ
marks_after level grounds numbers marks =
    cond (eqb (turning_of level grounds numbers marks).code 0) (over (λ i. 0) (length level) marks) marks

-- ---- in the words of the promises

-- the lists are as long, there are readings in them, and the lent lists have room for as many
pub record Roomy (level : List Float) (grounds numbers marks : List ℕ) : Type 0 where
  pub even : length level ≡ length grounds
  pub some : 0 < length level
  pub numbers_long : length level ≤ length numbers
  pub marks_long : length level ≤ length marks

-- what a place can hold: a mark that is neither 0 nor 1
abbrev pub BadMarkAt : List ℕ → ℕ → Type 0
BadMarkAt grounds i = 1 < get_or grounds i 0

-- a reading that is NaN or infinite
abbrev pub UnusableAt : List Float → List ℕ → ℕ → Type 0
UnusableAt level grounds i = (get_or grounds i 0 ≤ 1) × (usable_at level i ≡ false)

-- a number that isn't whole and from 0 to 16,777,215
abbrev pub NotWholeAt : List Float → List ℕ → ℕ → Type 0
NotWholeAt level grounds i = (get_or grounds i 0 ≤ 1) × (usable_at level i ≡ true) × (is_whole_at level i ≡ false)

-- or one that is
abbrev pub FineAt : List Float → List ℕ → ℕ → Type 0
FineAt level grounds i = (get_or grounds i 0 ≤ 1) × (is_whole_at level i ≡ true)

-- i is a place of the level, and no place before it has a fault
abbrev pub Reached : List Float → List ℕ → ℕ → Type 0
Reached level grounds i = (i < length level) × ((j : ℕ) → j < i → FineAt level grounds j)
