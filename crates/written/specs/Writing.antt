-- What writing a field into a lent run of blocks answers, and what the run holds afterwards.
-- Assumes nothing.
use Rattle.std.specs.Prelude.{◌≡◌, cond, List, ℕ, ◌+◌, ◌^◌, ◌<◌, eqb, leb, length, get_or}
use Rattle.places.specs.Places.{overlaid}
use Rattle.places.specs.Faults.{at_first_fault, NoFaultBefore}
use Rattle.field.specs.Field.{mark_fault_at, BadMark}
use Rattle.layout.specs.Editions.{Edition}
use Rattle.written.specs.Run.{blocks_for, length_for, run_for}

-- a refusal's number and place; or 0, 0 and the length written in bytes
pub record Writing : Type 0 where
  pub code : ℕ
  pub place : ℕ
  pub length : ℕ

abbrev pub refused : ℕ → ℕ → Writing
refused code place = record { code = code; place = place; length = 0 }

abbrev pub given : ℕ → Writing
given n = record { code = 0; place = 0; length = n }

-- 19 for a run shorter than what would be written, then 21 for a block number that would pass 2^32 - 1
abbrev pub room_of : Edition → ℕ → ℕ → ℕ → Writing
room_of E first n room =
    cond (leb (length_for E n) room)
    (cond (leb (first + blocks_for E n) (2 ^ 32)) (given (length_for E n)) (refused 21 0))
    (refused 19 0)

-- 6 for lists of different lengths, 14 for an empty field, 15 at the earliest bad mark, then the run's room
unfoldable pub writing_of : Edition → ℕ → List ℕ → List ℕ → List ℕ → Writing
writing_of E first numbers marks run =
    cond (eqb (length numbers) (length marks))
    (cond (eqb (length numbers) 0) (refused 14 0)
    (at_first_fault (mark_fault_at numbers marks) (length numbers) refused (room_of E first (length numbers) (length run))))
    (refused 6 0)

-- the field's blocks, and what is past them stays; on refusal all stays
unfoldable pub run_after : Edition → ℕ → List ℕ → List ℕ → List ℕ → List ℕ
run_after E first numbers marks run =
    cond (eqb (writing_of E first numbers marks run).code 0) (overlaid (run_for E first numbers marks) run) run

-- ---- in the words of the promises

-- a field that can be written: two lists of equal length, at least one value, and no bad mark
pub record GoodField (numbers marks : List ℕ) : Type 0 where
  pub even : length numbers ≡ length marks
  pub some : 0 < length numbers
  pub well_marked : NoFaultBefore (mark_fault_at numbers marks) (length numbers)

-- numbers of 64 bits
abbrev pub Sized : List ℕ → Type 0
Sized numbers = (i : ℕ) → get_or numbers i 0 < 2 ^ 64

-- place i has a bad mark, and no place before it has one
abbrev pub FirstBadMark : List ℕ → List ℕ → ℕ → Type 0
FirstBadMark numbers marks i =
    (i < length numbers)
    × BadMark (get_or marks i 0) (get_or numbers i 0)
    × ((j : ℕ) → j < i → BadMark (get_or marks j 0) (get_or numbers j 0) → ⊥)
