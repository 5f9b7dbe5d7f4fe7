-- What reading a block into two lent lists gives.
-- Assumes nothing.
use Rattle.std.specs.Prelude.{cond, ◌&&◌, List, ℕ, eqb, leb, length}
use Rattle.places.specs.Places.{over}
use Rattle.layout.specs.Editions.{Edition}
use Rattle.layout.specs.Layout.{block_number, count, number_from, mark, edition_of}
use Rattle.layout.specs.Sound.{fault_as}

-- a block's refusal, then 19 where one of two lent lists has no room for the values; 0 is none
unfoldable pub read_fault_as : Edition → List ℕ → List ℕ → List ℕ → ℕ
read_fault_as E b numbers marks =
    cond (eqb (fault_as E b) 0) (cond (leb (count b) (length numbers) && leb (count b) (length marks)) 0 19)
    (fault_as E b)

-- a refusal's number and place, or 0, 0 and the block's number and count
pub record Reading : Type 0 where
  pub code : ℕ
  pub place : ℕ
  pub number : ℕ
  pub count : ℕ

abbrev pub refused : ℕ → Reading
refused code = record { code = code; place = 0; number = 0; count = 0 }

abbrev pub given : ℕ → ℕ → Reading
given n c = record { code = 0; place = 0; number = n; count = c }

abbrev pub reading_as : Edition → List ℕ → List ℕ → List ℕ → Reading
reading_as E b numbers marks =
    cond (eqb (read_fault_as E b numbers marks) 0) (given (block_number b) (count b))
    (refused (read_fault_as E b numbers marks))

-- count numbers and count marks are written, and nothing past them; on refusal both lists stay as they are
abbrev pub numbers_after_as : Edition → List ℕ → List ℕ → List ℕ → List ℕ
numbers_after_as E b numbers marks =
    cond (eqb (read_fault_as E b numbers marks) 0) (over (number_from E.first b) (count b) numbers) numbers

abbrev pub marks_after_as : Edition → List ℕ → List ℕ → List ℕ → List ℕ
marks_after_as E b numbers marks = cond (eqb (read_fault_as E b numbers marks) 0) (over (mark b) (count b) marks) marks

-- ---- by the block's own edition

abbrev pub read_fault : List ℕ → List ℕ → List ℕ → ℕ
read_fault b = read_fault_as (edition_of b) b

abbrev pub reading_of : List ℕ → List ℕ → List ℕ → Reading
reading_of b = reading_as (edition_of b) b

abbrev pub numbers_after : List ℕ → List ℕ → List ℕ → List ℕ
numbers_after b = numbers_after_as (edition_of b) b

abbrev pub marks_after : List ℕ → List ℕ → List ℕ → List ℕ
marks_after b = marks_after_as (edition_of b) b
