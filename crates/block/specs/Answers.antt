-- What looking at a block and reading it answer, in numbers.
-- Assumes nothing.
use Rattle.std.specs.Prelude.{◌≡◌, List, ℕ, Result, Ok, Err}
use Rattle.checked.specs.Paper.{number_of}
use Rattle.checked.specs.declared.refusal.Refusal.{Refusal}
use Rattle.layout.specs.Sound.{fault_of}
use Rattle.layout.specs.Reading.{Reading, refused, given, reading_of, numbers_after, marks_after}
use Rattle.block.specs.declared.types.Head.{Head}

-- ---- looking at a block

-- a refusal's number and place; or 0 and 0, and no values
pub record Looked : Type 0 where
  pub code : ℕ
  pub place : ℕ

abbrev pub with_code : ℕ → Looked
with_code code = record { code = code; place = 0 }

abbrev pub looked : Result (Unit {0}) Refusal → Looked
looked (Ok u) = with_code 0
looked (Err r) = with_code (number_of r)

-- the block's own fault, at place 0
abbrev pub sound_of : List ℕ → Looked
sound_of b = with_code (fault_of b)

-- ---- reading it

abbrev pub reading : Result Head Refusal → Reading
reading (Ok h) = given h.number h.count
reading (Err r) = refused (number_of r)

-- the reader's whole contract: an answer, and what the two lists hold afterwards
abbrev pub Reads : List ℕ → List ℕ → List ℕ → Result Head Refusal → List ℕ → List ℕ → Type 0
Reads b numbers marks r ns ms =
    (reading r ≡ reading_of b numbers marks) × (ns ≡ numbers_after b numbers marks) × (ms ≡ marks_after b numbers marks)
