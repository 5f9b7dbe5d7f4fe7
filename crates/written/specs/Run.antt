-- The run of a field's blocks: every block but the last holds as many values as the edition takes, the last at least
-- one, and they are numbered from the first on.
-- Assumes nothing.
use Rattle.std.specs.Prelude.{◌≡◌, List, ℕ, suc, ◌+◌, ◌-◌, ◌*◌, ◌/◌, ◌<◌, length}
use Rattle.places.specs.Places.{table, chained}
use Rattle.little.specs.Bytes.{part}
use Rattle.layout.specs.Editions.{block_length, Edition}
use Rattle.layout.specs.Layout.{block_number, count, number_from, mark}
use Rattle.layout.specs.Sound.{fault_as}
use Rattle.layout.specs.Runs.{blocks, block_at, Whole}
use Rattle.written.specs.Block.{block_of}

-- ---- a field into blocks

-- how many blocks n values take, and how many bytes these are
unfoldable pub blocks_for : Edition → ℕ → ℕ
blocks_for E n = (n + (E.most - 1)) / E.most

abbrev pub length_for : Edition → ℕ → ℕ
length_for E n = block_length * blocks_for E n

-- of a field's numbers, or of its marks, those that the block at position p holds
abbrev pub held_at : Edition → ℕ → List ℕ → List ℕ
held_at E p list = part (E.most * p) E.most list

-- the block at position p, where the first has this number
abbrev pub field_block : Edition → ℕ → List ℕ → List ℕ → ℕ → List ℕ
field_block E first numbers marks p = block_of E (first + p) (held_at E p numbers) (held_at E p marks)

-- all of them
unfoldable pub run_for : Edition → ℕ → List ℕ → List ℕ → List ℕ
run_for E first numbers marks = chained (field_block E first numbers marks) (blocks_for E (length numbers))

-- ---- a run's blocks into a field

-- the values in use of a block
abbrev pub numbers_in : Edition → List ℕ → List ℕ
numbers_in E b = table (number_from E.first b) (count b)

abbrev pub marks_in : List ℕ → List ℕ
marks_in b = table (mark b) (count b)

-- those of all blocks, one after the other
abbrev pub run_numbers : Edition → List ℕ → List ℕ
run_numbers E run = chained (λ p. numbers_in E (block_at run p)) (blocks run)

abbrev pub run_marks : List ℕ → List ℕ
run_marks run = chained (λ p. marks_in (block_at run p)) (blocks run)

-- ---- the manner in which a written run is filled and numbered

pub record InOrder (E : Edition) (first : ℕ) (run : List ℕ) : Type 0 where
  -- whole blocks, at least one
  pub whole : Whole run
  pub some : 0 < blocks run
  -- each of them sound, by this edition
  pub sound : (p : ℕ) → p < blocks run → fault_as E (block_at run p) ≡ 0
  -- numbered from the first on
  pub numbered : (p : ℕ) → p < blocks run → block_number (block_at run p) ≡ first + p
  -- every block but the last is full, and the last has a value
  pub full : (p : ℕ) → suc p < blocks run → count (block_at run p) ≡ E.most
  pub last : (p : ℕ) → suc p ≡ blocks run → 0 < count (block_at run p)
