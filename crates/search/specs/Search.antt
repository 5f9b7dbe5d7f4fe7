-- The search over a run of whole blocks. Each block is checked whole before its marks count; the first overflowed
-- value ends the search, and so does the first bad block reached.
-- Assumes nothing.
use Rattle.std.specs.Prelude.{◌≡◌, Bool, cond, List, ℕ, ◌%◌, ◌<◌, eqb, ltb, length}
use Rattle.places.specs.Places.{first}
use Rattle.places.specs.Faults.{at_first_fault}
use Rattle.layout.specs.Editions.{block_length}
use Rattle.layout.specs.Layout.{count, mark}
use Rattle.layout.specs.Sound.{fault_of}
use Rattle.layout.specs.Runs.{blocks, block_at}

-- a refusal's number and position; or 0, 0 and whether a value was found (1) or none (0), with its block's position
-- and its place
pub record Searched : Type 0 where
  pub code : ℕ
  pub place : ℕ
  pub found : ℕ
  pub position : ℕ
  pub within : ℕ

abbrev pub refused : ℕ → ℕ → Searched
refused code position = record { code = code; place = position; found = 0; position = 0; within = 0 }

abbrev pub none : Searched
none = record { code = 0; place = 0; found = 0; position = 0; within = 0 }

abbrev pub found_at : ℕ → ℕ → Searched
found_at position place = record { code = 0; place = 0; found = 1; position = position; within = place }

-- ---- a block

-- the first overflowed place of a block, or its count
abbrev pub overflowed_at : List ℕ → ℕ → Bool
overflowed_at b i = eqb (mark b i) 1

unfoldable pub first_overflowed : List ℕ → ℕ
first_overflowed b = first (overflowed_at b) (count b)

-- why the search ends at a block: its refusal's number, or 3 for an overflowed value in a sound one; 0 where it goes on
unfoldable pub end_of : List ℕ → ℕ
end_of b = cond (eqb (fault_of b) 0) (cond (ltb (first_overflowed b) (count b)) 3 0) (fault_of b)

-- what it answers where it ends at block p
abbrev pub ended_at : ℕ → List ℕ → Searched
ended_at p b = cond (eqb (fault_of b) 0) (found_at p (first_overflowed b)) (refused (fault_of b) p)

-- ---- a run

abbrev pub end_at : List ℕ → ℕ → ℕ
end_at run p = end_of (block_at run p)

-- the answer at the first block at which the search ends, or none
abbrev pub search_blocks : List ℕ → Searched
search_blocks run = at_first_fault (end_at run) (blocks run) (λ c p. ended_at p (block_at run p)) none

-- 16 where the run isn't a multiple of 512
unfoldable pub search_of : List ℕ → Searched
search_of run = cond (eqb (length run % block_length) 0) (search_blocks run) (refused 16 0)

-- ---- in the words of the promises

-- no place before i is overflowed
abbrev pub NoneBefore : List ℕ → ℕ → Type 0
NoneBefore b i = (j : ℕ) → j < i → mark b j ≡ 1 → ⊥

-- i is the first overflowed place in use
abbrev pub OverflowsFirstAt : List ℕ → ℕ → Type 0
OverflowsFirstAt b i = (i < count b) × (mark b i ≡ 1) × NoneBefore b i

-- a sound block with no overflowed place in use, which the search passes
abbrev pub Quiet : List ℕ → Type 0
Quiet b = (fault_of b ≡ 0) × NoneBefore b (count b)

-- every block before the one at position p is quiet
abbrev pub QuietBefore : List ℕ → ℕ → Type 0
QuietBefore run p = (q : ℕ) → q < p → Quiet (block_at run q)

-- the block at position p of the run has the fault c, and every block before it is quiet
abbrev pub BadBlock : List ℕ → ℕ → ℕ → Type 0
BadBlock run c p = (p < blocks run) × (fault_of (block_at run p) ≡ c) × QuietBefore run p

-- the block at position p of the run is sound, place i is its first overflowed one, and every block before it is quiet
abbrev pub OverflowedBlock : List ℕ → ℕ → ℕ → Type 0
OverflowedBlock run p i =
    (p < blocks run) × (fault_of (block_at run p) ≡ 0) × OverflowsFirstAt (block_at run p) i × QuietBefore run p
