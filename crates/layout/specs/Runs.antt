-- A run of blocks, one after the other.
-- Assumes nothing.
use Rattle.std.specs.Prelude.{◌≡◌, List, ℕ, ◌*◌, ◌/◌, ◌%◌, length}
use Rattle.little.specs.Bytes.{part}
use Rattle.layout.specs.Editions.{block_length}

-- how many whole blocks it has
abbrev pub blocks : List ℕ → ℕ
blocks run = length run / block_length

-- the block at position p
abbrev pub block_at : List ℕ → ℕ → List ℕ
block_at run p = part (block_length * p) block_length run

-- it has whole blocks only
abbrev pub Whole : List ℕ → Type 0
Whole run = length run % block_length ≡ 0
