-- How a block ends: with zeros after its marks, and the check.
-- Assumes nothing.
use Rattle.std.specs.Prelude.{List, ℕ, ◌+◌, ◌-◌, replicate}
use Rattle.little.specs.Bytes.{bytes_of, put}
use Rattle.layout.specs.Editions.{block_length, marks_at, check_at}
use Rattle.checksum.specs.Sum.{block_sum}

-- with zeros after so many marks, up to the block's end
abbrev pub with_zeros : ℕ → List ℕ → List ℕ
with_zeros count b = put (marks_at + count) (replicate (block_length - marks_at - count) 0) b

-- with the check over what it holds
abbrev pub with_check : List ℕ → List ℕ
with_check b = put check_at (bytes_of 4 (block_sum b)) b
