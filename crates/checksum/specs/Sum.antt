-- The sum that a block's check is to be, for any list of bytes.
-- Assumes nothing.
use Rattle.std.specs.Prelude.{cond, List, ℕ, eqb, length}
use Rattle.layout.specs.Editions.{block_length}
use Rattle.layout.specs.Layout.{check_sum}

-- a list of another length is no block and has 0
unfoldable pub block_sum : List ℕ → ℕ
block_sum b = cond (eqb (length b) block_length) (check_sum b) 0
