-- When a block is sound, and which refusal it gets where it is not.
-- Assumes nothing.
use Rattle.std.specs.Prelude.{cond, List, ℕ, eqb, length}
use Rattle.layout.specs.Editions.{block_length, Edition}
use Rattle.layout.specs.Layout.{check, check_sum, has_layout_as, edition_of}

-- 16 for another length, 17 for a wrong check, 18 for another layout; 0 is none
unfoldable pub fault_as : Edition → List ℕ → ℕ
fault_as E b = cond (eqb (length b) block_length) (cond (eqb (check b) (check_sum b)) (cond (has_layout_as E b) 0 18) 17) 16

-- by the block's own edition
abbrev pub fault_of : List ℕ → ℕ
fault_of b = fault_as (edition_of b) b
