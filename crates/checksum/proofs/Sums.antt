-- The sum of a block, and of a list that is none.
-- Assumes nothing.
use mathlib.Core.Path.{◌≡◌, ap}
use mathlib.Core.Bool.{cond}
use mathlib.Core.List.{List}
use borrow.Author.Tests.{eq-eqb, ne_eqb}
use Prim.Native.Nat.{ℕ}
use lib.ListN.{length}
use Rattle.layout.specs.Editions.{block_length}
use Rattle.layout.specs.Layout.{check_sum}
use Rattle.checksum.specs.Sum.{block_sum}

pub sum-of-block : (b : List ℕ) → length b ≡ block_length → block_sum b ≡ check_sum b
unfolding block_sum
sum-of-block b e = ap (λ t. cond t (check_sum b) 0) (eq-eqb (length b) block_length e)

pub sum-of-no-block : (b : List ℕ) → (length b ≡ block_length → ⊥) → block_sum b ≡ 0
unfolding block_sum
sum-of-no-block b n = ap (λ t. cond t (check_sum b) 0) (ne_eqb (length b) block_length n)
