-- A run of so many whole blocks: how many it has, and the block at a position.
-- Assumes nothing.
use mathlib.Core.Path.{◌≡◌, ap}
use mathlib.Core.List.{List}
use Prim.Native.Nat.{ℕ, ◌+◌, ◌-◌, ◌*◌, ◌<◌}
use native.Mathlib.Omega.{arith}
use lib.ListN.{length, take, drop, length-take, length-drop}
use Rattle.layout.specs.Editions.{block_length}
use Rattle.layout.specs.Runs.{blocks, block_at, Whole}

-- the block at position p, as it is cut out of the run
pub block-taken
    : (run : List ℕ) (p : ℕ) →
    take (block_length * p + block_length - block_length * p) (drop (block_length * p) run) ≡ block_at run p
block-taken run p =
    let e : block_length * p + block_length - block_length * p ≡ block_length = omega arith in
    ap (λ k. take k (drop (block_length * p) run)) e

module _ (run : List ℕ) (n : ℕ) (whole : length run ≡ block_length * n) where
  pub whole-run : Whole run
  whole-run = omega arith

  pub blocks-are : blocks run ≡ n
  blocks-are = omega arith

  pub block-length : (p : ℕ) → p < n → length (block_at run p) ≡ block_length
  block-length p h =
      omega (arith, length-take block_length (drop (block_length * p) run), length-drop (block_length * p) run)
