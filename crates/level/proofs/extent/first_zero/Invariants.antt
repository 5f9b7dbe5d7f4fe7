-- `extent::first_zero` meets its contract. The invariant: no place passed has a zero.
-- Assumes nothing.
use Prim.Native.Nat.{◌≤◌}
use Rattle.level.specs.Ranks.{place_of_rank}
use Rattle.level.proofs.extent.first_zero.Given as goal

abbrev pub invariant-loop-place : goal.invariant-loop-place
invariant-loop-place l = l.place ≤ place_of_rank l.level l.from l.to 2147483648
