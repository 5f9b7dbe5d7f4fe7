-- `faults::refuse` meets its contract. The invariant: the earliest fault isn't before the place looked at.
-- Assumes nothing.
use Prim.Native.Nat.{◌≤◌}
use lib.ListN.{length}
use Rattle.places.specs.Faults.{first_fault}
use Rattle.turn.specs.Turning.{fault_at}
use Rattle.turn.proofs.faults.refuse.Given as goal

abbrev pub invariant-loop-place : goal.invariant-loop-place
invariant-loop-place l = l.place ≤ first_fault (fault_at l.level l.grounds) (length l.level)
