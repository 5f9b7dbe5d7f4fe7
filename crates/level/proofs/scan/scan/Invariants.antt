-- `scan::scan` meets its contract. The invariant: the extent is that of the readings passed, which have no fault.
-- Assumes nothing.
use Prim.Native.Nat.{◌-◌}
use lib.ListN.{length}
use Rattle.level.proofs.Passing.{Passed}
use Rattle.level.proofs.scan.scan.Given as goal

abbrev pub invariant-loop-at : goal.invariant-loop-at
invariant-loop-at l = Passed l.level l.grounds l.extent.least l.extent.greatest l.at

abbrev pub decreases-loop-at : goal.decreases-loop-at
decreases-loop-at l = length l.level - l.at
