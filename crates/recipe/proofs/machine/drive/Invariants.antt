-- `machine::drive` meets its contract.
-- Assumes nothing.
use Prim.Native.Nat.{◌-◌}
use Rattle.recipe.proofs.Driving.{Drives}
use Rattle.recipe.proofs.machine.drive.Given as goal

abbrev pub invariant-loop-state : goal.invariant-loop-state
invariant-loop-state l = Drives l.limit l.kinds l.numbers l.allowance l.hand l.state

abbrev pub decreases-loop-state : goal.decreases-loop-state
decreases-loop-state l = l.allowance - l.state.taken
