-- `within::power_on` meets its contract.
-- Assumes nothing.
use mathlib.Core.Path.{◌≡◌}
use Prim.Native.Nat.{◌-◌}
use Rattle.operation.specs.Work.{gone_on}
use Rattle.operation.proofs.Outcomes.{in_power}
use Rattle.operation.proofs.within.power_on.Given as goal

abbrev pub invariant-loop-taken : goal.invariant-loop-taken
invariant-loop-taken l = gone_on l.limit (l.allowance - l.taken) l.taken (in_power l.first l.second l.exponent)
    ≡ gone_on l.limit (l.allowance - l.from) l.from (in_power l.initial.first l.initial.second l.initial.exponent)

abbrev pub decreases-loop-taken : goal.decreases-loop-taken
decreases-loop-taken l = l.allowance - l.taken
