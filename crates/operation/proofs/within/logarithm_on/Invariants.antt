-- `within::logarithm_on` meets its contract.
-- Assumes nothing.
use mathlib.Core.Path.{◌≡◌}
use Prim.Native.Nat.{ℕ, ◌-◌}
use Rattle.operation.specs.Work.{Sound, gone_on}
use Rattle.operation.proofs.Outcomes.{in_logarithm}
use Rattle.operation.proofs.within.logarithm_on.Given as goal

abbrev pub invariant-loop-taken : goal.invariant-loop-taken
invariant-loop-taken l = Sound (record { base = l.base; left = l.left; count = l.count })
    × ((M : ℕ) →
    gone_on M (l.allowance - l.taken) l.taken (in_logarithm l.base l.left l.count)
    ≡ gone_on M (l.allowance - l.from) l.from (in_logarithm l.base l.initial.left l.initial.count))

abbrev pub decreases-loop-taken : goal.decreases-loop-taken
decreases-loop-taken l = l.allowance - l.taken
