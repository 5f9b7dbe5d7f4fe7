-- `limited::floor_log` meets its contract. The invariant: `power` is the power after base ^ count, and count is at most
-- the logarithm. Where the loop ends, that power is above n, so that count is the logarithm.
-- Assumes nothing.
use mathlib.Core.Path.{◌≡◌}
use Prim.Native.Nat.{suc, ◌-◌, ◌^◌, ◌≤◌}
use Rattle.whole.specs.Logarithm.{log_of}
use Rattle.checked.proofs.limited.floor_log.Given as goal

abbrev pub invariant-loop-power : goal.invariant-loop-power
invariant-loop-power l = (l.power ≡ l.base ^ suc l.count) × (l.count ≤ log_of l.base l.n)

abbrev pub decreases-loop-power : goal.decreases-loop-power
decreases-loop-power l = log_of l.base l.n - l.count
