-- `limited::checked_pow` meets its contract. The invariant: first * second ^ left is base ^ exponent, first is not 0
-- unless second is, and first * second is at most second * second. The measure is the exponent that is left.
-- Assumes nothing.
use mathlib.Core.Path.{◌≡◌}
use Prim.Native.Nat.{◌*◌, ◌^◌, ◌≤◌, ◌<◌}
use Rattle.checked.proofs.limited.checked_pow.Given as goal

abbrev pub invariant-loop-left : goal.invariant-loop-left
invariant-loop-left l = (l.first * l.second ^ l.left ≡ l.base ^ l.exponent) × (0 < l.second → 0 < l.first) × (l.first * l.second ≤ l.second * l.second)

abbrev pub decreases-loop-left : goal.decreases-loop-left
decreases-loop-left l = l.left
