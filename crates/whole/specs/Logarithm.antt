-- The whole part of the logarithm, as upstream has it: how often pow can be divided by base before it is below base.
-- Assumes nothing.
use Rattle.std.specs.Prelude.{Bool, true, false, ◌||◌, ℕ, zero, suc, ℤ, pos, nat_abs, ◌+ℤ◌}
use Rattle.std.specs.Int.Signed.{lt_z, le_z}
use Rattle.whole.specs.DivMod.{◌/ℤ◌}

-- upstream's test for the end: pow < base || pow / base >= pow || pow / base < 0
unfoldable pub ends : ℤ → ℤ → Bool
ends base pow = lt_z pow base || le_z pow (pow /ℤ base) || lt_z (pow /ℤ base) (pos 0)

-- upstream: if ends { 0 } else { 1 + log(base, pow / base) }, with at most so many calls
unfoldable pub log_within : ℕ → ℤ → ℤ → ℤ
log_within zero base pow = pos 0
log_within (suc calls) base pow = elim (ends base pow) [ true ↦ pos 0 | false ↦ pos 1 +ℤ log_within calls base (pow /ℤ base) ]

-- pow falls at each call and stays at least 0, so that |pow| calls are enough: `Closed.log-equation` is upstream's equation, for every base and pow
unfoldable pub log : ℤ → ℤ → ℤ
log base pow = log_within (nat_abs pow) base pow

-- the same for natural numbers
unfoldable pub log_of : ℕ → ℕ → ℕ
log_of l r = nat_abs (log (pos l) (pos r))
