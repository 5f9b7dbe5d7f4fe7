-- The fewest decimal digits that hold a number are one more than its logarithm.
-- Assumes nothing.
use mathlib.Core.Path.{◌≡◌, ap, sym, subst}
use Prim.Native.Nat.{ℕ, zero, suc, ◌-◌, ◌^◌, ◌≤◌, ◌<◌}
use native.Mathlib.Omega.{arith}
use Rattle.io.specs.Digits.{IsDigitCount}
use Rattle.whole.specs.Logarithm.{log_of}
use Rattle.whole.proofs.Naturals.{log-of-small, log-of-unique}

pub fewest-is : (n k : ℕ) → IsDigitCount 10 1 n k → k ≡ suc (log_of 10 n)
fewest-is n zero f = absurd (omega (arith, f.0))
fewest-is n (suc zero) f = ap suc (sym (log-of-small 10 n f.1))
fewest-is n (suc (suc k)) f =
    let one-less : 1 < 10 = omega arith in
    let several : 1 < suc (suc k) = omega arith in
    let shorter : suc (suc k) - 1 ≡ suc k = omega arith in
    ap suc (sym (log-of-unique 10 n (suc k) one-less (subst (λ e. 10 ^ e ≤ n) shorter (f.2 several)) f.1))
