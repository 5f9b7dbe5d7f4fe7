-- A logarithm by single steps: a step divides once and counts it, and the sum of the count and what is left's logarithm stays.
-- Assumes nothing.
use mathlib.Core.Path.{◌≡◌, refl, ap, sym, ◌∙◌}
use mathlib.Core.Bool.{Bool, true, false, cond}
use Prim.Native.Nat.{ℕ, suc, ◌+◌, ◌/◌, ◌≤◌, ◌<◌}
use native.Mathlib.Nat.{div-le_self}
use native.Mathlib.Omega.{arith}
use lib.Dec.{leb}
use borrow.Author.Tests.{leb-true, leb-false}
use Rattle.whole.specs.Logarithm.{log_of}
use Rattle.whole.proofs.Naturals.{log-of-small, log-of-more}
use Rattle.checked.specs.declared.types.Checked.TheVariants.{Fits}
use Rattle.checked.proofs.Limit.{fits}
use Rattle.steps.specs.declared.types.Logarithm.{Logarithm}
use Rattle.steps.specs.declared.types.Phase.TheVariants.{InLogarithm}
use Rattle.steps.specs.Steps.{value, within, dividing, logarithm_step}
use Rattle.steps.specs.Shown.{AtWork}
use Rattle.steps.proofs.Outcomes.{Promised, to_go, Keeps}

-- a base, what is left and a count that come to n keep to n, with the logarithm of what is left to go
pub dividing-keeps
    : (M n base left count : ℕ) → 1 < base → left ≤ M → count + log_of base left ≡ n → n ≤ M →
    Keeps M n (log_of base left) (dividing base left count)
dividing-keeps M n base left count b l h m = by-test (leb base left) refl
  where
    by-test
        : (q : Bool) → leb base left ≡ q →
        Keeps M n (log_of base left) (cond q (within (InLogarithm (record { base = base; left = left; count = count }))) (value (Fits count)))
    by-test true e = ((b, leb-true base left e, l, h, m), refl)
    by-test false e =
        let z = log-of-small base left (leb-false base left e) in
        let c : count ≡ n = omega arith in (ap Fits c ∙ fits M n m, sym z)

-- a step
pub logarithm-keeps
    : (M n : ℕ) (q : Logarithm) → AtWork M n (InLogarithm q) →
    Promised M n (logarithm_step q.base q.left q.count)
    × (suc (to_go (logarithm_step q.base q.left q.count)) ≡ log_of q.base q.left)
logarithm-keeps M n q (b, l, s, h, m) =
    let more = log-of-more q.base q.left b l in
    let small : q.left / q.base ≤ M = omega (arith, div-le_self q.left q.base) in
    let keeps = dividing-keeps M n q.base (q.left / q.base) (suc q.count) b small (omega (arith, more)) m in
    (keeps.0, ap suc keeps.1 ∙ sym more)
