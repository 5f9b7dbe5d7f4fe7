-- A power by single steps: a step uses up one digit of the exponent, and what the numbers at work stand for stays.
-- Assumes nothing.
use mathlib.Core.Path.{◌≡◌, refl, ap, sym, ◌∙◌}
use mathlib.Core.Bool.{Bool, true, false, cond}
use Prim.Native.Nat.{ℕ, suc, ◌*◌, ◌/◌, ◌%◌, ◌≤◌, ◌<◌}
use native.Mathlib.Omega.{arith}
use lib.Dec.{eqb}
use borrow.Author.Tests.{eqb-true, eqb-false}
use Rattle.checked.specs.Value.{Value, checked_of, least, product_of}
use Rattle.checked.proofs.Limit.{settled-at}
use Rattle.checked.proofs.Powers.{powered, no-digit, odd-turn, even-turn}
use Rattle.meaning.specs.Count.{digits}
use Rattle.steps.specs.declared.types.Power.{Power}
use Rattle.steps.specs.declared.types.Phase.TheVariants.{InPower}
use Rattle.steps.specs.Steps.{value, within, powering, power_step}
use Rattle.steps.specs.Shown.{OfWidth, AtWork}
use Rattle.meaning.proofs.Digits.{digits-of-zero, digits-of-half}
use Rattle.steps.proofs.Outcomes.{Promised, to_go, Keeps}

-- two values and an exponent that stand for n keep to n, with the exponent's digits to go
pub powering-keeps
    : (M n : ℕ) (first second : Value) (e : ℕ) → OfWidth M first → OfWidth M second → e ≤ M →
    powered M first second e ≡ checked_of M n → Keeps M n (digits e) (powering first second e)
powering-keeps M n first second e settled square small h = by-test (eqb e 0) refl
  where
    by-test
        : (b : Bool) → eqb e 0 ≡ b →
        Keeps M n (digits e) (cond b (value first) (within (InPower (record { first = first; second = second; exponent = e }))))
    by-test true q = let z = eqb-true e 0 q in (settled ∙ no-digit M first second e z ∙ h, sym (ap digits z ∙ digits-of-zero))
    by-test false q = let z = eqb-false e 0 q in let p : 0 < e = omega arith in ((p, (settled, square, small), h), refl)

-- a digit, 1 or 0: what is stood for stays, and the first value stays one of the limit
digit-turn
    : (M : ℕ) (first second : Value) (e : ℕ) → OfWidth M first → (b : Bool) → eqb (e % 2) 1 ≡ b →
    (powered M (cond b (product_of M first second) first) (product_of M second second) (e / 2) ≡ powered M first second e)
    × OfWidth M (cond b (product_of M first second) first)
digit-turn M first second e h true q = odd-turn M first second e refl refl (eqb-true (e % 2) 1 q) refl
digit-turn M first second e h false q = even-turn M first second e refl refl (eqb-false (e % 2) 1 q) refl h

-- a step
pub power-keeps
    : (M n : ℕ) (p : Power) → AtWork M n (InPower p) →
    Promised M n (power_step M p.first p.second p.exponent)
    × (suc (to_go (power_step M p.first p.second p.exponent)) ≡ digits p.exponent)
power-keeps M n p (positive, w, h) =
    let first = cond (eqb (p.exponent % 2) 1) (product_of M p.first p.second) p.first in
    let square = settled-at M (least M p.second * least M p.second) refl in
    let turn = digit-turn M p.first p.second p.exponent w.0 (eqb (p.exponent % 2) 1) refl in
    let small : p.exponent / 2 ≤ M = omega (arith, w.2) in
    let keeps =
    powering-keeps M n first (product_of M p.second p.second) (p.exponent / 2) turn.1 square small
    (turn.0 ∙ h) in
    (keeps.0, ap suc keeps.1 ∙ sym (digits-of-half p.exponent positive))
