-- The further steps of an operation as the code's loops take them: what is left of the allowance a brings it from here
-- as far as it brought it from before the step.
-- Assumes nothing.
use mathlib.Core.Path.{◌≡◌, refl, ap, sym, ◌∙◌}
use Prim.Native.Nat.{ℕ, zero, suc, ◌+◌, ◌-◌, ◌/◌, ◌≤◌, ◌<◌}
use native.Mathlib.Omega.{arith}
use native.Mathlib.Numerals.{add-one}
use Rattle.checked.specs.declared.types.Checked.TheVariants.{Fits}
use Rattle.checked.specs.Value.{Value}
use Rattle.steps.specs.declared.types.Phase.{Phase}
use Rattle.steps.specs.declared.types.Phase.TheVariants.{InPower, InLogarithm}
use Rattle.steps.specs.declared.types.Power.{Power}
use Rattle.steps.specs.declared.types.Logarithm.{Logarithm}
use Rattle.steps.specs.Steps.{Outcome, value, within, power_step, logarithm_step}
use Rattle.operation.specs.Work.{reach, gone_on}
use Rattle.operation.proofs.Outcomes.{in_logarithm, dividing-goes, dividing-ends}

-- ---- no further step

value-stays : (M k t : ℕ) (v : Value) → reach (value v) t ≡ gone_on M k t (value v)
unfolding gone_on
value-stays M zero t v = refl
value-stays M (suc k) t v = refl

module _ (M a t : ℕ) where
  -- the allowance is spent
  pub stops : (o : Outcome) → a ≤ t → reach o t ≡ gone_on M (a - t) t o
  unfolding gone_on
  stops o h = let e : a - t ≡ 0 = omega arith in ap (λ k. gone_on M k t o) (sym e)

  -- ---- a step after t others

  module _ (left : t < a) where
    one-less : a - t ≡ suc (a - suc t)
    one-less = omega arith

    -- a phase whose step comes to s
    steps-so
        : (p : Phase) (s : Outcome) → ((k : ℕ) → gone_on M k (suc t) s ≡ gone_on M (suc k) t (within p)) →
        (o : Outcome) → o ≡ s → gone_on M (a - (t + 1)) (t + 1) o ≡ gone_on M (a - t) t (within p)
    steps-so p s more o e =
        ap (λ n. gone_on M (a - n) n o) (add-one t)
        ∙ ap (gone_on M (a - suc t) (suc t)) e
        ∙ more (a - suc t)
        ∙ ap (λ k. gone_on M k t (within p)) (sym one-less)

    power-steps
        : (p : Power) (o : Outcome) → o ≡ power_step M p.first p.second p.exponent →
        gone_on M (a - (t + 1)) (t + 1) o ≡ gone_on M (a - t) t (within (InPower p))
    unfolding gone_on
    power-steps p = steps-so (InPower p) (power_step M p.first p.second p.exponent) (λ k. refl)

    pub power-value
        : (p : Power) (v : Value) → value v ≡ power_step M p.first p.second p.exponent →
        reach (value v) (t + 1) ≡ gone_on M (a - t) t (within (InPower p))
    power-value p v e = value-stays M (a - (t + 1)) (t + 1) v ∙ power-steps p (value v) e

    pub power-goes-on
        : (p p' : Power) → within (InPower p') ≡ power_step M p.first p.second p.exponent →
        gone_on M (a - (t + 1)) (t + 1) (within (InPower p')) ≡ gone_on M (a - t) t (within (InPower p))
    power-goes-on p p' e = power-steps p (within (InPower p')) e

    logarithm-steps
        : (q : Logarithm) (o : Outcome) → o ≡ logarithm_step q.base q.left q.count →
        gone_on M (a - (t + 1)) (t + 1) o ≡ gone_on M (a - t) t (within (InLogarithm q))
    unfolding gone_on
    logarithm-steps q = steps-so (InLogarithm q) (logarithm_step q.base q.left q.count) (λ k. refl)

    pub logarithm-value
        : (q : Logarithm) → q.left / q.base < q.base →
        reach (value (Fits (q.count + 1))) (t + 1) ≡ gone_on M (a - t) t (within (InLogarithm q))
    logarithm-value q h =
        let e =
        ap (λ n. value (Fits n)) (add-one q.count)
        ∙ dividing-ends q.base (q.left / q.base) (suc q.count) h in
        value-stays M (a - (t + 1)) (t + 1) (Fits (q.count + 1)) ∙ logarithm-steps q (value (Fits (q.count + 1))) e

    pub logarithm-goes-on
        : (q : Logarithm) → q.base ≤ q.left / q.base →
        gone_on M (a - (t + 1)) (t + 1) (in_logarithm q.base (q.left / q.base) (q.count + 1))
        ≡ gone_on M (a - t) t (within (InLogarithm q))
    logarithm-goes-on q h =
        let e =
        ap (in_logarithm q.base (q.left / q.base)) (add-one q.count)
        ∙ dividing-goes q.base (q.left / q.base) (suc q.count) h in
        logarithm-steps q (in_logarithm q.base (q.left / q.base) (q.count + 1)) e
