-- An item at work: an outcome that keeps to n with k steps to go brings the value of n onto the hand in k more steps.
-- Assumes nothing.
use mathlib.Core.Path.{◌≡◌, ap, ap₂, sym, ◌∙◌}
use mathlib.Core.List.{List, ◌∷◌}
use Prim.Native.Nat.{ℕ, zero, suc, ◌+◌}
use native.Mathlib.Nat.{zero-add}
use native.Mathlib.Omega.{arith}
use Rattle.checked.specs.Value.{Value, checked_of}
use Rattle.shape.specs.Items.{Item}
use Rattle.steps.specs.declared.types.Phase.TheVariants.{Between, InPower, InLogarithm}
use Rattle.steps.specs.Steps.{Outcome, value, within, fails, power_step, logarithm_step, going, landed, after}
use Rattle.steps.proofs.Runs.{one-more}
use Rattle.steps.proofs.Outcomes.{Keeps}
use Rattle.steps.proofs.Powers.{power-keeps}
use Rattle.steps.proofs.Logarithms.{logarithm-keeps}

module _ (M n d : ℕ) (hand : List Value) (x : Item) (xs : List Item) where
  pub works-out : (k t : ℕ) (w : Outcome) → Keeps M n k w → after M k (landed t d hand x xs w) ≡ going (k + suc t) (suc d) (checked_of M n ∷ hand) Between xs
  unfolding after
  works-out zero t (value v) (h, e) = ap₂ (λ s c. going s (suc d) (c ∷ hand) Between xs) (sym (zero-add (suc t))) h
  works-out zero t (within Between) (h, e) = absurd h
  works-out zero t (within (InPower p)) (h, e) = let f : ⊥ = omega (arith, (power-keeps M n p h).1) in absurd f
  works-out zero t (within (InLogarithm q)) (h, e) = let f : ⊥ = omega (arith, (logarithm-keeps M n q h).1) in absurd f
  works-out zero t (fails code) (h, e) = absurd h
  works-out (suc k) t (value v) (h, e) = let f : ⊥ = omega arith in absurd f
  works-out (suc k) t (within Between) (h, e) = absurd h
  works-out (suc k) t (within (InPower p)) (h, e) =
      let (kept, one) = power-keeps M n p h in
      works-out k (suc t) (power_step M p.first p.second p.exponent) (kept, omega arith)
      ∙ ap (λ s. going s (suc d) (checked_of M n ∷ hand) Between xs) (one-more k (suc t))
  works-out (suc k) t (within (InLogarithm q)) (h, e) =
      let (kept, one) = logarithm-keeps M n q h in
      works-out k (suc t) (logarithm_step q.base q.left q.count) (kept, omega arith)
      ∙ ap (λ s. going s (suc d) (checked_of M n ∷ hand) Between xs) (one-more k (suc t))
  works-out (suc k) t (fails code) (h, e) = absurd h
