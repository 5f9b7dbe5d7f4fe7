-- An operation that goes on: each of its further steps is one of the run, and so what is left of the allowance a leads
-- from what it reaches to where it led before.
-- Assumes nothing.
use mathlib.Core.Path.{◌≡◌, refl, ap, sym, ◌∙◌}
use mathlib.Core.List.{List, ◌∷◌}
use Prim.Native.Nat.{ℕ, zero, suc, ◌+◌, ◌-◌, ◌<◌}
use native.Mathlib.Omega.{arith}
use Rattle.checked.specs.Value.{Value}
use Rattle.shape.specs.Items.{Item}
use Rattle.steps.specs.declared.types.Phase.{Phase}
use Rattle.steps.specs.declared.types.Phase.TheVariants.{Between, InPower, InLogarithm}
use Rattle.steps.specs.Steps.{Outcome, value, within, fails, power_step, logarithm_step}
use Rattle.steps.specs.Steps.{going, refused, landed, step, after}
use Rattle.steps.proofs.Runs.{ended-stays}
use Rattle.steps.proofs.Within.{Working, power-works, logarithm-works}
use Rattle.operation.specs.Work.{Reach, gone_on}
use Rattle.recipe.specs.Machine.{rest, placed, placed_as, Kept}

-- ---- a step

pub landed-placed
    : (t t' d : ℕ) (hand : List Value) (x : Item) (xs : List Item) (o : Outcome) → t' ≡ suc t →
    landed t d hand x xs o ≡ placed t' d hand x xs o
landed-placed t t' d hand x xs (value v) e = ap (λ n. going n (suc d) (v ∷ hand) Between xs) (sym e)
landed-placed t t' d hand x xs (within p) e = ap (λ n. going n d hand p (x ∷ xs)) (sym e)
landed-placed t t' d hand x xs (fails code) e = ap (λ n. refused n d code) (sym e)

module _ (M a : ℕ) where
  rested
      : (t d : ℕ) (hand : List Value) (x : Item) (xs : List Item) (o : Outcome) →
      after M (a - suc t) (landed t d hand x xs o) ≡ rest M a (landed t d hand x xs o)
  rested t d hand x xs (value v) = refl
  rested t d hand x xs (within p) = refl
  rested t d hand x xs (fails code) = ended-stays M (a - suc t) (refused (suc t) d code) tt

  -- a step that comes to o; an operation's operands leave the hand with it
  pub step-leads
      : (t d : ℕ) (hand hand' : List Value) (p : Phase) (x : Item) (xs : List Item) (o : Outcome) → t < a →
      step M t d hand p x xs ≡ landed t d hand' x xs o →
      rest M a (going t d hand p (x ∷ xs)) ≡ rest M a (landed t d hand' x xs o)
  unfolding after
  step-leads t d hand hand' p x xs o h s =
      let e : a - t ≡ suc (a - suc t) = omega arith in
      ap (λ k. after M k (going t d hand p (x ∷ xs))) e ∙ ap (after M (a - suc t)) s ∙ rested t d hand' x xs o

  -- ---- k further steps, which are what is left of the allowance

  -- it leads where it led, and keeps to the allowance
  abbrev pub GoesOn : ℕ → Outcome → Reach → Type 0
  GoesOn t o w =
      ((d : ℕ) (hand : List Value) (x : Item) (xs : List Item) →
      rest M a (placed t d hand x xs o) ≡ rest M a (placed_as d hand x xs w))
      × Kept a t w.taken w.outcome

  -- with one step more it was there before
  one-before : (t s : ℕ) (o : Outcome) → Kept a (suc t) s o → Kept a t s o
  one-before t s (value v) (h, k) = (omega arith, k)
  one-before t s (within p) h = h
  one-before t s (fails code) h = h

  goes-further
      : (t : ℕ) (p : Phase) (o : Outcome) (w : Reach) → t < a →
      ((d : ℕ) (hand : List Value) (x : Item) (xs : List Item) → step M t d hand p x xs ≡ landed t d hand x xs o) →
      GoesOn (suc t) o w → GoesOn t (within p) w
  goes-further t p o w h s (leads, kept) = (
    λ d hand x xs.
        step-leads t d hand hand p x xs o h (s d hand x xs)
        ∙ ap (rest M a) (landed-placed t (suc t) d hand x xs o refl)
        ∙ leads d hand x xs,
    one-before t w.taken w.outcome kept,
  )

  pub goes-on : (k t : ℕ) (o : Outcome) → Working o → k + t ≡ a → GoesOn t o (gone_on M k t o)
  unfolding gone_on
  goes-on zero t (value v) w e = (λ d hand x xs. refl, (omega arith, omega arith))
  goes-on zero t (within p) w e = (λ d hand x xs. refl, omega arith)
  goes-on zero t (fails code) w e = (λ d hand x xs. refl, tt)
  goes-on (suc k) t (value v) w e = (λ d hand x xs. refl, (omega arith, omega arith))
  goes-on (suc k) t (within Between) w e = absurd w
  goes-on (suc k) t (within (InPower p)) w e =
      let o = power_step M p.first p.second p.exponent in
      let later = goes-on k (suc t) o (power-works M p) (omega arith) in
      goes-further t (InPower p) o (gone_on M k (suc t) o) (omega arith) (λ d hand x xs. refl) later
  goes-on (suc k) t (within (InLogarithm q)) w e =
      let o = logarithm_step q.base q.left q.count in
      let later = goes-on k (suc t) o (logarithm-works q) (omega arith) in
      goes-further t (InLogarithm q) o (gone_on M k (suc t) o) (omega arith) (λ d hand x xs. refl) later
  goes-on (suc k) t (fails code) w e = (λ d hand x xs. refl, tt)
