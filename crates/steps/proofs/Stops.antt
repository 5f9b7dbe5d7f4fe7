-- After any number of steps, the state of a well-formed recipe's run shows what the meaning has.
-- Assumes nothing.
use mathlib.Core.Path.{◌≡◌, refl, ap, sym, ◌∙◌, subst}
use mathlib.Core.Bool.{Bool, true, false}
use mathlib.Core.List.{List, [], ◌∷◌}
use Prim.Native.Nat.{ℕ, zero, suc}
use native.Mathlib.Omega.{arith}
use lib.Dec.{eqb}
use lib.ListN.{length, drop}
use Rattle.checked.specs.Value.{Value, checked_of}
use Rattle.shape.specs.Items.{Item}
use Rattle.shape.specs.Shape.{fault_of, Good}
use Rattle.meaning.specs.Meaning.{top, under, refusal_on, hand_on}
use Rattle.meaning.specs.Faults.{hand_after}
use Rattle.meaning.proofs.Hands.{item-holds}
use Rattle.steps.specs.declared.types.Phase.{Phase}
use Rattle.steps.specs.declared.types.Phase.TheVariants.{Between, InPower, InLogarithm}
use Rattle.steps.specs.Steps.{Outcome, value, within, fails, power_step, logarithm_step, State, going, refused, start, landed, beginning, step, after}
use Rattle.steps.specs.Shown.{values_of, ShowsMeaning}
use Rattle.steps.proofs.Outcomes.{Promised}
use Rattle.steps.proofs.Powers.{power-keeps}
use Rattle.steps.proofs.Logarithms.{logarithm-keeps}
use Rattle.steps.proofs.Items.{item-begins, item-fails}

-- ---- the item after d others

no-item : {A : Type 0} (x : Item) (rest : List Item) → x ∷ rest ≡ [] → A
no-item x rest e = let z : ◌≡◌ {A = ℕ} 0 1 = cc in let f : ⊥ = omega arith in absurd f

-- it comes next in the meaning
next-item
    : (d : ℕ) (H : List ℕ) (xs : List Item) (x : Item) (rest : List Item) → x ∷ rest ≡ drop d xs →
    (hand_after (suc d) H xs ≡ hand_on (hand_after d H xs) x) × (rest ≡ drop (suc d) xs)
next-item zero H [] x rest e = no-item x rest e
next-item zero H (y ∷ ys) x rest e = let p : y ≡ x = cc in (ap (hand_on H) p, cc)
next-item (suc d) H [] x rest e = no-item x rest e
next-item (suc d) H (y ∷ ys) x rest e = next-item d (hand_on H y) ys x rest e

-- and nothing is wrong with it
faultless
    : (M d : ℕ) (H : List ℕ) (xs : List Item) (x : Item) (rest : List Item) → Good M (length H) xs → x ∷ rest ≡ drop d xs →
    fault_of M (length (hand_after d H xs)) x.kind x.number ≡ 0
faultless M zero H [] x rest g e = no-item x rest e
faultless M zero H (y ∷ ys) x rest (h, g) e = let p : y ≡ x = cc in subst (λ i. fault_of M (length H) i.kind i.number ≡ 0) p h
faultless M (suc d) H [] x rest g e = no-item x rest e
faultless M (suc d) H (y ∷ ys) x rest (h, g) e =
    faultless M d (hand_on H y) ys x rest (subst (λ n. Good M n ys) (sym (item-holds M H y.kind y.number h)) g) e

-- ---- a step

module _ (M : ℕ) (xs : List Item) where
  landed-shows
      : (t d : ℕ) (hand : List Value) (x : Item) (rest : List Item) → x ∷ rest ≡ drop d xs →
      checked_of M (top (hand_after (suc d) [] xs)) ∷ hand ≡ values_of M (hand_after (suc d) [] xs) →
      (w : Outcome) → Promised M (top (hand_after (suc d) [] xs)) w → ShowsMeaning M xs (landed t d hand x rest w)
  landed-shows t d hand x rest e s (value v) h = ((next-item d [] xs x rest e).1, ap (λ c. c ∷ hand) h ∙ s)
  landed-shows t d hand x rest e s (within Between) h = absurd h
  landed-shows t d hand x rest e s (within (InPower p)) h = (e, (s, h))
  landed-shows t d hand x rest e s (within (InLogarithm q)) h = (e, (s, h))
  landed-shows t d hand x rest e s (fails code) h = absurd h

module _ (M : ℕ) (xs : List Item) (g : Good M 0 xs) where
  item-shows
      : (t d : ℕ) (x : Item) (rest : List Item) → x ∷ rest ≡ drop d xs → (b : Bool) → eqb (refusal_on M (hand_after d [] xs) x.kind) 0 ≡ b →
      ShowsMeaning M xs (beginning M t d (values_of M (hand_after d [] xs)) x.kind x rest)
  item-shows t d x rest e true q =
      let b = item-begins M t d rest (hand_after d [] xs) x.kind x.number (faultless M d [] xs x rest g e) q in
      let n = (next-item d [] xs x rest e).0 in
      subst (ShowsMeaning M xs) (sym b.state)
      (landed-shows M xs t d (values_of M (under (hand_on (hand_after d [] xs) x))) x rest e
      (subst (λ G. checked_of M (top G) ∷ values_of M (under (hand_on (hand_after d [] xs) x)) ≡ values_of M G) (sym n) (ap (values_of M) (sym b.hand)))
      b.outcome (subst (λ G. Promised M (top G) b.outcome) (sym n) b.keeps.0))
  item-shows t d x rest e false q =
      subst (ShowsMeaning M xs) (sym (item-fails M t d rest (hand_after d [] xs) x.kind x.number (faultless M d [] xs x rest g e) q)) tt

  step-shows
      : (t d : ℕ) (hand : List Value) (p : Phase) (x : Item) (rest : List Item) → ShowsMeaning M xs (going t d hand p (x ∷ rest)) → ShowsMeaning M xs (step M t d hand p x rest)
  step-shows t d hand Between x rest (e, h) =
      subst (λ G. ShowsMeaning M xs (beginning M t d G x.kind x rest)) (sym h) (item-shows t d x rest e (eqb (refusal_on M (hand_after d [] xs) x.kind) 0) refl)
  step-shows t d hand (InPower p) x rest (e, h) =
      landed-shows M xs t d hand x rest e h.0 (power_step M p.first p.second p.exponent) (power-keeps M (top (hand_after (suc d) [] xs)) p h.1).0
  step-shows t d hand (InLogarithm q) x rest (e, h) =
      landed-shows M xs t d hand x rest e h.0 (logarithm_step q.base q.left q.count) (logarithm-keeps M (top (hand_after (suc d) [] xs)) q h.1).0

  steps-show : (k : ℕ) (s : State) → ShowsMeaning M xs s → ShowsMeaning M xs (after M k s)
  unfolding after
  steps-show zero s h = h
  steps-show (suc k) (going t d hand p []) h = h
  steps-show (suc k) (going t d hand p (x ∷ rest)) h = steps-show k (step M t d hand p x rest) (step-shows t d hand p x rest h)
  steps-show (suc k) (refused t d code) h = tt

-- ---- a run

-- whatever the number of steps, it shows what the meaning has
pub shows : (M k : ℕ) (xs : List Item) → Good M 0 xs → ShowsMeaning M xs (after M k (start xs))
shows M k xs g = steps-show M xs g k (start xs) (refl, refl)

-- so between items it shows the values of the meaning's hand
pub hand-between
    : (M k : ℕ) (xs : List Item) → Good M 0 xs → {t d : ℕ} {hand : List Value} {rest : List Item} → after M k (start xs) ≡ going t d hand Between rest →
    hand ≡ values_of M (hand_after d [] xs)
hand-between M k xs g e = (subst (ShowsMeaning M xs) e (shows M k xs g)).1
