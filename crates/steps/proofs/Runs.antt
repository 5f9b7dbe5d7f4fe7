-- Runs by single steps: steps add up, a run that has ended stays as it is, and each step counts one.
-- Assumes nothing.
use mathlib.Core.Path.{◌≡◌, refl, ap, sym, ◌∙◌, subst}
use mathlib.Core.List.{List, [], ◌∷◌}
use Prim.Native.Nat.{ℕ, zero, suc, ◌+◌, ◌≤◌}
use native.Mathlib.Nat.{zero-add, suc-add}
use native.Mathlib.Omega.{arith}
use Rattle.checked.specs.Value.{Value}
use Rattle.shape.specs.Items.{Kind, literal, operation, unknown, Item}
use Rattle.steps.specs.declared.types.Phase.{Phase}
use Rattle.steps.specs.declared.types.Phase.TheVariants.{Between, InPower, InLogarithm}
use Rattle.steps.specs.Steps.{Outcome, value, within, fails, power_step, logarithm_step, begun, State, going, refused, landed, beginning, under, top, step, after}

-- ---- a run that has ended

abbrev pub Ended : State → Type 0
Ended (going t d hand p []) = Unit {0}
Ended (going t d hand p (x ∷ xs)) = ⊥
Ended (refused t d code) = Unit {0}

pub ended-stays : (M k : ℕ) (s : State) → Ended s → after M k s ≡ s
unfolding after
ended-stays M zero s h = refl
ended-stays M (suc k) (going t d hand p []) h = refl
ended-stays M (suc k) (going t d hand p (x ∷ xs)) h = absurd h
ended-stays M (suc k) (refused t d code) h = refl

-- ---- steps add up

pub after-sum : (M a b : ℕ) (s : State) → after M (a + b) s ≡ after M b (after M a s)
unfolding after
after-sum M zero b s = ap (λ k. after M k s) (zero-add b)
after-sum M (suc a) b (going t d hand p []) = ended-stays M (suc a + b) (going t d hand p []) tt ∙ sym (ended-stays M b (going t d hand p []) tt)
after-sum M (suc a) b (going t d hand p (x ∷ xs)) =
    ap (λ k. after M k (going t d hand p (x ∷ xs))) (suc-add a b) ∙ after-sum M a b (step M t d hand p x xs)
after-sum M (suc a) b (refused t d code) = ended-stays M (suc a + b) (refused t d code) tt ∙ sym (ended-stays M b (refused t d code) tt)

-- ---- the steps taken

pub one-more : (k n : ℕ) → k + suc n ≡ suc k + n
one-more k n = omega arith

abbrev pub taken : State → ℕ
taken (going t d hand p xs) = t
taken (refused t d code) = t

landed-takes : (t d : ℕ) (hand : List Value) (x : Item) (xs : List Item) (o : Outcome) → taken (landed t d hand x xs o) ≡ suc t
landed-takes t d hand x xs (value v) = refl
landed-takes t d hand x xs (within p) = refl
landed-takes t d hand x xs (fails code) = refl

beginning-takes
    : (M t d : ℕ) (hand : List Value) (k : Kind) (n : ℕ) (xs : List Item) → taken (beginning M t d hand k (record { kind = k; number = n }) xs) ≡ suc t
beginning-takes M t d hand literal n xs = refl
beginning-takes M t d hand (operation o) n xs = landed-takes t d _ _ xs (begun M o (top (under hand)) (top hand))
beginning-takes M t d hand unknown n xs = refl

step-takes : (M t d : ℕ) (hand : List Value) (p : Phase) (x : Item) (xs : List Item) → taken (step M t d hand p x xs) ≡ suc t
step-takes M t d hand Between x xs = beginning-takes M t d hand x.kind x.number xs
step-takes M t d hand (InPower p) x xs = landed-takes t d hand x xs (power_step M p.first p.second p.exponent)
step-takes M t d hand (InLogarithm q) x xs = landed-takes t d hand x xs (logarithm_step q.base q.left q.count)

-- n steps are taken, or fewer and the run has ended
abbrev pub Reached : ℕ → State → Type 0
Reached n (going t d hand p []) = t ≤ n
Reached n (going t d hand p (x ∷ xs)) = t ≡ n
Reached n (refused t d code) = t ≤ n

at-once : (s : State) → Reached (0 + taken s) s
at-once (going t d hand p []) = omega arith
at-once (going t d hand p (x ∷ xs)) = omega arith
at-once (refused t d code) = omega arith

pub reached : (M k : ℕ) (s : State) → Reached (k + taken s) (after M k s)
unfolding after
reached M zero s = at-once s
reached M (suc k) (going t d hand p []) = omega arith
reached M (suc k) (going t d hand p (x ∷ xs)) =
    subst (λ n. Reached n (after M k (step M t d hand p x xs))) (ap (λ n. k + n) (step-takes M t d hand p x xs) ∙ one-more k t) (reached M k (step M t d hand p x xs))
reached M (suc k) (refused t d code) = omega arith
