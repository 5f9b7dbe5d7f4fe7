-- What a step of an operation comes to, by cases as the code has them.
-- Assumes nothing.
use mathlib.Core.Path.{◌≡◌, refl, ap, ap₂, sym, ◌∙◌, subst}
use mathlib.Core.Logic.{inl, inr}
use mathlib.Core.Bool.{Bool, cond}
use Prim.Native.Nat.{ℕ, ◌+◌, ◌/◌, ◌%◌, ◌≤◌, ◌<◌}
use native.Mathlib.Nat.{le-div_iff_mul-le, div-add-mod, mul-le-mul_left}
use native.Mathlib.Omega.{arith}
use borrow.Author.Tests.{eq-eqb, ne_eqb, le-leb, lt-leb, lt-ltb, le-ltb}
use lib.Dec.{eqb}
use Rattle.std.specs.Prelude.{Option, Some, None}
use Rattle.whole.specs.Logarithm.{log_of}
use Rattle.checked.specs.declared.types.Checked.TheVariants.{Fits, Overflowed}
use Rattle.checked.specs.Value.{Value, checked_of, sum_of, product_of, raised_of, both_of, OneOverflowed}
use Rattle.checked.specs.Paper.{Paper, given, refused, quotient_of, remainder_of, power_of, logarithm_of}
use Rattle.checked.specs.Pair.{pair, pair_of}
use Rattle.checked.proofs.BothFit.{both-are}
use Rattle.checked.proofs.Unique.{both-is}
use Rattle.checked.proofs.Refused.{not-overflowed}
use Rattle.shape.specs.Items.{Operation, sum, product, quotient, remainder, power, logarithm}
use Rattle.steps.specs.declared.types.Phase.TheVariants.{InPower, InLogarithm}
use Rattle.steps.specs.Steps.{Outcome, value, within, fails, powering, power_step, dividing}
use Rattle.steps.specs.Steps.{at_once, unless_refused, begun}
use Rattle.steps.proofs.Apart.{power-apart, logarithm-apart}
use Rattle.operation.specs.Work.{SoundLogarithm}

-- ---- within a power and a logarithm

abbrev pub in_power : Value → Value → ℕ → Outcome
in_power first second exponent = within (InPower (record { first = first; second = second; exponent = exponent }))

module _ (first second : Value) (e : ℕ) where
  pub powering-ends : e ≡ 0 → value first ≡ powering first second e
  powering-ends h = sym (ap (λ t. cond t (value first) (in_power first second e)) (eq-eqb e 0 h))

  pub powering-goes : (e ≡ 0 → ⊥) → in_power first second e ≡ powering first second e
  powering-goes h = sym (ap (λ t. cond t (value first) (in_power first second e)) (ne_eqb e 0 h))

  -- the first value after a step
  abbrev pub first_after : ℕ → Value
  first_after M = cond (eqb (e % 2) 1) (product_of M first second) first

  pub odd-first : (M : ℕ) (v : Value) → e % 2 ≡ 1 → v ≡ product_of M first second → v ≡ first_after M
  odd-first M v h p = p ∙ sym (ap (λ t. cond t (product_of M first second) first) (eq-eqb (e % 2) 1 h))

  pub even-first : (M : ℕ) (v : Value) → (e % 2 ≡ 1 → ⊥) → v ≡ first → v ≡ first_after M
  even-first M v h p = p ∙ sym (ap (λ t. cond t (product_of M first second) first) (ne_eqb (e % 2) 1 h))

-- a digit of a power's exponent
module _ (first second : Value) (e M : ℕ) where
  -- the last one that is left gives the value
  pub power-ends : (v : Value) → e < 2 → v ≡ first_after first second e M → value v ≡ power_step M first second e
  power-ends v h p =
      ap value p ∙ powering-ends (first_after first second e M) (product_of M second second) (e / 2) (omega arith)

  pub power-goes
      : (v w : Value) → 2 ≤ e → v ≡ first_after first second e M → w ≡ product_of M second second →
      in_power v w (e / 2) ≡ power_step M first second e
  power-goes v w h p q =
      ap₂ (λ v w. in_power v w (e / 2)) p q
      ∙ powering-goes (first_after first second e M) (product_of M second second) (e / 2) (λ z. omega arith)

abbrev pub in_logarithm : ℕ → ℕ → ℕ → Outcome
in_logarithm base left count = within (InLogarithm (record { base = base; left = left; count = count }))

module _ (base left count : ℕ) where
  pub dividing-goes : base ≤ left → in_logarithm base left count ≡ dividing base left count
  dividing-goes h = sym (ap (λ t. cond t (in_logarithm base left count) (value (Fits count))) (le-leb base left h))

  pub dividing-ends : left < base → value (Fits count) ≡ dividing base left count
  dividing-ends h = sym (ap (λ t. cond t (in_logarithm base left count) (value (Fits count))) (lt-leb base left h))

-- a division leaves less, so that the count never wraps
pub sound-step
    : (base left count : ℕ) → SoundLogarithm base left count → base ≤ left →
    SoundLogarithm base (left / base) (count + 1)
sound-step base left count (b, s) h =
    let p : 0 < base = omega arith in
    let one : 1 ≤ left / base = (le-div_iff_mul-le p).1 (omega arith) in
    (b, omega (arith, div-add-mod left base, mul-le-mul_left (left / base) b))

-- ---- an operation begun

-- a value that is given refuses nothing
given-goes : (v : Value) (w : Outcome) → w ≡ unless_refused (given v) w
given-goes (Fits n) w = refl
given-goes Overflowed w = refl

-- an answer of checked values had in one step
abbrev pub told : Paper → Outcome
told p = unless_refused p (at_once p)

told-value : (v : Value) → value v ≡ told (given v)
told-value (Fits n) = refl
told-value Overflowed = refl

module _ (M : ℕ) where
  pub begun-sum : (a b : Value) → value (sum_of M a b) ≡ begun M sum a b
  unfolding begun
  begun-sum a b = given-goes (sum_of M a b) (value (sum_of M a b))

  pub begun-product : (a b : Value) → value (product_of M a b) ≡ begun M product a b
  unfolding begun
  begun-product a b = given-goes (product_of M a b) (value (product_of M a b))

  pub begun-power : (l r : ℕ) → powering (checked_of M 1) (Fits l) r ≡ begun M power (Fits l) (Fits r)
  unfolding begun
  begun-power l r = given-goes (raised_of M (Fits l) (Fits r)) (powering (checked_of M 1) (Fits l) r)

  pub begun-quotient : (a b : Value) → told (quotient_of a b) ≡ begun M quotient a b
  unfolding begun
  begun-quotient a b = refl

  pub begun-remainder : (a b : Value) → told (remainder_of a b) ≡ begun M remainder a b
  unfolding begun
  begun-remainder a b = refl

  -- a logarithm behind its test of the base
  abbrev logarithm_begun : ℕ → ℕ → Bool → Outcome
  logarithm_begun l r t = unless_refused (cond t (refused 2) (given (Fits (log_of l r)))) (dividing l r 0)

  pub begun-logarithm : (l r : ℕ) → 2 ≤ l → dividing l r 0 ≡ begun M logarithm (Fits l) (Fits r)
  unfolding begun
  begun-logarithm l r h = sym (ap (logarithm_begun l r) (le-ltb l 2 h))

  pub small-base : (l r : ℕ) → l < 2 → fails 2 ≡ begun M logarithm (Fits l) (Fits r)
  unfolding begun
  small-base l r h = sym (ap (logarithm_begun l r) (lt-ltb l 2 h))

-- ---- with an overflowed operand

module _ (M : ℕ) (a b : Value) (o : OneOverflowed a b) where
  pub power-at-once : value (raised_of M a b) ≡ begun M power a b
  unfolding begun
  power-at-once = told-value (raised_of M a b) ∙ ap (unless_refused (power_of M a b)) (sym (power-apart M a b o))

  pub logarithm-at-once : told (logarithm_of a b) ≡ begun M logarithm a b
  unfolding begun
  logarithm-at-once = ap (unless_refused (logarithm_of a b)) (sym (logarithm-apart M a b o))

-- where one fits, the other is the overflowed one
pub other-overflowed : (a b : Value) (l : ℕ) → OneOverflowed a b → a ≡ Fits l → b ≡ Overflowed
other-overflowed a b l (inl e) f = absurd (not-overflowed l (sym f ∙ e))
other-overflowed a b l (inr e) f = e

-- ---- by what `both` says of the two

-- both operands fit, and so the operation begins with their numbers
pub fitting-begins
    : (M : ℕ) (o : Operation) (a b : Value) (l r : ℕ) {x : Option (ℕ × ℕ)} {w : Outcome} → pair x ≡ pair_of a b →
    x ≡ Some (l, r) → w ≡ begun M o (Fits l) (Fits r) → w ≡ begun M o a b
fitting-begins M o a b l r told e f =
    let w = both-are a b l r (sym (both-is a b told) ∙ e) in
    f ∙ ap₂ (begun M o) (sym w.0) (sym w.1)

-- or one doesn't
Numbered : Option (ℕ × ℕ) → Type 0
Numbered (Some p) = Unit {0}
Numbered None = ⊥

pub one-overflowed : (a b : Value) {x : Option (ℕ × ℕ)} → pair x ≡ pair_of a b → x ≡ None → OneOverflowed a b
unfolding Numbered
one-overflowed a b told e = by-marks a b (sym (both-is a b told) ∙ e)
  where
    by-marks : (a b : Value) → both_of a b ≡ None → OneOverflowed a b
    by-marks (Fits l) (Fits r) e = absurd (subst Numbered e tt)
    by-marks (Fits l) Overflowed e = inr refl
    by-marks Overflowed b e = inl refl
