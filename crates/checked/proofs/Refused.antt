-- When an operation on two values is refused, and with which number: once over any operation that asks for an operand
-- that fits.
-- Assumes nothing.
use mathlib.Core.Path.{◌≡◌, refl, ap, sym, subst}
use mathlib.Core.Bool.{Bool, true, false, cond, true≢false}
use mathlib.Core.Logic.{◌↔◌, inl, inr}
use Prim.Native.Nat.{ℕ, ◌≤◌, ◌<◌}
use native.Mathlib.Omega.{arith}
use borrow.Author.Tests.{eqb-true, eqb-false, eq-eqb, ne_eqb, ltb-true, ltb-false, lt-ltb, le-ltb}
use lib.Dec.{eqb, ltb}
use Rattle.checked.specs.declared.types.Checked.TheVariants.{Fits, Overflowed}
use Rattle.checked.specs.Value.{Value, both_of, BothNumbers, FirstFits, OneOverflowed}
use Rattle.checked.specs.Paper.{Paper, given, refused, value_in, asking}
use Rattle.checked.specs.Pair.{pair, pair_of}

-- ---- an answer behind a test

-- a value is given with the number 0
pub given-code : (c : Value) → (given c).code ≡ 0
given-code (Fits n) = refl
given-code Overflowed = refl

-- and is found in it again
pub value-given : (c : Value) → value_in (given c) ≡ c
value-given (Fits n) = refl
value-given Overflowed = refl

-- of an answer that is refused with n where the test holds, and else gives m
module _ (n m : ℕ) where
  test-refuses : 0 < n → (t : Bool) → ((cond t (refused n) (given (Fits m))).code ≡ n) ↔ (t ≡ true)
  test-refuses h true = (λ e. refl, λ e. refl)
  test-refuses h false = (λ e. let f : ⊥ = omega arith in absurd f, λ e. absurd (true≢false (sym e)))

  test-gives : 0 < n → (t : Bool) → ((cond t (refused n) (given (Fits m))).code ≡ 0) ↔ (t ≡ false)
  test-gives h true = (λ e. let f : ⊥ = omega arith in absurd f, λ e. absurd (true≢false e))
  test-gives h false = (λ e. refl, λ e. refl)

  test-not-three : n < 3 → (t : Bool) → (cond t (refused n) (given (Fits m))).code ≡ 3 → ⊥
  test-not-three h true e = omega arith
  test-not-three h false e = omega arith

-- refused with 1 for a divisor r of 0
module _ (m r : ℕ) where
  pub divisor-refused : ((cond (eqb r 0) (refused 1) (given (Fits m))).code ≡ 1) ↔ (r ≡ 0)
  divisor-refused =
      let g = test-refuses 1 m (omega arith) (eqb r 0) in (λ e. eqb-true r 0 (g.0 e), λ e. g.1 (eq-eqb r 0 e))

  pub divisor-passes : ((cond (eqb r 0) (refused 1) (given (Fits m))).code ≡ 0) ↔ (0 < r)
  divisor-passes =
      let g = test-gives 1 m (omega arith) (eqb r 0) in
      (λ e. let z = eqb-false r 0 (g.0 e) in omega arith, λ h. g.1 (ne_eqb r 0 (λ e. omega arith)))

  pub divisor-not-three : (cond (eqb r 0) (refused 1) (given (Fits m))).code ≡ 3 → ⊥
  divisor-not-three = test-not-three 1 m (omega arith) (eqb r 0)

-- refused with 2 for a base l below 2
module _ (m l : ℕ) where
  pub base-refused : ((cond (ltb l 2) (refused 2) (given (Fits m))).code ≡ 2) ↔ (l < 2)
  base-refused =
      let g = test-refuses 2 m (omega arith) (ltb l 2) in (λ e. ltb-true l 2 (g.0 e), λ h. g.1 (lt-ltb l 2 h))

  pub base-passes : ((cond (ltb l 2) (refused 2) (given (Fits m))).code ≡ 0) ↔ (2 ≤ l)
  base-passes =
      let g = test-gives 2 m (omega arith) (ltb l 2) in (λ e. ltb-false l 2 (g.0 e), λ h. g.1 (le-ltb l 2 h))

  pub base-not-three : (cond (ltb l 2) (refused 2) (given (Fits m))).code ≡ 3 → ⊥
  base-not-three = test-not-three 2 m (omega arith) (ltb l 2)

-- ---- on two values

Fitting : Value → Type 0
Fitting (Fits n) = Unit {0}
Fitting Overflowed = ⊥

number_in : Value → ℕ
number_in (Fits n) = n
number_in Overflowed = 0

pub not-overflowed : (n : ℕ) → Fits n ≡ Overflowed → ⊥
unfolding Fitting
not-overflowed n e = subst Fitting e tt

pub same-number : (m n : ℕ) → Fits m ≡ Fits n → m ≡ n
unfolding number_in
same-number m n e = ap number_in e

pub neither : (l r : ℕ) → OneOverflowed (Fits l) (Fits r) → ⊥
neither l r (inl e) = not-overflowed l e
neither l r (inr e) = not-overflowed r e

-- an operation that asks for an operand that fits
module _ (known : ℕ → ℕ) (f : ℕ → ℕ → Paper) where
  -- 3 exactly when that operand is overflowed, where f itself never gives it
  pub three-exactly
      : ((n m : ℕ) → (f n m).code ≡ 3 → ⊥) → (a b : Value) → ((asking known f a b).code ≡ 3) ↔ (a ≡ Overflowed)
  three-exactly never Overflowed b = (λ e. refl, λ p. refl)
  three-exactly never (Fits n) Overflowed =
      (λ e. let no : ⊥ = omega arith in absurd no, λ p. absurd (not-overflowed n p))
  three-exactly never (Fits n) (Fits m) = (λ e. absurd (never n m e), λ p. absurd (not-overflowed n p))

  module _ (P : ℕ → ℕ → Type 0) where
    -- 1 or 2 exactly when both fit and f gives it of their numbers
    pub refused-exactly
        : (k : ℕ) → 0 < k → k < 3 → ((n m : ℕ) → ((f n m).code ≡ k) ↔ P n m) →
        (a b : Value) → ((asking known f a b).code ≡ k) ↔ BothNumbers a b P
    refused-exactly k h l g Overflowed b =
        (λ e. let no : ⊥ = omega arith in absurd no, λ p. absurd (not-overflowed p.0 (sym p.2)))
    refused-exactly k h l g (Fits n) Overflowed =
        (λ e. let no : ⊥ = omega arith in absurd no, λ p. absurd (not-overflowed p.1 (sym p.3)))
    refused-exactly k h l g (Fits n) (Fits m) = (
      λ e. (n, m, refl, refl, (g n m).0 e),
      λ p. (g n m).1 (
          subst (λ x. P x m) (sym (same-number n p.0 p.2))
          (subst (P p.0) (sym (same-number m p.1 p.3)) p.4)),
    )

    -- a value exactly when that operand fits and, where the other fits too, f gives one of their numbers
    pub given-exactly
        : ((n m : ℕ) → ((f n m).code ≡ 0) ↔ P n m) → (a b : Value) → ((asking known f a b).code ≡ 0) ↔ FirstFits a b P
    given-exactly g Overflowed b =
        (λ e. let no : ⊥ = omega arith in absurd no, λ p. absurd (not-overflowed p.0 (sym p.1)))
    given-exactly g (Fits n) Overflowed = (λ e. (n, refl, λ m q. absurd (not-overflowed m (sym q))), λ p. refl)
    given-exactly g (Fits n) (Fits m) = (
      λ e. (n, refl, λ j q. subst (P n) (same-number m j q) ((g n m).0 e)),
      λ p. (g n m).1 (subst (λ x. P x m) (sym (same-number n p.0 p.1)) (p.2 m refl)),
    )

-- both numbers, the other way round
pub other-way : {a b : Value} {P : ℕ → ℕ → Type 0} → BothNumbers b a (λ r l. P l r) → BothNumbers a b P
other-way (r, l, q, p, h) = (l, r, p, q, h)

-- ---- both numbers

pub pair-of-both : (a b : Value) → pair (both_of a b) ≡ pair_of a b
pair-of-both Overflowed b = refl
pair-of-both (Fits l) Overflowed = refl
pair-of-both (Fits l) (Fits r) = refl

pub pair-three : (a b : Value) → ((pair_of a b).code ≡ 3) ↔ OneOverflowed a b
pair-three Overflowed b = (λ e. inl refl, λ p. refl)
pair-three (Fits l) Overflowed = (λ e. inr refl, λ p. refl)
pair-three (Fits l) (Fits r) = (λ e. let f : ⊥ = omega arith in absurd f, λ p. absurd (neither l r p))
