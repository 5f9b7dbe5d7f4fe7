-- Quotient, remainder, power and logarithm of the values of two numbers: what is given is the value of what the numbers
-- come to. So an answer with an overflowed operand is the one for every number that the operand stands for.
-- Assumes nothing.
use mathlib.Core.Path.{◌≡◌, ap, ap₂, sym, ◌∙◌, subst}
use mathlib.Core.Bool.{cond}
use Prim.Native.Nat.{ℕ, zero, suc, ◌*◌, ◌/◌, ◌%◌, ◌^◌, ◌≤◌, ◌<◌}
use native.Mathlib.Nat.{pow-zero, pow-suc, pow-le-pow_right, one-mul, mul-zero}
use native.Mathlib.Nat.{div-le_self, mod-le, div-eq_of_lt, mod-eq_of_lt}
use native.Mathlib.Decide.{dec_le}
use native.Mathlib.Omega.{arith}
use borrow.Author.Tests.{ne_eqb, le-ltb}
use Rattle.whole.specs.Logarithm.{log_of}
use Rattle.whole.proofs.Naturals.{log-of-small}
use Rattle.checked.specs.declared.types.Checked.TheVariants.{Fits, Overflowed}
use Rattle.checked.specs.Value.{Value, Stands, FirstFits, checked_of, least, raised_of}
use Rattle.checked.specs.Paper.{Paper, given, refused, value_in, divided_by, left_by, log_by}
use Rattle.checked.specs.Paper.{asking, quotient_of, remainder_of, logarithm_of}
use Rattle.checked.proofs.Limit.{fits, over}
use Rattle.checked.proofs.Powers.{absorb-power}
use Rattle.checked.proofs.Logarithms.{below-power, log-at-most}
use Rattle.checked.proofs.Standing.{standing, stands}
use Rattle.checked.proofs.Refused.{value-given}

-- ---- a power, by the two marks

pub one-pow : (e : ℕ) → 1 ^ e ≡ 1
one-pow zero = pow-zero 1
one-pow (suc e) = pow-suc 1 e ∙ ap (λ p. p * 1) (one-pow e)

zero-pow : (e : ℕ) → 0 ^ suc e ≡ 0
zero-pow e = pow-suc 0 e ∙ mul-zero (0 ^ e)

module _ (M : ℕ) where
  -- 0 and 1 to any exponent above the limit are 0 and 1
  pub small-to-overflowed : (l : ℕ) → l < 2 → checked_of M l ≡ raised_of M (Fits l) Overflowed
  small-to-overflowed zero h = ap (checked_of M) (sym (zero-pow M))
  small-to-overflowed (suc zero) h = ap (checked_of M) (sym (one-pow (suc M)))
  small-to-overflowed (suc (suc l)) h = let f : ⊥ = omega arith in absurd f

  -- any other base is overflowed
  pub large-to-overflowed : (l : ℕ) → 2 ≤ l → Overflowed ≡ raised_of M (Fits l) Overflowed
  large-to-overflowed l h = over M (l ^ suc M) (omega (arith, below-power l (suc M) h))

  -- any base to the 0 is 1
  pub overflowed-to-0 : (r : ℕ) → r ≡ 0 → checked_of M 1 ≡ raised_of M Overflowed (Fits r)
  overflowed-to-0 r z = ap (checked_of M) (sym (ap (λ e. suc M ^ e) z ∙ pow-zero (suc M)))

  -- and one above the limit is overflowed to any other exponent
  pub overflowed-to-more : (r : ℕ) → (r ≡ 0 → ⊥) → Overflowed ≡ raised_of M Overflowed (Fits r)
  overflowed-to-more r n =
      let one : suc M ^ 1 ≡ suc M = pow-suc (suc M) 0 ∙ ap (λ p. p * suc M) (pow-zero (suc M)) ∙ one-mul (suc M) in
      let pos : 0 < suc M = omega arith in
      let more : 1 ≤ r = omega arith in
      over M (suc M ^ r) (omega (arith, one, pow-le-pow_right pos more))

  pub overflowed-to-overflowed : Overflowed ≡ raised_of M Overflowed Overflowed
  overflowed-to-overflowed = overflowed-to-more (suc M) (λ z. omega arith)

-- ---- a power of the values of two numbers

by-above : (M l r : ℕ) → M < r → checked_of M (l ^ suc M) ≡ checked_of M (l ^ r)
by-above M l zero h = let f : ⊥ = omega arith in absurd f
by-above M zero (suc r) h = ap (checked_of M) (zero-pow M ∙ sym (zero-pow r))
by-above M (suc zero) (suc r) h = ap (checked_of M) (one-pow (suc M) ∙ sym (one-pow (suc r)))
by-above M (suc (suc l)) (suc r) h =
    let b : 1 < suc (suc l) = omega arith in
    sym (large-to-overflowed M (suc (suc l)) b)
    ∙ over M (suc (suc l) ^ suc r) (omega (arith, below-power (suc (suc l)) (suc r) b))

pub power-of-values : (M l r : ℕ) → raised_of M (checked_of M l) (checked_of M r) ≡ checked_of M (l ^ r)
power-of-values M l r =
    let e = least M (checked_of M r) in
    ap (checked_of M) (sym (one-mul (least M (checked_of M l) ^ e)))
    ∙ absorb-power M 1 l e
    ∙ ap (checked_of M) (one-mul (l ^ e))
    ∙ elim (dec_le r M) [
      | yes h ↦ ap (λ v. checked_of M (l ^ least M v)) (sym (fits M r h))
      | no n ↦
          let h : M < r = omega arith in ap (λ v. checked_of M (l ^ least M v)) (sym (over M r h)) ∙ by-above M l r h
    ]

-- ---- an operation that asks for an operand that fits

-- on the values of n, which fits, and m: v, where f gives it and, for m above M, it is known from n
asking-of-values
    : (M : ℕ) (known : ℕ → ℕ) (f : ℕ → ℕ → Paper) (n m v : ℕ) → n ≤ M → v ≤ M → (m ≤ M → f n m ≡ given (Fits v)) →
    (M < m → known n ≡ v) → asking known f (checked_of M n) (checked_of M m) ≡ given (checked_of M v)
asking-of-values M known f n m v p q given-so Known-so =
    elim (dec_le m M) [
      | yes h ↦ sym (ap₂ (asking known f) (fits M n p) (fits M m h)) ∙ given-so h ∙ ap given (fits M v q)
      | no k ↦
          let h : M < m = omega arith in
          sym (ap₂ (asking known f) (fits M n p) (over M m h))
          ∙ ap (λ x. given (Fits x)) (Known-so h)
          ∙ ap given (fits M v q)
    ]

module _ (M l r : ℕ) where
  pub quotient-of-values
      : l ≤ M → (r ≡ 0 → ⊥) → quotient_of (checked_of M l) (checked_of M r) ≡ given (checked_of M (l / r))
  quotient-of-values p n =
      let small : l / r ≤ M = omega (arith, div-le_self l r) in
      asking-of-values M (λ l. 0) divided_by l r (l / r) p small
      (λ h. ap (λ t. cond t (refused 1) (given (Fits (l / r)))) (ne_eqb r 0 n))
      (λ h. let less : l < r = omega arith in sym (div-eq_of_lt less))

  pub remainder-of-values
      : l ≤ M → (r ≡ 0 → ⊥) → remainder_of (checked_of M l) (checked_of M r) ≡ given (checked_of M (l % r))
  remainder-of-values p n =
      let small : l % r ≤ M = omega (arith, mod-le l r) in
      asking-of-values M (λ l. l) left_by l r (l % r) p small
      (λ h. ap (λ t. cond t (refused 1) (given (Fits (l % r)))) (ne_eqb r 0 n))
      (λ h. let less : l < r = omega arith in sym (mod-eq_of_lt less))

  -- a base above M is above the argument
  pub logarithm-of-values
      : r ≤ M → (l ≤ M → 2 ≤ l) → logarithm_of (checked_of M l) (checked_of M r) ≡ given (checked_of M (log_of l r))
  logarithm-of-values p b =
      asking-of-values M (λ r. 0) (λ r l. log_by l r) r l (log_of l r) p small
      (λ h. ap (λ t. cond t (refused 2) (given (Fits (log_of l r)))) (le-ltb l 2 (b h)))
      (λ h. let less : r < l = omega arith in sym (log-of-small l r less))
    where
      small : log_of l r ≤ M
      small =
          elim (dec_le l M) [
            | yes h ↦ omega (arith, log-at-most l r (b h))
            | no n ↦ let less : r < l = omega arith in omega (arith, log-of-small l r less)
          ]

-- ---- what is given stands for what any numbers come to that the operands stand for

-- a value that fits stands for a number of the limit
number-fits : (M : ℕ) (v : Value) (n m : ℕ) → Stands M v n → v ≡ Fits m → n ≤ M
number-fits M v n m h e = (subst (λ v. Stands M v n) e h).1

-- and for one of the limit no other value stands
fits-number : (M : ℕ) (v : Value) (n : ℕ) → Stands M v n → n ≤ M → v ≡ Fits n
fits-number M v n h k = standing M v n h ∙ sym (fits M n k)

module _ (M : ℕ) (a b : Value) (l r : ℕ) (p : Stands M a l) (q : Stands M b r) where
  -- an operation that gives the values of l and r the value of v
  given-stands
      : (f : Value → Value → Paper) (v : ℕ) → f (checked_of M l) (checked_of M r) ≡ given (checked_of M v) →
      (c : Value) → f a b ≡ given c → Stands M c v
  given-stands f v e c g =
      let once = sym e ∙ sym (ap₂ f (standing M a l p) (standing M b r q)) ∙ g in
      subst (λ x. Stands M x v) (sym (value-given (checked_of M v)) ∙ ap value_in once ∙ value-given c) (stands M v)

  not-zero : FirstFits a b (λ l r. 0 < r) → r ≡ 0 → ⊥
  not-zero (n, e, above) z =
      let few : r ≤ M = omega arith in omega (arith, above r (fits-number M b r q few))

  pub quotient-given-stands
      : FirstFits a b (λ l r. 0 < r) → (c : Value) → quotient_of a b ≡ given c → Stands M c (l / r)
  quotient-given-stands k =
      given-stands quotient_of (l / r) (quotient-of-values M l r (number-fits M a l k.0 p k.1) (not-zero k))

  pub remainder-given-stands
      : FirstFits a b (λ l r. 0 < r) → (c : Value) → remainder_of a b ≡ given c → Stands M c (l % r)
  remainder-given-stands k =
      given-stands remainder_of (l % r) (remainder-of-values M l r (number-fits M a l k.0 p k.1) (not-zero k))

  pub logarithm-given-stands
      : FirstFits b a (λ r l. 2 ≤ l) → (c : Value) → logarithm_of a b ≡ given c → Stands M c (log_of l r)
  logarithm-given-stands (n, e, base) =
      given-stands logarithm_of (log_of l r)
      (logarithm-of-values M l r (number-fits M b r n q e) (λ h. base l (fits-number M a l p h)))
