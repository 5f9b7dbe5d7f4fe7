-- A single operation on l and r: what it is worth, and exactly when it is refused with which number.
-- Assumes nothing.
use mathlib.Core.Path.{◌≡◌, refl, sym, ◌∙◌}
use mathlib.Core.Logic.{◌↔◌}
use Prim.Native.Nat.{ℕ, suc, ◌+◌, ◌*◌, ◌^◌, ◌≤◌, ◌<◌}
use native.Mathlib.Nat.{div-add-mod', mod-lt, pow-zero, pow-succ'}
use native.Mathlib.Omega.{arith}
use Rattle.whole.proofs.Naturals.{log-of-zero, log-of-floor}
use Rattle.shape.specs.Items.{Operation, sum, product, quotient, remainder, power, logarithm}
use Rattle.meaning.specs.Meaning.{worth, refusal_at}
use Rattle.meaning.proofs.Refusals.{BothFit, Asked, ByZero, SmallBase}
use Rattle.meaning.proofs.Refusals.{passing, overflowing, zero-divides, base-too-small}
use Rattle.meaning.proofs.Refusals.{row, passes, overflowed, by-zero, small-base}

-- ---- worth

pub sum-and-product : (l r : ℕ) → (worth sum l r ≡ l + r) × (worth product l r ≡ l * r)
sum-and-product l r = (refl, refl)

-- l = q * r + m with m < r
pub quotient-and-remainder : (l r : ℕ) → 0 < r → (l ≡ worth quotient l r * r + worth remainder l r) × (worth remainder l r < r)
quotient-and-remainder l r h = (sym (div-add-mod' l r), mod-lt l h)

-- l ^ 0 = 1, and one more in the exponent is once more l
pub powers : (l r : ℕ) → (worth power l 0 ≡ 1) × (worth power l (suc r) ≡ l * worth power l r)
powers l r = (pow-zero l, pow-succ' l r)

-- 0 for r = 0, and otherwise the largest e with l ^ e <= r
pub logarithms : (l r : ℕ) → 1 < l → (worth logarithm l 0 ≡ 0) × (0 < r → (l ^ worth logarithm l r ≤ r) × (r < l ^ suc (worth logarithm l r)))
logarithms l r h = (log-of-zero l, log-of-floor l r h)

-- ---- refusal

pub never-refused
    : (M l r : ℕ) → (refusal_at M sum l r ≡ 0) × (refusal_at M product l r ≡ 0) × (refusal_at M power l r ≡ 0)
never-refused M l r = (refl, refl, refl)

module _ (M l r : ℕ) where
  -- 3 where what has to fit is above M, whatever else is wrong
  pub left-above-refused : M < l → (refusal_at M quotient l r ≡ 3) × (refusal_at M remainder l r ≡ 3)
  left-above-refused h = (overflowing M quotient l r h, overflowing M remainder l r h)

  pub argument-above-refused : M < r → refusal_at M logarithm l r ≡ 3
  argument-above-refused h = overflowing M logarithm l r h

  -- where it fits: 1 for a divisor 0, 2 for a base below 2 that fits, and no other refusal
  pub divisor-zero-refused : l ≤ M → r ≡ 0 → (refusal_at M quotient l r ≡ 1) × (refusal_at M remainder l r ≡ 1)
  divisor-zero-refused p e =
      let b : BothFit M l r = (p, omega arith) in
      (zero-divides M quotient l r e b, zero-divides M remainder l r e b)

  pub divisor-not-refused : l ≤ M → (r ≡ 0 → ⊥) → (refusal_at M quotient l r ≡ 0) × (refusal_at M remainder l r ≡ 0)
  divisor-not-refused p n = (passing M quotient l r (p, n), passing M remainder l r (p, n))

  pub base-below-two-refused : l ≤ M → r ≤ M → l < 2 → refusal_at M logarithm l r ≡ 2
  base-below-two-refused p q h = base-too-small M logarithm l r h (p, q)

  pub base-not-refused : r ≤ M → (l ≤ M → 2 ≤ l) → refusal_at M logarithm l r ≡ 0
  base-not-refused q h = passing M logarithm l r (q, h)

-- ---- the same, number by number

module _ (M : ℕ) (o : Operation) (l r : ℕ) where
  given-twice : {A : Type 0} {c d : ℕ} → refusal_at M o l r ≡ c → refusal_at M o l r ≡ d → (c ≡ d → ⊥) → A
  given-twice e f n = absurd (n (sym e ∙ f))

  -- 3 exactly where the left of a quotient or a remainder, or the argument of a logarithm, is above M
  pub refusal-3-exactly : (refusal_at M o l r ≡ 3) ↔ Asked (λ n. M < n) o l r
  refusal-3-exactly = (only, overflowing M o l r)
    where
      only : refusal_at M o l r ≡ 3 → Asked (λ n. M < n) o l r
      only f =
          elim (row M o l r) [
            | passes k e ↦ given-twice e f (λ q. omega arith)
            | overflowed k e ↦ k
            | by-zero k b e ↦ given-twice e f (λ q. omega arith)
            | small-base k b e ↦ given-twice e f (λ q. omega arith)
          ]

  -- 1 exactly for a quotient or a remainder whose operands fit and whose divisor is 0
  pub refusal-1-exactly : (refusal_at M o l r ≡ 1) ↔ (ByZero o r × (l ≤ M) × (r ≤ M))
  refusal-1-exactly = (only, λ p. zero-divides M o l r p.0 (p.1, p.2))
    where
      only : refusal_at M o l r ≡ 1 → ByZero o r × (l ≤ M) × (r ≤ M)
      only f =
          elim (row M o l r) [
            | passes k e ↦ given-twice e f (λ q. omega arith)
            | overflowed k e ↦ given-twice e f (λ q. omega arith)
            | by-zero k b e ↦ (k, b.0, b.1)
            | small-base k b e ↦ given-twice e f (λ q. omega arith)
          ]

  -- 2 exactly for a logarithm whose operands fit and whose base is below 2
  pub refusal-2-exactly : (refusal_at M o l r ≡ 2) ↔ (SmallBase o l × (l ≤ M) × (r ≤ M))
  refusal-2-exactly = (only, λ p. base-too-small M o l r p.0 (p.1, p.2))
    where
      only : refusal_at M o l r ≡ 2 → SmallBase o l × (l ≤ M) × (r ≤ M)
      only f =
          elim (row M o l r) [
            | passes k e ↦ given-twice e f (λ q. omega arith)
            | overflowed k e ↦ given-twice e f (λ q. omega arith)
            | by-zero k b e ↦ given-twice e f (λ q. omega arith)
            | small-base k b e ↦ (k, b.0, b.1)
          ]
