-- Checked values over a limit M: the value that stands for a number, what a sum and a product stand for, and when a product stays within M.
-- Assumes nothing.
use mathlib.Core.Path.{◌≡◌, refl, ap, sym, ◌∙◌, subst}
use mathlib.Core.Bool.{cond}
use Prim.Native.Nat.{ℕ, zero, suc, ◌+◌, ◌*◌, ◌/◌, ◌≤◌, ◌<◌, zero-le}
use native.Mathlib.Nat.{le-div_iff_mul-le, div-lt_iff_lt-mul, mul_comm, zero-mul, one-mul, mul-le-mul_left}
use native.Mathlib.Decide.{dec_le}
use native.Mathlib.Omega.{arith}
use borrow.Author.Tests.{le-leb, lt-leb}
use Rattle.checked.specs.declared.types.Checked.TheVariants.{Fits, Overflowed}
use Rattle.checked.specs.Value.{Value, checked_of, least, sum_of, product_of}

-- ---- the value that stands for a number

pub fits : (M n : ℕ) → n ≤ M → Fits n ≡ checked_of M n
unfolding checked_of
fits M n h = sym (ap (λ t. cond t (Fits n) Overflowed) (le-leb n M h))

pub over : (M n : ℕ) → M < n → Overflowed ≡ checked_of M n
unfolding checked_of
over M n h = sym (ap (λ t. cond t (Fits n) Overflowed) (lt-leb n M h))

-- ---- when a product stays within M

pub product-within : (M a b : ℕ) → (a ≡ 0 → ⊥) → b ≤ M / a → a * b ≤ M
product-within M a b n h = let p : 0 < a = omega arith in subst (λ x. x ≤ M) (mul_comm b a) ((le-div_iff_mul-le p).0 h)

pub product-beyond : (M a b : ℕ) → (a ≡ 0 → ⊥) → M / a < b → M < a * b
product-beyond M a b n h = let p : 0 < a = omega arith in subst (λ x. M < x) (mul_comm b a) ((div-lt_iff_lt-mul p).0 h)

pub product-of-zero : (M a b : ℕ) → a ≡ 0 → Fits 0 ≡ checked_of M (a * b)
product-of-zero M a b e = fits M 0 zero-le ∙ ap (checked_of M) (sym (ap (λ x. x * b) e ∙ zero-mul b))

-- ---- sums and products by cases

pub sum-overflowed-left : (M : ℕ) (b : Value) → Overflowed ≡ sum_of M Overflowed b
sum-overflowed-left M b = over M (suc M + least M b) (omega arith)

pub sum-overflowed-right : (M : ℕ) (a : Value) → Overflowed ≡ sum_of M a Overflowed
sum-overflowed-right M a = over M (least M a + suc M) (omega arith)

pub product-overflowed-zero : (M n : ℕ) → n ≡ 0 → Fits 0 ≡ product_of M Overflowed (Fits n)
product-overflowed-zero M n e = product-of-zero M n (suc M) e ∙ ap (checked_of M) (mul_comm n (suc M))

pub product-overflowed : (M n : ℕ) → (n ≡ 0 → ⊥) → Overflowed ≡ product_of M Overflowed (Fits n)
product-overflowed M zero h = absurd (h refl)
product-overflowed M (suc n) h = over M (suc M * suc n) (omega arith)

pub product-overflowed-both : (M : ℕ) → Overflowed ≡ product_of M Overflowed Overflowed
product-overflowed-both M = over M (suc M * suc M) (omega arith)

pub product-commutes : (M : ℕ) (a b : Value) → product_of M a b ≡ product_of M b a
product-commutes M a b = ap (checked_of M) (mul_comm (least M a) (least M b))

-- ---- the least number that a value stands for says all that a product needs to know of it

least-fits : (M n : ℕ) → n ≤ M → least M (checked_of M n) ≡ n
least-fits M n h = ap (least M) (sym (fits M n h))

least-over : (M n : ℕ) → M < n → least M (checked_of M n) ≡ suc M
least-over M n h = ap (least M) (sym (over M n h))

beyond : (M x y : ℕ) → M < y → checked_of M (x * suc M) ≡ checked_of M (x * y)
beyond M zero y h = ap (checked_of M) (zero-mul (suc M) ∙ sym (zero-mul y))
beyond M (suc x) y h = sym (over M (suc x * suc M) (omega arith)) ∙ over M (suc x * y) (omega (arith, mul-le-mul_left x h))

pub absorb : (M x y : ℕ) → checked_of M (x * least M (checked_of M y)) ≡ checked_of M (x * y)
absorb M x y =
    elim (dec_le y M) [ yes h ↦ ap (λ z. checked_of M (x * z)) (least-fits M y h) | no n ↦ ap (λ z. checked_of M (x * z)) (least-over M y (omega arith)) ∙ beyond M x y (omega arith) ]

pub absorb-left : (M x y : ℕ) → checked_of M (least M (checked_of M x) * y) ≡ checked_of M (x * y)
absorb-left M x y = ap (checked_of M) (mul_comm (least M (checked_of M x)) y) ∙ absorb M y x ∙ ap (checked_of M) (mul_comm y x)

-- a value that stands for a number is the one that stands for the least of its numbers
pub settled-at : (M n : ℕ) {v : Value} → v ≡ checked_of M n → v ≡ checked_of M (least M v)
settled-at M n e = e ∙ settled ∙ ap (λ v. checked_of M (least M v)) (sym e)
  where
    settled : checked_of M n ≡ checked_of M (least M (checked_of M n))
    settled = sym (ap (checked_of M) (sym (one-mul (least M (checked_of M n)))) ∙ absorb M 1 n ∙ ap (checked_of M) (one-mul n))
