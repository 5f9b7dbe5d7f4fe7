-- What checked values stand for: each number has one value that stands for it, and sums and products stand for the sums and products of whatever
-- their operands stand for.
-- Assumes nothing.
use mathlib.Core.Path.{◌≡◌, refl, ap, ap₂, sym, ◌∙◌, subst}
use Prim.Native.Nat.{ℕ, suc, ◌+◌, ◌*◌, ◌<◌}
use native.Mathlib.Nat.{le_refl}
use native.Mathlib.Decide.{dec_le}
use native.Mathlib.Omega.{arith}
use Rattle.checked.specs.declared.types.Checked.TheVariants.{Fits, Overflowed}
use Rattle.checked.specs.Value.{Value, Stands, Within, checked_of, least, sum_of, product_of}
use Rattle.checked.proofs.Limit.{fits, over, absorb, absorb-left}

-- a value stands for n exactly when it is the value of n
pub standing : (M : ℕ) (c : Value) (n : ℕ) → Stands M c n → c ≡ checked_of M n
standing M (Fits m) n (e, h) = ap Fits (sym e) ∙ fits M n h
standing M Overflowed n h = over M n h

pub stands : (M n : ℕ) → Stands M (checked_of M n) n
stands M n =
    elim (dec_le n M) [ yes h ↦ subst (λ c. Stands M c n) (fits M n h) (refl, h) | no k ↦ let h : M < n = omega arith in subst (λ c. Stands M c n) (over M n h) h ]

-- the least number that a value stands for is one of them
pub least-stands : (M : ℕ) (c : Value) → Within M c → Stands M c (least M c)
least-stands M (Fits n) h = (refl, h)
least-stands M Overflowed h = le_refl (suc M)

-- ---- the sum and the product of the values are the values of the sum and the product

sum-beyond : (M x y : ℕ) → checked_of M (x + least M (checked_of M y)) ≡ checked_of M (x + y)
sum-beyond M x y =
    elim (dec_le y M) [
      | yes h ↦ ap (λ c. checked_of M (x + least M c)) (sym (fits M y h))
      | no k ↦ let h : M < y = omega arith in ap (λ c. checked_of M (x + least M c)) (sym (over M y h)) ∙ sym (over M (x + suc M) (omega arith)) ∙ over M (x + y) (omega arith)
    ]

pub sum-of-values : (M m n : ℕ) → sum_of M (checked_of M m) (checked_of M n) ≡ checked_of M (m + n)
sum-of-values M m n =
    sum-beyond M (least M (checked_of M m)) n ∙ ap (checked_of M) (swapped (least M (checked_of M m)) n) ∙ sum-beyond M n m ∙ ap (checked_of M) (swapped n m)
  where
    swapped : (a b : ℕ) → a + b ≡ b + a
    swapped a b = omega arith

pub product-of-values : (M m n : ℕ) → product_of M (checked_of M m) (checked_of M n) ≡ checked_of M (m * n)
product-of-values M m n = absorb M (least M (checked_of M m)) n ∙ absorb-left M m n

-- ---- one law for both operations

-- an operation on values that is op on their numbers stands for op of any numbers that the operands stand for
pub operation-stands
    : (M : ℕ) (f : Value → Value → Value) (op : ℕ → ℕ → ℕ) → ((m n : ℕ) → f (checked_of M m) (checked_of M n) ≡ checked_of M (op m n)) →
    (a b : Value) (m n : ℕ) → Stands M a m → Stands M b n → Stands M (f a b) (op m n)
operation-stands M f op hom a b m n h k =
    subst (λ c. Stands M c (op m n)) (sym (ap₂ f (standing M a m h) (standing M b n k) ∙ hom m n)) (stands M (op m n))

-- and a value that does so is the value of op at the least numbers of the two
pub the-one
    : (M : ℕ) (op : ℕ → ℕ → ℕ) (a b c : Value) → Within M a → Within M b → ((m n : ℕ) → Stands M a m → Stands M b n → Stands M c (op m n)) →
    c ≡ checked_of M (op (least M a) (least M b))
the-one M op a b c wa wb f = standing M c (op (least M a) (least M b)) (f (least M a) (least M b) (least-stands M a wa) (least-stands M b wb))

-- ---- what a value says of the number that it stands for

pub is-fitting : (M n m : ℕ) → checked_of M n ≡ Fits m → n ≡ m
is-fitting M n m e = (subst (λ c. Stands M c n) e (stands M n)).0

pub is-overflowed : (M n : ℕ) → checked_of M n ≡ Overflowed → M < n
is-overflowed M n e = subst (λ c. Stands M c n) e (stands M n)
