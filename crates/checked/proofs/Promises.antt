-- What the checked numbers promise, one named theorem for each promise, once for every limit M. A function's contract says that its answer is the
-- one of these definitions; `Unique` says that no other answer is.
-- Assumes nothing.
use mathlib.Core.Path.{◌≡◌, refl, ap, sym, ◌∙◌, subst}
use mathlib.Core.Bool.{cond}
use mathlib.Core.Logic.{◌↔◌}
use Prim.Native.Nat.{ℕ, suc, ◌+◌, ◌-◌, ◌*◌, ◌/◌, ◌%◌, ◌^◌, ◌≤◌, ◌<◌}
use native.Mathlib.Nat.{div-add-mod', mod-lt, div-lt_iff_lt-mul, pow-zero, pow-succ'}
use native.Mathlib.Omega.{arith}
use borrow.Author.Tests.{ne_eqb, lt-ltb, le-ltb}
use lib.Pow.{pow_pos}
use Rattle.whole.specs.Logarithm.{log_of}
use Rattle.whole.proofs.Naturals.{log-of-zero, log-of-floor, log-of-largest}
use Rattle.std.specs.Prelude.{Option}
use Rattle.checked.specs.declared.types.Checked.TheVariants.{Fits, Overflowed}
use Rattle.checked.specs.Value.{Value, limit_of, Stands, Within, checked_of, least, sum_of, product_of, raised_of}
use Rattle.checked.specs.Value.{both_of, BothNumbers, FirstFits, OneOverflowed}
use Rattle.checked.specs.Paper.{Paper, given, refused, divided_by, left_by, log_by}
use Rattle.checked.specs.Paper.{quotient_of, remainder_of, power_of, logarithm_of, plain_of}
use Rattle.checked.specs.Pair.{pair, pair_of}
use Rattle.checked.proofs.Limit.{fits, over, product-overflowed-zero, product-commutes, sum-overflowed-left}
use Rattle.checked.proofs.Logarithms as logs
use Rattle.checked.proofs.Standing.{standing, stands, sum-of-values, product-of-values, operation-stands, the-one}
use Rattle.checked.proofs.Refused as refusals
use Rattle.checked.proofs.Known as known
use Rattle.checked.proofs.Unique.{both-is}

-- ---- the limit, and what a value stands for

-- M is the largest number of W bits
pub limit-is-largest : (W n : ℕ) → (n ≤ limit_of W) ↔ (n < 2 ^ W)
limit-is-largest W n = (λ h. omega (arith, pow_pos W), λ h. omega arith)

-- each number has a value that stands for it, and only one
pub number-has-value : (M n : ℕ) → Stands M (checked_of M n) n
number-has-value = stands

pub number-has-one-value : (M n : ℕ) (c d : Value) → Stands M c n → Stands M d n → c ≡ d
number-has-one-value M n c d h k = standing M c n h ∙ sym (standing M d n k)

-- ---- sum and product

-- the result stands for the sum of any numbers that the operands stand for
pub sum-stands : (M : ℕ) (a b : Value) (m n : ℕ) → Stands M a m → Stands M b n → Stands M (sum_of M a b) (m + n)
sum-stands M = operation-stands M (sum_of M) ◌+◌ (sum-of-values M)

pub product-stands : (M : ℕ) (a b : Value) (m n : ℕ) → Stands M a m → Stands M b n → Stands M (product_of M a b) (m * n)
product-stands M = operation-stands M (product_of M) ◌*◌ (product-of-values M)

-- and it is the one value that does
pub sum-is-the-one
    : (M : ℕ) (a b c : Value) → Within M a → Within M b → ((m n : ℕ) → Stands M a m → Stands M b n → Stands M c (m + n)) → c ≡ sum_of M a b
sum-is-the-one M = the-one M ◌+◌

pub product-is-the-one
    : (M : ℕ) (a b c : Value) → Within M a → Within M b → ((m n : ℕ) → Stands M a m → Stands M b n → Stands M c (m * n)) → c ≡ product_of M a b
product-is-the-one M = the-one M ◌*◌

-- overflowed times 0 is 0, whichever comes first; overflowed plus anything stays overflowed
pub overflowed-times-zero : (M : ℕ) → (product_of M Overflowed (Fits 0) ≡ Fits 0) × (product_of M (Fits 0) Overflowed ≡ Fits 0)
overflowed-times-zero M =
    let z = sym (product-overflowed-zero M 0 refl) in (z, product-commutes M (Fits 0) Overflowed ∙ z)

pub overflowed-plus : (M : ℕ) (b : Value) → sum_of M Overflowed b ≡ Overflowed
overflowed-plus M b = sym (sum-overflowed-left M b)

-- ---- the plain number of a value, and both numbers of two

-- a plain number is refused with 3 exactly when the value is overflowed, and is the value's own where it fits
pub plain-3-exactly : (c : Value) → ((plain_of c).code ≡ 3) ↔ (c ≡ Overflowed)
plain-3-exactly (Fits n) = (λ e. let f : ⊥ = omega arith in absurd f, λ e. absurd (refusals.not-overflowed n e))
plain-3-exactly Overflowed = (λ e. refl, λ e. refl)

pub plain-given : (n : ℕ) → plain_of (Fits n) ≡ given (Fits n)
plain-given n = refl

-- what `both` answers, in numbers, is 3 exactly when one of the two is overflowed, and else 0 with both numbers
pub both-3-exactly : (a b : Value) → ((pair_of a b).code ≡ 3) ↔ OneOverflowed a b
both-3-exactly = refusals.pair-three

pub both-given : (l r : ℕ) → pair_of (Fits l) (Fits r) ≡ record { code = 0; place = 0; left = l; right = r }
both-given l r = refl

-- and this is what its contract says, no more and no less
pub both-in-numbers : (a b : Value) (x : Option (ℕ × ℕ)) → (x ≡ both_of a b) ↔ (pair x ≡ pair_of a b)
both-in-numbers a b x =
    (λ e. ap pair e ∙ refusals.pair-of-both a b, both-is a b)

-- ---- quotient, remainder, power, logarithm: the refusals

-- 3 exactly when the left of a quotient or of a remainder, or the argument of a logarithm, is overflowed
pub quotient-3-exactly : (a b : Value) → ((quotient_of a b).code ≡ 3) ↔ (a ≡ Overflowed)
quotient-3-exactly = refusals.three-exactly (λ l. 0) divided_by (λ l r. refusals.divisor-not-three (l / r) r)

pub remainder-3-exactly : (a b : Value) → ((remainder_of a b).code ≡ 3) ↔ (a ≡ Overflowed)
remainder-3-exactly = refusals.three-exactly (λ l. l) left_by (λ l r. refusals.divisor-not-three (l % r) r)

pub logarithm-3-exactly : (a b : Value) → ((logarithm_of a b).code ≡ 3) ↔ (b ≡ Overflowed)
logarithm-3-exactly a b =
    refusals.three-exactly (λ r. 0) (λ r l. log_by l r) (λ r l. refusals.base-not-three (log_of l r) l) b a

-- 1 exactly when both fit and the divisor is 0
pub quotient-1-exactly : (a b : Value) → ((quotient_of a b).code ≡ 1) ↔ BothNumbers a b (λ l r. r ≡ 0)
quotient-1-exactly =
    refusals.refused-exactly (λ l. 0) divided_by (λ l r. r ≡ 0) 1 (omega arith) (omega arith)
    (λ l r. refusals.divisor-refused (l / r) r)

pub remainder-1-exactly : (a b : Value) → ((remainder_of a b).code ≡ 1) ↔ BothNumbers a b (λ l r. r ≡ 0)
remainder-1-exactly =
    refusals.refused-exactly (λ l. l) left_by (λ l r. r ≡ 0) 1 (omega arith) (omega arith)
    (λ l r. refusals.divisor-refused (l % r) r)

-- 2 exactly when both fit and the base is below 2
pub logarithm-2-exactly : (a b : Value) → ((logarithm_of a b).code ≡ 2) ↔ BothNumbers a b (λ l r. l < 2)
logarithm-2-exactly a b =
    let exactly =
    refusals.refused-exactly (λ r. 0) (λ r l. log_by l r) (λ r l. l < 2) 2 (omega arith) (omega arith)
    (λ r l. refusals.base-refused (log_of l r) l) b a in
    (λ e. refusals.other-way (exactly.0 e), λ p. exactly.1 (refusals.other-way p))

-- otherwise a value is given: exactly when the left fits and the right isn't 0, or the argument fits and the base isn't
-- below 2
pub quotient-given-exactly : (a b : Value) → ((quotient_of a b).code ≡ 0) ↔ FirstFits a b (λ l r. 0 < r)
quotient-given-exactly =
    refusals.given-exactly (λ l. 0) divided_by (λ l r. 0 < r) (λ l r. refusals.divisor-passes (l / r) r)

pub remainder-given-exactly : (a b : Value) → ((remainder_of a b).code ≡ 0) ↔ FirstFits a b (λ l r. 0 < r)
remainder-given-exactly =
    refusals.given-exactly (λ l. l) left_by (λ l r. 0 < r) (λ l r. refusals.divisor-passes (l % r) r)

pub logarithm-given-exactly : (a b : Value) → ((logarithm_of a b).code ≡ 0) ↔ FirstFits b a (λ r l. 2 ≤ l)
logarithm-given-exactly a b =
    refusals.given-exactly (λ r. 0) (λ r l. log_by l r) (λ r l. 2 ≤ l) (λ r l. refusals.base-passes (log_of l r) l) b a

-- a power is always given
pub power-never-refused : (M : ℕ) (a b : Value) → (power_of M a b).code ≡ 0
power-never-refused M a b = refusals.given-code (raised_of M a b)

-- 3 comes whatever the other operand is, so before 1 and 2
pub overflowed-refused
    : (b : Value) →
    (quotient_of Overflowed b ≡ refused 3)
    × (remainder_of Overflowed b ≡ refused 3)
    × (logarithm_of b Overflowed ≡ refused 3)
overflowed-refused b = (refl, refl, refl)

-- where both fit, a divisor 0 is refused with 1 and a base below 2 with 2
pub divisor-0-refused
    : (l : ℕ) → (quotient_of (Fits l) (Fits 0) ≡ refused 1) × (remainder_of (Fits l) (Fits 0) ≡ refused 1)
divisor-0-refused l = (refl, refl)

pub small-base-refused : (l r : ℕ) → l < 2 → logarithm_of (Fits l) (Fits r) ≡ refused 2
small-base-refused l r h = ap (λ t. cond t (refused 2) (given (Fits (log_of l r)))) (lt-ltb l 2 h)

-- ---- quotient, remainder, power, logarithm: the values

-- the quotient q and the remainder m of l by r: l = q * r + m with m < r
pub quotient-and-remainder
    : (l r : ℕ) → 0 < r →
    (q : ℕ) × (m : ℕ)
    × (quotient_of (Fits l) (Fits r) ≡ given (Fits q)) × (remainder_of (Fits l) (Fits r) ≡ given (Fits m))
    × (l ≡ q * r + m) × (m < r)
quotient-and-remainder l r h =
    let t = ne_eqb r 0 (λ e. omega arith) in (
      l / r,
      l % r,
      ap (λ t. cond t (refused 1) (given (Fits (l / r)))) t,
      ap (λ t. cond t (refused 1) (given (Fits (l % r)))) t,
      sym (div-add-mod' l r),
      mod-lt l h,
    )

-- a power is l^r if that is at most M, and overflowed if it is above
pub power-fits : (M l r : ℕ) → l ^ r ≤ M → power_of M (Fits l) (Fits r) ≡ given (Fits (l ^ r))
power-fits M l r h = ap given (sym (fits M (l ^ r) h))

pub power-overflows : (M l r : ℕ) → M < l ^ r → power_of M (Fits l) (Fits r) ≡ given Overflowed
power-overflows M l r h = ap given (sym (over M (l ^ r) h))

-- anything to the 0 is 1, 0 and an overflowed base too
pub power-by-0 : (M : ℕ) (a : Value) → 0 < M → power_of M a (Fits 0) ≡ given (Fits 1)
power-by-0 M a h = ap (λ n. given (checked_of M n)) (pow-zero (least M a)) ∙ ap given (sym (fits M 1 h))

-- a logarithm of 0 is 0; of any other number it is the one e with l^e <= r < l^(e + 1)
pub logarithm-of-0 : (l : ℕ) → 1 < l → logarithm_of (Fits l) (Fits 0) ≡ given (Fits 0)
logarithm-of-0 l h =
    ap (λ t. cond t (refused 2) (given (Fits (log_of l 0)))) (le-ltb l 2 h) ∙ ap (λ e. given (Fits e)) (log-of-zero l)

pub logarithm-between
    : (l r : ℕ) → 1 < l → 0 < r →
    (e : ℕ) × (logarithm_of (Fits l) (Fits r) ≡ given (Fits e)) × (l ^ e ≤ r) × (r < l ^ suc e)
logarithm-between l r h k =
    let b = log-of-floor l r h k in
    (log_of l r, ap (λ t. cond t (refused 2) (given (Fits (log_of l r)))) (le-ltb l 2 h), b.0, b.1)

-- ---- with an overflowed operand

-- a fitting left by an overflowed right has the quotient 0, and is left whole
pub by-overflowed
    : (l : ℕ) → (quotient_of (Fits l) Overflowed ≡ given (Fits 0)) × (remainder_of (Fits l) Overflowed ≡ given (Fits l))
by-overflowed l = (refl, refl)

-- the logarithm of a fitting argument in an overflowed base is 0
pub in-overflowed-base : (r : ℕ) → logarithm_of Overflowed (Fits r) ≡ given (Fits 0)
in-overflowed-base r = refl

-- 0 or 1 to an overflowed exponent is 0 or 1; any other base is overflowed, and so is an overflowed one
pub small-to-overflowed : (M l : ℕ) → l < 2 → l ≤ M → power_of M (Fits l) Overflowed ≡ given (Fits l)
small-to-overflowed M l h k = ap given (sym (known.small-to-overflowed M l h) ∙ sym (fits M l k))

pub large-to-overflowed : (M l : ℕ) → 2 ≤ l → power_of M (Fits l) Overflowed ≡ given Overflowed
large-to-overflowed M l h = ap given (sym (known.large-to-overflowed M l h))

pub overflowed-to-overflowed : (M : ℕ) → power_of M Overflowed Overflowed ≡ given Overflowed
overflowed-to-overflowed M = ap given (sym (known.overflowed-to-overflowed M))

-- an overflowed base to a fitting exponent of at least 1 is overflowed
pub overflowed-to-more : (M r : ℕ) → 1 ≤ r → power_of M Overflowed (Fits r) ≡ given Overflowed
overflowed-to-more M r h = ap given (sym (known.overflowed-to-more M r (λ z. omega arith)))

-- each of these answers, as any other, stands for what any numbers come to that the operands stand for
module _ (M : ℕ) (a b : Value) (l r : ℕ) (p : Stands M a l) (q : Stands M b r) where
  code_of : {x : Paper} (c : Value) → x ≡ given c → x.code ≡ 0
  code_of c e = ap (λ x. x.code) e ∙ refusals.given-code c

  pub quotient-stands : (c : Value) → quotient_of a b ≡ given c → Stands M c (l / r)
  quotient-stands c e = known.quotient-given-stands M a b l r p q ((quotient-given-exactly a b).0 (code_of c e)) c e

  pub remainder-stands : (c : Value) → remainder_of a b ≡ given c → Stands M c (l % r)
  remainder-stands c e = known.remainder-given-stands M a b l r p q ((remainder-given-exactly a b).0 (code_of c e)) c e

  pub power-stands : Stands M (raised_of M a b) (l ^ r)
  power-stands = operation-stands M (raised_of M) ◌^◌ (known.power-of-values M) a b l r p q

  pub logarithm-stands : (c : Value) → logarithm_of a b ≡ given c → Stands M c (log_of l r)
  logarithm-stands c e = known.logarithm-given-stands M a b l r p q ((logarithm-given-exactly a b).0 (code_of c e)) c e

-- and a power is the one value that does
pub power-is-the-one
    : (M : ℕ) (a b c : Value) → Within M a → Within M b →
    ((m n : ℕ) → Stands M a m → Stands M b n → Stands M c (m ^ n)) → c ≡ raised_of M a b
power-is-the-one M = the-one M ◌^◌

-- ---- the logarithm itself

-- for every base and exponent it is the largest e with l^e <= r
pub log-of-nothing : (l : ℕ) → log_of l 0 ≡ 0
log-of-nothing = log-of-zero

pub log-is-an-exponent : (l r : ℕ) → 1 < l → 0 < r → l ^ log_of l r ≤ r
log-is-an-exponent l r h k = (log-of-floor l r h k).0

pub log-is-largest : (l r e : ℕ) → 1 < l → l ^ e ≤ r → e ≤ log_of l r
log-is-largest = log-of-largest

-- a logarithm of a number of W bits is below W: so many multiplications at most
pub log-below-width : (l r W : ℕ) → 1 < l → 0 < W → r < 2 ^ W → log_of l r < W
log-below-width = logs.log-below-width

-- an exponent of W bits is at most 1 after W - 1 halvings: a power, which halves the exponent while it is above 1, makes fewer than W turns
pub power-below-width : (e W : ℕ) → 0 < W → e < 2 ^ W → e / 2 ^ (W - 1) < 2
power-below-width e W h k =
    (div-lt_iff_lt-mul (pow_pos (W - 1))).1 (subst (λ n. e < n) (ap (λ j. 2 ^ j) (omega arith) ∙ pow-succ' 2 (W - 1)) k)
