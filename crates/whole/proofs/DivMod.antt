-- Quotients and remainders of whole numbers: the laws of upstream's `div_mod.rs`, under its names, from the facts of `Euclid`.
-- Where upstream asks more than a law needs, most laws here ask less: those on %ℤ alone mostly hold for any divisor.
-- Assumes nothing.
use mathlib.Core.Path.{◌≡◌, refl, ap, sym, ◌∙◌, subst}
use mathlib.Core.Logic.{◌≢◌, ⊎_elim}
use native.Mathlib.Omega.{arith}
use lib.IntN.{ℤ, pos, negsuc, neg_ℤ, ◌+ℤ◌, ◌-ℤ◌, ◌*ℤ◌, +ℤ_idr, +ℤ_comm, +ℤ_invr}
use lib.Signed.{◌≤ℤ◌, ◌<ℤ◌, ≤ℤ_refl, <ℤ-≤ℤ_trans, clash_ℤ}
use Rattle.whole.specs.DivMod.{◌/ℤ◌, ◌%ℤ◌, ◌below◌, ∣◌∣, is_mod_equivalent}
use Rattle.whole.proofs.Difference.{⟨◌⟩, #, ◌⊕◌, ◌⊝◌, ◌⊗◌, ⊖◌, equalℤ, leℤ, ltℤ, equalℤ⁻¹, leℤ⁻¹, ltℤ⁻¹, atmost-of, less-of, whole, cross, cross-strict}
use Rattle.whole.proofs.Order.{≤ℤ-trans, ≤ℤ-<ℤ-trans, <ℤ→≤ℤ, ≡→≤ℤ, ≮ℤ→≤ℤ, equal-or-not, positive→≢0}
use Rattle.whole.proofs.Mul.{lemma-mul-basics-2, lemma-mul-basics-3, lemma-mul-basics-4, lemma-mul-is-commutative, lemma-mul-inequality, lemma-mul-left-inequality, lemma-mul-nonnegative, lemma-mul-strictly-positive, lemma-mul-strictly-increases, lemma-mul-increases}
use Rattle.whole.proofs.Euclid.{◌%%◌, fundamental, bound, bound-positive, determined, shifted, same-remainder, times-quotient, times-at-most, less-than-times}

-- ---- the fundamental law and its converse

-- x == d * (x / d) + (x % d)
pub lemma-fundamental-div-mod : (x d : ℤ) → x ≡ d *ℤ (x /ℤ d) +ℤ (x %ℤ d)
lemma-fundamental-div-mod = fundamental

-- 0 <= r < d puts d above 0, so that d is |d|
below-size : (d r : ℤ) → r below d → r below ∣ d ∣
below-size (pos n) r h = h
below-size (negsuc n) r h = absurd (≤ℤ-<ℤ-trans h.0 h.1).lt

-- 0 <= r < d and x == q * d + r give r == x % d and q == x / d
pub lemma-fundamental-div-mod-converse : (x d q r : ℤ) → r below d → x ≡ q *ℤ d +ℤ r → (r ≡ x %ℤ d) × (q ≡ x /ℤ d)
lemma-fundamental-div-mod-converse x d q r h e =
    let f = determined x d q r (below-size d r h) (equalℤ ⟨ x ⟩ (⟨ d ⟩ ⊗ ⟨ q ⟩ ⊕ ⟨ r ⟩) (omega (arith, equalℤ⁻¹ ⟨ x ⟩ (⟨ q ⟩ ⊗ ⟨ d ⟩ ⊕ ⟨ r ⟩) e))) in
    (f.1, f.0)

pub lemma-fundamental-div-mod-converse-mod : (x d q r : ℤ) → r below d → x ≡ q *ℤ d +ℤ r → r ≡ x %ℤ d
lemma-fundamental-div-mod-converse-mod x d q r h e = (lemma-fundamental-div-mod-converse x d q r h e).0

pub lemma-fundamental-div-mod-converse-div : (x d q r : ℤ) → r below d → x ≡ q *ℤ d +ℤ r → q ≡ x /ℤ d
lemma-fundamental-div-mod-converse-div x d q r h e = (lemma-fundamental-div-mod-converse x d q r h e).1

-- u == (u * d + r) / d for 0 <= r < d
pub lemma-fundamental-div-mod-converse-helper-1 : (u d r : ℤ) → r below d → u ≡ (u *ℤ d +ℤ r) /ℤ d
lemma-fundamental-div-mod-converse-helper-1 u d r h = lemma-fundamental-div-mod-converse-div (u *ℤ d +ℤ r) d u r h refl

-- r == (u * d + r) % d for 0 <= r < d
pub lemma-fundamental-div-mod-converse-helper-2 : (u d r : ℤ) → r below d → r ≡ (u *ℤ d +ℤ r) %ℤ d
lemma-fundamental-div-mod-converse-helper-2 u d r h = lemma-fundamental-div-mod-converse-mod (u *ℤ d +ℤ r) d u r h refl

-- what d divides without a remainder, either way
exact : (x d q : ℤ) → d ≢ pos 0 → x ≡ d *ℤ q → (q ≡ x /ℤ d) × (pos 0 ≡ x %ℤ d)
exact x d q n e =
    determined x d q (pos 0) (≤ℤ_refl (pos 0), ≤ℤ-<ℤ-trans (bound d d n).0 (bound d d n).1)
    (equalℤ ⟨ x ⟩ (⟨ d ⟩ ⊗ ⟨ q ⟩ ⊕ # 0) (omega (arith, equalℤ⁻¹ ⟨ x ⟩ (⟨ d ⟩ ⊗ ⟨ q ⟩) e)))

multiple : (x d : ℤ) → x %ℤ d ≡ pos 0 → x ≡ d *ℤ (x /ℤ d)
multiple x d e = fundamental x d ∙ ap (λ r. d *ℤ (x /ℤ d) +ℤ r) e ∙ +ℤ_idr (d *ℤ (x /ℤ d))

-- by 0 the remainder is the dividend
pub by-zero : (x : ℤ) → x %ℤ pos 0 ≡ x
by-zero x = equalℤ (⟨ x ⟩ %% # 0) ⟨ x ⟩ (omega arith)

-- a fact of remainders that holds for 0 and for every other divisor holds for all
any-divisor : (P : ℤ → Type 0) → P (pos 0) → ((d : ℤ) → d ≢ pos 0 → P d) → (d : ℤ) → P d
any-divisor P zeroth other d = ⊎_elim (λ z. subst P (sym z) zeroth) (other d) (equal-or-not d (pos 0))

-- 0 leaves 0, whatever the divisor
nothing-left : (d : ℤ) → pos 0 %ℤ d ≡ pos 0
nothing-left =
    any-divisor (λ d. pos 0 %ℤ d ≡ pos 0) (by-zero (pos 0))
    (λ d n. sym (exact (pos 0) d (pos 0) n (sym (lemma-mul-basics-2 d))).1)

-- what is from 0 to |d| - 1 is its own remainder
small-left : (x d : ℤ) → x below ∣ d ∣ → x %ℤ d ≡ x
small-left x d h = sym (determined x d (pos 0) x h (equalℤ ⟨ x ⟩ (⟨ d ⟩ ⊗ # 0 ⊕ ⟨ x ⟩) (omega arith))).1

-- ---- multiples of the divisor

-- (x + j * d) / d == x / d + j
pub lemma-hoist-over-denominator : (x j d : ℤ) → d ≢ pos 0 → x /ℤ d +ℤ j ≡ (x +ℤ j *ℤ d) /ℤ d
lemma-hoist-over-denominator x j d n =
    equalℤ (⟨ x /ℤ d ⟩ ⊕ ⟨ j ⟩) (⟨ j ⟩ ⊕ ⟨ x /ℤ d ⟩) (omega arith)
    ∙ sym (shifted (x +ℤ j *ℤ d) x j d n (equalℤ (⟨ x ⟩ ⊕ ⟨ j ⟩ ⊗ ⟨ d ⟩) (⟨ d ⟩ ⊗ ⟨ j ⟩ ⊕ ⟨ x ⟩) (omega arith))).0

-- 1 + x / d == (d + x) / d
pub lemma-div-plus-one : (x d : ℤ) → d ≢ pos 0 → pos 1 +ℤ x /ℤ d ≡ (d +ℤ x) /ℤ d
lemma-div-plus-one x d n = sym (shifted (d +ℤ x) x (pos 1) d n (equalℤ (⟨ d ⟩ ⊕ ⟨ x ⟩) (⟨ d ⟩ ⊗ # 1 ⊕ ⟨ x ⟩) (omega arith))).0

-- -1 + x / d == (-d + x) / d
pub lemma-div-minus-one : (x d : ℤ) → d ≢ pos 0 → neg_ℤ (pos 1) +ℤ x /ℤ d ≡ (neg_ℤ d +ℤ x) /ℤ d
lemma-div-minus-one x d n =
    sym (shifted (neg_ℤ d +ℤ x) x (neg_ℤ (pos 1)) d n (equalℤ (⊖ ⟨ d ⟩ ⊕ ⟨ x ⟩) (⟨ d ⟩ ⊗ ⊖ # 1 ⊕ ⟨ x ⟩) (omega arith))).0

-- (d * x + b) / d == x for 0 <= b < d
pub lemma-div-multiples-vanish-fancy : (x b d : ℤ) → b below d → (d *ℤ x +ℤ b) /ℤ d ≡ x
lemma-div-multiples-vanish-fancy x b d h = sym (determined (d *ℤ x +ℤ b) d x b (below-size d b h) refl).0

-- (d * x) / d == x
pub lemma-div-multiples-vanish : (x d : ℤ) → d ≢ pos 0 → d *ℤ x /ℤ d ≡ x
lemma-div-multiples-vanish x d n = sym (exact (d *ℤ x) d x n refl).0

-- (b * d) / d == b: upstream's text leaves this function out, its comment states it
pub lemma-div-by-multiple : (b d : ℤ) → d ≢ pos 0 → b *ℤ d /ℤ d ≡ b
lemma-div-by-multiple b d n = sym (exact (b *ℤ d) d b n (lemma-mul-is-commutative b d)).0

-- ---- division: of 0, by 1, by itself, by a larger number

-- 0 / d == 0
pub lemma-div-of0 : (d : ℤ) → d ≢ pos 0 → pos 0 /ℤ d ≡ pos 0
lemma-div-of0 d n = sym (exact (pos 0) d (pos 0) n (sym (lemma-mul-basics-2 d))).0

-- d / d == 1
pub lemma-div-by-self : (d : ℤ) → d ≢ pos 0 → d /ℤ d ≡ pos 1
lemma-div-by-self d n = sym (exact d d (pos 1) n (sym (lemma-mul-basics-3 d))).0

pub lemma-div-basics-1 : (x : ℤ) → x ≢ pos 0 → pos 0 /ℤ x ≡ pos 0
lemma-div-basics-1 = lemma-div-of0

-- x / 1 == x
pub lemma-div-basics-2 : (x : ℤ) → x /ℤ pos 1 ≡ x
lemma-div-basics-2 x = sym (exact x (pos 1) x (λ e. omega (arith, whole)) (sym (lemma-mul-basics-4 x))).0

pub lemma-div-basics-3 : (x : ℤ) → x ≢ pos 0 → x /ℤ x ≡ pos 1
lemma-div-basics-3 = lemma-div-by-self

pub lemma-div-basics : (x : ℤ) → (x ≢ pos 0 → pos 0 /ℤ x ≡ pos 0) × (x /ℤ pos 1 ≡ x) × (x ≢ pos 0 → x /ℤ x ≡ pos 1)
lemma-div-basics x = (lemma-div-of0 x, lemma-div-basics-2 x, lemma-div-by-self x)

-- 0 <= x < d gives x / d == 0
pub lemma-basic-div : (x d : ℤ) → x below d → x /ℤ d ≡ pos 0
lemma-basic-div x d h = sym (determined x d (pos 0) x (below-size d x h) (equalℤ ⟨ x ⟩ (⟨ d ⟩ ⊗ # 0 ⊕ ⟨ x ⟩) (omega arith))).0

pub lemma-basic-div-specific-divisor : (d : ℤ) → (x : ℤ) → x below d → x /ℤ d ≡ pos 0
lemma-basic-div-specific-divisor d x h = lemma-basic-div x d h

-- ---- division and order, for divisors above 0

-- a <= b * c gives a / b <= c
pub lemma-multiply-divide-le : (a b c : ℤ) → pos 0 <ℤ b → a ≤ℤ (b *ℤ c) → (a /ℤ b) ≤ℤ c
lemma-multiply-divide-le a b c h k =
    ≮ℤ→≤ℤ λ (l : c <ℤ (a /ℤ b)).
    omega (arith, leℤ⁻¹ ⟨ a ⟩ (⟨ b ⟩ ⊗ ⟨ c ⟩) k, cross-strict (less-of c (a /ℤ b) l) (less-of (pos 0) b h), leℤ⁻¹ (# 0) (⟨ a ⟩ %% ⟨ b ⟩) (bound-positive a b h).0)

-- a < b * c gives a / b < c
pub lemma-multiply-divide-lt : (a b c : ℤ) → pos 0 <ℤ b → a <ℤ (b *ℤ c) → (a /ℤ b) <ℤ c
lemma-multiply-divide-lt = less-than-times

-- x / d * d <= x
pub lemma-remainder-lower : (x d : ℤ) → d ≢ pos 0 → (x /ℤ d *ℤ d) ≤ℤ x
lemma-remainder-lower x d n =
    leℤ (⟨ x /ℤ d ⟩ ⊗ ⟨ d ⟩) ⟨ x ⟩ (omega (arith, leℤ⁻¹ (# 0) (⟨ x ⟩ %% ⟨ d ⟩) (bound x d n).0))

-- x - d < x / d * d
pub lemma-remainder-upper : (x d : ℤ) → pos 0 <ℤ d → (x -ℤ d) <ℤ (x /ℤ d *ℤ d)
lemma-remainder-upper x d h = ltℤ (⟨ x ⟩ ⊝ ⟨ d ⟩) (⟨ x /ℤ d ⟩ ⊗ ⟨ d ⟩) (omega (arith, ltℤ⁻¹ (⟨ x ⟩ %% ⟨ d ⟩) ⟨ d ⟩ (bound-positive x d h).1))

-- 0 <= x - x / d * d < d
pub lemma-remainder : (x d : ℤ) → pos 0 <ℤ d → (x -ℤ x /ℤ d *ℤ d) below d
lemma-remainder x d h = (
  leℤ (# 0) (⟨ x ⟩ ⊝ ⟨ x /ℤ d ⟩ ⊗ ⟨ d ⟩) (omega (arith, leℤ⁻¹ (# 0) (⟨ x ⟩ %% ⟨ d ⟩) (bound-positive x d h).0)),
  ltℤ (⟨ x ⟩ ⊝ ⟨ x /ℤ d ⟩ ⊗ ⟨ d ⟩) ⟨ d ⟩ (omega (arith, ltℤ⁻¹ (⟨ x ⟩ %% ⟨ d ⟩) ⟨ d ⟩ (bound-positive x d h).1)),
)

-- x <= y gives x / z <= y / z: upstream's text leaves this function out, its comment states it
pub lemma-div-is-ordered : (x y z : ℤ) → x ≤ℤ y → pos 0 <ℤ z → (x /ℤ z) ≤ℤ (y /ℤ z)
lemma-div-is-ordered x y z k h = times-at-most y z (x /ℤ z) h (≤ℤ-trans (times-quotient x z h) k)

-- x >= 0 gives x / d >= 0
pub lemma-div-pos-is-pos : (x d : ℤ) → pos 0 ≤ℤ x → pos 0 <ℤ d → pos 0 ≤ℤ (x /ℤ d)
lemma-div-pos-is-pos x d k h = times-at-most x d (pos 0) h (subst (λ z. z ≤ℤ x) (sym (lemma-mul-basics-2 d)) k)

pub lemma-div-basics-4 : (x y : ℤ) → pos 0 ≤ℤ x → pos 0 <ℤ y → pos 0 ≤ℤ (x /ℤ y)
lemma-div-basics-4 = lemma-div-pos-is-pos

-- x >= 0 gives x / d <= x
pub lemma-div-nonincreasing : (x d : ℤ) → pos 0 ≤ℤ x → pos 0 <ℤ d → (x /ℤ d) ≤ℤ x
lemma-div-nonincreasing x d k h = lemma-multiply-divide-le x d x h (lemma-mul-increases d x h k)

pub lemma-div-basics-5 : (x y : ℤ) → pos 0 ≤ℤ x → pos 0 <ℤ y → (x /ℤ y) ≤ℤ x
lemma-div-basics-5 = lemma-div-nonincreasing

-- x > 0 and d > 1 give x / d < x
pub lemma-div-decreases : (x d : ℤ) → pos 0 <ℤ x → pos 1 <ℤ d → (x /ℤ d) <ℤ x
lemma-div-decreases x d k h = less-than-times x d x (ltℤ (# 0) ⟨ d ⟩ (omega (arith, whole))) (lemma-mul-strictly-increases d x h k)

pub lemma-div-is-strictly-smaller : (x d : ℤ) → pos 0 <ℤ x → pos 1 <ℤ d → (x /ℤ d) <ℤ x
lemma-div-is-strictly-smaller = lemma-div-decreases

-- x / d == 0 gives x < d
pub lemma-small-div-converse : (x d : ℤ) → pos 0 <ℤ d → x /ℤ d ≡ pos 0 → x <ℤ d
lemma-small-div-converse x d h e =
    subst (λ z. z <ℤ d) (sym (fundamental x d ∙ ap (λ q. d *ℤ q +ℤ (x %ℤ d)) e ∙ equalℤ (⟨ d ⟩ ⊗ # 0 ⊕ ⟨ x %ℤ d ⟩) ⟨ x %ℤ d ⟩ (omega arith))) (bound-positive x d h).1

-- x >= d > 0 gives x / d > 0
pub lemma-div-non-zero : (x d : ℤ) → d ≤ℤ x → pos 0 <ℤ d → pos 0 <ℤ (x /ℤ d)
lemma-div-non-zero x d k h =
    let l : pos 1 ≤ℤ (x /ℤ d) = times-at-most x d (pos 1) h (subst (λ z. z ≤ℤ x) (sym (lemma-mul-basics-3 d)) k) in ltℤ (# 0) ⟨ x /ℤ d ⟩ (omega (arith, whole))

-- x >= 0 and 1 <= y <= z give x / y >= x / z
pub lemma-div-is-ordered-by-denominator : (x y z : ℤ) → pos 0 ≤ℤ x → pos 1 ≤ℤ y → y ≤ℤ z → (x /ℤ z) ≤ℤ (x /ℤ y)
lemma-div-is-ordered-by-denominator x y z k h l =
    let a : pos 0 <ℤ y = ltℤ (# 0) ⟨ y ⟩ (omega (arith, whole)) in
    let b : pos 0 <ℤ z = ltℤ (# 0) ⟨ z ⟩ (omega (arith, whole)) in
    times-at-most x y (x /ℤ z) a (≤ℤ-trans (lemma-mul-inequality y z (x /ℤ z) l (lemma-div-pos-is-pos x z k b)) (times-quotient x z b))

-- y == m * z and x < y give x / z < y / z
pub lemma-div-by-multiple-is-strongly-ordered : (x y m z : ℤ) → x <ℤ y → y ≡ m *ℤ z → pos 0 <ℤ z → (x /ℤ z) <ℤ (y /ℤ z)
lemma-div-by-multiple-is-strongly-ordered x y m z k e h =
    less-than-times x z (y /ℤ z) h (subst (λ b. x <ℤ b) (e ∙ lemma-mul-is-commutative m z ∙ ap (λ q. z *ℤ q) (exact y z m (positive→≢0 h) (e ∙ lemma-mul-is-commutative m z)).0) k)

-- x >= 0 gives x * (y / z) <= (x * y) / z
pub lemma-mul-hoist-inequality : (x y z : ℤ) → pos 0 ≤ℤ x → pos 0 <ℤ z → (x *ℤ (y /ℤ z)) ≤ℤ (x *ℤ y /ℤ z)
lemma-mul-hoist-inequality x y z k h =
    times-at-most (x *ℤ y) z (x *ℤ (y /ℤ z)) h
    (leℤ (⟨ z ⟩ ⊗ (⟨ x ⟩ ⊗ ⟨ y /ℤ z ⟩)) (⟨ x ⟩ ⊗ ⟨ y ⟩) (omega (arith, cross (atmost-of (pos 0) x k) (leℤ⁻¹ (⟨ z ⟩ ⊗ ⟨ y /ℤ z ⟩) ⟨ y ⟩ (times-quotient y z h)))))

-- b between the same two multiples of d as a has a's quotient
pub lemma-indistinguishable-quotients : (a b d : ℤ) → (a -ℤ a %ℤ d) ≤ℤ b → b <ℤ (a +ℤ d -ℤ a %ℤ d) → a /ℤ d ≡ b /ℤ d
lemma-indistinguishable-quotients a b d k l =
    (determined b d (a /ℤ d) (b -ℤ d *ℤ (a /ℤ d))
    (below-size d (b -ℤ d *ℤ (a /ℤ d)) (
      leℤ (# 0) (⟨ b ⟩ ⊝ ⟨ d ⟩ ⊗ ⟨ a /ℤ d ⟩) (omega (arith, leℤ⁻¹ (⟨ a ⟩ ⊝ ⟨ a ⟩ %% ⟨ d ⟩) ⟨ b ⟩ k)),
      ltℤ (⟨ b ⟩ ⊝ ⟨ d ⟩ ⊗ ⟨ a /ℤ d ⟩) ⟨ d ⟩ (omega (arith, ltℤ⁻¹ ⟨ b ⟩ (⟨ a ⟩ ⊕ ⟨ d ⟩ ⊝ ⟨ a ⟩ %% ⟨ d ⟩) l)),
    ))
    (equalℤ ⟨ b ⟩ (⟨ d ⟩ ⊗ ⟨ a /ℤ d ⟩ ⊕ (⟨ b ⟩ ⊝ ⟨ d ⟩ ⊗ ⟨ a /ℤ d ⟩)) (omega arith))).0

-- a % d == 0 and 0 <= r < d give a == d * ((a + r) / d)
pub lemma-round-down : (a r d : ℤ) → a %ℤ d ≡ pos 0 → r below d → a ≡ d *ℤ ((a +ℤ r) /ℤ d)
lemma-round-down a r d e h =
    multiple a d e ∙ ap (λ q. d *ℤ q)
    (determined (a +ℤ r) d (a /ℤ d) r (below-size d r h) (equalℤ (⟨ a ⟩ ⊕ ⟨ r ⟩) (⟨ d ⟩ ⊗ ⟨ a /ℤ d ⟩ ⊕ ⟨ r ⟩) (omega (arith, equalℤ⁻¹ ⟨ a ⟩ (⟨ d ⟩ ⊗ ⟨ a /ℤ d ⟩) (multiple a d e))))).0

-- ---- sums and products of divisions

-- r == a % d + b % d - (a + b) % d gives d * ((a + b) / d) - r == d * (a / d) + d * (b / d)
pub lemma-dividing-sums : (a b d r : ℤ) → r ≡ a %ℤ d +ℤ b %ℤ d -ℤ (a +ℤ b) %ℤ d → d *ℤ ((a +ℤ b) /ℤ d) -ℤ r ≡ d *ℤ (a /ℤ d) +ℤ d *ℤ (b /ℤ d)
lemma-dividing-sums a b d r e =
    equalℤ (⟨ d ⟩ ⊗ ⟨ (a +ℤ b) /ℤ d ⟩ ⊝ ⟨ r ⟩) (⟨ d ⟩ ⊗ ⟨ a /ℤ d ⟩ ⊕ ⟨ d ⟩ ⊗ ⟨ b /ℤ d ⟩)
    (omega (arith, equalℤ⁻¹ ⟨ r ⟩ (⟨ a ⟩ %% ⟨ d ⟩ ⊕ ⟨ b ⟩ %% ⟨ d ⟩ ⊝ (⟨ a ⟩ ⊕ ⟨ b ⟩) %% ⟨ d ⟩) e))

-- dividing by y and then by z is dividing by y * z, and the two remainders make up the one
by-product : (x y z : ℤ) → pos 0 <ℤ y → pos 0 <ℤ z → (x /ℤ y /ℤ z ≡ x /ℤ (y *ℤ z)) × (y *ℤ (x /ℤ y %ℤ z) +ℤ x %ℤ y ≡ x %ℤ (y *ℤ z))
by-product x y z h k =
    determined x (y *ℤ z) (x /ℤ y /ℤ z) (y *ℤ (x /ℤ y %ℤ z) +ℤ x %ℤ y)
    (below-size (y *ℤ z) (y *ℤ (x /ℤ y %ℤ z) +ℤ x %ℤ y) (
      leℤ (# 0) (⟨ y ⟩ ⊗ ⟨ x /ℤ y %ℤ z ⟩ ⊕ ⟨ x %ℤ y ⟩)
          (omega (arith, cross (atmost-of (pos 0) y (<ℤ→≤ℤ h)) (atmost-of (pos 0) (x /ℤ y %ℤ z) b.0), atmost-of (pos 0) (x %ℤ y) a.0)),
      ltℤ (⟨ y ⟩ ⊗ ⟨ x /ℤ y %ℤ z ⟩ ⊕ ⟨ x %ℤ y ⟩) (⟨ y ⟩ ⊗ ⟨ z ⟩)
          (omega (arith, cross (atmost-of (pos 0) y (<ℤ→≤ℤ h)) (less-of (x /ℤ y %ℤ z) z b.1), less-of (x %ℤ y) y a.1)),
    ))
    (equalℤ ⟨ x ⟩ (⟨ y ⟩ ⊗ ⟨ z ⟩ ⊗ ⟨ x /ℤ y /ℤ z ⟩ ⊕ (⟨ y ⟩ ⊗ (⟨ x /ℤ y ⟩ %% ⟨ z ⟩) ⊕ ⟨ x ⟩ %% ⟨ y ⟩)) (omega arith))
  where
    a : (x %ℤ y) below y
    a = bound-positive x y h

    b : (x /ℤ y %ℤ z) below z
    b = bound-positive (x /ℤ y) z k

-- (x / c) / d == x / (c * d)
pub lemma-div-denominator : (x c d : ℤ) → pos 0 <ℤ c → pos 0 <ℤ d → (c *ℤ d ≢ pos 0) × (x /ℤ c /ℤ d ≡ x /ℤ (c *ℤ d))
lemma-div-denominator x c d h k = (positive→≢0 (lemma-mul-strictly-positive c d h k), (by-product x c d h k).0)

-- x % (y * z) == y * ((x / y) % z) + x % y
pub lemma-breakdown : (x y z : ℤ) → pos 0 <ℤ y → pos 0 <ℤ z → (pos 0 <ℤ (y *ℤ z)) × (x %ℤ (y *ℤ z) ≡ y *ℤ (x /ℤ y %ℤ z) +ℤ x %ℤ y)
lemma-breakdown x y z h k = (lemma-mul-strictly-positive y z h k, sym (by-product x y z h k).1)

pub lemma-mod-breakdown : (x y z : ℤ) → pos 0 <ℤ y → pos 0 <ℤ z → (pos 0 <ℤ (y *ℤ z)) × (x %ℤ (y *ℤ z) ≡ y *ℤ (x /ℤ y %ℤ z) +ℤ x %ℤ y)
lemma-mod-breakdown = lemma-breakdown

-- a common factor of dividend and divisor leaves the quotient and multiplies the remainder
common-factor : (b x c : ℤ) → pos 0 <ℤ b → pos 0 <ℤ c → (x /ℤ c ≡ b *ℤ x /ℤ (b *ℤ c)) × (b *ℤ (x %ℤ c) ≡ b *ℤ x %ℤ (b *ℤ c))
common-factor b x c h k =
    determined (b *ℤ x) (b *ℤ c) (x /ℤ c) (b *ℤ (x %ℤ c))
    (below-size (b *ℤ c) (b *ℤ (x %ℤ c)) (lemma-mul-nonnegative b (x %ℤ c) (<ℤ→≤ℤ h) (bound-positive x c k).0, (lemma-mul-left-inequality b (x %ℤ c) c h).1 (bound-positive x c k).1))
    (equalℤ (⟨ b ⟩ ⊗ ⟨ x ⟩) (⟨ b ⟩ ⊗ ⟨ c ⟩ ⊗ ⟨ x /ℤ c ⟩ ⊕ ⟨ b ⟩ ⊗ (⟨ x ⟩ %% ⟨ c ⟩)) (omega arith))

-- (b * x) % (b * c) == b * (x % c)
pub lemma-truncate-middle : (x b c : ℤ) → pos 0 <ℤ b → pos 0 <ℤ c → (pos 0 <ℤ (b *ℤ c)) × (b *ℤ x %ℤ (b *ℤ c) ≡ b *ℤ (x %ℤ c))
lemma-truncate-middle x b c h k = (lemma-mul-strictly-positive b c h k, sym (common-factor b x c h k).1)

-- a / d == (x * a) / (x * d)
pub lemma-div-multiples-vanish-quotient : (x a d : ℤ) → pos 0 <ℤ x → pos 0 <ℤ d → (pos 0 <ℤ (x *ℤ d)) × (a /ℤ d ≡ x *ℤ a /ℤ (x *ℤ d))
lemma-div-multiples-vanish-quotient x a d h k = (lemma-mul-strictly-positive x d h k, (common-factor x a d h k).0)

-- (b * (a / b)) % (b * c) <= b * (c - 1)
pub lemma-part-bound1 : (a b c : ℤ) → pos 0 <ℤ b → pos 0 <ℤ c → (pos 0 <ℤ (b *ℤ c)) × ((b *ℤ (a /ℤ b) %ℤ (b *ℤ c)) ≤ℤ (b *ℤ (c -ℤ pos 1)))
lemma-part-bound1 a b c h k = (
  lemma-mul-strictly-positive b c h k,
  subst (λ r. r ≤ℤ (b *ℤ (c -ℤ pos 1))) (common-factor b (a /ℤ b) c h k).1
      ((lemma-mul-left-inequality b (a /ℤ b %ℤ c) (c -ℤ pos 1) h).0
      (leℤ ⟨ a /ℤ b %ℤ c ⟩ (⟨ c ⟩ ⊝ # 1) (omega (arith, less-of (a /ℤ b %ℤ c) c (bound-positive (a /ℤ b) c k).1)))),
)

-- ---- remainders: their range

-- 0 <= x % m < m
pub lemma-mod-bound : (x m : ℤ) → pos 0 <ℤ m → (x %ℤ m) below m
lemma-mod-bound = bound-positive

pub lemma-mod-pos-bound : (x m : ℤ) → pos 0 <ℤ m → (x %ℤ m) below m
lemma-mod-pos-bound = bound-positive

pub lemma-mod-division-less-than-divisor : (x m : ℤ) → pos 0 <ℤ m → (x %ℤ m) below m
lemma-mod-division-less-than-divisor = bound-positive

-- 0 <= x < m gives x % m == x
pub lemma-small-mod : (x m : ℤ) → x below m → x %ℤ m ≡ x
lemma-small-mod x m h = small-left x m (below-size m x h)

-- x >= 0 gives x % m <= x
pub lemma-mod-decreases : (x m : ℤ) → pos 0 ≤ℤ x → (x %ℤ m) ≤ℤ x
lemma-mod-decreases x m k =
    any-divisor (λ d. (x %ℤ d) ≤ℤ x) (≡→≤ℤ (by-zero x))
    (λ d n. ≮ℤ→≤ℤ λ (l : x <ℤ (x %ℤ d)).
    clash_ℤ l (≡→≤ℤ (small-left x d (k, ≤ℤ-<ℤ-trans (<ℤ→≤ℤ l) (bound x d n).1)))) m

-- x > 0 and x % m == 0 give x >= m
pub lemma-mod-is-zero : (x m : ℤ) → pos 0 <ℤ x → x %ℤ m ≡ pos 0 → m ≤ℤ x
lemma-mod-is-zero x m k e = ≮ℤ→≤ℤ λ (l : x <ℤ m). clash_ℤ k (≡→≤ℤ (sym (lemma-small-mod x m (<ℤ→≤ℤ k, l)) ∙ e))

-- (x % y) % (y * z) == x % y
pub part-exact : (x y z : ℤ) → pos 0 <ℤ y → pos 0 <ℤ z → x %ℤ y %ℤ (y *ℤ z) ≡ x %ℤ y
part-exact x y z h k =
    let b = bound-positive x y h in
    lemma-small-mod (x %ℤ y) (y *ℤ z) (b.0, <ℤ-≤ℤ_trans b.1 (rw (lemma-mul-is-commutative y z) (lemma-mul-increases z y k (<ℤ→≤ℤ h))))

-- (x % y) % (y * z) < y
pub lemma-part-bound2 : (x y z : ℤ) → pos 0 <ℤ y → pos 0 <ℤ z → (pos 0 <ℤ (y *ℤ z)) × ((x %ℤ y %ℤ (y *ℤ z)) <ℤ y)
lemma-part-bound2 x y z h k = (lemma-mul-strictly-positive y z h k, rw (part-exact x y z h k) (bound-positive x y h).1)

-- x % d <= x % (d * k)
pub lemma-mod-ordering : (x k d : ℤ) → pos 0 <ℤ d → pos 0 <ℤ k → (pos 0 <ℤ (d *ℤ k)) × ((x %ℤ d) ≤ℤ (x %ℤ (d *ℤ k)))
lemma-mod-ordering x k d h l = (
  lemma-mul-strictly-positive d k h l,
  subst (λ b. (x %ℤ d) ≤ℤ b) (by-product x d k h l).1
      (leℤ ⟨ x %ℤ d ⟩ (⟨ d ⟩ ⊗ ⟨ x /ℤ d %ℤ k ⟩ ⊕ ⟨ x %ℤ d ⟩)
      (omega (arith, cross (atmost-of (pos 0) d (<ℤ→≤ℤ h)) (atmost-of (pos 0) (x /ℤ d %ℤ k) (bound-positive (x /ℤ d) k l).0)))),
)

-- ---- remainders: what changes the dividend by a multiple of the divisor changes nothing

-- (m * a + b) % m == b % m
pub lemma-mod-multiples-vanish : (a b m : ℤ) → (m *ℤ a +ℤ b) %ℤ m ≡ b %ℤ m
lemma-mod-multiples-vanish a b m = same-remainder (m *ℤ a +ℤ b) b a m refl

-- (m + b) % m == b % m
pub lemma-mod-add-multiples-vanish : (b m : ℤ) → (m +ℤ b) %ℤ m ≡ b %ℤ m
lemma-mod-add-multiples-vanish b m = same-remainder (m +ℤ b) b (pos 1) m (equalℤ (⟨ m ⟩ ⊕ ⟨ b ⟩) (⟨ m ⟩ ⊗ # 1 ⊕ ⟨ b ⟩) (omega arith))

-- (-m + b) % m == b % m
pub lemma-mod-sub-multiples-vanish : (b m : ℤ) → (neg_ℤ m +ℤ b) %ℤ m ≡ b %ℤ m
lemma-mod-sub-multiples-vanish b m =
    same-remainder (neg_ℤ m +ℤ b) b (neg_ℤ (pos 1)) m (equalℤ (⊖ ⟨ m ⟩ ⊕ ⟨ b ⟩) (⟨ m ⟩ ⊗ ⊖ # 1 ⊕ ⟨ b ⟩) (omega arith))

-- (x * m) % m == 0
pub lemma-mod-multiples-basic : (x m : ℤ) → x *ℤ m %ℤ m ≡ pos 0
lemma-mod-multiples-basic x m =
    same-remainder (x *ℤ m) (pos 0) x m (equalℤ (⟨ x ⟩ ⊗ ⟨ m ⟩) (⟨ m ⟩ ⊗ ⟨ x ⟩ ⊕ # 0) (omega arith)) ∙ nothing-left m

-- m % m == 0
pub lemma-mod-self-0 : (m : ℤ) → m %ℤ m ≡ pos 0
lemma-mod-self-0 m =
    same-remainder m (pos 0) (pos 1) m (equalℤ ⟨ m ⟩ (⟨ m ⟩ ⊗ # 1 ⊕ # 0) (omega arith)) ∙ nothing-left m

-- (x % m) % m == x % m
pub lemma-mod-twice : (x m : ℤ) → x %ℤ m %ℤ m ≡ x %ℤ m
lemma-mod-twice x m = sym (same-remainder x (x %ℤ m) (x /ℤ m) m (fundamental x m))

-- ((x % m) + (y % m)) % m == (x + y) % m
pub lemma-add-mod-noop : (x y m : ℤ) → (x %ℤ m +ℤ y %ℤ m) %ℤ m ≡ (x +ℤ y) %ℤ m
lemma-add-mod-noop x y m =
    sym (same-remainder (x +ℤ y) (x %ℤ m +ℤ y %ℤ m) (x /ℤ m +ℤ y /ℤ m) m
    (equalℤ (⟨ x ⟩ ⊕ ⟨ y ⟩) (⟨ m ⟩ ⊗ (⟨ x /ℤ m ⟩ ⊕ ⟨ y /ℤ m ⟩) ⊕ (⟨ x ⟩ %% ⟨ m ⟩ ⊕ ⟨ y ⟩ %% ⟨ m ⟩)) (omega arith)))

-- (x + (y % m)) % m == (x + y) % m
pub lemma-add-mod-noop-right : (x y m : ℤ) → (x +ℤ y %ℤ m) %ℤ m ≡ (x +ℤ y) %ℤ m
lemma-add-mod-noop-right x y m =
    sym (same-remainder (x +ℤ y) (x +ℤ y %ℤ m) (y /ℤ m) m (equalℤ (⟨ x ⟩ ⊕ ⟨ y ⟩) (⟨ m ⟩ ⊗ ⟨ y /ℤ m ⟩ ⊕ (⟨ x ⟩ ⊕ ⟨ y ⟩ %% ⟨ m ⟩)) (omega arith)))

-- ((x % m) - (y % m)) % m == (x - y) % m
pub lemma-sub-mod-noop : (x y m : ℤ) → (x %ℤ m -ℤ y %ℤ m) %ℤ m ≡ (x -ℤ y) %ℤ m
lemma-sub-mod-noop x y m =
    sym (same-remainder (x -ℤ y) (x %ℤ m -ℤ y %ℤ m) (x /ℤ m -ℤ y /ℤ m) m
    (equalℤ (⟨ x ⟩ ⊝ ⟨ y ⟩) (⟨ m ⟩ ⊗ (⟨ x /ℤ m ⟩ ⊝ ⟨ y /ℤ m ⟩) ⊕ (⟨ x ⟩ %% ⟨ m ⟩ ⊝ ⟨ y ⟩ %% ⟨ m ⟩)) (omega arith)))

-- (x - (y % m)) % m == (x - y) % m
pub lemma-sub-mod-noop-right : (x y m : ℤ) → (x -ℤ y %ℤ m) %ℤ m ≡ (x -ℤ y) %ℤ m
lemma-sub-mod-noop-right x y m =
    sym (same-remainder (x -ℤ y) (x -ℤ y %ℤ m) (neg_ℤ (y /ℤ m)) m (equalℤ (⟨ x ⟩ ⊝ ⟨ y ⟩) (⟨ m ⟩ ⊗ ⊖ ⟨ y /ℤ m ⟩ ⊕ (⟨ x ⟩ ⊝ ⟨ y ⟩ %% ⟨ m ⟩)) (omega arith)))

-- (x % m) * y % m == x * y % m
pub lemma-mul-mod-noop-left : (x y m : ℤ) → x %ℤ m *ℤ y %ℤ m ≡ x *ℤ y %ℤ m
lemma-mul-mod-noop-left x y m =
    sym (same-remainder (x *ℤ y) (x %ℤ m *ℤ y) (x /ℤ m *ℤ y) m (equalℤ (⟨ x ⟩ ⊗ ⟨ y ⟩) (⟨ m ⟩ ⊗ (⟨ x /ℤ m ⟩ ⊗ ⟨ y ⟩) ⊕ ⟨ x ⟩ %% ⟨ m ⟩ ⊗ ⟨ y ⟩) (omega arith)))

-- x * (y % m) % m == x * y % m
pub lemma-mul-mod-noop-right : (x y m : ℤ) → x *ℤ (y %ℤ m) %ℤ m ≡ x *ℤ y %ℤ m
lemma-mul-mod-noop-right x y m =
    sym (same-remainder (x *ℤ y) (x *ℤ (y %ℤ m)) (x *ℤ (y /ℤ m)) m (equalℤ (⟨ x ⟩ ⊗ ⟨ y ⟩) (⟨ m ⟩ ⊗ (⟨ x ⟩ ⊗ ⟨ y /ℤ m ⟩) ⊕ ⟨ x ⟩ ⊗ (⟨ y ⟩ %% ⟨ m ⟩)) (omega arith)))

-- (x % m) * (y % m) % m == x * y % m
pub lemma-mul-mod-noop : (x y m : ℤ) → x %ℤ m *ℤ (y %ℤ m) %ℤ m ≡ x *ℤ y %ℤ m
lemma-mul-mod-noop x y m = lemma-mul-mod-noop-left x (y %ℤ m) m ∙ lemma-mul-mod-noop-right x y m

-- the three together
pub lemma-mul-mod-noop-general
    : (x y m : ℤ) → (x %ℤ m *ℤ y %ℤ m ≡ x *ℤ y %ℤ m) × (x *ℤ (y %ℤ m) %ℤ m ≡ x *ℤ y %ℤ m) × (x %ℤ m *ℤ (y %ℤ m) %ℤ m ≡ x *ℤ y %ℤ m)
lemma-mul-mod-noop-general x y m = (lemma-mul-mod-noop-left x y m, lemma-mul-mod-noop-right x y m, lemma-mul-mod-noop x y m)

-- x % d == (x * (1 - d)) % d
pub lemma-mod-neg-neg : (x d : ℤ) → x %ℤ d ≡ x *ℤ (pos 1 -ℤ d) %ℤ d
lemma-mod-neg-neg x d = same-remainder x (x *ℤ (pos 1 -ℤ d)) x d (equalℤ ⟨ x ⟩ (⟨ d ⟩ ⊗ ⟨ x ⟩ ⊕ ⟨ x ⟩ ⊗ (# 1 ⊝ ⟨ d ⟩)) (omega arith))

-- (x % (a * b)) % a == x % a
pub lemma-mod-mod : (x a b : ℤ) → pos 0 <ℤ a → pos 0 <ℤ b → (pos 0 <ℤ (a *ℤ b)) × (x %ℤ (a *ℤ b) %ℤ a ≡ x %ℤ a)
lemma-mod-mod x a b h k = (
  lemma-mul-strictly-positive a b h k,
  sym (same-remainder x (x %ℤ (a *ℤ b)) (b *ℤ (x /ℤ (a *ℤ b))) a
      (equalℤ ⟨ x ⟩ (⟨ a ⟩ ⊗ (⟨ b ⟩ ⊗ ⟨ x /ℤ (a *ℤ b) ⟩) ⊕ ⟨ x ⟩ %% (⟨ a ⟩ ⊗ ⟨ b ⟩)) (omega arith))),
)

-- 0 <= s <= x % d gives x % d - s % d == (x - s) % d
pub lemma-mod-subtraction : (x s d : ℤ) → pos 0 ≤ℤ s → s ≤ℤ (x %ℤ d) → x %ℤ d -ℤ s %ℤ d ≡ (x -ℤ s) %ℤ d
lemma-mod-subtraction x s d k =
    any-divisor (λ d. s ≤ℤ (x %ℤ d) → x %ℤ d -ℤ s %ℤ d ≡ (x -ℤ s) %ℤ d)
    (λ l. ap (λ r. r -ℤ s %ℤ pos 0) (by-zero x) ∙ ap (λ r. x -ℤ r) (by-zero s) ∙ sym (by-zero (x -ℤ s))) subtracted d
  where
    subtracted : (d : ℤ) → d ≢ pos 0 → s ≤ℤ (x %ℤ d) → x %ℤ d -ℤ s %ℤ d ≡ (x -ℤ s) %ℤ d
    subtracted d n l =
        let b = bound x d n in
        ap (λ r. x %ℤ d -ℤ r) (small-left s d (k, ≤ℤ-<ℤ-trans l b.1))
        ∙ (determined (x -ℤ s) d (x /ℤ d) (x %ℤ d -ℤ s) (
          leℤ (# 0) (⟨ x %ℤ d ⟩ ⊝ ⟨ s ⟩) (omega (arith, whole)),
          ltℤ (⟨ x %ℤ d ⟩ ⊝ ⟨ s ⟩) ⟨ ∣ d ∣ ⟩ (omega (arith, whole, less-of (x %ℤ d) ∣ d ∣ b.1)),
        ) (equalℤ (⟨ x ⟩ ⊝ ⟨ s ⟩) (⟨ d ⟩ ⊗ ⟨ x /ℤ d ⟩ ⊕ (⟨ x ⟩ %% ⟨ d ⟩ ⊝ ⟨ s ⟩)) (omega arith))).1

-- a % d + b % d == (a + b) % d + d * ((a % d + b % d) / d), and without the last term where the sum is below d
pub lemma-mod-adds
    : (a b d : ℤ) →
    (a %ℤ d +ℤ b %ℤ d ≡ (a +ℤ b) %ℤ d +ℤ d *ℤ ((a %ℤ d +ℤ b %ℤ d) /ℤ d)) × ((a %ℤ d +ℤ b %ℤ d) <ℤ d → a %ℤ d +ℤ b %ℤ d ≡ (a +ℤ b) %ℤ d)
lemma-mod-adds a b d =
    let t = a %ℤ d +ℤ b %ℤ d in (
      fundamental t d ∙ +ℤ_comm (d *ℤ (t /ℤ d)) (t %ℤ d) ∙ ap (λ r. r +ℤ d *ℤ (t /ℤ d)) (lemma-add-mod-noop a b d),
      λ (l : t <ℤ d). sym (unchanged d l) ∙ lemma-add-mod-noop a b d,
    )
  where
    unchanged : (d : ℤ) → (a %ℤ d +ℤ b %ℤ d) <ℤ d → (a %ℤ d +ℤ b %ℤ d) %ℤ d ≡ a %ℤ d +ℤ b %ℤ d
    unchanged =
        any-divisor (λ d. (a %ℤ d +ℤ b %ℤ d) <ℤ d → (a %ℤ d +ℤ b %ℤ d) %ℤ d ≡ a %ℤ d +ℤ b %ℤ d)
        (λ l. by-zero (a %ℤ pos 0 +ℤ b %ℤ pos 0))
        (λ d n l. lemma-small-mod (a %ℤ d +ℤ b %ℤ d) d (
          leℤ (# 0) (⟨ a %ℤ d ⟩ ⊕ ⟨ b %ℤ d ⟩)
              (omega (
                arith,
                atmost-of (pos 0) (a %ℤ d) (bound a d n).0,
                atmost-of (pos 0) (b %ℤ d) (bound b d n).0,
              )),
          l,
        ))

-- x % m == y % m exactly when (x - y) % m == 0
pub lemma-mod-equivalence : (x y m : ℤ) → is_mod_equivalent x y m
lemma-mod-equivalence x y m = (
  λ e. sym (lemma-sub-mod-noop x y m) ∙ ap (λ r. (r -ℤ y %ℤ m) %ℤ m) e ∙ ap (λ r. r %ℤ m) (+ℤ_invr (y %ℤ m))
      ∙ nothing-left m,
  λ e. same-remainder x y ((x -ℤ y) /ℤ m) m (equalℤ ⟨ x ⟩ (⟨ m ⟩ ⊗ ⟨ (x -ℤ y) /ℤ m ⟩ ⊕ ⟨ y ⟩) (omega (arith, equalℤ⁻¹ (⟨ x ⟩ ⊝ ⟨ y ⟩) (⟨ m ⟩ ⊗ ⟨ (x -ℤ y) /ℤ m ⟩) (multiple (x -ℤ y) m e)))),
)

-- equal remainders before give equal remainders after multiplying. (Upstream asks and gives `is_mod_equivalent`, which
-- holds of every x, y and m, so that its lemma of this name says nothing.)
pub lemma-mod-mul-equivalent : (x y z m : ℤ) → x %ℤ m ≡ y %ℤ m → x *ℤ z %ℤ m ≡ y *ℤ z %ℤ m
lemma-mod-mul-equivalent x y z m e = sym (lemma-mul-mod-noop-left x z m) ∙ ap (λ r. r *ℤ z %ℤ m) e ∙ lemma-mul-mod-noop-left y z m
