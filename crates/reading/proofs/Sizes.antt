-- A float's size by its bits without the sign: in units of the smallest float, 2 ^ -149, it grows with them.
-- Assumes nothing.
use mathlib.Core.Path.{◌≡◌, refl, ap, sym, ◌∙◌, subst}
use mathlib.Core.Bool.{Bool, cond}
use Prim.Native.Nat.{ℕ, zero, suc, ◌+◌, ◌*◌, ◌/◌, ◌%◌, ◌^◌, ◌≤◌, ◌<◌}
use native.Mathlib.Nat.{lt_of_lt_of_le, mul-lt-mul_of_pos_right, pow-suc, pow-zero, mul-one}
use native.Mathlib.Decide.{ℕ_discrete}
use native.Mathlib.Omega.{arith}
use borrow.Author.Tests.{ne_eqb}
use lib.Dec.{eqb, leb}
use lib.Pow.{pow_pos, pow_mono}
use lib.Ieee.{inf, nan, binary32, of_bits, of_fields, odd}
use lib.Ieee.Exact.{HasValue, odd_sign}

-- ---- the size

-- by the exponent's field and the digits; a field of 0 has no leading digit
abbrev size_by : ℕ → ℕ → ℕ
size_by zero t = t
size_by (suc k) t = (8388608 + t) * 2 ^ k

-- by the bits without the sign
unfoldable pub size_of : ℕ → ℕ
size_of body = size_by (body / 8388608) (body % 8388608)

-- ---- it grows

more-digits : (x s t : ℕ) → s < t → size_by x s < size_by x t
more-digits zero s t h = h
more-digits (suc k) s t h = mul-lt-mul_of_pos_right (omega arith) (pow_pos k)

field-above : (x t : ℕ) → t < 8388608 → size_by x t < 8388608 * 2 ^ x
field-above zero t h = omega (arith, pow-zero 2)
field-above (suc k) t h =
    let a : (8388608 + t) * 2 ^ k < 16777216 * 2 ^ k = mul-lt-mul_of_pos_right (omega arith) (pow_pos k) in
    omega (arith, pow-suc 2 k)

field-reached : (k x t : ℕ) → k < x → 8388608 * 2 ^ k ≤ size_by x t
field-reached k zero t h = absurd (omega arith)
field-reached k (suc j) t h =
    let a : 2 ^ k ≤ 2 ^ j = pow_mono (omega arith) in
    omega arith

pub larger-size : (a b : ℕ) → a < b → size_of a < size_of b
unfolding size_of
larger-size a b h =
    elim (ℕ_discrete (a / 8388608) (b / 8388608)) [
      | yes e ↦
          subst (λ x. size_by (a / 8388608) (a % 8388608) < size_by x (b % 8388608)) e
          (more-digits (a / 8388608) (a % 8388608) (b % 8388608) (omega arith))
      | no n ↦
          lt_of_lt_of_le (field-above (a / 8388608) (a % 8388608) (omega arith))
          (field-reached (a / 8388608) (b / 8388608) (b % 8388608) (omega arith))
    ]

pub no-size : size_of 0 ≡ 0
unfolding size_of
no-size = refl

-- ---- it is the float's

module _ (s : Bool) where
  of-fields : (x t : ℕ) → (x ≡ 255 → ⊥) → HasValue (of_fields binary32 s x t) s (size_by x t) (2 ^ 149)
  unfolding of_fields
  of-fields zero t n =
      subst (λ a. HasValue (odd 24 s t 0 149) s a (2 ^ 149)) (ap (λ p. t * p) (pow-zero 2) ∙ mul-one t)
      (odd_sign 24 s t 0 149)
  of-fields (suc k) t n =
      subst (λ b. HasValue (cond b (cond (eqb t 0) (inf s) nan) (odd 24 s (8388608 + t) k 149)) s ((8388608 + t) * 2 ^ k) (2 ^ 149))
      (sym (ne_eqb (suc k) 255 n)) (odd_sign 24 s (8388608 + t) k 149)

-- a float that isn't NaN is finite, with the size of its bits, or infinite
pub finite-size
    : (b : ℕ) → b % 2147483648 < 2139095040 →
    HasValue (of_bits binary32 b) (leb 2147483648 b) (size_of (b % 2147483648)) (2 ^ 149)
unfolding of_bits size_of
finite-size b h =
    let body = b % 2147483648 in
    let d : body % 8388608 ≡ b % 8388608 = omega arith in
    subst (λ t. HasValue (of_fields binary32 (leb 2147483648 b) (body / 8388608) (b % 8388608)) (leb 2147483648 b) (size_by (body / 8388608) t) (2 ^ 149))
    (sym d) (of-fields (leb 2147483648 b) (body / 8388608) (b % 8388608) (λ e. omega arith))

pub infinite-bits : (b : ℕ) → b % 2147483648 ≡ 2139095040 → of_bits binary32 b ≡ inf (leb 2147483648 b)
unfolding of_bits of_fields
infinite-bits b h =
    let x : b % 2147483648 / 8388608 ≡ 255 = omega arith in
    let t : b % 8388608 ≡ 0 = omega arith in
    ap (λ x. of_fields binary32 (leb 2147483648 b) x (b % 8388608)) x ∙ ap (of_fields binary32 (leb 2147483648 b) 255) t
