-- A power by squaring, on plain numbers: what a digit of the exponent changes, when a square brings the power beyond a
-- limit M, and that a square that fits has room for a digit.
-- Assumes nothing.
use mathlib.Core.Path.{◌≡◌, ap, sym, ◌∙◌}
use Prim.Native.Nat.{ℕ, zero, suc, ◌+◌, ◌*◌, ◌/◌, ◌%◌, ◌^◌, ◌≤◌, ◌<◌}
use native.Mathlib.Nat.{pow-zero, pow-suc, pow-succ', mul_assoc, mul-one, one-mul, mul-le-mul_left, mul-le-mul_right, pow-le-pow_right, div-add-mod}
use native.Mathlib.Nat.{mul-pos}
use native.Mathlib.Decide.{dec_le}
use native.Mathlib.Omega.{arith}
use lib.Pow.{pow-add}

-- ---- what is kept

pub power-one : (n : ℕ) → n ≡ n ^ 1
power-one n = sym (pow-suc n 0 ∙ ap (λ p. p * n) (pow-zero n) ∙ one-mul n)

-- the square's power is the power by twice the exponent
squared : (s k : ℕ) → (s * s) ^ k ≡ s ^ (k + k)
squared s zero = pow-zero (s * s) ∙ sym (pow-zero s)
squared s (suc k) =
    pow-suc (s * s) k ∙ ap (λ p. p * (s * s)) (squared s k) ∙ sym (mul_assoc (s ^ (k + k)) s s) ∙ ap (λ p. p * s) (sym (pow-suc s (k + k)))
    ∙ sym (pow-suc s (suc (k + k))) ∙ ap (λ e. s ^ e) (omega arith)

pub even-digit-kept : (f s e : ℕ) → e % 2 ≡ 0 → f * (s * s) ^ (e / 2) ≡ f * s ^ e
even-digit-kept f s e h = ap (λ p. f * p) (squared s (e / 2) ∙ ap (λ k. s ^ k) (omega (arith, div-add-mod e 2)))

pub odd-digit-kept : (f s e : ℕ) → e % 2 ≡ 1 → f * s * (s * s) ^ (e / 2) ≡ f * s ^ e
odd-digit-kept f s e h =
    let k = e / 2 in
    ap (λ p. f * s * p) (squared s k) ∙ mul_assoc f s (s ^ (k + k)) ∙ ap (λ p. f * p) (sym (pow-succ' s (k + k)) ∙ ap (λ n. s ^ n) (omega (arith, div-add-mod e 2)))

-- with the exponent 1 it is the product, with 0 the first number
pub last-digit-left : (f s e : ℕ) → e ≡ 1 → f * s ≡ f * s ^ e
last-digit-left f s e h = ap (λ p. f * p) (power-one s ∙ ap (λ n. s ^ n) (sym h))

pub no-digit-left : (f s e : ℕ) → e ≡ 0 → f ≡ f * s ^ e
no-digit-left f s e h = sym (ap (λ n. f * s ^ n) h ∙ ap (λ p. f * p) (pow-zero s) ∙ mul-one f)

-- a digit, whichever it is, goes into the first number, and the second is squared
pub digit-kept : (f s e : ℕ) → f * s ^ (e % 2) * (s * s) ^ (e / 2) ≡ f * s ^ e
digit-kept f s e =
    let k = e / 2 in
    ap (λ p. f * s ^ (e % 2) * p) (squared s k) ∙ mul_assoc f (s ^ (e % 2)) (s ^ (k + k))
    ∙ ap (λ p. f * p) (sym (pow-add s (e % 2) (k + k)) ∙ ap (λ n. s ^ n) (omega (arith, div-add-mod e 2)))

-- ---- what is beyond

pub right-positive : (f s : ℕ) → 0 < f * s → 0 < s
right-positive f zero h = absurd (omega arith)
right-positive f (suc s) h = omega arith

-- the square alone is beyond, and goes into the power at least once
pub square-beyond : (M f s e : ℕ) → 1 < e → (0 < s → 0 < f) → M < s * s → M < f * s ^ e
square-beyond M f s e h n b =
    let p = right-positive s s (omega arith) in
    let two = pow-suc s 1 ∙ ap (λ q. q * s) (sym (power-one s)) in omega (arith, two, pow-le-pow_right p h, mul-le-mul_right (s ^ e) (n p))

-- ---- what is within

-- the first number is at most the second, unless that is 0, in the form that a turn of the loop keeps
pub one-within : (s : ℕ) → 1 * s ≤ s * s
one-within zero = omega arith
one-within (suc s) = omega arith

pub digit-within : (f s e : ℕ) → f * s ≤ s * s → f * s ^ (e % 2) * (s * s) ≤ s * s * (s * s)
digit-within f s e h =
    elim (dec_le 1 (e % 2)) [
      | yes p ↦
          let d : e % 2 ≡ 1 = omega arith in
          omega (arith, mul-le-mul_right (s * s) h, ap (λ x. x * (s * s)) (last-digit-left f s (e % 2) d))
      | no p ↦
          let d : e % 2 ≡ 0 = omega arith in
          let room = mul-le-mul_left (s * s) (one-within s) in
          omega (arith, mul-le-mul_right s h, room, ap (λ x. x * (s * s)) (no-digit-left f s (e % 2) d))
    ]

pub digit-positive : (f s e : ℕ) → (0 < s → 0 < f) → 0 < s * s → 0 < f * s ^ (e % 2)
digit-positive f s e n h =
    let p = right-positive s s h in
    let least : 0 ≤ e % 2 = omega arith in
    mul-pos (n p) (omega (arith, pow-zero s, pow-le-pow_right p least))
