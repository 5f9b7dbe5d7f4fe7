-- A product from halves, over any base B: it is the high halves' product, the middle part and what the low halves'
-- product leaves, joined; and it stays below B * B exactly when the first is 0 and the middle part is below B.
-- Assumes nothing.
use mathlib.Core.Path.{◌≡◌, ap, sym, ◌∙◌}
use mathlib.Core.Logic.{◌↔◌}
use Prim.Native.Nat.{ℕ, ◌+◌, ◌*◌, ◌/◌, ◌%◌, ◌≤◌, ◌<◌}
use native.Mathlib.Nat.{div-add-mod, mod-lt, add-mul-div_right, div-lt_iff_lt-mul, le-div_iff_mul-le}
use native.Mathlib.Nat.{mul-zero, mul-le-mul, mul-le-mul_left, mul-le-mul_right}
use native.Mathlib.Decide.{dec_le}
use native.Mathlib.Omega.{arith}
use Rattle.checked.specs.Halves.{highs, crosses, lows, middle}

-- ---- the product from its parts

by-digits
    : (B a₁ a₀ b₁ b₀ : ℕ) →
    (B * a₁ + a₀) * (B * b₁ + b₀) ≡ a₀ * b₀ + (a₁ * b₁ * B + (a₁ * b₀ + a₀ * b₁)) * B
by-digits B a₁ a₀ b₁ b₀ = omega arith

by-columns : (B a b : ℕ) → a * b ≡ lows B a b + (highs B a b * B + crosses B a b) * B
by-columns B a b =
    sym (λ i. div-add-mod a B i * div-add-mod b B i) ∙ by-digits B (a / B) (a % B) (b / B) (b % B)

pub product-from-halves : (B a b : ℕ) → a * b ≡ highs B a b * (B * B) + middle B a b * B + lows B a b % B
product-from-halves B a b = omega (arith, by-columns B a b, div-add-mod (lows B a b) B)

-- what the middle part must be: together with the high halves' product it is the product's quotient by B
pub middle-is : (B a b : ℕ) → 0 < B → a * b / B ≡ highs B a b * B + middle B a b
middle-is B a b base =
    let above = highs B a b * B + crosses B a b in
    let quotient = ap (λ n. n / B) (by-columns B a b) ∙ add-mul-div_right (lows B a b) above base in
    omega arith

-- ---- when it stays below B * B

pub below-square-exactly : (B a b : ℕ) → 0 < B → (a * b < B * B) ↔ ((highs B a b ≡ 0) × (middle B a b < B))
below-square-exactly B a b base = (λ h. parts (quotient.1 h), λ w. quotient.0 (within w.0 w.1))
  where
    quotient : (a * b / B < B) ↔ (a * b < B * B)
    quotient = div-lt_iff_lt-mul base

    is : a * b / B ≡ highs B a b * B + middle B a b
    is = middle-is B a b base

    parts : a * b / B < B → (highs B a b ≡ 0) × (middle B a b < B)
    parts q =
        elim (dec_le 1 (highs B a b)) [
          | yes some ↦ absurd (omega (arith, is, mul-le-mul_right B some))
          | no none ↦ (omega arith, omega (arith, is))
        ]

    within : highs B a b ≡ 0 → middle B a b < B → a * b / B < B
    within none m = omega (arith, is, ap (λ h. h * B) none)

-- ---- by the lesser of two numbers

-- the middle part where b has no high half: one cross product is left
abbrev pub middle_by : (B a b : ℕ) → ℕ
middle_by B a b = a / B * (b % B) + lows B a b / B

module _ (B a b : ℕ) (base : 0 < B) where
  no-high : b < B → b / B ≡ 0
  no-high h = let none : b / B < 1 = (div-lt_iff_lt-mul base).1 (omega arith) in omega arith

  no-highs : b < B → highs B a b ≡ 0
  no-highs h = ap (λ n. a / B * n) (no-high h) ∙ mul-zero (a / B)

  one-cross : b < B → middle B a b ≡ middle_by B a b
  one-cross h = omega (arith, ap (λ n. a % B * n) (no-high h))

  -- the middle part and the last one joined are the product
  pub joined : b < B → middle_by B a b * B + lows B a b % B ≡ a * b
  joined h =
      let nothing = ap (λ n. n * (B * B)) (no-highs h) in
      omega (arith, product-from-halves B a b, ap (λ n. n * B) (one-cross h))

  -- where the lesser number has a high half, so has the other, and their product isn't 0
  pub below-square-by-lesser : b ≤ a → (a * b < B * B) ↔ ((b < B) × (middle_by B a b < B))
  below-square-by-lesser h = (λ p. parts (exactly.0 p), λ w. exactly.1 (no-highs w.0, one-less w.0 w.1))
    where
      exactly : (a * b < B * B) ↔ ((highs B a b ≡ 0) × (middle B a b < B))
      exactly = below-square-exactly B a b base

      one-less : b < B → middle_by B a b < B → middle B a b < B
      one-less l m = omega (arith, one-cross l)

      parts : (highs B a b ≡ 0) × (middle B a b < B) → (b < B) × (middle_by B a b < B)
      parts w =
          elim (dec_le B b) [
            | yes k ↦
                let b₁ : 1 ≤ b / B = (le-div_iff_mul-le base).1 (omega arith) in
                let a₁ : 1 ≤ a / B = (le-div_iff_mul-le base).1 (omega arith) in
                absurd (omega (arith, w.0, mul-le-mul a₁ b₁))
            | no k ↦ let l : b < B = omega arith in (l, omega (arith, w.1, one-cross l))
          ]

-- ---- nothing on the way goes beyond B * B

half-by-half : (B x y z : ℕ) → x < B → y < B → z < B → x * y + z < B * B
half-by-half B x y z p q r = omega (arith, mul-le-mul_left x q, mul-le-mul_right B p)

pub lows-below : (B a b : ℕ) → 0 < B → lows B a b < B * B
lows-below B a b base = omega (arith, half-by-half B (a % B) (b % B) 0 (mod-lt a base) (mod-lt b base) base)

pub middle-below : (B a b : ℕ) → 0 < B → a < B * B → middle_by B a b < B * B
middle-below B a b base h =
    let carried = (div-lt_iff_lt-mul base).1 (lows-below B a b base) in
    half-by-half B (a / B) (b % B) (lows B a b / B) ((div-lt_iff_lt-mul base).1 h) (mod-lt b base) carried
