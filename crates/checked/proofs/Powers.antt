-- A power by squaring, over a limit M: what a digit of the exponent changes, and that the two checked values with the exponent that is left
-- always stand for the power that was asked.
-- Assumes nothing.
use mathlib.Core.Path.{◌≡◌, ap, ap₂, sym, ◌∙◌}
use Prim.Native.Nat.{ℕ, zero, suc, ◌*◌, ◌/◌, ◌%◌, ◌^◌}
use native.Mathlib.Nat.{pow-zero, pow-suc, mul_assoc, one-mul}
use native.Mathlib.Omega.{arith}
use Rattle.checked.specs.Value.{Value, checked_of, least, product_of}
use Rattle.checked.proofs.Limit.{absorb, absorb-left, settled-at}
use Rattle.checked.proofs.Squares.{even-digit-kept, odd-digit-kept, no-digit-left}

-- what first and second with an exponent e that is left stand for: first * second ^ e
abbrev pub powered : ℕ → Value → Value → ℕ → Value
powered M first second e = checked_of M (least M first * least M second ^ e)

pub absorb-power : (M x y e : ℕ) → checked_of M (x * least M (checked_of M y) ^ e) ≡ checked_of M (x * y ^ e)
absorb-power M x y zero = ap (λ z. checked_of M (x * z)) (pow-zero (least M (checked_of M y)) ∙ sym (pow-zero y))
absorb-power M x y (suc e) =
    let z = least M (checked_of M y) in
    ap (λ p. checked_of M (x * p)) (pow-suc z e)
    ∙ ap (checked_of M) (sym (mul_assoc x (z ^ e) z))
    ∙ absorb M (x * z ^ e) y
    ∙ ap (checked_of M) (moved x (z ^ e) y)
    ∙ absorb-power M (x * y) y e
    ∙ ap (checked_of M) (sym (moved x (y ^ e) y) ∙ mul_assoc x (y ^ e) y)
    ∙ ap (λ p. checked_of M (x * p)) (sym (pow-suc y e))
  where
    moved : (a b c : ℕ) → a * b * c ≡ a * c * b
    moved a b c = omega arith

pub even-digit : (M : ℕ) (first second : Value) (e : ℕ) → e % 2 ≡ 0 → powered M first (product_of M second second) (e / 2) ≡ powered M first second e
even-digit M first second e h =
    let s = least M second in
    absorb-power M (least M first) (s * s) (e / 2) ∙ ap (checked_of M) (even-digit-kept (least M first) s e h)

pub odd-digit
    : (M : ℕ) (first second : Value) (e : ℕ) → e % 2 ≡ 1 → powered M (product_of M first second) (product_of M second second) (e / 2) ≡ powered M first second e
odd-digit M first second e h =
    let f = least M first in
    let s = least M second in
    let k = e / 2 in
    absorb-power M (least M (checked_of M (f * s))) (s * s) k
    ∙ absorb-left M (f * s) ((s * s) ^ k)
    ∙ ap (checked_of M) (odd-digit-kept f s e h)

-- the two values with which a power begins
pub power-begins : (M b e : ℕ) {first second : Value} → first ≡ checked_of M 1 → second ≡ checked_of M b → powered M first second e ≡ checked_of M (b ^ e)
power-begins M b e p q =
    ap₂ (λ f s. powered M f s e) p q ∙ absorb-power M (least M (checked_of M 1)) b e ∙ absorb-left M 1 (b ^ e) ∙ ap (checked_of M) (one-mul (b ^ e))

-- with the exponent 0 it is the first value
pub no-digit : (M : ℕ) (first second : Value) (e : ℕ) → e ≡ 0 → checked_of M (least M first) ≡ powered M first second e
no-digit M first second e h = ap (checked_of M) (no-digit-left (least M first) (least M second) e h)

-- a turn: the exponent's last digit is 1 and goes into the first value, or it is 0; the second value is squared; what is stood for stays, and
-- the first value stays a value of the limit
module _ (M : ℕ) (first second : Value) (e : ℕ) {first' second' x : Value} (square : second' ≡ product_of M second second) (before : powered M first second e ≡ x) where
  pub odd-turn : e % 2 ≡ 1 → first' ≡ product_of M first second → (powered M first' second' (e / 2) ≡ x) × (first' ≡ checked_of M (least M first'))
  odd-turn h p = (ap₂ (λ f s. powered M f s (e / 2)) p square ∙ odd-digit M first second e h ∙ before, settled-at M (least M first * least M second) p)

  pub even-turn
      : (e % 2 ≡ 1 → ⊥) → first' ≡ first → first ≡ checked_of M (least M first) → (powered M first' second' (e / 2) ≡ x) × (first' ≡ checked_of M (least M first'))
  even-turn h p q = (ap₂ (λ f s. powered M f s (e / 2)) p square ∙ even-digit M first second e (omega arith) ∙ before, settled-at M (least M first) (p ∙ q))
