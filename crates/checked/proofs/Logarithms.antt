-- A logarithm by multiplying up: the next power, and what a power says of the logarithm.
-- Assumes nothing.
use mathlib.Core.Path.{◌≡◌, ap, sym, ◌∙◌}
use Prim.Native.Nat.{ℕ, zero, suc, ◌+◌, ◌*◌, ◌^◌, ◌≤◌, ◌<◌}
use native.Mathlib.Nat.{pow-zero, pow-suc, mul-le-mul_left, pow-le-pow_left, pow-le-pow_right}
use native.Mathlib.Decide.{dec_lt, dec_le}
use lib.Pow.{pow_mono}
use Rattle.whole.specs.Logarithm.{log_of}
use Rattle.whole.proofs.Naturals.{log-of-zero, log-of-floor}
use native.Mathlib.Numerals.{add-one}
use native.Mathlib.Omega.{arith}

pub next-power : (base power count : ℕ) → power ≡ base ^ suc count → power * base ≡ base ^ suc (count + 1)
next-power base power count e =
    ap (λ p. p * base) e ∙ sym (pow-suc base (suc count)) ∙ ap (λ k. base ^ suc k) (sym (add-one count))

-- a power that is above the argument comes after the logarithm
pub log-before : (l r e : ℕ) → 1 < l → r < l ^ suc e → log_of l r ≤ e
log-before l zero e h k = omega (arith, log-of-zero l)
log-before l (suc r) e h k =
    elim (dec_le (log_of l (suc r)) e) [
      | yes p ↦ p
      | no n ↦
          let pos : 0 < l = omega arith in
          let after : suc e ≤ log_of l (suc r) = omega arith in
          let f : ⊥ = omega (arith, (log-of-floor l (suc r) h (omega arith)).0, pow-le-pow_right pos after) in
          absurd f
    ]

-- ---- a logarithm is small

-- an exponent is below its power
pub below-power : (base e : ℕ) → 1 < base → e < base ^ e
below-power base zero h = omega (arith, pow-zero base)
below-power base (suc e) h = omega (arith, pow-suc base e, mul-le-mul_left (base ^ e) h, below-power base e h)

-- so a logarithm is at most its argument
pub log-at-most : (l r : ℕ) → 1 < l → log_of l r ≤ r
log-at-most l zero h = omega (arith, log-of-zero l)
log-at-most l (suc r) h = omega (arith, (log-of-floor l (suc r) h (omega arith)).0, below-power l (log_of l (suc r)) h)

-- and below W for an argument of W bits: a logarithm takes fewer than W steps
pub log-below-width : (l r W : ℕ) → 1 < l → 0 < W → r < 2 ^ W → log_of l r < W
log-below-width l zero W h w k = omega (arith, log-of-zero l)
log-below-width l (suc r) W h w k =
    elim (dec_lt (log_of l (suc r)) W) [
      | yes p ↦ p
      | no n ↦
          let big : 2 ^ W ≤ 2 ^ log_of l (suc r) = pow_mono (omega arith) in
          let f : ⊥ = omega (arith, (log-of-floor l (suc r) h (omega arith)).0, pow-le-pow_left h (log_of l (suc r))) in
          absurd f
    ]
