-- Two numbers in one test: joined by 'or' they are below a power of 2 exactly where both are.
-- Assumes nothing.
use mathlib.Core.Logic.{◌↔◌}
use Prim.Native.Nat.{ℕ, ◌^◌, ◌<◌}
use native.Mathlib.Omega.{arith}
use lib.Bits.{bit_or, or_lt, or_add_and, and_le_l, and_le_r}

pub both-below-exactly : (k a b : ℕ) → (bit_or a b < 2 ^ k) ↔ ((a < 2 ^ k) × (b < 2 ^ k))
both-below-exactly k a b = (λ h. (left h, right h), λ w. or_lt k a b w.0 w.1)
  where
    left : bit_or a b < 2 ^ k → a < 2 ^ k
    left h = omega (arith, or_add_and a b, and_le_r a b)

    right : bit_or a b < 2 ^ k → b < 2 ^ k
    right h = omega (arith, or_add_and a b, and_le_l a b)
