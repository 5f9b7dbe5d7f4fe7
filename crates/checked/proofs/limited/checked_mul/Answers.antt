-- `limited::checked_mul` meets its contract: two numbers below 2^32 have a product of 64 bits, and any others are
-- multiplied by halves, the greater by the lesser.
-- Assumes nothing.
use mathlib.Core.Path.{◌≡◌, ap₂, ◌∙◌}
use Prim.Native.Nat.{ℕ, ◌*◌, ◌≤◌, max, min}
use native.Mathlib.Nat.{mul_comm, mul-le-mul}
use native.Mathlib.Decide.{dec_le}
use native.Mathlib.Omega.{arith}
use Rattle.checked.proofs.Below.{both-below-exactly}
use Rattle.checked.proofs.limited.checked_mul.Goals as goal

greater-by-lesser : (a b : ℕ) → max a b * min a b ≡ a * b
greater-by-lesser a b =
    elim (dec_le a b) [
      | yes h ↦
          let g : max a b ≡ b = omega arith in
          let l : min a b ≡ a = omega arith in ap₂ ◌*◌ g l ∙ mul_comm b a
      | no h ↦
          let g : max a b ≡ a = omega arith in
          let l : min a b ≡ b = omega arith in ap₂ ◌*◌ g l
    ]

pub overflow_mul-a : goal.overflow_mul-a
overflow_mul-a c =
    let g = c.args in
    let low = (both-below-exactly 32 g.a g.b).0 c.if-a-b-lt-TWO_TO_32.true in
    let a : g.a ≤ 4294967295 = omega arith in
    let b : g.b ≤ 4294967295 = omega arith in omega (arith, mul-le-mul a b)
