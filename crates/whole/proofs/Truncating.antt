-- The truncating quotient and remainder, `rust_div` and `rust_rem`: that they are the machine's, how they belong together, and the remainder's size and sign.
-- Upstream defines the two and states no law on them.
-- Assumes nothing.
use mathlib.Core.Path.{◌≡◌, refl, ap, sym, ◌∙◌}
use mathlib.Core.Logic.{◌≢◌}
use Prim.Native.Nat.{ℕ, zero, suc, ◌/◌, ◌%◌, ◌<◌}
use native.Mathlib.Nat.{mod-lt, zero-lt-suc, zero-div, zero-mod}
use native.Mathlib.Omega.{arith}
use lib.IntN.{ℤ, pos, negsuc, neg_ℤ, nat_abs, ◌+ℤ◌, ◌*ℤ◌}
use lib.Signed.{◌≤ℤ◌, ◌<ℤ◌, ≤ℤ_refl, quot_z, rem_z}
use Rattle.whole.specs.DivMod.{◌/ℤ◌, ◌%ℤ◌, ∣◌∣, rust_div, rust_rem}
use Rattle.whole.proofs.Difference.{⟨◌⟩, #, ◌⊕◌, ◌⊗◌, ⊖◌, equalℤ, leℤ, ltℤ, equalℤ⁻¹, whole}
use Rattle.whole.proofs.Euclid.{fundamental}
use Rattle.whole.proofs.Naturals.{natural-mod}

-- ---- they are the machine's: the whole part of |a| / |b| with the exact quotient's sign, and what that leaves of |a| with a's sign

pub rust-div-is : (a b : ℤ) → rust_div a b ≡ quot_z a b
unfolding rust_div ◌/ℤ◌
rust-div-is (pos zero) (pos b) = ap pos (sym (zero-div b))
rust-div-is (pos zero) (negsuc b) = ap (λ q. neg_ℤ (pos q)) (sym (zero-div (suc b)))
rust-div-is (pos (suc a)) (pos b) = refl
rust-div-is (pos (suc a)) (negsuc b) = refl
rust-div-is (negsuc a) (pos b) = refl
rust-div-is (negsuc a) (negsuc b) = equalℤ (⊖ ⊖ # (suc a / suc b)) (# (suc a / suc b)) (omega arith)

pub rust-rem-is : (a b : ℤ) → rust_rem a b ≡ rem_z a b
unfolding rust_rem
rust-rem-is (pos zero) b = ap pos (sym (zero-mod (nat_abs b)))
rust-rem-is (pos (suc a)) b = natural-mod (suc a) b
rust-rem-is (negsuc a) b = ap neg_ℤ (natural-mod (suc a) b)

-- ---- quotient and remainder belong together

pub rust-fundamental : (a b : ℤ) → a ≡ b *ℤ rust_div a b +ℤ rust_rem a b
unfolding rust_div rust_rem
rust-fundamental (pos zero) b = equalℤ (# 0) (⟨ b ⟩ ⊗ # 0 ⊕ # 0) (omega arith)
rust-fundamental (pos (suc a)) b = fundamental (pos (suc a)) b
rust-fundamental (negsuc a) b =
    let q = pos (suc a) /ℤ b in
    let r = pos (suc a) %ℤ b in
    equalℤ ⟨ negsuc a ⟩ (⟨ b ⟩ ⊗ ⊖ ⟨ q ⟩ ⊕ ⊖ ⟨ r ⟩) (omega (arith, equalℤ⁻¹ (# (suc a)) (⟨ b ⟩ ⊗ ⟨ q ⟩ ⊕ ⟨ r ⟩) (fundamental (pos (suc a)) b)))

-- ---- the remainder is smaller than the divisor, and has a's sign

size-neg : (k : ℕ) → nat_abs (neg_ℤ (pos k)) ≡ k
size-neg zero = refl
size-neg (suc k) = refl

size-rem : (a b : ℤ) → nat_abs (rem_z a b) ≡ nat_abs a % nat_abs b
size-rem (pos a) b = refl
size-rem (negsuc a) b = size-neg (suc a % nat_abs b)

size-positive : (b : ℤ) → b ≢ pos 0 → 0 < nat_abs b
size-positive (pos zero) n = absurd (n refl)
size-positive (pos (suc m)) n = zero-lt-suc m
size-positive (negsuc m) n = zero-lt-suc m

pub rust-rem-size : (a b : ℤ) → b ≢ pos 0 → ∣ rust_rem a b ∣ <ℤ ∣ b ∣
rust-rem-size a b n =
    ltℤ (# (nat_abs (rust_rem a b))) (# (nat_abs b)) (omega (arith, ap nat_abs (rust-rem-is a b) ∙ size-rem a b, mod-lt (nat_abs a) (size-positive b n)))

neg-below : (k : ℕ) → neg_ℤ (pos k) ≤ℤ pos 0
neg-below k = leℤ (⊖ # k) (# 0) (omega arith)

-- the remainder of a number from 0 up is from 0 up
pub rust-rem-sign-positive : (a b : ℤ) → pos 0 ≤ℤ a → pos 0 ≤ℤ rust_rem a b
rust-rem-sign-positive (pos a) b h = rw (rust-rem-is (pos a) b) (leℤ (# 0) (# (a % nat_abs b)) (omega arith))
rust-rem-sign-positive (negsuc a) b h = absurd h.le

-- the remainder of a number from 0 down is from 0 down
pub rust-rem-sign-negative : (a b : ℤ) → a ≤ℤ pos 0 → rust_rem a b ≤ℤ pos 0
unfolding rust_rem
rust-rem-sign-negative (pos zero) b h = ≤ℤ_refl (pos 0)
rust-rem-sign-negative (pos (suc a)) b h = let f : ⊥ = omega (arith, whole) in absurd f
rust-rem-sign-negative (negsuc a) b h = rw (natural-mod (suc a) b) (neg-below (suc a % nat_abs b))

-- ---- of 0

pub rust-div-of-0 : (b : ℤ) → rust_div (pos 0) b ≡ pos 0
unfolding rust_div
rust-div-of-0 b = refl
