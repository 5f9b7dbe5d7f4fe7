-- The whole part of |a| / |b| with the sign of the exact quotient: `rust_div` is one, no other number is, and
-- `rust_rem` is what it leaves of a.
-- Assumes nothing.
use mathlib.Core.Path.{◌≡◌, refl, ap, sym, ◌∙◌, subst}
use mathlib.Core.Logic.{◌≢◌, ⊎_elim}
use Prim.Native.Nat.{ℕ, zero, suc, ◌*◌, ◌/◌, ◌≤◌}
use native.Mathlib.Nat.{zero-div}
use native.Mathlib.Omega.{arith}
use lib.IntN.{ℤ, pos, negsuc, neg_ℤ, nat_abs, ◌-ℤ◌, ◌*ℤ◌}
use lib.Signed.{◌≤ℤ◌, quot_z}
use Rattle.whole.specs.DivMod.{rust_div, rust_rem}
use Rattle.whole.proofs.Difference.{⟨◌⟩, #, ◌⊕◌, ◌⊝◌, ◌⊗◌, ⊖◌, equalℤ, leℤ, equalℤ⁻¹, leℤ⁻¹, whole}
use Rattle.whole.proofs.Order.{≤ℤ-or-<ℤ, <ℤ→≤ℤ}
use Rattle.whole.proofs.Truncating.{rust-div-is, rust-fundamental}
use Rattle.signed.specs.Signed.{WholePart, LeftOver}

-- ---- the machine's quotient is one

size-negated : (k : ℕ) → nat_abs (neg_ℤ (pos k)) ≡ k
size-negated zero = refl
size-negated (suc k) = refl

-- a product of 0 leaves a quotient of 0
no-quotient : (a b : ℕ) → a * suc b ≤ 0 → a / suc b ≡ 0
no-quotient a b h = let z : a ≡ 0 = omega arith in ap (λ n. n / suc b) z ∙ zero-div (suc b)

not-below : (k : ℕ) → pos 0 ≤ℤ pos k
not-below k = leℤ (# 0) (# k) (omega arith)

not-above : (k : ℕ) → neg_ℤ (pos k) ≤ℤ pos 0
not-above k = leℤ (⊖ # k) (# 0) (omega arith)

none-not-above : (k : ℕ) → k ≡ 0 → pos k ≤ℤ pos 0
none-not-above k z = leℤ (# k) (# 0) (omega arith)

none-not-below : (k : ℕ) → k ≡ 0 → pos 0 ≤ℤ neg_ℤ (pos k)
none-not-below k z = leℤ (# 0) (⊖ # k) (omega arith)

machine-whole-part : (a b : ℤ) → b ≢ pos 0 → WholePart a b (quot_z a b)
machine-whole-part (pos a) (pos zero) n = absurd (n refl)
machine-whole-part (pos a) (pos (suc b)) n = (
  refl,
  λ h. not-below (a / suc b),
  λ h. none-not-above (a / suc b) (no-quotient a b (omega (arith, leℤ⁻¹ (# a ⊗ # (suc b)) (# 0) h))),
)
machine-whole-part (pos a) (negsuc b) n = (
  size-negated (a / suc b),
  λ h. none-not-below (a / suc b) (no-quotient a b (omega (arith, leℤ⁻¹ (# 0) (# a ⊗ ⟨ negsuc b ⟩) h))),
  λ h. not-above (a / suc b),
)
machine-whole-part (negsuc a) (pos zero) n = absurd (n refl)
machine-whole-part (negsuc a) (pos (suc b)) n = (
  size-negated (suc a / suc b),
  λ h. none-not-below (suc a / suc b)
      (no-quotient (suc a) b (omega (arith, leℤ⁻¹ (# 0) (⟨ negsuc a ⟩ ⊗ # (suc b)) h))),
  λ h. not-above (suc a / suc b),
)
machine-whole-part (negsuc a) (negsuc b) n = (
  refl,
  λ h. not-below (suc a / suc b),
  λ h. none-not-above (suc a / suc b)
      (no-quotient (suc a) b (omega (arith, leℤ⁻¹ (⟨ negsuc a ⟩ ⊗ ⟨ negsuc b ⟩) (# 0) h))),
)

pub is-whole-part : (a b : ℤ) → b ≢ pos 0 → WholePart a b (rust_div a b)
is-whole-part a b n = subst (WholePart a b) (sym (rust-div-is a b)) (machine-whole-part a b n)

-- ---- there is one

by-size : (q : ℤ) → pos 0 ≤ℤ q → q ≡ pos (nat_abs q)
by-size (pos n) h = refl
by-size (negsuc n) h = absurd h.le

by-size-negated : (q : ℤ) → q ≤ℤ pos 0 → q ≡ neg_ℤ (pos (nat_abs q))
by-size-negated (pos zero) h = refl
by-size-negated (pos (suc n)) h = let f : ⊥ = omega (arith, whole) in absurd f
by-size-negated (negsuc n) h = refl

pub one-whole-part : (a b p q : ℤ) → WholePart a b p → WholePart a b q → p ≡ q
one-whole-part a b p q (size, up, down) (other-size, other-up, other-down) =
    let same = size ∙ sym other-size in
    ⊎_elim (λ h. by-size p (up h) ∙ ap pos same ∙ sym (by-size q (other-up h)))
    (λ h.
    let k = <ℤ→≤ℤ h in
    by-size-negated p (down k) ∙ ap (λ n. neg_ℤ (pos n)) same ∙ sym (by-size-negated q (other-down k)))
    (≤ℤ-or-<ℤ (pos 0) (a *ℤ b))

-- ---- what it leaves

left : (a b : ℤ) → rust_rem a b ≡ a -ℤ b *ℤ rust_div a b
left a b =
    let q = ⟨ rust_div a b ⟩ in
    let r = ⟨ rust_rem a b ⟩ in
    equalℤ r (⟨ a ⟩ ⊝ ⟨ b ⟩ ⊗ q) (omega (arith, equalℤ⁻¹ ⟨ a ⟩ (⟨ b ⟩ ⊗ q ⊕ r) (rust-fundamental a b)))

pub is-left-over : (a b : ℤ) → b ≢ pos 0 → LeftOver a b (rust_rem a b)
is-left-over a b n = (rust_div a b, is-whole-part a b n, left a b)

pub one-left-over : (a b r : ℤ) → b ≢ pos 0 → LeftOver a b r → r ≡ rust_rem a b
one-left-over a b r n (q, w, e) =
    e ∙ ap (λ q. a -ℤ b *ℤ q) (one-whole-part a b q (rust_div a b) w (is-whole-part a b n)) ∙ sym (left a b)
