-- The order of ℤ, where the kit's `lib.Signed` has no law for it.
-- Assumes nothing.
use mathlib.Core.Path.{◌≡◌, refl}
use mathlib.Core.Logic.{◌≢◌, ◌⊎◌, inl, inr, ⊎_elim}
use mathlib.Core.Bool.{Bool, true, false}
use native.Mathlib.Omega.{arith}
use lib.IntN.{ℤ, pos, ℤ_discrete}
use lib.Signed.{◌≤ℤ◌, ◌<ℤ◌, lt_z, lt_z_yes, lt_z_no}
use Rattle.whole.proofs.Difference.{⟨◌⟩, equalℤ, leℤ, ltℤ, whole}

-- ---- chains

pub ≤ℤ-trans : {x y z : ℤ} → x ≤ℤ y → y ≤ℤ z → x ≤ℤ z
≤ℤ-trans {x} {y} {z} h k = leℤ ⟨ x ⟩ ⟨ z ⟩ (omega (arith, whole))

pub ≤ℤ-<ℤ-trans : {x y z : ℤ} → x ≤ℤ y → y <ℤ z → x <ℤ z
≤ℤ-<ℤ-trans {x} {y} {z} h k = ltℤ ⟨ x ⟩ ⟨ z ⟩ (omega (arith, whole))

pub <ℤ→≤ℤ : {x y : ℤ} → x <ℤ y → x ≤ℤ y
<ℤ→≤ℤ {x} {y} h = leℤ ⟨ x ⟩ ⟨ y ⟩ (omega (arith, whole))

pub ≡→≤ℤ : {x y : ℤ} → x ≡ y → x ≤ℤ y
≡→≤ℤ {x} {y} e = leℤ ⟨ x ⟩ ⟨ y ⟩ (omega (arith, whole))

pub ≤ℤ-antisym : {x y : ℤ} → x ≤ℤ y → y ≤ℤ x → x ≡ y
≤ℤ-antisym {x} {y} h k = equalℤ ⟨ x ⟩ ⟨ y ⟩ (omega (arith, whole))

-- ---- one of the two orders holds, and not both

decided : {x y : ℤ} (t : Bool) → lt_z y x ≡ t → (x ≤ℤ y) ⊎ (y <ℤ x)
decided true e = inr (lt_z_yes (rw e tt))
decided false e = inl (lt_z_no (rw e tt))

pub ≤ℤ-or-<ℤ : (x y : ℤ) → (x ≤ℤ y) ⊎ (y <ℤ x)
≤ℤ-or-<ℤ x y = decided (lt_z y x) refl

-- what does not lie below lies at or above
pub ≮ℤ→≤ℤ : {x y : ℤ} → (y <ℤ x → ⊥) → x ≤ℤ y
≮ℤ→≤ℤ {x} {y} f = ⊎_elim (λ h. h) (λ h. absurd (f h)) (≤ℤ-or-<ℤ x y)

pub ≰ℤ→<ℤ : {x y : ℤ} → (y ≤ℤ x → ⊥) → x <ℤ y
≰ℤ→<ℤ {x} {y} f = ⊎_elim (λ h. absurd (f h)) (λ h. h) (≤ℤ-or-<ℤ y x)

pub ≢→<ℤ : {x y : ℤ} → x ≢ y → (x <ℤ y) ⊎ (y <ℤ x)
≢→<ℤ {x} {y} n =
    ⊎_elim (λ h. ⊎_elim (λ k. absurd (n (≤ℤ-antisym h k))) (λ k. inl k) (≤ℤ-or-<ℤ y x)) (λ h. inr h) (≤ℤ-or-<ℤ x y)

pub equal-or-not : (x y : ℤ) → (x ≡ y) ⊎ (x ≢ y)
equal-or-not x y = elim (ℤ_discrete x y) [ yes e ↦ inl e | no n ↦ inr n ]

pub <ℤ→≢ : {x y : ℤ} → x <ℤ y → x ≢ y
<ℤ→≢ {x} {y} h e = omega (arith, whole)

-- a divisor above 0 is not 0
pub positive→≢0 : {d : ℤ} → pos 0 <ℤ d → d ≢ pos 0
positive→≢0 {d} h e = omega (arith, whole)
