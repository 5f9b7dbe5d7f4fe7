-- The first place at which something holds.
-- Assumes nothing.
use mathlib.Core.Path.{◌≡◌, refl, ap, sym, ◌∙◌}
use mathlib.Core.Logic.{◌⊎◌, inl, inr}
use mathlib.Core.Bool.{Bool, true, false, false≢true}
use Prim.Native.Nat.{ℕ, zero, suc, ◌+◌, ◌≤◌, ◌<◌}
use native.Mathlib.Decide.{ℕ_discrete, dec_lt}
use native.Mathlib.Omega.{arith}
use Rattle.places.specs.Places.{first_from}

-- a test holds or fails
pub holds-or-fails : (t : Bool) → (t ≡ true) ⊎ (t ≡ false)
holds-or-fails true = inl refl
holds-or-fails false = inr refl

module _ (f : ℕ → Bool) where
  -- ---- one place

  pub first-here : (i k : ℕ) → f i ≡ true → first_from f i (suc k) ≡ i
  unfolding first_from
  first-here i k e = ap {B = ℕ} (λ t. elim t [ true ↦ i | false ↦ first_from f (suc i) k ]) e

  pub first-later : (i k : ℕ) → f i ≡ false → first_from f i (suc k) ≡ first_from f (suc i) k
  unfolding first_from
  first-later i k e = ap {B = ℕ} (λ t. elim t [ true ↦ i | false ↦ first_from f (suc i) k ]) e

  pub first-end : (i : ℕ) → first_from f i 0 ≡ i
  unfolding first_from
  first-end i = refl

  -- ---- what the first place is

  -- it is one of the places or the place after them
  pub first-within : (i k : ℕ) → (i ≤ first_from f i k) × (first_from f i k ≤ i + k)
  first-within i zero = (omega (arith, first-end i), omega (arith, first-end i))
  first-within i (suc k) =
      elim (holds-or-fails (f i)) [
        | inl e ↦ let g = first-here i k e in (omega arith, omega arith)
        | inr e ↦ let g = first-later i k e in let h = first-within (suc i) k in (omega arith, omega arith)
      ]

  -- f holds at it, where it is one of the places
  pub first-holds : (i k : ℕ) → first_from f i k < i + k → f (first_from f i k) ≡ true
  first-holds i zero h = absurd (omega (arith, first-end i))
  first-holds i (suc k) h =
      elim (holds-or-fails (f i)) [
        | inl e ↦ ap f (first-here i k e) ∙ e
        | inr e ↦ let g = first-later i k e in ap f g ∙ first-holds (suc i) k (omega arith)
      ]

  -- f holds at no place before it
  pub none-before : (i k j : ℕ) → i ≤ j → j < first_from f i k → f j ≡ false
  none-before i zero j l h = absurd (omega (arith, first-end i))
  none-before i (suc k) j l h =
      elim (holds-or-fails (f i)) [
        | inl e ↦ let g = first-here i k e in absurd (omega arith)
        | inr e ↦
            let g = first-later i k e in
            elim (ℕ_discrete i j) [
              | yes p ↦ ap f (sym p) ∙ e
              | no n ↦ none-before (suc i) k j (omega arith) (omega arith)
            ]
      ]

  -- ---- that says which place it is

  pub first-is
      : (i k j : ℕ) → i ≤ j → j < i + k → f j ≡ true → ((l : ℕ) → i ≤ l → l < j → f l ≡ false) → first_from f i k ≡ j
  first-is i k j l h e n =
      let w = first-within i k in
      elim (ℕ_discrete (first_from f i k) j) [
        | yes p ↦ p
        | no q ↦
            elim (dec_lt j (first_from f i k)) [
              | yes b ↦ absurd (false≢true (sym (none-before i k j l b) ∙ e))
              | no b ↦
                  let lower : first_from f i k < j = omega arith in
                  absurd (false≢true (sym (n (first_from f i k) w.0 lower) ∙ first-holds i k (omega arith)))
            ]
      ]

  pub first-none : (i k : ℕ) → ((l : ℕ) → i ≤ l → l < i + k → f l ≡ false) → first_from f i k ≡ i + k
  first-none i k n =
      let w = first-within i k in
      elim (dec_lt (first_from f i k) (i + k)) [
        | yes b ↦ absurd (false≢true (sym (n (first_from f i k) w.0 b) ∙ first-holds i k b))
        | no b ↦ omega arith
      ]
