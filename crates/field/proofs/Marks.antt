-- A mark and its number looked at: what a test of them says of `well_marked`.
-- Assumes nothing.
use mathlib.Core.Path.{◌≡◌, ap, ap₂, sym, ◌∙◌}
use mathlib.Core.Logic.{◌↔◌, ◌⊎◌, inl, inr, ⊎_elim}
use mathlib.Core.Bool.{true, false, ◌&&◌, ◌||◌, false≢true}
use Prim.Native.Nat.{ℕ}
use native.Mathlib.Decide.{ℕ_discrete}
use native.Mathlib.Omega.{arith}
use borrow.Author.Tests.{eqb-true, eq-eqb, ne_eqb}
use lib.Dec.{eqb}
use Rattle.field.specs.Field.{well_marked}

module _ (mark number : ℕ) where
  pub marked-0 : mark ≡ 0 → true ≡ well_marked mark number
  marked-0 e = sym (ap (λ t. t || (eqb mark 1 && eqb number 0)) (eq-eqb mark 0 e))

  pub marked-1 : mark ≡ 1 → eqb number 0 ≡ well_marked mark number
  marked-1 e = sym (ap₂ (λ s t. s || (t && eqb number 0)) (ne_eqb mark 0 (λ z. omega arith)) (eq-eqb mark 1 e))

  pub marked-above-1 : (mark ≡ 0 → ⊥) → (mark ≡ 1 → ⊥) → false ≡ well_marked mark number
  marked-above-1 m n = sym (ap₂ (λ s t. s || (t && eqb number 0)) (ne_eqb mark 0 m) (ne_eqb mark 1 n))

  -- well marked exactly when the mark is 0, or 1 with the number 0
  pub well-marked-exactly : (well_marked mark number ≡ true) ↔ ((mark ≡ 0) ⊎ ((mark ≡ 1) × (number ≡ 0)))
  well-marked-exactly = (only, ⊎_elim (λ e. sym (marked-0 e)) (λ p. sym (marked-1 p.0) ∙ eq-eqb number 0 p.1))
    where
      only : well_marked mark number ≡ true → (mark ≡ 0) ⊎ ((mark ≡ 1) × (number ≡ 0))
      only h =
          elim (ℕ_discrete mark 0) [
            | yes e ↦ inl e
            | no m ↦
                elim (ℕ_discrete mark 1) [
                  | yes e ↦ inr (e, eqb-true number 0 (marked-1 e ∙ h))
                  | no n ↦ absurd (false≢true (marked-above-1 m n ∙ h))
                ]
          ]
