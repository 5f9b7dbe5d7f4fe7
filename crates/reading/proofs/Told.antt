-- What is known of a reading by what it was seen as, and a place's fault by its mark and its reading.
-- Assumes nothing.
use mathlib.Core.Path.{◌≡◌, ap, ap₂}
use mathlib.Core.Logic.{◌⊎◌, inl, inr, ⊎_elim}
use mathlib.Core.Bool.{true, false, cond}
use Prim.Native.Nat.{ℕ, ◌≤◌, ◌<◌}
use native.Mathlib.Decide.{ℕ_discrete, dec_lt}
use native.Mathlib.Omega.{arith}
use borrow.Author.Tests.{le-leb, lt-leb}
use lib.Ieee.{Float}
use Rattle.places.proofs.First.{holds-or-fails}
use Rattle.reading.specs.declared.types.Reading.TheVariants.{Air, Ground, Unusable}
use Rattle.reading.specs.Reading.{usable, reading_of}
use Rattle.reading.specs.Level.{fault_of}
use Rattle.reading.proofs.Readings.{unusable-is, in-air, under-ground}

module _ (x : Float) (mark : ℕ) where
  -- ---- the reading

  -- a number in the air or under the ground is usable, and it is that float
  pub number-is : (y : Float) → (reading_of x mark ≡ Air y) ⊎ (reading_of x mark ≡ Ground y) → (usable x ≡ true) × (y ≡ x)
  number-is y e =
      elim (holds-or-fails (usable x)) [
        | inr n ↦ let u = unusable-is x mark n in elim e [ inl a ↦ (cc, cc) | inr g ↦ (cc, cc) ]
        | inl u ↦
            elim (ℕ_discrete mark 0) [
              | yes z ↦ let h = in-air x mark u z in elim e [ inl a ↦ (u, cc) | inr g ↦ (u, cc) ]
              | no z ↦ let h = under-ground x mark u z in elim e [ inl a ↦ (u, cc) | inr g ↦ (u, cc) ]
            ]
      ]

  pub unusable-told : reading_of x mark ≡ Unusable → usable x ≡ false
  unusable-told e =
      elim (holds-or-fails (usable x)) [
        | inr n ↦ n
        | inl u ↦
            elim (ℕ_discrete mark 0) [
              | yes z ↦ let a = in-air x mark u z in cc
              | no z ↦ let g = under-ground x mark u z in cc
            ]
      ]

  -- ---- the fault

  pub bad-mark-is : 1 < mark → fault_of x mark ≡ 15
  unfolding fault_of
  bad-mark-is h = ap (λ t. cond t (cond (usable x) 0 22) 15) (lt-leb mark 1 h)

  pub unusable-reading-is : mark ≤ 1 → usable x ≡ false → fault_of x mark ≡ 22
  unfolding fault_of
  unusable-reading-is h n = ap₂ (λ t u. cond t (cond u 0 22) 15) (le-leb mark 1 h) n

  pub sound-is : mark ≤ 1 → usable x ≡ true → fault_of x mark ≡ 0
  unfolding fault_of
  sound-is h u = ap₂ (λ t u. cond t (cond u 0 22) 15) (le-leb mark 1 h) u

  -- where there is no fault the mark is 0 or 1 and the reading is usable
  pub faultless-is : fault_of x mark ≡ 0 → (mark ≤ 1) × (usable x ≡ true)
  faultless-is e =
      elim (dec_lt 1 mark) [
        | yes h ↦ let b = bad-mark-is h in absurd (omega arith)
        | no h ↦
            elim (holds-or-fails (usable x)) [
              | inr n ↦ let b = unusable-reading-is (omega arith) n in absurd (omega arith)
              | inl u ↦ (omega arith, u)
            ]
      ]

  -- there is no other than 15 and 22
  pub fault-codes : (fault_of x mark ≡ 0) ⊎ ((fault_of x mark ≡ 15) ⊎ (fault_of x mark ≡ 22))
  fault-codes =
      elim (dec_lt 1 mark) [
        | yes h ↦ inr (inl (bad-mark-is h))
        | no h ↦
            elim (holds-or-fails (usable x)) [
              | inl u ↦ inl (sound-is (omega arith) u)
              | inr u ↦ inr (inr (unusable-reading-is (omega arith) u))
            ]
      ]

  pub fault-other : (fault_of x mark ≡ 6 → ⊥) × (fault_of x mark ≡ 14 → ⊥) × (fault_of x mark ≡ 19 → ⊥)
  fault-other = (
    λ e. ⊎_elim (λ f. omega arith) (⊎_elim (λ f. omega arith) (λ f. omega arith)) fault-codes,
    λ e. ⊎_elim (λ f. omega arith) (⊎_elim (λ f. omega arith) (λ f. omega arith)) fault-codes,
    λ e. ⊎_elim (λ f. omega arith) (⊎_elim (λ f. omega arith) (λ f. omega arith)) fault-codes,
  )
