-- A float between the infinities is usable, and a reading is told from its float and its mark.
-- Assumes nothing.
use mathlib.Core.Path.{◌≡◌, refl, ap, ap₂, sym, ◌∙◌}
use mathlib.Core.Bool.{true, false, cond, true≢false, false≢true}
use Prim.Native.Nat.{ℕ}
use borrow.Author.Tests.{eq-eqb, ne_eqb}
use lib.Dec.{eqb}
use lib.Ieee.{Float, nan, inf, fin, binary32, lt, of_bits, of_fields}
use Rattle.reading.specs.declared.types.Reading.TheVariants.{Air, Ground, Unusable}
use Rattle.reading.specs.Reading.{usable, reading_of}

-- ---- the infinities

infinity-is : of_bits binary32 2139095040 ≡ inf false
unfolding of_bits of_fields
infinity-is = refl

minus-infinity-is : of_bits binary32 4286578688 ≡ inf true
unfolding of_bits of_fields
minus-infinity-is = refl

above : (x : Float) → lt (inf true) x ≡ true → lt x (inf false) ≡ usable x
unfolding lt usable
above nan e = refl
above (inf true) e = absurd (false≢true e)
above (inf false) e = refl
above (fin s m e) f = refl

pub above-is : (x : Float) → lt (of_bits binary32 4286578688) x ≡ true → lt x (of_bits binary32 2139095040) ≡ usable x
above-is x e = ap (lt x) infinity-is ∙ above x (ap (λ y. lt y x) (sym minus-infinity-is) ∙ e)

not-above : (x : Float) → lt (inf true) x ≡ false → false ≡ usable x
unfolding lt usable
not-above nan e = refl
not-above (inf true) e = refl
not-above (inf false) e = refl
not-above (fin s m e) f = absurd (true≢false f)

pub not-above-is : (x : Float) → lt (of_bits binary32 4286578688) x ≡ false → false ≡ usable x
not-above-is x e = not-above x (ap (λ y. lt y x) (sym minus-infinity-is) ∙ e)

-- ---- the reading

module _ (x : Float) (mark : ℕ) where
  pub unusable-is : usable x ≡ false → Unusable ≡ reading_of x mark
  unfolding reading_of
  unusable-is u = sym (ap (λ t. cond t (cond (eqb mark 0) (Air x) (Ground x)) Unusable) u)

  pub in-air : usable x ≡ true → mark ≡ 0 → Air x ≡ reading_of x mark
  unfolding reading_of
  in-air u z = sym (ap₂ (λ t s. cond t (cond s (Air x) (Ground x)) Unusable) u (eq-eqb mark 0 z))

  pub under-ground : usable x ≡ true → (mark ≡ 0 → ⊥) → Ground x ≡ reading_of x mark
  unfolding reading_of
  under-ground u n = sym (ap₂ (λ t s. cond t (cond s (Air x) (Ground x)) Unusable) u (ne_eqb mark 0 n))
