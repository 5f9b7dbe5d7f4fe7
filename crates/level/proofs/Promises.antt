-- What the scan of a level promises, one named theorem for each promise. Its contract says that its answer is the one
-- of `scan_of`, floats by their bits; `Unique` says that no other answer is.
-- Assumes nothing.
use mathlib.Core.Path.{◌≡◌, refl, ap, sym, ◌∙◌, subst}
use mathlib.Core.Logic.{◌↔◌, ◌⊎◌, inl, inr, ⊎_elim}
use mathlib.Core.Bool.{Bool, true, false, false≢true}
use mathlib.Core.List.{List}
use Prim.Native.Nat.{ℕ, ◌+◌, ◌≤◌, ◌<◌}
use native.Mathlib.Decide.{dec_lt}
use native.Mathlib.Omega.{arith}
use borrow.Author.Tests.{ltb-false, lt-ltb}
use lib.Dec.{ltb}
use lib.ListN.{length, get_or}
use lib.IntN.{ℤ}
use lib.Ieee.{Float, nan, inf, fin}
use Rattle.places.specs.Faults.{NoFaultBefore}
use Rattle.places.proofs.First.{holds-or-fails}
use Rattle.reading.specs.Reading.{usable, usable_at}
use Rattle.reading.specs.Order.{rank_of, rank}
use Rattle.reading.specs.Level.{fault_of, fault_at}
use Rattle.reading.proofs.Order.{usable-rank, unsigned-rank, signed-rank}
use Rattle.level.specs.Extent.{bits_at, kept_of, infinity, minus_infinity, lowest, highest, Readings, Earliest}
use Rattle.level.specs.Scan.{refused, scan_of}
use Rattle.reading.proofs.Told.{bad-mark-is, unusable-reading-is, sound-is, faultless-is, fault-codes}
use Rattle.level.proofs.Stages.{stages}
use Rattle.level.proofs.Kept.{Direction, downwards, upwards, keep, kept-none, none-beyond, Since, stays, replaced, since}
-- the order of sign and bits is the machine's comparison for floats that aren't NaN, and the two zeros are equal in it
pub use Rattle.reading.proofs.Compare.{before-is, level-with-is, zero-is}

-- ---- a place's fault, by its mark and its reading

-- NaN or infinite
abbrev pub NotUsable : Float → Type 0
NotUsable x = (x ≡ nan) ⊎ ((s : Bool) × (x ≡ inf s))

pub not-usable-exactly : (x : Float) → (usable x ≡ false) ↔ NotUsable x
not-usable-exactly x = (only x, ⊎_elim (λ e. ap usable e ∙ nan-isn't) (λ p. ap usable p.1 ∙ infinity-isn't p.0))
  where
    nan-isn't : usable nan ≡ false
    nan-isn't = unfold usable in refl

    infinity-isn't : (s : Bool) → usable (inf s) ≡ false
    infinity-isn't s = unfold usable in refl

    only : (x : Float) → usable x ≡ false → NotUsable x
    only nan e = inl refl
    only (inf s) e = inr (s, refl)
    only (fin s m e) f = absurd (false≢true (sym f ∙ finite-is s m e))
      where
        finite-is : (s : Bool) (m : ℕ) (e : ℤ) → usable (fin s m e) ≡ true
        finite-is s m e = unfold usable in refl

module _ (x : Float) (mark : ℕ) where
  -- none exactly when the mark is 0 or 1 and the reading is usable
  pub fault-0-exactly : (fault_of x mark ≡ 0) ↔ ((mark ≤ 1) × (usable x ≡ true))
  fault-0-exactly = (faultless-is x mark, λ p. sound-is x mark p.0 p.1)

  -- 15 exactly when the mark is neither 0 nor 1
  pub fault-15-exactly : (fault_of x mark ≡ 15) ↔ (1 < mark)
  fault-15-exactly = (only, bad-mark-is x mark)
    where
      only : fault_of x mark ≡ 15 → 1 < mark
      only f =
          elim (dec_lt 1 mark) [
            | yes h ↦ h
            | no h ↦
                elim (holds-or-fails (usable x)) [
                  | inl u ↦ let g = sound-is x mark (omega arith) u in omega arith
                  | inr u ↦ let g = unusable-reading-is x mark (omega arith) u in omega arith
                ]
          ]

  -- 22 exactly when it is, and the reading is NaN or infinite
  pub fault-22-exactly : (fault_of x mark ≡ 22) ↔ ((mark ≤ 1) × NotUsable x)
  fault-22-exactly = (only, λ p. unusable-reading-is x mark p.0 ((not-usable-exactly x).1 p.1))
    where
      only : fault_of x mark ≡ 22 → (mark ≤ 1) × NotUsable x
      only f =
          elim (dec_lt 1 mark) [
            | yes h ↦ let g = bad-mark-is x mark h in absurd (omega arith)
            | no h ↦
                elim (holds-or-fails (usable x)) [
                  | inl u ↦ let g = sound-is x mark (omega arith) u in absurd (omega arith)
                  | inr u ↦ (omega arith, (not-usable-exactly x).0 u)
                ]
          ]

-- what is kept of a level's readings is one of them, none before it being equal to it, where the first is beyond the
-- start
taken
    : (level : List Float) (beyond : ℕ → ℕ → Bool) → Direction beyond → (m n : ℕ) → 0 < n →
    beyond (rank_of (bits_at level 0)) (rank_of m) ≡ true →
    (i : ℕ) × (i < n) × (bits_at level i ≡ kept_of (keep beyond) m (bits_at level) n)
    × ((j : ℕ) → j < i → rank (get_or level j nan) ≡ rank_of (kept_of (keep beyond) m (bits_at level) n) → ⊥)
taken level beyond direction m n h first =
    let f = bits_at level in
    let e : 0 + n ≡ n = omega arith in
    elim (subst (Since beyond direction m f 0) e (since beyond direction m f 0 n)) [
      | stays s ↦
          absurd
          (false≢true
          (sym (none-beyond beyond direction m f n 0 h)
          ∙ ap (λ k. beyond (rank_of (f 0)) (rank_of k)) (s ∙ kept-none (keep beyond) m f)
          ∙ first))
      | replaced i a b s g none ↦ (i, b, sym s, λ j k q. none j k (q ∙ ap rank_of s))
    ]

module _ (level : List Float) (grounds : List ℕ) where
  -- ---- the refusals

  -- 6, with place 0, exactly when the lengths differ
  pub refused-6-exactly : (scan_of level grounds ≡ refused 6 0) ↔ (length level ≡ length grounds → ⊥)
  refused-6-exactly = (stages level grounds).six

  -- 14, with place 0, exactly when they are equal and the level is empty
  pub refused-14-exactly : (scan_of level grounds ≡ refused 14 0) ↔ ((length level ≡ length grounds) × (length level ≡ 0))
  refused-14-exactly = (stages level grounds).fourteen

  module _ (i : ℕ) where
    abbrev reading : Float
    reading = get_or level i nan

    abbrev mark : ℕ
    mark = get_or grounds i 0

    at-place
        : {P : Type 0} (c : ℕ) → (c ≡ 0 → ⊥) × (c ≡ 6 → ⊥) × (c ≡ 14 → ⊥) × (c ≡ 19 → ⊥) → (fault_of reading mark ≡ c) ↔ P →
        (scan_of level grounds ≡ refused c i)
        ↔ ((length level ≡ length grounds) × (i < length level) × P × NoFaultBefore (fault_at level grounds) i)
    at-place c apart told =
        let w = (stages level grounds).at c i apart in (
          λ r. let (e, o, f) = w.0 r in (e, f.0, told.0 f.1, f.2),
          λ p. w.1 (p.0, refl, (p.1, told.1 p.2, p.3)),
        )

    -- 15 with place i exactly when the lengths are equal, the mark there is neither 0 nor 1, and no place before it
    -- has a
    -- fault
    pub refused-15-exactly
        : (scan_of level grounds ≡ refused 15 i)
        ↔ ((length level ≡ length grounds) × (i < length level) × (1 < mark) × NoFaultBefore (fault_at level grounds) i)
    refused-15-exactly =
        at-place 15 (λ e. omega arith, λ e. omega arith, λ e. omega arith, λ e. omega arith) (fault-15-exactly reading mark)

    -- 22 names the first NaN or infinity by its place: exactly when the lengths are equal, the mark there is 0 or 1,
    -- the
    -- reading is NaN or infinite, and no place before it has a fault
    pub refused-22-exactly
        : (scan_of level grounds ≡ refused 22 i)
        ↔ ((length level ≡ length grounds) × (i < length level) × ((mark ≤ 1) × NotUsable reading)
        × NoFaultBefore (fault_at level grounds) i)
    refused-22-exactly =
        at-place 22 (λ e. omega arith, λ e. omega arith, λ e. omega arith, λ e. omega arith) (fault-22-exactly reading mark)

  -- 0 exactly when the lengths are equal, the level isn't empty, every mark is 0 or 1 and every reading is usable
  pub ranged-exactly
      : ((scan_of level grounds).code ≡ 0)
      ↔ ((length level ≡ length grounds) × (0 < length level)
      × ((i : ℕ) → i < length level → (get_or grounds i 0 ≤ 1) × (usable_at level i ≡ true)))
  ranged-exactly = (
    λ z. let (e, h, o, b) = (stages level grounds).nothing.0 z in
        (e, h, λ i k. faultless-is (get_or level i nan) (get_or grounds i 0) (b i k)),
    λ p. (stages level grounds).nothing.1
        (p.0, p.1, refl, λ i k. let f = p.2 i k in sound-is (get_or level i nan) (get_or grounds i 0) f.0 f.1),
  )

  -- no unusable reading is ever passed over: with one the scan is refused
  pub never-passed-over : (i : ℕ) → i < length level → NotUsable (get_or level i nan) → (scan_of level grounds).code ≡ 0 → ⊥
  never-passed-over i h n z =
      false≢true (sym ((not-usable-exactly (get_or level i nan)).1 n) ∙ ((ranged-exactly.0 z).2 i h).1)

  -- no other number is given
  pub only-codes
      : ((scan_of level grounds).code ≡ 0)
      ⊎ (((scan_of level grounds).code ≡ 6)
      ⊎ (((scan_of level grounds).code ≡ 14) ⊎ (((scan_of level grounds).code ≡ 15) ⊎ ((scan_of level grounds).code ≡ 22))))
  only-codes =
      ⊎_elim (λ e. inl (ap (λ s. s.code) e))
      (⊎_elim (λ e. inr (inl (ap (λ s. s.code) e)))
      (⊎_elim (λ e. inr (inr (inl (ap (λ s. s.code) e))))
      (⊎_elim (λ p. absurd (false≢true (sym p.0)))
      (λ (i, (m, e)).
      ⊎_elim (λ f. absurd (m f))
      (⊎_elim (λ f. inr (inr (inr (inl (ap (λ s. s.code) e ∙ f))))) (λ f. inr (inr (inr (inr (ap (λ s. s.code) e ∙ f))))))
      (fault-codes (get_or level i nan) (get_or grounds i 0))))))
      (stages level grounds).answers

  -- ---- the least and the greatest

  module _ (readings : Readings level) (ranged : (scan_of level grounds).code ≡ 0) where
    abbrev least : ℕ
    least = (scan_of level grounds).least

    abbrev greatest : ℕ
    greatest = (scan_of level grounds).greatest

    lowest-is : lowest level (length level) ≡ least
    lowest-is = sym (ap (λ s. s.least) ((stages level grounds).then-given ranged))

    highest-is : highest level (length level) ≡ greatest
    highest-is = sym (ap (λ s. s.greatest) ((stages level grounds).then-given ranged))

    -- the first reading lies between the infinities, where the looking starts
    first-between : (8388609 ≤ rank (get_or level 0 nan)) × (rank (get_or level 0 nan) ≤ 4286578687)
    first-between =
        let (e, h, u) = ranged-exactly.0 ranged in usable-rank (get_or level 0 nan) (readings 0) (u 0 h).1

    -- the least is a reading of the level, with its bits; and none before it is equal to it
    pub least-earliest : Earliest level least
    least-earliest =
        let h = first-between.1 in
        subst (Earliest level) lowest-is
        (taken level ltb downwards infinity (length level) (ranged-exactly.0 ranged).1
        (lt-ltb (rank (get_or level 0 nan)) (rank_of infinity) (omega (arith, unsigned-rank infinity (omega arith)))))

    -- no reading is below it
    pub least-bounds : (i : ℕ) → i < length level → rank_of least ≤ rank (get_or level i nan)
    least-bounds i h =
        subst (λ b. rank_of b ≤ rank (get_or level i nan)) lowest-is
        (ltb-false (rank (get_or level i nan)) (rank_of (lowest level (length level)))
        (none-beyond ltb downwards infinity (bits_at level) (length level) i h))

    -- the greatest is a reading of the level, with its bits; and none before it is equal to it
    pub greatest-earliest : Earliest level greatest
    greatest-earliest =
        let h = first-between.0 in
        subst (Earliest level) highest-is
        (taken level (λ r s. ltb s r) upwards minus_infinity (length level) (ranged-exactly.0 ranged).1
        (lt-ltb (rank_of minus_infinity) (rank (get_or level 0 nan)) (omega (arith, signed-rank minus_infinity (omega arith)))))

    -- no reading is above it
    pub greatest-bounds : (i : ℕ) → i < length level → rank (get_or level i nan) ≤ rank_of greatest
    greatest-bounds i h =
        subst (λ b. rank (get_or level i nan) ≤ rank_of b) highest-is
        (ltb-false (rank_of (highest level (length level))) (rank (get_or level i nan))
        (none-beyond (λ r s. ltb s r) upwards minus_infinity (bits_at level) (length level) i h))
