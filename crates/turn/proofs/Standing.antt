-- How a place stands: badly marked, not usable, not whole, or fine; and its fault.
-- Assumes nothing.
use mathlib.Core.Path.{◌≡◌, refl, ap, ap₂, sym, ◌∙◌}
use mathlib.Core.Logic.{◌⊎◌, inl, inr}
use mathlib.Core.Bool.{Bool, true, false, cond, ◌||◌, true≢false}
use Prim.Native.Nat.{ℕ, ◌≤◌, ◌<◌}
use native.Mathlib.Decide.{dec_lt}
use native.Mathlib.Omega.{arith}
use borrow.Author.Tests.{le-leb, lt-leb}
use lib.Dec.{eqb}
use lib.Ieee.{Float, nan, inf, fin}
use Rattle.places.proofs.First.{holds-or-fails}
use Rattle.reading.specs.Reading.{usable}
use Rattle.reading.specs.Level as level
use Rattle.turn.specs.Wholes.{is_whole}
use Rattle.turn.specs.Turning.{fault_of}

pub whole-usable : (x : Float) → is_whole x ≡ true → usable x ≡ true
unfolding is_whole usable
whole-usable nan w = w
whole-usable (inf s) w = w
whole-usable (fin s m e) w = refl

module _ (x : Float) (mark : ℕ) where
  -- ---- the fault, from what the place holds

  pub badly-marked : 1 < mark → fault_of x mark ≡ 15
  unfolding fault_of level.fault_of
  badly-marked h =
      ap (λ t. let f = cond t (cond (usable x) 0 22) 15 in cond (eqb f 0) (cond (is_whole x) 0 23) f) (lt-leb mark 1 h)

  -- well marked, by the reading
  by-reading
      : {s : Bool} → mark ≤ 1 → usable x ≡ s →
      fault_of x mark ≡ (let f = cond s 0 22 in cond (eqb f 0) (cond (is_whole x) 0 23) f)
  unfolding fault_of level.fault_of
  by-reading h u =
      ap₂ (λ t s. let f = cond t (cond s 0 22) 15 in cond (eqb f 0) (cond (is_whole x) 0 23) f) (le-leb mark 1 h) u

  pub not-usable : mark ≤ 1 → usable x ≡ false → fault_of x mark ≡ 22
  not-usable h u = by-reading h u

  pub not-whole : mark ≤ 1 → usable x ≡ true → is_whole x ≡ false → fault_of x mark ≡ 23
  not-whole h u w = by-reading h u ∙ ap (λ t. cond t 0 23) w

  pub fine : mark ≤ 1 → is_whole x ≡ true → fault_of x mark ≡ 0
  fine h w = by-reading h (whole-usable x w) ∙ ap (λ t. cond t 0 23) w

  -- ---- one of the four it is

  pub data Standing : Type 0 where
    is-badly-marked : 1 < mark → fault_of x mark ≡ 15 → Standing
    is-not-usable : mark ≤ 1 → usable x ≡ false → fault_of x mark ≡ 22 → Standing
    is-not-whole : mark ≤ 1 → usable x ≡ true → is_whole x ≡ false → fault_of x mark ≡ 23 → Standing
    is-fine : mark ≤ 1 → is_whole x ≡ true → fault_of x mark ≡ 0 → Standing

  pub standing : Standing
  standing =
      elim (dec_lt 1 mark) [
        | yes h ↦ is-badly-marked h (badly-marked h)
        | no h ↦
            let g : mark ≤ 1 = omega arith in
            elim (holds-or-fails (is_whole x)) [
              | inl w ↦ is-fine g w (fine g w)
              | inr w ↦
                  elim (holds-or-fails (usable x)) [
                    | inl u ↦ is-not-whole g u w (not-whole g u w)
                    | inr u ↦ is-not-usable g u (not-usable g u)
                  ]
            ]
      ]

  -- ---- what the place holds, from the fault

  pub fault-15 : fault_of x mark ≡ 15 → 1 < mark
  fault-15 e =
      elim standing [
        | is-badly-marked h f ↦ h
        | is-not-usable h u f ↦ absurd (omega arith)
        | is-not-whole h u w f ↦ absurd (omega arith)
        | is-fine h w f ↦ absurd (omega arith)
      ]

  pub fault-22 : fault_of x mark ≡ 22 → (mark ≤ 1) × (usable x ≡ false)
  fault-22 e =
      elim standing [
        | is-badly-marked h f ↦ absurd (omega arith)
        | is-not-usable h u f ↦ (h, u)
        | is-not-whole h u w f ↦ absurd (omega arith)
        | is-fine h w f ↦ absurd (omega arith)
      ]

  pub fault-23 : fault_of x mark ≡ 23 → (mark ≤ 1) × (usable x ≡ true) × (is_whole x ≡ false)
  fault-23 e =
      elim standing [
        | is-badly-marked h f ↦ absurd (omega arith)
        | is-not-usable h u f ↦ absurd (omega arith)
        | is-not-whole h u w f ↦ (h, u, w)
        | is-fine h w f ↦ absurd (omega arith)
      ]

  pub fault-0 : fault_of x mark ≡ 0 → (mark ≤ 1) × (is_whole x ≡ true)
  fault-0 e =
      elim standing [
        | is-badly-marked h f ↦ absurd (omega arith)
        | is-not-usable h u f ↦ absurd (omega arith)
        | is-not-whole h u w f ↦ absurd (omega arith)
        | is-fine h w f ↦ (h, w)
      ]

  -- there is no other
  pub which-fault : (fault_of x mark ≡ 0 → ⊥) → (fault_of x mark ≡ 15) ⊎ ((fault_of x mark ≡ 22) ⊎ (fault_of x mark ≡ 23))
  which-fault m =
      elim standing [
        | is-badly-marked h f ↦ inl f
        | is-not-usable h u f ↦ inr (inl f)
        | is-not-whole h u w f ↦ inr (inr f)
        | is-fine h w f ↦ absurd (m f)
      ]

  -- and so it is never that of the lists themselves
  pub fault-other : (fault_of x mark ≡ 6 → ⊥) × (fault_of x mark ≡ 14 → ⊥) × (fault_of x mark ≡ 19 → ⊥)
  fault-other = (λ e. never 6 e refl, λ e. never 14 e refl, λ e. never 19 e refl)
    where
      stopping : ℕ → Bool
      stopping c = eqb c 0 || (eqb c 15 || (eqb c 22 || eqb c 23))

      stops : stopping (fault_of x mark) ≡ true
      stops =
          elim standing [
            | is-badly-marked h f ↦ ap stopping f
            | is-not-usable h u f ↦ ap stopping f
            | is-not-whole h u w f ↦ ap stopping f
            | is-fine h w f ↦ ap stopping f
          ]

      never : (c : ℕ) → fault_of x mark ≡ c → stopping c ≡ false → ⊥
      never c e n = true≢false (sym stops ∙ ap stopping e ∙ n)
