-- Whether the search ends at a block: it passes a quiet one, and ends at a bad one and at the first overflowed place
-- of a sound one.
-- Assumes nothing.
use mathlib.Core.Path.{◌≡◌, ap, sym, ◌∙◌}
use mathlib.Core.Bool.{cond}
use mathlib.Core.List.{List}
use Prim.Native.Nat.{ℕ, ◌+◌, ◌≤◌, ◌<◌}
use native.Mathlib.Decide.{ℕ_discrete, dec_lt}
use native.Mathlib.Nat.{zero-add}
use native.Mathlib.Omega.{arith}
use borrow.Author.Tests.{eq-eqb, ne_eqb, lt-ltb, le-ltb, eqb-true, eqb-false}
use lib.Dec.{ltb}
use Rattle.places.proofs.First.{first-holds, none-before, first-is, first-none}
use Rattle.layout.specs.Layout.{count, mark}
use Rattle.layout.specs.Sound.{fault_of}
use Rattle.search.specs.Search.{overflowed_at, first_overflowed, OverflowsFirstAt, Quiet, end_of}

module _ (b : List ℕ) where
  -- ---- the first overflowed place

  pub first-overflowed : (i : ℕ) → OverflowsFirstAt b i → first_overflowed b ≡ i
  unfolding first_overflowed
  first-overflowed i (h, e, n) =
      let l : i < 0 + count b = omega arith in
      first-is (overflowed_at b) 0 (count b) i (omega arith) l (eq-eqb (mark b i) 1 e)
      (λ j k m. ne_eqb (mark b j) 1 (n j m))

  none-overflowed : ((i : ℕ) → i < count b → mark b i ≡ 1 → ⊥) → first_overflowed b ≡ count b
  unfolding first_overflowed
  none-overflowed n =
      first-none (overflowed_at b) 0 (count b) (λ j k m. ne_eqb (mark b j) 1 (n j (omega arith))) ∙ zero-add (count b)

  -- it is one of the places in use, or none is
  overflowed-place : first_overflowed b < count b → OverflowsFirstAt b (first_overflowed b)
  unfolding first_overflowed
  overflowed-place h =
      let p = first_overflowed b in
      let l : p < 0 + count b = omega arith in (
        h,
        eqb-true (mark b p) 1 (first-holds (overflowed_at b) 0 (count b) l),
        λ j k. eqb-false (mark b j) 1 (none-before (overflowed_at b) 0 (count b) j (omega arith) k),
      )

  no-place : count b ≤ first_overflowed b → (i : ℕ) → i < count b → mark b i ≡ 1 → ⊥
  unfolding first_overflowed
  no-place h i k = eqb-false (mark b i) 1 (none-before (overflowed_at b) 0 (count b) i (omega arith) (omega arith))

  -- ---- where the search ends

  ends-sound : fault_of b ≡ 0 → end_of b ≡ cond (ltb (first_overflowed b) (count b)) 3 0
  unfolding end_of
  ends-sound z =
      ap (λ t. cond t (cond (ltb (first_overflowed b) (count b)) 3 0) (fault_of b)) (eq-eqb (fault_of b) 0 z)

  pub ends-at-bad : (fault_of b ≡ 0 → ⊥) → end_of b ≡ fault_of b
  unfolding end_of
  ends-at-bad n =
      ap (λ t. cond t (cond (ltb (first_overflowed b) (count b)) 3 0) (fault_of b)) (ne_eqb (fault_of b) 0 n)

  pub ends-at-overflowed : (i : ℕ) → fault_of b ≡ 0 → OverflowsFirstAt b i → end_of b ≡ 3
  ends-at-overflowed i z f =
      let h = f.0 in
      let e = first-overflowed i f in
      ends-sound z ∙ ap (λ t. cond t 3 0) (lt-ltb (first_overflowed b) (count b) (omega arith))

  pub passes-quiet : Quiet b → end_of b ≡ 0
  passes-quiet (z, n) =
      let e = none-overflowed n in
      ends-sound z ∙ ap (λ t. cond t 3 0) (le-ltb (first_overflowed b) (count b) (omega arith))

  -- ---- the three cases

  pub data Kind : Type 0 where
    quiet : Quiet b → Kind
    bad : (fault_of b ≡ 0 → ⊥) → Kind
    overflowed : fault_of b ≡ 0 → (i : ℕ) → OverflowsFirstAt b i → Kind

  pub kind : Kind
  kind =
      elim (ℕ_discrete (fault_of b) 0) [
        | no n ↦ bad n
        | yes z ↦
            elim (dec_lt (first_overflowed b) (count b)) [
              | yes h ↦ overflowed z (first_overflowed b) (overflowed-place h)
              | no n ↦ quiet (z, no-place (omega arith))
            ]
      ]

  -- a block that the search passes is quiet
  pub quiet-passed : end_of b ≡ 0 → Quiet b
  quiet-passed e =
      elim kind [
        | quiet q ↦ q
        | bad n ↦ absurd (n (sym (ends-at-bad n) ∙ e))
        | overflowed z i f ↦ let o = ends-at-overflowed i z f in let a : ⊥ = omega arith in absurd a
      ]
