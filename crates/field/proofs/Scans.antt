-- The whole scan by its stages: the lists' lengths, an empty field, the first fault, the range.
-- Assumes nothing.
use mathlib.Core.Path.{◌≡◌, refl, ap, sym, ◌∙◌, subst}
use mathlib.Core.Logic.{◌↔◌}
use mathlib.Core.Bool.{true, cond}
use mathlib.Core.List.{List}
use Prim.Native.Nat.{ℕ, ◌<◌}
use native.Mathlib.Decide.{ℕ_discrete}
use native.Mathlib.Omega.{arith}
use borrow.Author.Tests.{eq-eqb, ne_eqb}
use lib.Dec.{eqb}
use lib.ListN.{length, get_or}
use Rattle.places.specs.Faults.{NoFaultBefore}
use Rattle.places.proofs.Faults.{faulty-at, faultless, walk, answer-none, refused-exactly}
use Rattle.little.proofs.Zeros.{zeros-at}
use Rattle.field.specs.Field.{fault_at, EndsAt, unmarked}
use Rattle.field.specs.Range.{refused, range_of, scan_places, scan_of}
use Rattle.field.proofs.Faults.{unmarked-faults, marked-faulty}

module _ (numbers marks : List ℕ) where
  -- ---- the lengths

  pub at-unequal : (length numbers ≡ length marks → ⊥) → scan_of numbers marks ≡ refused 6 0
  unfolding scan_of
  at-unequal n = simp (ne_eqb (length numbers) (length marks) n)

  pub at-empty : length numbers ≡ length marks → length numbers ≡ 0 → scan_of numbers marks ≡ refused 14 0
  unfolding scan_of
  at-empty e z = simp (eq-eqb (length numbers) (length marks) e, eq-eqb (length numbers) 0 z)

  -- ---- the places

  module _ (e : length numbers ≡ length marks) (n : length numbers ≡ 0 → ⊥) where
    at-places : scan_of numbers marks ≡ scan_places numbers marks
    unfolding scan_of
    at-places =
        ap (λ t. cond t (cond (eqb (length numbers) 0) (refused 14 0) (scan_places numbers marks)) (refused 6 0))
        (eq-eqb (length numbers) (length marks) e)
        ∙ ap (λ t. cond t (refused 14 0) (scan_places numbers marks)) (ne_eqb (length numbers) 0 n)

    pub at-range : NoFaultBefore (fault_at numbers marks) (length numbers) → scan_of numbers marks ≡ range_of numbers
    at-range b = at-places ∙ answer-none (fault_at numbers marks) (length numbers) refused (range_of numbers) b

    pub at-fault-exactly : (c i : ℕ) → (c ≡ 0 → ⊥) → (scan_of numbers marks ≡ refused c i) ↔ EndsAt numbers marks c i
    at-fault-exactly c i z =
        subst (λ s. (s ≡ refused c i) ↔ EndsAt numbers marks c i) (sym at-places)
        (refused-exactly (fault_at numbers marks) (length numbers) refused (range_of numbers)
        (λ s. s.code) (λ s. s.place) (λ c i. refl) (λ c i. refl) refl c i z)

    -- ---- by the marks alone

    unmarked-before : (i : ℕ) → unmarked marks i ≡ true → NoFaultBefore (fault_at numbers marks) i
    unmarked-before i u j h =
        (unmarked-faults (get_or marks j 0) (get_or numbers j 0) (zeros-at 0 i marks u j (omega arith) h)).1

    pub at-unmarked : unmarked marks (length marks) ≡ true → scan_of numbers marks ≡ range_of numbers
    at-unmarked u = at-range (unmarked-before (length numbers) (ap (unmarked marks) e ∙ u))

    -- place i is the first that is marked
    pub at-marked
        : (i : ℕ) → i < length marks → 0 < get_or marks i 0 → unmarked marks i ≡ true →
        scan_of numbers marks ≡ refused (fault_at numbers marks i) i
    at-marked i h m u =
        let l : i < length numbers = omega arith in
        let f = marked-faulty (get_or marks i 0) (get_or numbers i 0) (λ z. omega arith) in
        (at-fault-exactly (fault_at numbers marks i) i f).1 (l, refl, unmarked-before i u)

  -- ---- which stage it is

  pub data Stage : Type 0 where
    unequal : (length numbers ≡ length marks → ⊥) → scan_of numbers marks ≡ refused 6 0 → Stage
    empty : length numbers ≡ length marks → length numbers ≡ 0 → scan_of numbers marks ≡ refused 14 0 → Stage
    ended
        : length numbers ≡ length marks →
        (i : ℕ) →
        (fault_at numbers marks i ≡ 0 → ⊥) →
        EndsAt numbers marks (fault_at numbers marks i) i →
        scan_of numbers marks ≡ refused (fault_at numbers marks i) i →
        Stage
    whole
        : length numbers ≡ length marks →
        0 < length numbers →
        NoFaultBefore (fault_at numbers marks) (length numbers) →
        scan_of numbers marks ≡ range_of numbers →
        Stage

  pub stage : Stage
  stage =
      elim (ℕ_discrete (length numbers) (length marks)) [
        | no n ↦ unequal n (at-unequal n)
        | yes e ↦
            elim (ℕ_discrete (length numbers) 0) [
              | yes z ↦ empty e z (at-empty e z)
              | no n ↦
                  elim (walk (fault_at numbers marks) (length numbers)) [
                    | faulty-at i m f ↦ ended e i m f ((at-fault-exactly e n (fault_at numbers marks i) i m).1 f)
                    | faultless b ↦ whole e (omega arith) b (at-range e n b)
                  ]
            ]
      ]
