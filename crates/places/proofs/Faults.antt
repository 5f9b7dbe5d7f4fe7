-- The earliest place with a fault: that there is one or none, where it is, and exactly when an answer is the one
-- given there.
-- Assumes nothing.
use mathlib.Core.Path.{◌≡◌, refl, ap, sym, ◌∙◌, subst}
use mathlib.Core.Logic.{◌↔◌}
use mathlib.Core.Bool.{true, false, not, cond}
use Prim.Native.Nat.{ℕ, ◌+◌, ◌≤◌, ◌<◌}
use native.Mathlib.Decide.{ℕ_discrete, dec_lt}
use native.Mathlib.Nat.{zero-add}
use native.Mathlib.Omega.{arith}
use borrow.Author.Tests.{eq-eqb, ne_eqb, lt-ltb, le-ltb, eqb-true, eqb-false, not-true, not-false}
use lib.Dec.{eqb, ltb}
use Rattle.places.specs.Faults.{faulty, first_fault, at_first_fault, NoFaultBefore, FirstFault}
use Rattle.places.proofs.First.{first-within, first-holds, none-before, first-is, first-none}

-- ---- places passed one by one

pub no-fault-before-0 : (fault : ℕ → ℕ) → NoFaultBefore fault 0
no-fault-before-0 fault j h = absurd (omega arith)

pub no-fault-before-more : (fault : ℕ → ℕ) (i : ℕ) → NoFaultBefore fault i → fault i ≡ 0 → NoFaultBefore fault (i + 1)
no-fault-before-more fault i before here j h =
    elim (ℕ_discrete i j) [
      | yes e ↦ subst (λ j. fault j ≡ 0) e here
      | no d ↦ before j (omega arith)
    ]

module _ (fault : ℕ → ℕ) (n : ℕ) where
  -- ---- where the earliest fault is

  -- a place with a fault and none before it is the earliest
  pub first-fault-is : (i : ℕ) → i < n → (fault i ≡ 0 → ⊥) → NoFaultBefore fault i → first_fault fault n ≡ i
  first-fault-is i h f b =
      let l : i < 0 + n = omega arith in
      first-is (faulty fault) 0 n i (omega arith) l (ap not (ne_eqb (fault i) 0 f))
      (λ j k m. ap not (eq-eqb (fault j) 0 (b j m)))

  -- where no place has one, it is the place after them
  pub no-fault-is : NoFaultBefore fault n → first_fault fault n ≡ n
  no-fault-is b = first-none (faulty fault) 0 n (λ j k m. ap not (eq-eqb (fault j) 0 (b j (omega arith)))) ∙ zero-add n

  none-before-first : NoFaultBefore fault (first_fault fault n)
  none-before-first j h =
      eqb-true (fault j) 0 (not-false (eqb (fault j) 0) (none-before (faulty fault) 0 n j (omega arith) h))

  pub first-has-fault : first_fault fault n < n → fault (first_fault fault n) ≡ 0 → ⊥
  first-has-fault h =
      let p = first_fault fault n in
      let l : p < 0 + n = omega arith in
      eqb-false (fault p) 0 (not-true (eqb (fault p) 0) (first-holds (faulty fault) 0 n l))

  -- there is an earliest fault, or there is none
  pub data Walk : Type 0 where
    faulty-at : (i : ℕ) → (fault i ≡ 0 → ⊥) → FirstFault fault n (fault i) i → Walk
    faultless : NoFaultBefore fault n → Walk

  pub walk : Walk
  walk =
      let p = first_fault fault n in
      let w = first-within (faulty fault) 0 n in
      elim (dec_lt p n) [
        | yes h ↦ faulty-at p (first-has-fault h) (h, refl, none-before-first)
        | no h ↦ faultless (λ j k. none-before-first j (omega arith))
      ]

  -- it is one of the places where it can't be that none has one
  pub fault-ahead : (NoFaultBefore fault n → ⊥) → first_fault fault n < n
  fault-ahead some =
      elim walk [
        | faultless b ↦ absurd (some b)
        | faulty-at i m f ↦ let h = f.0 in let e = first-fault-is i h m f.2 in omega arith
      ]

  -- ---- the walk to it, where it is one of the places

  module _ (i : ℕ) (some : first_fault fault n < n) where
    -- it isn't among places that have none
    pub not-past-fault : NoFaultBefore fault i → i ≤ first_fault fault n
    not-past-fault b =
        elim (dec_lt (first_fault fault n) i) [
          | yes k ↦ absurd (first-has-fault some (b (first_fault fault n) k))
          | no k ↦ omega arith
        ]

    module _ (upto : i ≤ first_fault fault n) where
      -- a place without a fault is before it
      pub passed : eqb (fault i) 0 ≡ true → i + 1 ≤ first_fault fault n
      passed e =
          elim (ℕ_discrete i (first_fault fault n)) [
            | yes p ↦ absurd (first-has-fault some (ap fault (sym p) ∙ eqb-true (fault i) 0 e))
            | no p ↦ omega arith
          ]

      -- a place with one is it
      pub reached : eqb (fault i) 0 ≡ false → i ≡ first_fault fault n
      reached e =
          elim (dec_lt i (first_fault fault n)) [
            | yes k ↦ absurd (eqb-false (fault i) 0 e (none-before-first i k))
            | no k ↦ omega arith
          ]

  -- ---- what is answered there

  module _ {A : Type 0} (refused : ℕ → ℕ → A) (none : A) where
    abbrev answer : A
    answer = at_first_fault fault n refused none

    pub answer-at : (c i : ℕ) → (c ≡ 0 → ⊥) → FirstFault fault n c i → answer ≡ refused c i
    answer-at c i z (h, e, b) =
        ap (λ p. cond (ltb p n) (refused (fault p) p) none) (first-fault-is i h (λ o. z (sym e ∙ o)) b)
        ∙ ap (λ t. cond t (refused (fault i) i) none) (lt-ltb i n h)
        ∙ ap (λ c. refused c i) e

    pub answer-none : NoFaultBefore fault n → answer ≡ none
    answer-none b =
        let p = first_fault fault n in
        let e = no-fault-is b in
        ap (λ t. cond t (refused (fault p) p) none) (le-ltb p n (omega arith))

    -- where a refusal's number and place are read off an answer, and the number is 0 where nothing is refused
    module _
        (code place : A → ℕ)
        (code_of_lem : (c i : ℕ) → code (refused c i) ≡ c)
        (place_of : (c i : ℕ) → place (refused c i) ≡ i)
        (code-of-none : code none ≡ 0)
      where
        -- c at place i is answered exactly when place i has the fault c and no place before it has one
        pub refused-exactly : (c i : ℕ) → (c ≡ 0 → ⊥) → (answer ≡ refused c i) ↔ FirstFault fault n c i
        refused-exactly c i z = (only, answer-at c i z)
          where
            only : answer ≡ refused c i → FirstFault fault n c i
            only e =
                elim walk [
                  | faultless b ↦ absurd (z (sym (code_of_lem c i) ∙ ap code (sym e ∙ answer-none b) ∙ code-of-none))
                  | faulty-at j m f ↦
                      let r = sym (answer-at (fault j) j m f) ∙ e in
                      let p = sym (place_of (fault j) j) ∙ ap place r ∙ place_of c i in
                      let q = sym (code_of_lem (fault j) j) ∙ ap code r ∙ code_of_lem c i in
                      subst (FirstFault fault n c) p (f.0, q, f.2)
                ]

        -- nothing is refused exactly when no place has a fault
        pub none-exactly : (answer ≡ none) ↔ NoFaultBefore fault n
        none-exactly = (only, answer-none)
          where
            only : answer ≡ none → NoFaultBefore fault n
            only e =
                elim walk [
                  | faultless b ↦ b
                  | faulty-at j m f ↦
                      let r = sym (answer-at (fault j) j m f) ∙ e in
                      absurd (m (sym (code_of_lem (fault j) j) ∙ ap code r ∙ code-of-none))
                ]
