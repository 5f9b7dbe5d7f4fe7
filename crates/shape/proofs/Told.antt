-- An item's fault in the table's words: which of them is so of an item, and which number it then has; the end's; and
-- the kinds by their codes.
-- Assumes nothing.
use mathlib.Core.Path.{◌≡◌, refl, ap, sym, ◌∙◌}
use mathlib.Core.Logic.{◌↔◌, inl, inr}
use mathlib.Core.Bool.{false}
use Prim.Native.Nat.{ℕ, ◌≤◌, ◌<◌}
use native.Mathlib.Decide.{ℕ_discrete, dec_lt}
use native.Mathlib.Omega.{arith}
use borrow.Author.Tests.{ne_eqb, eqb-false}
use lib.Dec.{eqb}
use Rattle.shape.specs.Items.{Operation, Kind, literal, operation, unknown, kind_of}
use Rattle.shape.specs.Shape.{fault_of, end_fault}
use Rattle.shape.specs.Faults.{Operates, UnknownOrNumbered, AboveLimit, TooFewOnHand, HandFull, Faultless}
use Rattle.shape.proofs.Codes.{kind_at, kind-operation, kind_unknown}
use Rattle.shape.proofs.Shapes.{literal-above, literal-beyond-hand, literal-passes}
use Rattle.shape.proofs.Shapes.{operation-numbered, operation-lacking, operation-passes}

-- ---- an item

module _ (M held : ℕ) (kind : Kind) (number : ℕ) where
  abbrev fault : ℕ
  fault = fault_of M held kind number

  -- what is so of an item, and the fault that it then has
  data Standing : Type 0 where
    unknown-or-numbered : UnknownOrNumbered kind number → fault ≡ 8 → Standing
    above-limit : AboveLimit M kind number → fault ≡ 9 → Standing
    too-few : TooFewOnHand held kind number → fault ≡ 10 → Standing
    hand-full : HandFull M held kind number → fault ≡ 11 → Standing
    none : Faultless M held kind number → fault ≡ 0 → Standing

  of-literal : (kind ≡ literal) → {c : ℕ} → fault_of M held literal number ≡ c → fault ≡ c
  of-literal k e = ap (λ k. fault_of M held k number) k ∙ e

  of-operation : (o : Operation) → kind ≡ operation o → {c : ℕ} → fault_of M held (operation o) number ≡ c → fault ≡ c
  of-operation o k e = ap (λ k. fault_of M held k number) k ∙ e

  pub unknown-or-numbered-8 : UnknownOrNumbered kind number → fault ≡ 8
  unknown-or-numbered-8 (inl k) = ap (λ k. fault_of M held k number) k
  unknown-or-numbered-8 (inr (o, n)) = of-operation o.0 o.1 (operation-numbered held number n)

  pub above-limit-9 : AboveLimit M kind number → fault ≡ 9
  above-limit-9 (k, h) = of-literal k (literal-above M held number h)

  pub too-few-10 : TooFewOnHand held kind number → fault ≡ 10
  too-few-10 (o, z, h) = of-operation o.0 o.1 (operation-lacking held number z h)

  pub hand-full-11 : HandFull M held kind number → fault ≡ 11
  hand-full-11 (k, h, f) = of-literal k (literal-beyond-hand M held number h f)

  pub faultless-0 : Faultless M held kind number → fault ≡ 0
  faultless-0 (inl (k, h, f)) = of-literal k (literal-passes M held number h f)
  faultless-0 (inr (o, z, h)) = of-operation o.0 o.1 (operation-passes held number z h)

  is-unknown-or-numbered : UnknownOrNumbered kind number → Standing
  is-unknown-or-numbered t = unknown-or-numbered t (unknown-or-numbered-8 t)

  is-above-limit : AboveLimit M kind number → Standing
  is-above-limit t = above-limit t (above-limit-9 t)

  is-too-few : TooFewOnHand held kind number → Standing
  is-too-few t = too-few t (too-few-10 t)

  is-hand-full : HandFull M held kind number → Standing
  is-hand-full t = hand-full t (hand-full-11 t)

  is-faultless : Faultless M held kind number → Standing
  is-faultless t = none t (faultless-0 t)

-- every item stands in one of these ways
standing : (M held : ℕ) (kind : Kind) (number : ℕ) → Standing M held kind number
standing M held literal number =
    elim (dec_lt M number) [
      | yes h ↦ is-above-limit M held literal number (refl, h)
      | no n ↦
          let l : number ≤ M = omega arith in
          elim (dec_lt held 32) [
            | yes h ↦ is-faultless M held literal number (inl (refl, l, h))
            | no m ↦ let f : 32 ≤ held = omega arith in is-hand-full M held literal number (refl, l, f)
          ]
    ]
standing M held (operation o) number =
    elim (ℕ_discrete number 0) [
      | no n ↦ is-unknown-or-numbered M held (operation o) number (inr ((o, refl), n))
      | yes z ↦
          elim (dec_lt held 2) [
            | yes h ↦ is-too-few M held (operation o) number ((o, refl), z, h)
            | no m ↦ let f : 2 ≤ held = omega arith in is-faultless M held (operation o) number (inr ((o, refl), z, f))
          ]
    ]
standing M held unknown number = is-unknown-or-numbered M held unknown number (inl refl)

-- so the number tells in which
module _ (M held : ℕ) (kind : Kind) (number : ℕ) where
  other : {A : Type 0} {c d : ℕ} → fault_of M held kind number ≡ c → eqb c d ≡ false → fault_of M held kind number ≡ d → A
  other {A} {c} {d} e t f = absurd (eqb-false c d t (sym e ∙ f))

  pub sentences
      : (fault_of M held kind number ≡ 8 → UnknownOrNumbered kind number)
      × (fault_of M held kind number ≡ 9 → AboveLimit M kind number)
      × (fault_of M held kind number ≡ 10 → TooFewOnHand held kind number)
      × (fault_of M held kind number ≡ 11 → HandFull M held kind number)
      × (fault_of M held kind number ≡ 0 → Faultless M held kind number)
  sentences =
      elim (standing M held kind number) [
        | unknown-or-numbered t e ↦ (λ f. t, other e refl, other e refl, other e refl, other e refl)
        | above-limit t e ↦ (other e refl, λ f. t, other e refl, other e refl, other e refl)
        | too-few t e ↦ (other e refl, other e refl, λ f. t, other e refl, other e refl)
        | hand-full t e ↦ (other e refl, other e refl, other e refl, λ f. t, other e refl)
        | none t e ↦ (other e refl, other e refl, other e refl, other e refl, λ f. t)
      ]

-- ---- the end

pub end-more : (held : ℕ) → 1 < held → end_fault held ≡ 12
end-more held h = simp (ne_eqb held 1 (λ e. omega arith), ne_eqb held 0 (λ e. omega arith))

pub end-more-only : (held : ℕ) → end_fault held ≡ 12 → 1 < held
end-more-only held e =
    elim (ℕ_discrete held 0) [
      | yes z ↦ let f : ⊥ = omega (arith, sym (ap end_fault z) ∙ e) in absurd f
      | no n ↦
          elim (ℕ_discrete held 1) [
            | yes o ↦ let f : ⊥ = omega (arith, sym (ap end_fault o) ∙ e) in absurd f
            | no m ↦ omega arith
          ]
    ]

-- ---- a code's kind

other-kind : {A : Type 0} {j k : Kind} (c : ℕ) → kind_of c ≡ j → kind_of c ≡ k → (j ≡ k → ⊥) → A
other-kind c p q n = absurd (n (sym p ∙ q))

pub code-of-literal : (c : ℕ) → (kind_of c ≡ literal) ↔ (c ≡ 0)
code-of-literal c = (only, λ e. ap kind_of e ∙ kind_at 0)
  where
    only : kind_of c ≡ literal → c ≡ 0
    only e =
        elim (ℕ_discrete c 0) [
          | yes z ↦ z
          | no n ↦
              elim (dec_lt c 7) [
                | yes h ↦
                    let o = kind-operation c (omega arith) h in
                    other-kind c e o.1 (λ x. let z : ◌≡◌ {A = ℕ} 0 1 = cc in omega arith)
                | no m ↦
                    other-kind c e (kind_unknown c (omega arith)) (λ x. let z : ◌≡◌ {A = ℕ} 0 1 = cc in omega arith)
              ]
        ]

pub code-of-operation : (c : ℕ) → Operates (kind_of c) ↔ ((1 ≤ c) × (c ≤ 6))
code-of-operation c = (only, λ p. let h : c < 7 = omega (arith, p) in kind-operation c p.0 h)
  where
    only : Operates (kind_of c) → (1 ≤ c) × (c ≤ 6)
    only (o, e) =
        elim (ℕ_discrete c 0) [
          | yes z ↦ other-kind c e (ap kind_of z ∙ kind_at 0) (λ x. let z : ◌≡◌ {A = ℕ} 0 1 = cc in omega arith)
          | no n ↦
              elim (dec_lt c 7) [
                | yes h ↦ (omega arith, omega arith)
                | no m ↦
                    other-kind c e (kind_unknown c (omega arith)) (λ x. let z : ◌≡◌ {A = ℕ} 0 1 = cc in omega arith)
              ]
        ]

pub code-of-unknown : (c : ℕ) → (kind_of c ≡ unknown) ↔ (6 < c)
code-of-unknown c = (only, kind_unknown c)
  where
    only : kind_of c ≡ unknown → 6 < c
    only e =
        elim (ℕ_discrete c 0) [
          | yes z ↦ other-kind c e (ap kind_of z ∙ kind_at 0) (λ x. let z : ◌≡◌ {A = ℕ} 0 1 = cc in omega arith)
          | no n ↦
              elim (dec_lt c 7) [
                | yes h ↦
                    let o = kind-operation c (omega arith) h in
                    other-kind c e o.1 (λ x. let z : ◌≡◌ {A = ℕ} 0 1 = cc in omega arith)
                | no m ↦ omega arith
              ]
        ]
