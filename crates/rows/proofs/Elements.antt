-- What an operation of a row comes to, by its kind.
-- Assumes nothing.
use mathlib.Core.Logic.{◌↔◌, ◌⊎◌, inl, inr}
use mathlib.Core.Path.{◌≡◌, refl, ap, sym, ◌∙◌}
use Prim.Native.Nat.{ℕ, ◌<◌}
use native.Mathlib.Decide.{dec_lt, ℕ_discrete}
use native.Mathlib.Omega.{arith}
use Rattle.shape.specs.Items.{Operation, Kind, literal, operation, unknown, kind_of}
use Rattle.razovinto.specs.Six.{answer_of}
use Rattle.razovinto.proofs.Operations.{code-below-3}
use Rattle.checked.specs.Paper.{Paper, refused}
use Rattle.shape.proofs.Codes.{kind_at, kind-operation, kind_unknown}
use Rattle.rows.specs.Rows.{answer_as, element_of}

module _ (k l r : ℕ) where
  -- what the kind's own answer is, is the element
  pub element-as : {p : Paper} (kind : Kind) → kind_of k ≡ kind → p ≡ answer_as kind l r → p ≡ element_of k l r
  unfolding element_of
  element-as kind e a = a ∙ ap (λ q. answer_as q l r) (sym e)

  -- 0 is a literal's, and there is no kind from 7 on
  pub other-kind : (k ≡ 0) ⊎ (6 < k) → element_of k l r ≡ refused 8
  other-kind (inl z) = sym (element-as literal (ap kind_of z ∙ kind_at 0) refl)
  other-kind (inr h) = sym (element-as unknown (kind_unknown k h) refl)

  -- one of two it is: one of the six operations, or refused with 8
  pub data Known : Type 0 where
    known : (o : Operation) → kind_of k ≡ operation o → element_of k l r ≡ answer_of o l r → Known
    other : (k ≡ 0) ⊎ (6 < k) → element_of k l r ≡ refused 8 → Known

  pub which : Known
  which =
      elim (ℕ_discrete k 0) [
        | yes z ↦ other (inl z) (other-kind (inl z))
        | no n ↦
            elim (dec_lt 6 k) [
              | yes h ↦ other (inr h) (other-kind (inr h))
              | no m ↦
                  let some : 0 < k = omega arith in
                  let few : k < 7 = omega arith in
                  let (o, e) = kind-operation k some few in
                  known o e (sym (element-as (operation o) e refl))
            ]
      ]

  -- a code below 8 is the single operation's: where each operation gives it exactly when P holds, so does the element
  pub code-exactly
      : (c : ℕ) (P : Operation → Type 0) → c < 8 → ((o : Operation) → ((answer_of o l r).code ≡ c) ↔ P o) →
      ((element_of k l r).code ≡ c) ↔ ((o : Operation) × ((kind_of k ≡ operation o) × P o))
  code-exactly c P low single = (only, back)
    where
      only : (element_of k l r).code ≡ c → (o : Operation) × ((kind_of k ≡ operation o) × P o)
      only h =
          elim which [
            | known o e a ↦ (o, (e, (single o).0 (sym (ap (λ p. p.code) a) ∙ h)))
            | other g a ↦ let d = ap (λ p. p.code) a in let f : ⊥ = omega arith in absurd f
          ]

      back : (o : Operation) × ((kind_of k ≡ operation o) × P o) → (element_of k l r).code ≡ c
      back (o, (e, h)) = sym (ap (λ p. p.code) (element-as (operation o) e refl)) ∙ (single o).1 h

  pub code-below-9 : (element_of k l r).code < 9
  code-below-9 =
      elim which [
        | known o e a ↦ let b = code-below-3 o l r in let c = ap (λ p. p.code) a in omega arith
        | other h a ↦ let c = ap (λ p. p.code) a in omega arith
      ]
