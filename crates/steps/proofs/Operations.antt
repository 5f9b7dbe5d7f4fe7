-- An operation on the values of two numbers: it is refused exactly where the meaning refuses it, and otherwise keeps to what the
-- two numbers come to.
-- Assumes nothing.
use mathlib.Core.Path.{◌≡◌, refl, ap, sym, ◌∙◌, subst}
use mathlib.Core.Logic.{inl, inr}
use mathlib.Core.Bool.{true, false}
use Prim.Native.Nat.{ℕ, ◌^◌, ◌≤◌, ◌<◌}
use native.Mathlib.Nat.{zero-add}
use native.Mathlib.Decide.{dec_le}
use native.Mathlib.Omega.{arith}
use lib.Dec.{eqb}
use borrow.Author.Tests.{eqb-true}
use Rattle.whole.specs.Logarithm.{log_of}
use Rattle.checked.specs.declared.types.Checked.TheVariants.{Fits}
use Rattle.checked.specs.Value.{Value, checked_of, OneOverflowed}
use Rattle.checked.specs.Paper.{Paper, value_in}
use Rattle.checked.proofs.Limit.{fits, over, settled-at}
use Rattle.checked.proofs.Powers.{power-begins}
use Rattle.checked.proofs.Logarithms.{log-at-most}
use Rattle.checked.proofs.Refused.{value-given}
use Rattle.checked.proofs.Standing.{stands, sum-of-values, product-of-values}
use Rattle.shape.specs.Items.{Operation, sum, product, quotient, remainder, power, logarithm}
use Rattle.meaning.specs.Meaning.{worth, refusal_at}
use Rattle.meaning.specs.Alone.{answer, answer_on}
use Rattle.meaning.specs.Count.{digits, further_at}
use Rattle.meaning.proofs.Refusals.{BothFit, passed, counted, both-fit-or-not}
use Rattle.meaning.proofs.SameAsChecked.{same-as-checked, refused-as}
use Rattle.meaning.proofs.Bound.{nothing-further}
use Rattle.steps.specs.Steps.{Outcome, fails, powering, dividing, at_once, entered, begun}
use Rattle.steps.proofs.Outcomes.{Keeps}
use Rattle.steps.proofs.Powers.{powering-keeps}
use Rattle.steps.proofs.Logarithms.{dividing-keeps}
use Rattle.steps.proofs.Apart.{power-apart, logarithm-apart}

-- ---- the same refusal

module _ (M : ℕ) (o : Operation) (l r : ℕ) where
  -- the answer of the values of l and r
  abbrev answered : Paper
  answered = answer_on M o (checked_of M l) (checked_of M r)

  same-refusal : answered.code ≡ refusal_at M o l r
  same-refusal = refused-as M l r o (checked_of M l) (checked_of M r) (stands M l) (stands M r)

  on-refusal : ℕ → Outcome
  on-refusal n = elim (eqb n 0) [ true ↦ entered M o (checked_of M l) (checked_of M r) | false ↦ fails n ]

  begun-well : refusal_at M o l r ≡ 0 → begun M o (checked_of M l) (checked_of M r) ≡ entered M o (checked_of M l) (checked_of M r)
  unfolding begun on-refusal
  begun-well e = ap on-refusal (same-refusal ∙ e)

  pub begun-ill : eqb (refusal_at M o l r) 0 ≡ false → begun M o (checked_of M l) (checked_of M r) ≡ fails (refusal_at M o l r)
  unfolding begun on-refusal
  begun-ill e =
      ap on-refusal same-refusal
      ∙ ap (λ b. elim b [ true ↦ entered M o (checked_of M l) (checked_of M r) | false ↦ fails (refusal_at M o l r) ]) e

  -- ---- the same value

  -- what isn't refused has the value of what l and r come to
  at-once : refusal_at M o l r ≡ 0 → value_in answered ≡ checked_of M (worth o l r)
  at-once e =
      ap value_in (sym (same-as-checked M l r o) ∙ ap (λ c. answer c (checked_of M (worth o l r))) e)
      ∙ value-given (checked_of M (worth o l r))

-- what an operation that isn't refused comes to, on two values of l and r
abbrev Worked : ℕ → ℕ → ℕ → Operation → Value → Value → Type 0
Worked M l r o v w = Keeps M (worth o l r) (further_at M o l r) (entered M o v w)

module _ (M l r : ℕ) where
  -- a power and a logarithm of two numbers that fit
  power-on-numbers : BothFit M l r → Worked M l r power (Fits l) (Fits r)
  power-on-numbers (h, k) =
      subst (λ n. Keeps M (l ^ r) n (powering (checked_of M 1) (Fits l) r)) (sym (counted M l r (digits r) (h, k)))
      (powering-keeps M (l ^ r) (checked_of M 1) (Fits l) r (settled-at M 1 refl) (fits M l h) k
      (power-begins M l r refl (fits M l h)))

  logarithm-on-numbers : BothFit M l r → 2 ≤ l → Worked M l r logarithm (Fits l) (Fits r)
  logarithm-on-numbers (h, k) b =
      subst (λ n. Keeps M (log_of l r) n (dividing l r 0)) (sym (counted M l r (log_of l r) (h, k)))
      (dividing-keeps M (log_of l r) l r 0 b k (zero-add (log_of l r)) (omega (arith, log-at-most l r b)))

  -- so of their values
  on-values
      : (o : Operation) → BothFit M l r → Worked M l r o (Fits l) (Fits r) →
      Worked M l r o (checked_of M l) (checked_of M r)
  on-values o (h, k) w =
      subst (λ v. Worked M l r o v (checked_of M r)) (fits M l h)
      (subst (λ v. Worked M l r o (Fits l) v) (fits M r k) w)

  -- with one that doesn't fit, an operation has its value at once
  apart
      : (o : Operation) → (BothFit M l r → ⊥) →
      entered M o (checked_of M l) (checked_of M r) ≡ at_once (answer_on M o (checked_of M l) (checked_of M r)) →
      refusal_at M o l r ≡ 0 → Worked M l r o (checked_of M l) (checked_of M r)
  apart o n h e =
      subst (Keeps M (worth o l r) (further_at M o l r)) (sym h) (at-once M o l r e, sym (nothing-further M o l r n))

  one-overflowed : (BothFit M l r → ⊥) → OneOverflowed (checked_of M l) (checked_of M r)
  one-overflowed n =
      elim (dec_le l M) [
        | yes p ↦
            let h : M < r = elim (dec_le r M) [ yes q ↦ absurd (n (p, q)) | no k ↦ omega arith ] in
            inr (sym (over M r h))
        | no k ↦ let h : M < l = omega arith in inl (sym (over M l h))
      ]

  worked : (o : Operation) → refusal_at M o l r ≡ 0 → Worked M l r o (checked_of M l) (checked_of M r)
  worked sum e = (sum-of-values M l r, refl)
  worked product e = (product-of-values M l r, refl)
  worked quotient e = (at-once M quotient l r e, refl)
  worked remainder e = (at-once M remainder l r e, refl)
  worked power e =
      both-fit-or-not M l r (λ b. on-values power b (power-on-numbers b))
      (λ n. apart power n (power-apart M (checked_of M l) (checked_of M r) (one-overflowed n)) e)
  worked logarithm e =
      both-fit-or-not M l r
      (λ b. on-values logarithm b (logarithm-on-numbers b ((passed M logarithm l r e).1 b.0)))
      (λ n. apart logarithm n (logarithm-apart M (checked_of M l) (checked_of M r) (one-overflowed n)) e)

  -- begun and not refused, it keeps to what l and r come to, with its further steps to go
  pub operation-keeps
      : (o : Operation) → eqb (refusal_at M o l r) 0 ≡ true →
      Keeps M (worth o l r) (further_at M o l r) (begun M o (checked_of M l) (checked_of M r))
  operation-keeps o q =
      let e = eqb-true (refusal_at M o l r) 0 q in
      subst (Keeps M (worth o l r) (further_at M o l r)) (sym (begun-well M o l r e)) (worked o e)
