-- An operation of a recipe answers what the same operation on checked values answers: the two tables of refusals and
-- results are one. So what checked values answer is what any numbers answer that they stand for.
-- Assumes nothing.
use mathlib.Core.Path.{◌≡◌, refl, ap, ap₂, sym, ◌∙◌, subst}
use mathlib.Core.Bool.{Bool, true, false, cond}
use Prim.Native.Nat.{ℕ, ◌/◌, ◌%◌}
use lib.Dec.{eqb}
use borrow.Author.Tests.{eqb-true, eq-eqb, lt-ltb}
use Rattle.whole.specs.Logarithm.{log_of}
use Rattle.checked.specs.declared.types.Checked.TheVariants.{Fits}
use Rattle.checked.specs.Value.{Value, Stands, checked_of}
use Rattle.checked.specs.Paper.{Paper, given, refused, value_in, quotient_of, remainder_of, logarithm_of}
use Rattle.checked.proofs.Limit.{fits, over}
use Rattle.checked.proofs.Known.{quotient-of-values, remainder-of-values, power-of-values, logarithm-of-values}
use Rattle.checked.proofs.Refused.{given-code, value-given}
use Rattle.checked.proofs.Standing.{standing, stands, sum-of-values, product-of-values}
use Rattle.shape.specs.Items.{Operation, sum, product, quotient, remainder, power, logarithm}
use Rattle.meaning.specs.Meaning.{worth, refusal_at}
use Rattle.meaning.specs.Alone.{answer, alone, answer_on}
use Rattle.meaning.proofs.Refusals.{Above, BothFit, Passes, ByZero, SmallBase}
use Rattle.meaning.proofs.Refusals.{row, passes, overflowed, by-zero, small-base}

-- the code of an answer
pub answer-code : (c : ℕ) (v : Value) → (answer c v).code ≡ c
answer-code c v = by-test (eqb c 0) refl
  where
    by-test : (t : Bool) → eqb c 0 ≡ t → (cond t (given v) (refused c)).code ≡ c
    by-test true e = given-code v ∙ sym (eqb-true c 0 e)
    by-test false e = refl

module _ (M l r : ℕ) where
  -- what the values of l and r answer
  abbrev on_values : Operation → Paper
  on_values o = answer_on M o (checked_of M l) (checked_of M r)

  -- ---- row by row

  passes-same : (o : Operation) → Passes M o l r → given (checked_of M (worth o l r)) ≡ on_values o
  passes-same sum k = ap given (sym (sum-of-values M l r))
  passes-same product k = ap given (sym (product-of-values M l r))
  passes-same quotient (p, n) = sym (quotient-of-values M l r p n)
  passes-same remainder (p, n) = sym (remainder-of-values M l r p n)
  passes-same power k = ap given (sym (power-of-values M l r))
  passes-same logarithm (q, h) = sym (logarithm-of-values M l r q h)

  above-same : (o : Operation) → Above M o l r → refused 3 ≡ on_values o
  above-same sum h = absurd h
  above-same product h = absurd h
  above-same quotient h = ap (λ v. quotient_of v (checked_of M r)) (over M l h)
  above-same remainder h = ap (λ v. remainder_of v (checked_of M r)) (over M l h)
  above-same power h = absurd h
  above-same logarithm h = ap (λ v. logarithm_of (checked_of M l) v) (over M r h)

  zero-same : (o : Operation) → ByZero o r → BothFit M l r → refused 1 ≡ on_values o
  zero-same sum z b = absurd z
  zero-same product z b = absurd z
  zero-same quotient z (p, q) =
      sym (ap (λ t. cond t (refused 1) (given (Fits (l / r)))) (eq-eqb r 0 z))
      ∙ ap₂ quotient_of (fits M l p) (fits M r q)
  zero-same remainder z (p, q) =
      sym (ap (λ t. cond t (refused 1) (given (Fits (l % r)))) (eq-eqb r 0 z))
      ∙ ap₂ remainder_of (fits M l p) (fits M r q)
  zero-same power z b = absurd z
  zero-same logarithm z b = absurd z

  base-same : (o : Operation) → SmallBase o l → BothFit M l r → refused 2 ≡ on_values o
  base-same sum h b = absurd h
  base-same product h b = absurd h
  base-same quotient h b = absurd h
  base-same remainder h b = absurd h
  base-same power h b = absurd h
  base-same logarithm h (p, q) =
      sym (ap (λ t. cond t (refused 2) (given (Fits (log_of l r)))) (lt-ltb l 2 h))
      ∙ ap₂ logarithm_of (fits M l p) (fits M r q)

  -- ---- the same answer

  pub same-as-checked : (o : Operation) → alone M o l r ≡ answer_on M o (checked_of M l) (checked_of M r)
  same-as-checked o =
      elim (row M o l r) [
        | passes k e ↦ answered e ∙ passes-same o k
        | overflowed k e ↦ answered e ∙ above-same o k
        | by-zero k b e ↦ answered e ∙ zero-same o k b
        | small-base k b e ↦ answered e ∙ base-same o k b
      ]
    where
      answered : {c : ℕ} → refusal_at M o l r ≡ c → alone M o l r ≡ answer c (checked_of M (worth o l r))
      answered e = ap (λ c. answer c (checked_of M (worth o l r))) e

  -- ---- whatever numbers the operands stand for

  module _ (o : Operation) (a b : Value) (p : Stands M a l) (q : Stands M b r) where
    answered-as : answer_on M o a b ≡ alone M o l r
    answered-as = ap₂ (answer_on M o) (standing M a l p) (standing M b r q) ∙ sym (same-as-checked o)

    -- the refusal is theirs
    pub refused-as : (answer_on M o a b).code ≡ refusal_at M o l r
    refused-as = ap (λ x. x.code) answered-as ∙ answer-code (refusal_at M o l r) (checked_of M (worth o l r))

    -- and a value that is given stands for what they come to
    pub given-as : (c : Value) → answer_on M o a b ≡ given c → Stands M c (worth o l r)
    given-as c e =
        let z : refusal_at M o l r ≡ 0 = sym refused-as ∙ ap (λ x. x.code) e ∙ given-code c in
        let so = sym answered-as ∙ e in
        let same = sym (ap (λ k. answer k (checked_of M (worth o l r))) z) ∙ so in
        subst (λ v. Stands M v (worth o l r))
        (sym (value-given (checked_of M (worth o l r))) ∙ ap value_in same ∙ value-given c)
        (stands M (worth o l r))
