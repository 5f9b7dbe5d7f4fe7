-- The number with which an operation's first step is refused is that of checked values, and which of the table's rows
-- that is.
-- Assumes nothing.
use mathlib.Core.Path.{◌≡◌, refl, ap, sym, ◌∙◌}
use mathlib.Core.Logic.{◌↔◌}
use mathlib.Core.Bool.{Bool, true, false, cond}
use Prim.Native.Nat.{ℕ}
use native.Mathlib.Decide.{ℕ_discrete, dec_lt}
use native.Mathlib.Omega.{arith}
use borrow.Author.Tests.{eqb-true, ne_eqb, le-ltb}
use lib.Dec.{eqb, leb}
use Rattle.checked.specs.declared.types.Checked.TheVariants.{Fits, Overflowed}
use Rattle.checked.specs.Value.{Value, checked_of, sum_of, product_of, raised_of, BothNumbers}
use Rattle.checked.specs.Paper.{given, refused}
use Rattle.checked.proofs.Refused.{given-code}
use Rattle.checked.proofs.Promises.{quotient-3-exactly, remainder-3-exactly, logarithm-3-exactly}
use Rattle.checked.proofs.Promises.{quotient-1-exactly, remainder-1-exactly, logarithm-2-exactly}
use Rattle.shape.specs.Items.{Operation, sum, product, quotient, remainder, power, logarithm}
use Rattle.meaning.specs.Told.{Asked, ByZero, SmallBase}
use Rattle.meaning.specs.Alone.{answer_on}
use Rattle.steps.specs.declared.types.Phase.TheVariants.{InPower, InLogarithm}
use Rattle.steps.specs.Steps.{Outcome, value, within, fails, powering, dividing, entered, begun}

-- ---- the number

-- a refusal's number, or 0
abbrev pub code_of : Outcome → ℕ
code_of (value v) = 0
code_of (within p) = 0
code_of (fails c) = c

powering-code : (first second : Value) (e : ℕ) → code_of (powering first second e) ≡ 0
powering-code first second e = by-test (eqb e 0)
  where
    by-test
        : (b : Bool) →
        code_of (cond b (value first) (within (InPower (record { first = first; second = second; exponent = e })))) ≡ 0
    by-test true = refl
    by-test false = refl

dividing-code : (base left count : ℕ) → code_of (dividing base left count) ≡ 0
dividing-code base left count = by-test (leb base left)
  where
    by-test
        : (b : Bool) →
        code_of (cond b (within (InLogarithm (record { base = base; left = left; count = count }))) (value (Fits count)))
        ≡ 0
    by-test true = refl
    by-test false = refl

entered-code : (M : ℕ) (o : Operation) (a b : Value) → code_of (entered M o a b) ≡ 0
entered-code M sum a b = refl
entered-code M product a b = refl
entered-code M quotient a b = refl
entered-code M remainder a b = refl
entered-code M power (Fits l) (Fits r) = powering-code (checked_of M 1) (Fits l) r
entered-code M power (Fits l) Overflowed = refl
entered-code M power Overflowed b = refl
entered-code M logarithm (Fits l) (Fits r) = dividing-code l r 0
entered-code M logarithm (Fits l) Overflowed = refl
entered-code M logarithm Overflowed b = refl

module _ (M : ℕ) (o : Operation) (a b : Value) where
  -- the number that checked values give
  abbrev pub table_code : ℕ
  table_code = (answer_on M o a b).code

  pub begun-code : code_of (begun M o a b) ≡ table_code
  unfolding begun
  begun-code = by-test (eqb table_code 0) refl
    where
      by-test
          : (t : Bool) → eqb table_code 0 ≡ t →
          code_of (elim t [ true ↦ entered M o a b | false ↦ fails table_code ]) ≡ table_code
      by-test true e = entered-code M o a b ∙ sym (eqb-true table_code 0 e)
      by-test false e = refl

  begun-fails : (c : ℕ) → eqb c 0 ≡ false → table_code ≡ c → begun M o a b ≡ fails c
  unfolding begun
  begun-fails c n e =
      ap {B = Outcome} (λ c. elim (eqb c 0) [ true ↦ entered M o a b | false ↦ fails c ]) e
      ∙ ap {B = Outcome} (λ t. elim t [ true ↦ entered M o a b | false ↦ fails c ]) n

  pub fails-exactly : (c : ℕ) → (c ≡ 0 → ⊥) → (begun M o a b ≡ fails c) ↔ (table_code ≡ c)
  fails-exactly c n = (λ e. sym begun-code ∙ ap code_of e, begun-fails c (ne_eqb c 0 n))

-- ---- which row it is

module _ (M : ℕ) (a b : Value) where
  pub data Row (o : Operation) : Type 0 where
    gives : table_code M o a b ≡ 0 → Row o
    overflowed : Asked (λ v. v ≡ Overflowed) o a b → table_code M o a b ≡ 3 → Row o
    by-zero : BothNumbers a b (λ l r. ByZero o r) → table_code M o a b ≡ 1 → Row o
    small-base : BothNumbers a b (λ l r. SmallBase o l) → table_code M o a b ≡ 2 → Row o

-- refused with k where the test holds, and else a value
tested
    : (k m : ℕ) {t s : Bool} → t ≡ s →
    (cond t (refused k) (given (Fits m))).code ≡ (cond s (refused k) (given (Fits m))).code
tested k m e = ap (λ t. (cond t (refused k) (given (Fits m))).code) e

pub row : (M : ℕ) (o : Operation) (a b : Value) → Row M a b o
row M sum a b = gives (given-code (sum_of M a b))
row M product a b = gives (given-code (product_of M a b))
row M quotient Overflowed b = overflowed refl refl
row M quotient (Fits l) Overflowed = gives refl
row M quotient (Fits l) (Fits r) =
    elim (ℕ_discrete r 0) [
      | yes z ↦ by-zero (l, r, refl, refl, z) ((quotient-1-exactly (Fits l) (Fits r)).1 (l, r, refl, refl, z))
      | no n ↦ gives (tested 1 _ (ne_eqb r 0 n))
    ]
row M remainder Overflowed b = overflowed refl refl
row M remainder (Fits l) Overflowed = gives refl
row M remainder (Fits l) (Fits r) =
    elim (ℕ_discrete r 0) [
      | yes z ↦ by-zero (l, r, refl, refl, z) ((remainder-1-exactly (Fits l) (Fits r)).1 (l, r, refl, refl, z))
      | no n ↦ gives (tested 1 _ (ne_eqb r 0 n))
    ]
row M power a b = gives (given-code (raised_of M a b))
row M logarithm (Fits l) Overflowed = overflowed refl refl
row M logarithm Overflowed Overflowed = overflowed refl refl
row M logarithm Overflowed (Fits r) = gives refl
row M logarithm (Fits l) (Fits r) =
    elim (dec_lt l 2) [
      | yes h ↦ small-base (l, r, refl, refl, h) ((logarithm-2-exactly (Fits l) (Fits r)).1 (l, r, refl, refl, h))
      | no n ↦ gives (tested 2 _ (le-ltb l 2 (omega arith)))
    ]

-- ---- and back

module _ (M : ℕ) (a b : Value) where
  pub asked-refused : (o : Operation) → Asked (λ v. v ≡ Overflowed) o a b → table_code M o a b ≡ 3
  asked-refused sum p = absurd p
  asked-refused product p = absurd p
  asked-refused quotient p = (quotient-3-exactly a b).1 p
  asked-refused remainder p = (remainder-3-exactly a b).1 p
  asked-refused power p = absurd p
  asked-refused logarithm p = (logarithm-3-exactly a b).1 p

  pub zero-refused : (o : Operation) → BothNumbers a b (λ l r. ByZero o r) → table_code M o a b ≡ 1
  zero-refused sum p = absurd p.4
  zero-refused product p = absurd p.4
  zero-refused quotient p = (quotient-1-exactly a b).1 p
  zero-refused remainder p = (remainder-1-exactly a b).1 p
  zero-refused power p = absurd p.4
  zero-refused logarithm p = absurd p.4

  pub base-refused : (o : Operation) → BothNumbers a b (λ l r. SmallBase o l) → table_code M o a b ≡ 2
  base-refused sum p = absurd p.4
  base-refused product p = absurd p.4
  base-refused quotient p = absurd p.4
  base-refused remainder p = absurd p.4
  base-refused power p = absurd p.4
  base-refused logarithm p = (logarithm-2-exactly a b).1 p

-- ---- a phase

-- an outcome in a phase
abbrev pub InPhase : Outcome → Type 0
InPhase (value v) = ⊥
InPhase (within p) = Unit {0}
InPhase (fails c) = ⊥

entered-phase
    : (M : ℕ) (o : Operation) (a b : Value) → InPhase (entered M o a b) → BothNumbers a b (λ l r. Unit {0})
entered-phase M sum a b h = absurd h
entered-phase M product a b h = absurd h
entered-phase M quotient a b h = absurd h
entered-phase M remainder a b h = absurd h
entered-phase M power (Fits l) (Fits r) h = (l, r, refl, refl, tt)
entered-phase M power (Fits l) Overflowed h = absurd h
entered-phase M power Overflowed b h = absurd h
entered-phase M logarithm (Fits l) (Fits r) h = (l, r, refl, refl, tt)
entered-phase M logarithm (Fits l) Overflowed h = absurd h
entered-phase M logarithm Overflowed b h = absurd h

-- so where an operand is overflowed an operation enters none
pub begun-phase
    : (M : ℕ) (o : Operation) (a b : Value) → InPhase (begun M o a b) → BothNumbers a b (λ l r. Unit {0})
unfolding begun
begun-phase M o a b = by-test (eqb (table_code M o a b) 0)
  where
    by-test
        : (t : Bool) → InPhase (elim t [ true ↦ entered M o a b | false ↦ fails (table_code M o a b) ]) →
        BothNumbers a b (λ l r. Unit {0})
    by-test true h = entered-phase M o a b h
    by-test false h = absurd h
