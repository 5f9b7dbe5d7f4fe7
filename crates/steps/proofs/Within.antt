-- What a step of an item comes to is never a phase between items.
-- Assumes nothing.
use mathlib.Core.Bool.{Bool, true, false, cond}
use Prim.Native.Nat.{ℕ, suc, ◌/◌, ◌%◌}
use lib.Dec.{eqb, leb}
use Rattle.checked.specs.declared.types.Checked.TheVariants.{Fits, Overflowed}
use Rattle.checked.specs.Value.{Value, checked_of, product_of}
use Rattle.shape.specs.Items.{Operation, sum, product, quotient, remainder, power, logarithm}
use Rattle.meaning.specs.Alone.{answer_on}
use Rattle.steps.specs.declared.types.Power.{Power}
use Rattle.steps.specs.declared.types.Logarithm.{Logarithm}
use Rattle.steps.specs.declared.types.Phase.TheVariants.{Between, InPower, InLogarithm}
use Rattle.steps.specs.Steps.{Outcome, value, within, fails, powering, power_step, dividing, logarithm_step}
use Rattle.steps.specs.Steps.{entered, begun}

abbrev pub Working : Outcome → Type 0
Working (value v) = Unit {0}
Working (within Between) = ⊥
Working (within (InPower p)) = Unit {0}
Working (within (InLogarithm q)) = Unit {0}
Working (fails code) = Unit {0}

-- ---- within a power and within a logarithm

powering-works : (first second : Value) (e : ℕ) → Working (powering first second e)
powering-works first second e = by-test (eqb e 0)
  where
    by-test
        : (b : Bool) →
        Working (cond b (value first) (within (InPower (record { first = first; second = second; exponent = e }))))
    by-test true = tt
    by-test false = tt

pub power-works : (M : ℕ) (p : Power) → Working (power_step M p.first p.second p.exponent)
power-works M p =
    powering-works (cond (eqb (p.exponent % 2) 1) (product_of M p.first p.second) p.first)
    (product_of M p.second p.second) (p.exponent / 2)

dividing-works : (base left count : ℕ) → Working (dividing base left count)
dividing-works base left count = by-test (leb base left)
  where
    by-test
        : (b : Bool) →
        Working
        (cond b (within (InLogarithm (record { base = base; left = left; count = count }))) (value (Fits count)))
    by-test true = tt
    by-test false = tt

pub logarithm-works : (q : Logarithm) → Working (logarithm_step q.base q.left q.count)
logarithm-works q = dividing-works q.base (q.left / q.base) (suc q.count)

-- ---- an operation begun

entered-works : (M : ℕ) (o : Operation) (a b : Value) → Working (entered M o a b)
entered-works M sum a b = tt
entered-works M product a b = tt
entered-works M quotient a b = tt
entered-works M remainder a b = tt
entered-works M power (Fits l) (Fits r) = powering-works (checked_of M 1) (Fits l) r
entered-works M power (Fits l) Overflowed = tt
entered-works M power Overflowed b = tt
entered-works M logarithm (Fits l) (Fits r) = dividing-works l r 0
entered-works M logarithm (Fits l) Overflowed = tt
entered-works M logarithm Overflowed b = tt

pub begun-works : (M : ℕ) (o : Operation) (a b : Value) → Working (begun M o a b)
unfolding begun
begun-works M o a b = by-test (eqb code 0)
  where
    code : ℕ
    code = (answer_on M o a b).code

    by-test : (t : Bool) → Working (elim t [ true ↦ entered M o a b | false ↦ fails code ])
    by-test true = entered-works M o a b
    by-test false = tt
