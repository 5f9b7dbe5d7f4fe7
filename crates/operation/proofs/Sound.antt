-- The phases in which an operation may be: every phase that one begins with is such, and there its further steps are
-- those of the run.
-- Assumes nothing.
use mathlib.Core.Path.{◌≡◌, refl, ap, ap₂, sym}
use mathlib.Core.Bool.{Bool, true, false, cond, ◌&&◌}
use Prim.Native.Nat.{ℕ, ◌-◌, ◌≤◌, ◌<◌, zero-le}
use native.Mathlib.Omega.{arith}
use lib.Dec.{eqb, leb, ltb}
use borrow.Author.Tests.{eqb-true, le-leb, lt-leb, lt-ltb, le-ltb}
use Rattle.checked.specs.declared.types.Checked.TheVariants.{Fits, Overflowed}
use Rattle.checked.specs.Value.{Value, limit_of, checked_of}
use Rattle.checked.proofs.Promises.{logarithm-given-exactly}
use Rattle.shape.specs.Items.{Operation, sum, product, quotient, remainder, power, logarithm}
use Rattle.shape.specs.Items.{Kind, literal, operation, unknown}
use Rattle.meaning.specs.Alone.{answer_on}
use Rattle.steps.specs.declared.types.Logarithm.{Logarithm}
use Rattle.steps.specs.declared.types.Phase.{Phase}
use Rattle.steps.specs.declared.types.Phase.TheVariants.{Between, InPower, InLogarithm}
use Rattle.steps.specs.Steps.{Outcome, value, within, fails, powering, dividing, entered, begun}
use Rattle.steps.proofs.Within.{Working}
use Rattle.operation.specs.Work.{Reach, reach, gone_on, begun_as, sound, work_of}

-- ---- what is begun

abbrev pub SoundOutcome : Outcome → Type 0
SoundOutcome (value v) = Unit {0}
SoundOutcome (within p) = sound p ≡ true
SoundOutcome (fails code) = Unit {0}

powering-sound : (first second : Value) (e : ℕ) → SoundOutcome (powering first second e)
powering-sound first second e = by-test (eqb e 0)
  where
    by-test
        : (t : Bool) →
        SoundOutcome
        (cond t (value first) (within (InPower (record { first = first; second = second; exponent = e }))))
    by-test true = tt
    by-test false = refl

-- its count is 0
dividing-sound : (base left : ℕ) → 2 ≤ base → SoundOutcome (dividing base left 0)
dividing-sound base left h = by-test (leb base left) refl
  where
    by-test
        : (t : Bool) → leb base left ≡ t →
        SoundOutcome (cond t (within (InLogarithm (record { base = base; left = left; count = 0 }))) (value (Fits 0)))
    by-test true e = ap₂ ◌&&◌ (ap₂ ◌&&◌ (lt-ltb 1 base h) e) (le-leb 0 (limit_of 64 - left) zero-le)
    by-test false e = tt

entered-sound : (M : ℕ) (o : Operation) (a b : Value) → (answer_on M o a b).code ≡ 0 → SoundOutcome (entered M o a b)
entered-sound M sum a b k = tt
entered-sound M product a b k = tt
entered-sound M quotient a b k = tt
entered-sound M remainder a b k = tt
entered-sound M power (Fits l) (Fits r) k = powering-sound (checked_of M 1) (Fits l) r
entered-sound M power (Fits l) Overflowed k = tt
entered-sound M power Overflowed b k = tt
entered-sound M logarithm (Fits l) (Fits r) k =
    dividing-sound l r (((logarithm-given-exactly (Fits l) (Fits r)).0 k).2 l refl)
entered-sound M logarithm (Fits l) Overflowed k = tt
entered-sound M logarithm Overflowed b k = tt

operation-sound : (M : ℕ) (o : Operation) (a b : Value) → SoundOutcome (begun M o a b)
unfolding begun
operation-sound M o a b = by-test (eqb code 0) refl
  where
    code : ℕ
    code = (answer_on M o a b).code

    by-test : (t : Bool) → eqb code 0 ≡ t → SoundOutcome (elim t [ true ↦ entered M o a b | false ↦ fails code ])
    by-test true e = entered-sound M o a b (eqb-true code 0 e)
    by-test false e = tt

pub begun-sound : (M : ℕ) (k : Kind) (a b : Value) → SoundOutcome (begun_as M k a b)
begun-sound M literal a b = tt
begun-sound M (operation o) a b = operation-sound M o a b
begun-sound M unknown a b = tt

-- ---- the further steps

-- between items none is at work
pub sound-works : (p : Phase) → sound p ≡ true → Working (within p)
sound-works Between e = let z : ◌≡◌ {A = ℕ} 0 1 = ap (λ b. cond b 1 0) e in let f : ⊥ = omega arith in absurd f
sound-works (InPower p) e = tt
sound-works (InLogarithm q) e = tt

-- three tests of which one fails
first-fails : {a : Bool} (b c : Bool) → a ≡ false → (a && b && c) ≡ false
first-fails b c e = ap (λ a. a && b && c) e

second-fails : (a : Bool) {b : Bool} (c : Bool) → b ≡ false → (a && b && c) ≡ false
second-fails true c e = ap (λ b. b && c) e
second-fails false c e = refl

third-fails : (a b : Bool) {c : Bool} → c ≡ false → (a && b && c) ≡ false
third-fails true true e = e
third-fails true false e = refl
third-fails false b e = refl

module _ (M t a : ℕ) where
  abbrev by_test : Phase → Bool → Reach
  by_test p s = cond s (gone_on M (a - t) t (within p)) (reach (within p) t)

  pub sound-goes : (p : Phase) → sound p ≡ true → gone_on M (a - t) t (within p) ≡ work_of M p t a
  sound-goes p e = sym (ap (by_test p) e)

  -- a logarithm whose numbers fail one of the three tests
  module _ (q : Logarithm) where
    unsound-stays : sound (InLogarithm q) ≡ false → reach (within (InLogarithm q)) t ≡ work_of M (InLogarithm q) t a
    unsound-stays e = sym (ap (by_test (InLogarithm q)) e)

    abbrev base-holds : Bool
    base-holds = ltb 1 q.base

    abbrev left-holds : Bool
    left-holds = leb q.base q.left

    abbrev count-holds : Bool
    count-holds = leb q.count (limit_of 64 - q.left)

    pub small-base-stays : q.base < 2 → reach (within (InLogarithm q)) t ≡ work_of M (InLogarithm q) t a
    small-base-stays h =
        let few : q.base ≤ 1 = omega arith in
        unsound-stays (first-fails left-holds count-holds (le-ltb 1 q.base few))

    pub ended-stays : q.left < q.base → reach (within (InLogarithm q)) t ≡ work_of M (InLogarithm q) t a
    ended-stays h = unsound-stays (second-fails base-holds count-holds (lt-leb q.base q.left h))

    pub counted-stays
        : limit_of 64 - q.left < q.count → reach (within (InLogarithm q)) t ≡ work_of M (InLogarithm q) t a
    counted-stays h = unsound-stays (third-fails base-holds left-holds (lt-leb q.count (limit_of 64 - q.left) h))

    -- or passes them all
    pub sound-logarithm-goes
        : 2 ≤ q.base → q.base ≤ q.left → q.count ≤ limit_of 64 - q.left →
        gone_on M (a - t) t (within (InLogarithm q)) ≡ work_of M (InLogarithm q) t a
    sound-logarithm-goes h l n =
        sound-goes (InLogarithm q)
        (ap₂ ◌&&◌ (ap₂ ◌&&◌ (lt-ltb 1 q.base h) (le-leb q.base q.left l))
        (le-leb q.count (limit_of 64 - q.left) n))
