-- A run by single steps on checked values of the limit M, and its state after so many of them. The hand is a list, its top first.
-- Assumes nothing.
use Rattle.std.specs.Prelude.{◌≡◌, true, false, cond, List, [], ◌∷◌, ℕ, zero, suc, ◌/◌, ◌%◌, eqb, leb, length}
use Rattle.checked.specs.declared.types.Checked.TheVariants.{Fits, Overflowed}
use Rattle.checked.specs.Value.{Value, checked_of, sum_of, product_of}
use Rattle.checked.specs.Paper.{Paper, value_in, quotient_of, remainder_of, power_of, logarithm_of}
use Rattle.shape.specs.Items.{Operation, sum, product, quotient, remainder, power, logarithm, Kind, literal, operation, unknown, Item}
use Rattle.meaning.specs.Meaning.{Meant, number, failed, meaning}
use Rattle.meaning.specs.Alone.{answer_on}
use Rattle.meaning.specs.Count.{count}
use Rattle.steps.specs.declared.types.Phase.{Phase}
use Rattle.steps.specs.declared.types.Phase.TheVariants.{Between, InPower, InLogarithm}

-- what a step of an item comes to: its value, more steps of it, or its refusal's number
pub data Outcome : Type 0 where
  value : Value → Outcome
  within : Phase → Outcome
  fails : ℕ → Outcome

-- ---- within a power and within a logarithm

-- it ends at exponent 0 with the first value
abbrev pub powering : Value → Value → ℕ → Outcome
powering first second exponent = cond (eqb exponent 0) (value first) (within (InPower (record { first = first; second = second; exponent = exponent })))

-- if the exponent is odd the first becomes first times second; the second is squared; the exponent is halved
abbrev pub power_step : ℕ → Value → Value → ℕ → Outcome
power_step M first second exponent =
    powering (cond (eqb (exponent % 2) 1) (product_of M first second) first) (product_of M second second) (exponent / 2)

-- it ends with the count where left is below base
abbrev pub dividing : ℕ → ℕ → ℕ → Outcome
dividing base left count = cond (leb base left) (within (InLogarithm (record { base = base; left = left; count = count }))) (value (Fits count))

-- left becomes its quotient by base, and count one more
abbrev pub logarithm_step : ℕ → ℕ → ℕ → Outcome
logarithm_step base left count = dividing base (left / base) (suc count)

-- ---- an operation begun

-- the value of an answer of checked values, at once
abbrev pub at_once : Paper → Outcome
at_once p = value (value_in p)

-- not refused: a power and a logarithm whose operands both fit are worked out by further steps; all else has the value
-- of checked values in this one
abbrev pub entered : ℕ → Operation → Value → Value → Outcome
entered M sum a b = value (sum_of M a b)
entered M product a b = value (product_of M a b)
entered M quotient a b = at_once (quotient_of a b)
entered M remainder a b = at_once (remainder_of a b)
entered M power (Fits l) (Fits r) = powering (checked_of M 1) (Fits l) r
entered M power (Fits l) Overflowed = at_once (power_of M (Fits l) Overflowed)
entered M power Overflowed b = at_once (power_of M Overflowed b)
entered M logarithm (Fits l) (Fits r) = dividing l r 0
entered M logarithm (Fits l) Overflowed = at_once (logarithm_of (Fits l) Overflowed)
entered M logarithm Overflowed b = at_once (logarithm_of Overflowed b)

-- refused as an answer of checked values is, or else this outcome
abbrev pub unless_refused : Paper → Outcome → Outcome
unless_refused p w = elim (eqb p.code 0) [ true ↦ w | false ↦ fails p.code ]

unfoldable pub begun : ℕ → Operation → Value → Value → Outcome
begun M o a b = unless_refused (answer_on M o a b) (entered M o a b)

-- ---- the state

pub data State : Type 0 where
  -- steps taken, items wholly done, the hand, the phase, and the items not wholly done; the run is finished where there are none
  going : (steps done : ℕ) → List Value → Phase → List Item → State
  -- steps taken, the refused item, and the refusal's number
  refused : (steps item code : ℕ) → State

abbrev pub start : List Item → State
start xs = going 0 0 [] Between xs

-- a step's outcome in the state: a value is put on the hand with the last step of its item
abbrev pub landed : ℕ → ℕ → List Value → Item → List Item → Outcome → State
landed t d hand x xs (value v) = going (suc t) (suc d) (v ∷ hand) Between xs
landed t d hand x xs (within p) = going (suc t) d hand p (x ∷ xs)
landed t d hand x xs (fails code) = refused (suc t) d code

abbrev pub top : List Value → Value
top [] = Fits 0
top (r ∷ hand) = r

abbrev pub under : List Value → List Value
under [] = []
under (r ∷ hand) = hand

-- an operation's two operands leave the hand as it is begun
abbrev pub operating : ℕ → ℕ → ℕ → List Value → Operation → Item → List Item → State
operating M t d hand o x xs = landed t d (under (under hand)) x xs (begun M o (top (under hand)) (top hand))

-- beginning an item of this kind
abbrev pub beginning : ℕ → ℕ → ℕ → List Value → Kind → Item → List Item → State
beginning M t d hand literal x xs = landed t d hand x xs (value (Fits x.number))
beginning M t d hand (operation o) x xs = operating M t d hand o x xs
beginning M t d hand unknown x xs = refused (suc t) d 8

abbrev pub step : ℕ → ℕ → ℕ → List Value → Phase → Item → List Item → State
step M t d hand Between x xs = beginning M t d hand x.kind x xs
step M t d hand (InPower p) x xs = landed t d hand x xs (power_step M p.first p.second p.exponent)
step M t d hand (InLogarithm q) x xs = landed t d hand x xs (logarithm_step q.base q.left q.count)

-- the state after at most so many steps: a run that is finished or refused takes no more
unfoldable pub after : ℕ → ℕ → State → State
after M zero s = s
after M (suc k) (refused t d code) = refused t d code
after M (suc k) (going t d hand p []) = going t d hand p []
after M (suc k) (going t d hand p (x ∷ xs)) = after M k (step M t d hand p x xs)

-- ---- the end and a stop, as the meaning has them

-- a run of a recipe of n items that comes to this, after so many steps: its number's value is alone on the hand, or the failing item is refused
abbrev pub ended_as : (M steps n : ℕ) → Meant → State
ended_as M steps n (number v) = going steps n (checked_of M v ∷ []) Between []
ended_as M steps n (failed code place) = refused steps place code

-- the state in which the run of a recipe ends
abbrev pub finished : ℕ → List Item → State
finished M xs = ended_as M (count M xs) (length xs) (meaning M xs)

-- so many steps are taken and items are left
abbrev pub Stopped : ℕ → State → Type 0
Stopped k (going t d hand p []) = ⊥
Stopped k (going t d hand p (x ∷ xs)) = t ≡ k
Stopped k (refused t d code) = ⊥
