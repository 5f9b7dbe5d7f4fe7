-- What a run shows, in numbers: the answer, the steps taken, and where it was stopped its state.
-- Assumes nothing.
use Rattle.std.specs.Prelude.{◌≡◌, ◌⊎◌, true, false, List, [], ◌∷◌, ℕ, suc, ◌-◌, ◌≤◌, ◌<◌, eqb, length, get_or, replicate, Result, Ok, Err}
use Rattle.checked.specs.declared.refusal.RefusedAt.{RefusedAt}
use Rattle.checked.specs.declared.types.Checked.TheVariants.{Fits}
use Rattle.checked.specs.Value.{Value, limit_of, checked_of}
use Rattle.checked.specs.Paper.{Paper, given, number_of}
use Rattle.shape.specs.Items.{Item, items}
use Rattle.shape.specs.Shape.{most_on_hand, well_formed, shape_of}
use Rattle.meaning.specs.Meaning.{Meant, number, failed, meaning}
use Rattle.meaning.specs.Count.{count}
use Rattle.steps.specs.declared.types.Phase.{Phase}
use Rattle.steps.specs.declared.types.Phase.TheVariants.{Between, InPower, InLogarithm}
use Rattle.steps.specs.Steps.{State, going, refused, start, after, top}
use Rattle.recipe.specs.declared.types.Run.{Run}

pub record Shown : Type 0 where
  pub answer : Paper
  pub steps : ℕ
  pub done : ℕ
  -- the hand of 32 places, bottom first
  pub marks : List ℕ
  pub numbers : List ℕ
  -- 0, or 1 with the two values and the exponent, or 2 with base, left and count
  pub phase : List ℕ

abbrev pub refused_at : ℕ → ℕ → Paper
refused_at code place = record { code = code; place = place; mark = 0; number = 0 }

-- ---- the hand and the phase in numbers

abbrev pub mark_of : Value → ℕ
mark_of v = (given v).mark

abbrev pub number_in : Value → ℕ
number_in v = (given v).number

-- a hand's values from the bottom up, then the rest
abbrev pub laid : (Value → ℕ) → List Value → List ℕ → List ℕ
laid f [] rest = rest
laid f (v ∷ hand) rest = laid f hand (f v ∷ rest)

-- the value at place i, counted from the bottom
abbrev pub from_bottom : List Value → ℕ → Value
from_bottom hand i = get_or hand (length hand - suc i) (Fits 0)

-- 32 places, and the unused ones fitting 0
abbrev pub places : (Value → ℕ) → List Value → List ℕ
places f hand = laid f hand (replicate (most_on_hand - length hand) 0)

abbrev pub phase_numbers : Phase → List ℕ
phase_numbers Between = 0 ∷ 0 ∷ 0 ∷ 0 ∷ 0 ∷ 0 ∷ []
phase_numbers (InPower p) = 1 ∷ mark_of p.first ∷ number_in p.first ∷ mark_of p.second ∷ number_in p.second ∷ p.exponent ∷ []
phase_numbers (InLogarithm q) = 2 ∷ q.base ∷ q.left ∷ q.count ∷ 0 ∷ 0 ∷ []

-- ---- the code's answer in numbers

abbrev pub answer_of : Result Value RefusedAt → Paper
answer_of (Ok v) = given v
answer_of (Err e) = refused_at (number_of e.refusal) e.place

abbrev pub paper : Run → Shown
paper r =
    record { answer = answer_of r.answer; steps = r.steps; done = r.done; marks = r.marks; numbers = r.numbers; phase = phase_numbers r.phase }

-- ---- a state shown

-- with an answer, or a refusal other than 20: no items done, every place fitting 0, between items
abbrev pub ended : Paper → ℕ → Shown
ended answer steps =
    record { answer = answer; steps = steps; done = 0; marks = places mark_of []; numbers = places number_in []; phase = phase_numbers Between }

-- stopped: 20 at the number of items wholly done
abbrev pub stopped : ℕ → ℕ → List Value → Phase → Shown
stopped steps done hand phase =
    record { answer = refused_at 20 done; steps = steps; done = done; marks = places mark_of hand; numbers = places number_in hand; phase = phase_numbers phase }

abbrev pub shown : State → Shown
shown (refused steps item code) = ended (refused_at code item) steps
shown (going steps done hand phase []) = ended (given (top hand)) steps
shown (going steps done hand phase (x ∷ xs)) = stopped steps done hand phase

-- ---- a recipe's meaning, count and states at a width

-- the meaning's answer: a number is shown by its value at the limit M
abbrev pub answered : ℕ → Meant → Paper
answered M (number n) = given (checked_of M n)
answered M (failed code place) = refused_at code place

abbrev pub answer_meant : ℕ → List ℕ → List ℕ → Paper
answer_meant W ks ns = answered (limit_of W) (meaning (limit_of W) (items ks ns))

abbrev pub count_of : ℕ → List ℕ → List ℕ → ℕ
count_of W ks ns = count (limit_of W) (items ks ns)

abbrev pub state_after : ℕ → List ℕ → List ℕ → ℕ → State
state_after W ks ns k = after (limit_of W) k (start (items ks ns))

-- ---- the run

unfoldable pub run_of : ℕ → List ℕ → List ℕ → ℕ → Shown
run_of W ks ns allowance =
    elim (eqb (shape_of W ks ns).code 0) [
      | true ↦ shown (after (shape_of W ks ns).limit allowance (start (items ks ns)))
      | false ↦ ended (refused_at (shape_of W ks ns).code (shape_of W ks ns).place) 0
    ]

-- ---- in the words of the promises

-- a value of the width in numbers: it fits and is at most M, or it is overflowed and its number is 0
abbrev pub ShowsValue : (M mark number : ℕ) → Type 0
ShowsValue M mark n = ((mark ≡ 0) × (n ≤ M)) ⊎ ((mark ≡ 1) × (n ≡ 0))

-- within a power both values are values of the width, and the exponent is from 1 to M
abbrev pub ShowsPower : ℕ → List ℕ → Type 0
ShowsPower M phase =
    ShowsValue M (get_or phase 1 0) (get_or phase 2 0) × ShowsValue M (get_or phase 3 0) (get_or phase 4 0)
    × (1 ≤ get_or phase 5 0) × (get_or phase 5 0 ≤ M)

-- within a logarithm the base is from 2 to what is left, and what is left and the count are at most M
abbrev pub ShowsLogarithm : ℕ → List ℕ → Type 0
ShowsLogarithm M phase =
    (2 ≤ get_or phase 1 0) × (get_or phase 1 0 ≤ get_or phase 2 0) × (get_or phase 2 0 ≤ M) × (get_or phase 3 0 ≤ M)

-- 32 places show a hand: the bottom first, and every unused one fitting 0
pub record ShowsHand (hand : List Value) (marks numbers : List ℕ) : Type 0 where
  pub places_of_marks : length marks ≡ most_on_hand
  pub places_of_numbers : length numbers ≡ most_on_hand
  pub bottom_first
      : (i : ℕ) → i < length hand →
      (get_or marks i 0 ≡ mark_of (from_bottom hand i)) × (get_or numbers i 0 ≡ number_in (from_bottom hand i))
  pub unused : (i : ℕ) → length hand ≤ i → (get_or marks i 0 ≡ 0) × (get_or numbers i 0 ≡ 0)

-- well formed at a width
abbrev pub WellFormed : ℕ → List ℕ → List ℕ → Type 0
WellFormed W ks ns = shape_of W ks ns ≡ well_formed (limit_of W)

-- after k steps items are left, and the state is what is shown, with 20 at the items wholly done
abbrev pub StopsAt : ℕ → List ℕ → List ℕ → ℕ → Type 0
StopsAt W ks ns k =
    (done : ℕ) × (hand : List Value) × (phase : Phase) × (x : Item) × (rest : List Item)
    × (state_after W ks ns k ≡ going k done hand phase (x ∷ rest))
    × (run_of W ks ns k ≡ stopped k done hand phase)
