-- How the code's parts stand for the parts of a run: its hand, its state. Only contracts of
-- private functions speak of this; what a caller is promised is in `Run`.
-- Assumes nothing.
use Rattle.std.specs.Prelude.{◌≡◌, ◌⊎◌, true, cond, List, [], ◌∷◌, ℕ, zero, suc, ◌-◌, ◌≤◌, ◌<◌, eqb, length, get_or, drop, Result, Ok, Err}
use Rattle.checked.specs.declared.types.Checked.TheVariants.{Fits, Overflowed}
use Rattle.checked.specs.declared.refusal.Refusal.{Refusal}
use Rattle.checked.specs.Value.{Value}
use Rattle.checked.specs.Paper.{given, number_of}
use Rattle.shape.specs.Items.{Operation, Kind, operation, Item, items}
use Rattle.shape.specs.Shape.{most_items, most_on_hand, Good}
use Rattle.steps.specs.declared.types.Phase.{Phase}
use Rattle.steps.specs.declared.types.Phase.TheVariants.{Between, InPower, InLogarithm}
use Rattle.steps.specs.Steps as steps
use Rattle.operation.specs.Work.{Reach, sound}
use Rattle.recipe.specs.declared.types.Driven.{Driven}
use Rattle.recipe.specs.declared.types.Driven.TheVariants as driven
use Rattle.recipe.specs.declared.types.State.{State}
use Rattle.recipe.specs.Run.{Shown, mark_of, number_in, places, ended, stopped, refused_at}

-- ---- the hand

abbrev pub value_of : ℕ → ℕ → Value
value_of number mark = cond (eqb mark 0) (Fits number) Overflowed

-- the values of the first so many places, top first
abbrev pub hand_of : ℕ → List ℕ → List ℕ → List Value
hand_of zero numbers marks = []
hand_of (suc k) numbers marks = value_of (get_or numbers k 0) (get_or marks k 0) ∷ hand_of k numbers marks

-- the places show just these values
abbrev pub Shows : ℕ → List ℕ → List ℕ → Type 0
Shows held numbers marks =
    let hand = hand_of held numbers marks in
    (held ≤ most_on_hand) × (numbers ≡ places number_in hand) × (marks ≡ places mark_of hand)

-- ---- the state, with the recipe's items zs and the hand

abbrev pub state_of : List Item → List Value → State → steps.State
state_of zs hand s = steps.going s.taken s.done hand s.phase (drop s.done zs)

abbrev pub between : (done taken : ℕ) → State
between done taken = record { done = done; taken = taken; phase = Between }

-- an operation is at work in this phase: there is room for its value, and nothing is wrong with what comes after it
pub record WithinItem (M : ℕ) (zs : List Item) (held d : ℕ) (p : Phase) : Type 0 where
  pub works : sound p ≡ true
  pub room : held < most_on_hand
  pub few : d < most_items
  pub more : d < length zs
  pub good : Good M (suc held) (drop (suc d) zs)

-- nothing is wrong with what is still to come, in this phase
abbrev pub Ahead : ℕ → List Item → ℕ → ℕ → Phase → Type 0
Ahead M zs held d Between = (d ≤ length zs) × Good M held (drop d zs)
Ahead M zs held d (InPower p) = WithinItem M zs held d (InPower p)
Ahead M zs held d (InLogarithm q) = WithinItem M zs held d (InLogarithm q)

-- after an item's first step
pub record Stands (M : ℕ) (zs : List Item) (hand : List Value) (s : State) : Type 0 where
  pub ahead : Ahead M zs (length hand) s.done s.phase

-- between items, or still in a phase with the allowance a spent
abbrev pub Rests : ℕ → ℕ → List Item → ℕ → State → Type 0
Rests M a zs held s =
    ((s.phase ≡ Between) × (s.done ≤ length zs) × Good M held (drop s.done zs))
    ⊎ ((s.taken ≡ a) × (s.done < length zs))

-- ---- where the steps lead

-- where what is left of an allowance a brings a run, after the steps that it has taken
abbrev pub rest : ℕ → ℕ → steps.State → steps.State
rest M a (steps.going t d hand p xs) = steps.after M (a - t) (steps.going t d hand p xs)
rest M a (steps.refused t d code) = steps.refused t d code

-- the outcome of item d, which is x, in the state with t steps taken, as `steps.landed` has it
abbrev pub placed : ℕ → ℕ → List Value → Item → List Item → steps.Outcome → steps.State
placed t d hand x xs (steps.value v) = steps.going t (suc d) (v ∷ hand) Between xs
placed t d hand x xs (steps.within p) = steps.going t d hand p (x ∷ xs)
placed t d hand x xs (steps.fails code) = steps.refused t d code

-- how far it came, in the state
abbrev pub placed_as : ℕ → List Value → Item → List Item → Reach → steps.State
placed_as d hand x xs w = placed w.taken d hand x xs w.outcome

-- no more steps are taken than the allowance a has, `from` among them, and an item stops before its end only where all
-- are taken
abbrev pub Kept : ℕ → ℕ → ℕ → steps.Outcome → Type 0
Kept a from t (steps.value v) = (from ≤ t) × (t ≤ a)
Kept a from t (steps.within p) = t ≡ a
Kept a from t (steps.fails code) = Unit {0}

-- ---- what the code asks and promises of an item, with the hand before and after

-- an item's value is put on the hand
pub record Finishes (d taken : ℕ) (v : Value) (hand hand' : List Value) (r : State) : Type 0 where
  pub is : r ≡ between (suc d) taken
  pub on : hand' ≡ v ∷ hand

-- what item d has entered with the last of `from` steps
abbrev pub entered_of : ℕ → ℕ → List Item → List Value → Result State Refusal → steps.State
entered_of from d zs hand (Ok s) = state_of zs hand s
entered_of from d zs hand (Err r) = steps.refused from d (number_of r)

abbrev pub Ready : ℕ → ℕ → List Item → List Value → Result State Refusal → Type 0
Ready M from zs hand (Ok s) = Stands M zs hand s × (s.taken ≡ from)
Ready M from zs hand (Err r) = Unit {0}

-- an operation of the kind, item d, is begun with the last of `from` steps
pub record Operates (M from : ℕ) (k : Kind) (d : ℕ) (hand hand' : List Value) (r : Result State Refusal) : Type 0 where
  pub leads
      : (t : ℕ) (zs : List Item) (x : Item) (p : Operation) → from ≡ suc t → drop d zs ≡ x ∷ drop (suc d) zs →
      k ≡ operation p → steps.operating M t d hand p x (drop (suc d) zs) ≡ entered_of from d zs hand' r
  pub ready
      : (zs : List Item) → d < length zs → Good M (length hand - 1) (drop (suc d) zs) → Ready M from zs hand' r

-- item d comes next
pub record AtItem (M : ℕ) (ks ns : List ℕ) (d : ℕ) (hand : List Value) : Type 0 where
  pub same : length ks ≡ length ns
  pub few : length ks ≤ most_items
  pub more : d < length ks
  pub good : Good M (length hand) (drop d (items ks ns))

-- item d is begun with the last of `from` steps
pub record Enters (M from : ℕ) (zs : List Item) (d : ℕ) (hand hand' : List Value) (r : Result State Refusal) : Type 0 where
  pub leads
      : (a t : ℕ) → t < a → from ≡ suc t →
      rest M a (steps.going t d hand Between (drop d zs)) ≡ rest M a (entered_of from d zs hand' r)
  pub ready : Ready M from zs hand' r

-- the state s goes on in its phase with an allowance of a
pub record Goes (M a : ℕ) (zs : List Item) (hand hand' : List Value) (s r : State) : Type 0 where
  pub leads : rest M a (state_of zs hand s) ≡ rest M a (state_of zs hand' r)
  pub rests : Rests M a zs (length hand') r
  pub later : s.taken ≤ r.taken
  pub allowed : r.taken ≤ a

-- ---- the end

-- what is shown where an allowance has brought a run, with the hand
abbrev pub driven_of : List Value → Driven → Shown
driven_of hand (driven.Finished v t) = ended (given v) t
driven_of hand (driven.Refused r i t) = ended (refused_at (number_of r) i) t
driven_of hand (driven.Stopped s) = stopped s.taken s.done hand s.phase
