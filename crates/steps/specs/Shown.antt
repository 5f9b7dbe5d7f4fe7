-- What a run shows between two steps, in the meaning's words: the values of the meaning's hand and, within an item,
-- numbers that stand for its result.
-- Assumes nothing.
use Rattle.std.specs.Prelude.{◌≡◌, List, [], ◌∷◌, map, ℕ, suc, ◌+◌, ◌*◌, ◌^◌, ◌≤◌, ◌<◌, drop}
use Rattle.whole.specs.Logarithm.{log_of}
use Rattle.checked.specs.Value.{Value, checked_of, least}
use Rattle.shape.specs.Items.{Item}
use Rattle.meaning.specs.Meaning.{top}
use Rattle.meaning.specs.Faults.{hand_after}
use Rattle.steps.specs.declared.types.Power.{Power}
use Rattle.steps.specs.declared.types.Phase.{Phase}
use Rattle.steps.specs.declared.types.Phase.TheVariants.{Between, InPower, InLogarithm}
use Rattle.steps.specs.Steps.{State, going, refused}

-- the values of the numbers on hand
abbrev pub values_of : ℕ → List ℕ → List Value
values_of M hand = map (checked_of M) hand

-- a value of the width: it is the one of a number that it stands for
abbrev pub OfWidth : ℕ → Value → Type 0
OfWidth M v = v ≡ checked_of M (least M v)

-- a power with numbers of the width: both values are, and the exponent is at most M
abbrev pub PowerOfWidth : ℕ → Power → Type 0
PowerOfWidth M p = OfWidth M p.first × OfWidth M p.second × (p.exponent ≤ M)

-- a phase within an item whose result is n: first * second ^ exponent stands for it, or count and the logarithm of left
-- are it
abbrev pub AtWork : ℕ → ℕ → Phase → Type 0
AtWork M n Between = ⊥
AtWork M n (InPower p) =
    (0 < p.exponent) × PowerOfWidth M p
    × (checked_of M (least M p.first * least M p.second ^ p.exponent) ≡ checked_of M n)
AtWork M n (InLogarithm q) =
    (1 < q.base) × (q.base ≤ q.left) × (q.left ≤ M) × (q.count + log_of q.base q.left ≡ n) × (n ≤ M)

-- between items the hand is the meaning's before the item; within one it is the meaning's after the item once the
-- result is put on it
abbrev pub OnHand : ℕ → List Value → Phase → List ℕ → List ℕ → Type 0
OnHand M hand Between before then = hand ≡ values_of M before
OnHand M hand (InPower p) before then =
    (checked_of M (top then) ∷ hand ≡ values_of M then) × AtWork M (top then) (InPower p)
OnHand M hand (InLogarithm q) before then =
    (checked_of M (top then) ∷ hand ≡ values_of M then) × AtWork M (top then) (InLogarithm q)

-- a state of the run of a recipe: d items are done and the others are left
abbrev pub ShowsMeaning : ℕ → List Item → State → Type 0
ShowsMeaning M xs (going t d hand p rest) =
    (rest ≡ drop d xs) × OnHand M hand p (hand_after d [] xs) (hand_after (suc d) [] xs)
ShowsMeaning M xs (refused t d code) = Unit {0}
