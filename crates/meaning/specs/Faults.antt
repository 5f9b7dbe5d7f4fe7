-- A recipe's refusals item by item, in which the promises say which of them is the answer, and what is on the hand at
-- the end.
-- Assumes nothing.
use Rattle.std.specs.Prelude.{◌≡◌, List, [], ◌∷◌, ℕ, zero, suc, ◌<◌, length, drop}
use Rattle.places.specs.Faults as faults
use Rattle.shape.specs.Items.{Item}
use Rattle.meaning.specs.Meaning.{refusal_on, hand_on}

-- the hand d items further
abbrev pub hand_after : ℕ → List ℕ → List Item → List ℕ
hand_after zero hand xs = hand
hand_after (suc d) hand [] = hand
hand_after (suc d) hand (x ∷ xs) = hand_after d (hand_on hand x) xs

-- the refusal's number of the first of these items, or 0
abbrev pub refusal_here : ℕ → List ℕ → List Item → ℕ
refusal_here M hand [] = 0
refusal_here M hand (x ∷ xs) = refusal_on M hand x.kind

-- that of item p, on the hand after the items before it
abbrev pub refusal_of : ℕ → List ℕ → List Item → ℕ → ℕ
refusal_of M hand xs p = refusal_here M (hand_after p hand xs) (drop p xs)

-- item p has the refusal c, and no item before it has one
abbrev pub FirstRefusal : ℕ → List Item → ℕ → ℕ → Type 0
FirstRefusal M xs c p = (0 < c) × faults.FirstFault (refusal_of M [] xs) (length xs) c p

-- no item has one
abbrev pub NoRefusal : ℕ → List Item → Type 0
NoRefusal M xs = faults.NoFaultBefore (refusal_of M [] xs) (length xs)

-- n alone is on the hand at the end
abbrev pub LeftAtEnd : List Item → ℕ → Type 0
LeftAtEnd xs n = hand_after (length xs) [] xs ≡ n ∷ []
