-- A recipe's faults place by place, in which the promises say when a refusal is given. Place j is item j, and the
-- place after the last item is the end.
-- Assumes nothing.
use Rattle.std.specs.Prelude.{◌≡◌, ◌⊎◌, true, List, [], ◌∷◌, ℕ, zero, suc, ◌+◌, ◌≤◌, ◌<◌, length, get_or, drop}
use Rattle.places.specs.Faults as faults
use Rattle.checked.specs.Value.{limit_of}
use Rattle.shape.specs.Items.{Operation, Kind, literal, operation, unknown, kind_of, Item, items}
use Rattle.shape.specs.Shape.{fault_of, held_after, end_fault, known_width, most_items, most_on_hand}

-- ---- an item's faults in the table's words, with its kind, its number and the values on hand before it

abbrev pub Operates : Kind → Type 0
Operates kind = (o : Operation) × (kind ≡ operation o)

-- 8: an unknown kind, or an operation with a number that isn't 0
abbrev pub UnknownOrNumbered : Kind → ℕ → Type 0
UnknownOrNumbered kind number = (kind ≡ unknown) ⊎ (Operates kind × (number ≡ 0 → ⊥))

-- 9: a literal above M
abbrev pub AboveLimit : ℕ → Kind → ℕ → Type 0
AboveLimit M kind number = (kind ≡ literal) × (M < number)

-- 10: an operation with fewer than two values on hand
abbrev pub TooFewOnHand : ℕ → Kind → ℕ → Type 0
TooFewOnHand held kind number = Operates kind × (number ≡ 0) × (held < 2)

-- 11: a literal that would be the 33rd on hand
abbrev pub HandFull : ℕ → ℕ → Kind → ℕ → Type 0
HandFull M held kind number = (kind ≡ literal) × (number ≤ M) × (most_on_hand ≤ held)

-- none: a literal at most M with room for it, or an operation with the number 0 and its two operands
abbrev pub Faultless : ℕ → ℕ → Kind → ℕ → Type 0
Faultless M held kind number =
    ((kind ≡ literal) × (number ≤ M) × (held < most_on_hand)) ⊎ (Operates kind × (number ≡ 0) × (2 ≤ held))

-- ---- place by place

-- how many values are on hand before place j, with `held` before place 0
abbrev pub held_before : ℕ → List Item → ℕ → ℕ
held_before held xs zero = held
held_before held [] (suc j) = held
held_before held (x ∷ xs) (suc j) = held_before (held_after held x.kind) xs j

-- the fault of the first of these items, or of the end
abbrev pub fault_here : ℕ → ℕ → List Item → ℕ
fault_here M held [] = end_fault held
fault_here M held (x ∷ xs) = fault_of M held x.kind x.number

-- the fault at place j, or 0
abbrev pub fault_at : ℕ → ℕ → List Item → ℕ → ℕ
fault_at M held xs j = fault_here M (held_before held xs j) (drop j xs)

-- place j is there, it has the fault c, and no place before it has one; the end is a place too
abbrev pub FirstFault : ℕ → ℕ → List Item → ℕ → ℕ → Type 0
FirstFault M held xs c j = faults.FirstFault (fault_at M held xs) (suc (length xs)) c j

-- the end, after n items, has the fault c, and no item has one
abbrev pub OnlyEndFault : ℕ → List Item → ℕ → ℕ → Type 0
OnlyEndFault M xs n c = (end_fault (held_before 0 xs n) ≡ c) × faults.NoFaultBefore (fault_at M 0 xs) n

-- no refusal, or one whose number is in this range
abbrev pub NoneOrFrom : ℕ → ℕ → ℕ → Type 0
NoneOrFrom least most c = (c ≡ 0) ⊎ ((least ≤ c) × (c ≤ most))

-- the items are looked at: the width is known, the lists are of one length, and there are 1 to 256 items
abbrev pub Countable : ℕ → List ℕ → List ℕ → Type 0
Countable W ks ns = (known_width W ≡ true) × (length ks ≡ length ns) × (0 < length ks) × (length ks ≤ most_items)

-- so item j is looked at: it is there, and no item before it has a fault
abbrev pub LookedAt : ℕ → List ℕ → List ℕ → ℕ → Type 0
LookedAt W ks ns j =
    Countable W ks ns × (j < length ks) × faults.NoFaultBefore (fault_at (limit_of W) 0 (items ks ns)) j

-- its kind, its number, and the values on hand before it
abbrev pub kind_at : List ℕ → ℕ → Kind
kind_at ks j = kind_of (get_or ks j 0)

abbrev pub number_at : List ℕ → ℕ → ℕ
number_at ns j = get_or ns j 0

abbrev pub held_at : List ℕ → List ℕ → ℕ → ℕ
held_at ks ns j = held_before 0 (items ks ns) j

-- no item has a fault, and more than one value is on hand at the end
abbrev pub SeveralLeft : ℕ → List ℕ → List ℕ → Type 0
SeveralLeft W ks ns =
    Countable W ks ns × (1 < held_at ks ns (length ks))
    × faults.NoFaultBefore (fault_at (limit_of W) 0 (items ks ns)) (length ks)

-- ---- values on hand by counting

abbrev pub literals : Kind → ℕ
literals literal = 1
literals (operation o) = 0
literals unknown = 0

abbrev pub operations : Kind → ℕ
operations literal = 0
operations (operation o) = 1
operations unknown = 0

-- how many of them are among the first j items
abbrev pub count_before : (Kind → ℕ) → List Item → ℕ → ℕ
count_before of xs zero = 0
count_before of [] (suc j) = 0
count_before of (x ∷ xs) (suc j) = of x.kind + count_before of xs j
