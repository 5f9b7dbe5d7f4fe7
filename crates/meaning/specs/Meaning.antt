-- What a recipe comes to over unlimited whole numbers: a number, or the first failing item with its refusal. The hand is a list, its top first.
-- Assumes nothing.
use Rattle.std.specs.Prelude.{true, false, cond, ◌&&◌, List, [], ◌∷◌, ℕ, suc, ◌+◌, ◌*◌, ◌/◌, ◌%◌, ◌^◌, eqb, leb, ltb}
use Rattle.whole.specs.Logarithm.{log_of}
use Rattle.shape.specs.Items.{Operation, sum, product, quotient, remainder, power, logarithm, Kind, literal, operation, unknown, Item}

-- ---- an operation on l and r

abbrev pub worth : Operation → ℕ → ℕ → ℕ
worth sum l r = l + r
worth product l r = l * r
worth quotient l r = l / r
worth remainder l r = l % r
worth power l r = l ^ r
worth logarithm l r = log_of l r

-- its refusal's number, or 0, at the limit M: 3 for a left of a quotient or a remainder, or an argument of a logarithm,
-- above M; then, where both fit, 1 for a divisor 0 and 2 for a base below 2
abbrev pub refusal_at : ℕ → Operation → ℕ → ℕ → ℕ
refusal_at M sum l r = 0
refusal_at M product l r = 0
refusal_at M quotient l r = cond (leb l M) (cond (eqb r 0) 1 0) 3
refusal_at M remainder l r = cond (leb l M) (cond (eqb r 0) 1 0) 3
refusal_at M power l r = 0
refusal_at M logarithm l r = cond (leb r M) (cond (leb l M && ltb l 2) 2 0) 3

-- ---- an item

-- the two top values of a hand, and what is under them; a well-formed recipe has them whenever they are asked for
abbrev pub top : List ℕ → ℕ
top [] = 0
top (r ∷ hand) = r

abbrev pub under : List ℕ → List ℕ
under [] = []
under (r ∷ hand) = hand

-- the refusal's number of an item, or 0
abbrev pub refusal_on : ℕ → List ℕ → Kind → ℕ
refusal_on M hand literal = 0
refusal_on M hand (operation o) = refusal_at M o (top (under hand)) (top hand)
refusal_on M hand unknown = 0

-- the hand after it
abbrev pub hand_on : List ℕ → Item → List ℕ
hand_on hand x = elim x.kind [
  | literal ↦ x.number ∷ hand
  | operation o ↦ worth o (top (under hand)) (top hand) ∷ under (under hand)
  | unknown ↦ hand
]

-- ---- a recipe

pub data Meant : Type 0 where
  number : ℕ → Meant
  failed : (code place : ℕ) → Meant

-- from item i on, with these numbers on hand
unfoldable pub meaning_from : ℕ → ℕ → List ℕ → List Item → Meant
meaning_from M i hand [] = number (top hand)
meaning_from M i hand (x ∷ xs) =
    elim (eqb (refusal_on M hand x.kind) 0) [
      | true ↦ meaning_from M (suc i) (hand_on hand x) xs
      | false ↦ failed (refusal_on M hand x.kind) i
    ]

abbrev pub meaning : ℕ → List Item → Meant
meaning M xs = meaning_from M 0 [] xs
