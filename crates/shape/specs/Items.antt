-- A recipe's items: a kind and a number each, in postfix order.
-- Assumes nothing.
use Rattle.std.specs.Prelude.{List, [], ◌∷◌, ℕ, get_or}

-- an operation takes the top of the hand as right operand and the one under it as left
pub data Operation : Type 0 where
  sum : Operation
  product : Operation
  quotient : Operation
  remainder : Operation
  power : Operation
  logarithm : Operation

pub data Kind : Type 0 where
  literal : Kind
  operation : Operation → Kind
  unknown : Kind

-- the kinds in the order of their codes, from 0
abbrev pub kinds : List Kind
kinds = literal ∷ operation sum ∷ operation product ∷ operation quotient ∷ operation remainder ∷ operation power ∷ operation logarithm ∷ []

unfoldable pub kind_of : ℕ → Kind
kind_of code = get_or kinds code unknown

pub record Item : Type 0 where
  pub kind : Kind
  pub number : ℕ

abbrev pub item_of : ℕ → ℕ → Item
item_of code number = record { kind = kind_of code; number = number }

-- the items of a list of kind codes and a list of numbers
abbrev pub items : List ℕ → List ℕ → List Item
items [] ns = []
items (k ∷ ks) [] = []
items (k ∷ ks) (n ∷ ns) = item_of k n ∷ items ks ns
