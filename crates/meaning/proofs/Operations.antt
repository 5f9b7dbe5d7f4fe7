-- How many items of a recipe are operations: a well-formed one has a literal more, so its length is odd.
-- Assumes nothing.
use mathlib.Core.Path.{◌≡◌}
use mathlib.Core.List.{List, [], ◌∷◌}
use Prim.Native.Nat.{ℕ, suc, ◌+◌}
use native.Mathlib.Omega.{arith}
use lib.ListN.{length}
use Rattle.shape.specs.Items.{Kind, literal, operation, unknown, Item}
use Rattle.shape.proofs.Shapes.{operation-good}
use Rattle.shape.specs.Shape.{fault_of, held_after, Good}

abbrev pub operations_of : Kind → ℕ
operations_of literal = 0
operations_of (operation o) = 1
operations_of unknown = 0

abbrev pub operations : List Item → ℕ
operations [] = 0
operations (x ∷ xs) = operations_of x.kind + operations xs

-- the values on hand and the items to come
item-length
    : (M held number n m : ℕ) (k : Kind) → fault_of M held k number ≡ 0 → held_after held k + n ≡ suc (m + m) →
    held + suc n ≡ suc (operations_of k + m + (operations_of k + m))
item-length M held number n m literal e h = omega arith
item-length M held number n m (operation o) e h = let p = (operation-good held number e).1 in omega arith
item-length M held number n m unknown e h = absurd (omega arith)

length-from : (M held : ℕ) (xs : List Item) → Good M held xs → held + length xs ≡ suc (operations xs + operations xs)
length-from M held [] g = omega arith
length-from M held (x ∷ xs) g =
    item-length M held x.number (length xs) (operations xs) x.kind g.0 (length-from M (held_after held x.kind) xs g.1)

-- a well-formed recipe's length is one more than twice its operations
pub length-odd : (M : ℕ) (xs : List Item) → Good M 0 xs → length xs ≡ suc (operations xs + operations xs)
length-odd M xs g = omega (arith, length-from M 0 xs g)
