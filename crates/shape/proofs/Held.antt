-- The values on hand before a place: literals less operations, where no item before it has a fault; and in a
-- well-formed recipe never more than 32, and one at the end.
-- Assumes nothing.
use mathlib.Core.Path.{◌≡◌, refl}
use mathlib.Core.List.{List, [], ◌∷◌}
use Prim.Native.Nat.{ℕ, zero, suc, ◌+◌, ◌≤◌, suc-le-suc, zero-le}
use native.Mathlib.Omega.{arith}
use lib.ListN.{length}
use Rattle.places.specs.Faults.{NoFaultBefore}
use Rattle.shape.specs.Items.{Kind, literal, operation, unknown, Item}
use Rattle.shape.specs.Shape.{most_on_hand, fault_of, held_after, Good}
use Rattle.shape.specs.Faults.{held_before, fault_at, literals, operations, count_before}
use Rattle.shape.proofs.Shapes.{literal-good, operation-good, unknown-not-good}

-- ---- counted

item-counted
    : (M held : ℕ) (k : Kind) (n : ℕ) → fault_of M held k n ≡ 0 →
    held_after held k + operations k ≡ held + literals k
item-counted M held literal n e = omega arith
item-counted M held (operation o) n e = let h = (operation-good held n e).1 in omega arith
item-counted M held unknown n e = absurd (unknown-not-good M held n e)

pub held-counted
    : (M held : ℕ) (xs : List Item) (j : ℕ) → NoFaultBefore (fault_at M held xs) j →
    held_before held xs j + count_before operations xs j ≡ held + count_before literals xs j
held-counted M held xs zero b = refl
held-counted M held [] (suc j) b = refl
held-counted M held (x ∷ xs) (suc j) b =
    let here = item-counted M held x.kind x.number (b 0 (suc-le-suc zero-le)) in
    let later = held-counted M (held_after held x.kind) xs j (λ k h. b (suc k) (suc-le-suc h)) in
    omega arith

-- ---- bounded

item-holds-at-most
    : (M held : ℕ) (k : Kind) (n : ℕ) → fault_of M held k n ≡ 0 → held ≤ most_on_hand → held_after held k ≤ most_on_hand
item-holds-at-most M held literal n e h = (literal-good M held n e).1
item-holds-at-most M held (operation o) n e h = omega arith
item-holds-at-most M held unknown n e h = h

pub held-at-most
    : (M held : ℕ) (xs : List Item) (j : ℕ) → Good M held xs → held ≤ most_on_hand → held_before held xs j ≤ most_on_hand
held-at-most M held xs zero g h = h
held-at-most M held [] (suc j) g h = h
held-at-most M held (x ∷ xs) (suc j) (f, g) h =
    held-at-most M (held_after held x.kind) xs j g (item-holds-at-most M held x.kind x.number f h)

pub one-at-end : (M held : ℕ) (xs : List Item) → Good M held xs → held_before held xs (length xs) ≡ 1
one-at-end M held [] g = g
one-at-end M held (x ∷ xs) (f, g) = one-at-end M (held_after held x.kind) xs g
