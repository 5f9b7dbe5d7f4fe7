-- The meaning's hand is as long as the shape counts it: before every item, and at the end one value is left.
-- Assumes nothing.
use mathlib.Core.Path.{◌≡◌, refl, ap, sym, ◌∙◌, subst}
use mathlib.Core.List.{List, [], ◌∷◌}
use Prim.Native.Nat.{ℕ, zero, suc, ◌<◌}
use native.Mathlib.Omega.{arith}
use lib.ListN.{length}
use Rattle.shape.specs.Items.{Kind, literal, operation, unknown, Item}
use Rattle.shape.specs.Shape.{operation_fault, fault_of, held_after, Good}
use Rattle.shape.specs.Faults.{held_before}
use Rattle.shape.proofs.Shapes.{operation-good}
use Rattle.shape.proofs.Held.{one-at-end}
use Rattle.meaning.specs.Meaning.{top, hand_on}
use Rattle.meaning.specs.Faults.{hand_after}

-- a good operation has its two operands
pub too-few : {A : Type 0} (held n : ℕ) → held < 2 → operation_fault held n ≡ 0 → A
too-few held n few h = let enough = (operation-good held n h).1 in let f : ⊥ = omega arith in absurd f

abbrev pub item_with : Kind → ℕ → Item
item_with k n = record { kind = k; number = n }

pub item-holds
    : (M : ℕ) (H : List ℕ) (k : Kind) (n : ℕ) → fault_of M (length H) k n ≡ 0 →
    length (hand_on H (item_with k n)) ≡ held_after (length H) k
item-holds M H literal n h = refl
item-holds M [] (operation o) n h = too-few 0 n (omega arith) h
item-holds M (r ∷ []) (operation o) n h = too-few 1 n (omega arith) h
item-holds M (r ∷ l ∷ H) (operation o) n h = omega arith
item-holds M H unknown n h = refl

pub hand-held
    : (M : ℕ) (H : List ℕ) (xs : List Item) (j : ℕ) → Good M (length H) xs →
    length (hand_after j H xs) ≡ held_before (length H) xs j
hand-held M H xs zero g = refl
hand-held M H [] (suc j) g = refl
hand-held M H (x ∷ xs) (suc j) (f, g) =
    let e = item-holds M H x.kind x.number f in
    hand-held M (hand_on H x) xs j (subst (λ n. Good M n xs) (sym e) g) ∙ ap (λ n. held_before n xs j) e

one-value : (H : List ℕ) → length H ≡ 1 → H ≡ top H ∷ []
one-value [] e = let f : ⊥ = omega arith in absurd f
one-value (n ∷ []) e = refl
one-value (n ∷ m ∷ H) e = let f : ⊥ = omega arith in absurd f

-- at the end of a well-formed recipe
pub one-left
    : (M : ℕ) (xs : List Item) → Good M 0 xs →
    hand_after (length xs) [] xs ≡ top (hand_after (length xs) [] xs) ∷ []
one-left M xs g =
    one-value (hand_after (length xs) [] xs) (hand-held M [] xs (length xs) g ∙ one-at-end M 0 xs g)
