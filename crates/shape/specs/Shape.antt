-- When a recipe is well formed, and which refusal at which place it gets where it is not. A refusal's number 0 is none.
-- Assumes nothing.
use Rattle.std.specs.Prelude.{◌≡◌, Bool, true, false, cond, ◌||◌, List, [], ◌∷◌, ℕ, suc, ◌-◌, eqb, ltb, length}
use Rattle.checked.specs.Value.{limit_of}
use Rattle.shape.specs.Items.{Kind, literal, operation, unknown, Item, items}

-- a refusal's number and place; or 0, 0 and the limit M of the width
pub record Verdict : Type 0 where
  pub code : ℕ
  pub place : ℕ
  pub limit : ℕ

abbrev pub refused : ℕ → ℕ → Verdict
refused code place = record { code = code; place = place; limit = 0 }

abbrev pub well_formed : ℕ → Verdict
well_formed M = record { code = 0; place = 0; limit = M }

-- at most so many items, and so many values on hand
abbrev pub most_items : ℕ
most_items = 256

abbrev pub most_on_hand : ℕ
most_on_hand = 32

-- ---- an item, with so many values on hand before it

-- 9 for a literal above M, then 11 for one that would be the 33rd on hand
abbrev pub literal_fault : ℕ → ℕ → ℕ → ℕ
literal_fault M held number = cond (ltb M number) 9 (cond (ltb held most_on_hand) 0 11)

-- 8 for an operation whose number isn't 0, then 10 for one with fewer than two values on hand
abbrev pub operation_fault : ℕ → ℕ → ℕ
operation_fault held number = cond (eqb number 0) (cond (ltb held 2) 10 0) 8

abbrev pub fault_of : ℕ → ℕ → Kind → ℕ → ℕ
fault_of M held literal number = literal_fault M held number
fault_of M held (operation o) number = operation_fault held number
fault_of M held unknown number = 8

-- how many values are on hand after it
abbrev pub held_after : ℕ → Kind → ℕ
held_after held literal = suc held
held_after held (operation o) = held - 1
held_after held unknown = held

-- ---- a recipe

-- 12 where it ends with more than one value, 13 with none
abbrev pub end_fault : ℕ → ℕ
end_fault held = cond (eqb held 1) 0 (cond (eqb held 0) 13 12)

-- from item i on, with so many values on hand: the first item with a fault, or the end's
unfoldable pub shape_from : ℕ → ℕ → ℕ → List Item → Verdict
shape_from M i held [] = cond (eqb (end_fault held) 0) (well_formed M) (refused (end_fault held) i)
shape_from M i held (x ∷ xs) =
    elim (eqb (fault_of M held x.kind x.number) 0) [
      | true ↦ shape_from M (suc i) (held_after held x.kind) xs
      | false ↦ refused (fault_of M held x.kind x.number) i
    ]

-- nothing is wrong from here on, with so many values on hand, and one is left at the end
abbrev pub Good : ℕ → ℕ → List Item → Type 0
Good M held [] = held ≡ 1
Good M held (x ∷ xs) = (fault_of M held x.kind x.number ≡ 0) × Good M (held_after held x.kind) xs

abbrev pub known_width : ℕ → Bool
known_width W = eqb W 8 || eqb W 16 || eqb W 32 || eqb W 64

-- at a limit M: 6 for lists of different lengths, 7 for 0 items or above 256, then the items
unfoldable pub shape_at : ℕ → List ℕ → List ℕ → Verdict
shape_at M ks ns =
    cond (eqb (length ks) (length ns))
    (cond (eqb (length ks) 0) (refused 7 0) (cond (ltb most_items (length ks)) (refused 7 0) (shape_from M 0 0 (items ks ns))))
    (refused 6 0)

-- 5 for a width that isn't known, before anything else
unfoldable pub shape_of : ℕ → List ℕ → List ℕ → Verdict
shape_of W ks ns = cond (known_width W) (shape_at (limit_of W) ks ns) (refused 5 0)
