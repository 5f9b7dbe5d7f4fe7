-- An item of a well-formed recipe, begun with the values of the meaning's hand on hand: its steps leave the values of
-- the meaning's hand after it, or it is refused in one step where the meaning refuses it.
-- Assumes nothing.
use mathlib.Core.Path.{◌≡◌, refl, ap, sym, ◌∙◌}
use mathlib.Core.Bool.{true, false, true≢false}
use mathlib.Core.List.{List, [], ◌∷◌}
use Prim.Native.Nat.{ℕ, suc, ◌+◌}
use native.Mathlib.Omega.{arith}
use lib.Dec.{eqb}
use lib.ListN.{length}
use Rattle.checked.specs.declared.types.Checked.TheVariants.{Fits}
use Rattle.checked.specs.Value.{checked_of}
use Rattle.checked.proofs.Limit.{fits}
use Rattle.shape.specs.Items.{Kind, literal, operation, unknown, Item}
use Rattle.shape.specs.Shape.{fault_of}
use Rattle.shape.proofs.Shapes.{literal-good}
use Rattle.meaning.specs.Meaning.{top, under, refusal_on, hand_on}
use Rattle.meaning.specs.Count.{further_on}
use Rattle.meaning.proofs.Hands.{too-few, item_with}
use Rattle.steps.specs.declared.types.Phase.TheVariants.{Between}
use Rattle.steps.specs.Steps.{Outcome, value, begun, going, refused, landed, beginning, after}
use Rattle.steps.specs.Shown.{values_of}
use Rattle.steps.proofs.Outcomes.{Keeps}
use Rattle.steps.proofs.Work.{works-out}
use Rattle.steps.proofs.Operations.{begun-ill, operation-keeps}

-- ---- an item begun

-- nothing is wrong with an item, with this hand before it
abbrev Faultless : ℕ → List ℕ → Kind → ℕ → Type 0
Faultless M H k n = fault_of M (length H) k n ≡ 0

-- begun and not refused with the values of the meaning's hand H on hand: the outcome keeps to the top of the meaning's hand after it, and the
-- values of what is under that top are on hand
pub record Begun (M t d : ℕ) (H : List ℕ) (x : Item) (xs : List Item) : Type 0 where
  pub outcome : Outcome
  pub state : beginning M t d (values_of M H) x.kind x xs ≡ landed t d (values_of M (under (hand_on H x))) x xs outcome
  pub keeps : Keeps M (top (hand_on H x)) (further_on M H x.kind) outcome
  pub hand : hand_on H x ≡ top (hand_on H x) ∷ under (hand_on H x)

module _ (M t d : ℕ) (xs : List Item) where
  pub item-begins : (H : List ℕ) (k : Kind) (n : ℕ) → Faultless M H k n → eqb (refusal_on M H k) 0 ≡ true → Begun M t d H (item_with k n) xs
  item-begins H literal n h e =
      record { outcome = value (Fits n); state = refl; keeps = (fits M n (literal-good M (length H) n h).0, refl); hand = refl }
  item-begins [] (operation o) n h e = too-few 0 n (omega arith) h
  item-begins (r ∷ []) (operation o) n h e = too-few 1 n (omega arith) h
  item-begins (r ∷ l ∷ H) (operation o) n h e =
      record { outcome = begun M o (checked_of M l) (checked_of M r); state = refl; keeps = operation-keeps M l r o e; hand = refl }
  item-begins H unknown n h e = let f : ⊥ = omega arith in absurd f

  -- or it is refused as the meaning refuses it
  pub item-fails
      : (H : List ℕ) (k : Kind) (n : ℕ) → Faultless M H k n → eqb (refusal_on M H k) 0 ≡ false →
      beginning M t d (values_of M H) k (item_with k n) xs ≡ refused (suc t) d (refusal_on M H k)
  item-fails H literal n h e = absurd (true≢false e)
  item-fails [] (operation o) n h e = too-few 0 n (omega arith) h
  item-fails (r ∷ []) (operation o) n h e = too-few 1 n (omega arith) h
  item-fails (r ∷ l ∷ H) (operation o) n h e = ap (landed t d (values_of M H) (item_with (operation o) n) xs) (begun-ill M o l r e)
  item-fails H unknown n h e = let f : ⊥ = omega arith in absurd f

-- ---- an item wholly done

pub item-runs
    : (M t d : ℕ) (H : List ℕ) (x : Item) (xs : List Item) → Begun M t d H x xs →
    after M (suc (further_on M H x.kind)) (going t d (values_of M H) Between (x ∷ xs))
    ≡ going (further_on M H x.kind + suc t) (suc d) (values_of M (hand_on H x)) Between xs
unfolding after
item-runs M t d H x xs b =
    ap (after M (further_on M H x.kind)) b.state
    ∙ works-out M (top (hand_on H x)) d (values_of M (under (hand_on H x))) x xs (further_on M H x.kind) t b.outcome b.keeps
    ∙ ap (λ G. going (further_on M H x.kind + suc t) (suc d) (values_of M G) Between xs) (sym b.hand)
