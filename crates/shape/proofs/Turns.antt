-- A turn of the loop over the items, at place i with so many values on hand: the answer from here on is a refusal here,
-- or the answer from the next place on.
-- Assumes nothing.
use mathlib.Core.Path.{◌≡◌, refl, ap, sym, ◌∙◌}
use mathlib.Core.Bool.{Bool, true, false, cond}
use mathlib.Core.List.{List, [], ◌∷◌}
use Prim.Native.Nat.{ℕ, suc, ◌+◌, ◌≤◌, ◌<◌}
use native.Mathlib.Numerals.{add-one}
use native.Mathlib.Omega.{arith}
use borrow.Author.Tests.{eqb-true, eqb-false}
use lib.Dec.{eqb}
use lib.ListN.{length, get_or, drop, drop_of_length-le}
use Rattle.std.specs.Prelude.{Ok, Err}
use Rattle.checked.specs.declared.refusal.Refusal.{Refusal}
use Rattle.checked.specs.Paper.{number_of}
use Rattle.checked.proofs.Unique.{not-zero}
use Rattle.shape.specs.Items.{Kind, kind_of, Item, item_of, items}
use Rattle.shape.specs.Shape.{refused, fault_of, held_after, shape_from}
use Rattle.shape.specs.Answers.{Passed, held_verdict, held_for}
use Rattle.shape.proofs.Items.{length-items, items-at}
use Rattle.shape.proofs.Shapes.{item-passes, item-refused}

-- past the last item
pub no-item-left
    : (M i held : ℕ) (ks ns : List ℕ) → length ks ≡ length ns → length ks ≤ i →
    shape_from M i held [] ≡ shape_from M i held (drop i (items ks ns))
no-item-left M i held ks ns equal past =
    let k : length (items ks ns) ≤ i = omega (arith, length-items ks ns equal) in
    ap (shape_from M i held) (sym (drop_of_length-le (items ks ns) k))

module _ (M held : ℕ) (kind : Kind) (number : ℕ) where
  abbrev by-fault : Bool → Passed
  by-fault t = cond t (record { code = 0; held = held_after held kind }) (record { code = fault_of M held kind number; held = 0 })

  -- an item that passes has no fault, and the values that are left are those after it
  pub passes-with
      : (left : ℕ) → held_verdict (Ok left) ≡ held_for M held kind number →
      (fault_of M held kind number ≡ 0) × (left ≡ held_after held kind)
  passes-with left e = by (eqb (fault_of M held kind number) 0) refl
    where
      by : (t : Bool) → eqb (fault_of M held kind number) 0 ≡ t → (fault_of M held kind number ≡ 0) × (left ≡ held_after held kind)
      by true w = (eqb-true _ 0 w, ap (λ p. p.held) (e ∙ ap by-fault w))
      by false w = absurd (eqb-false _ 0 w (sym (ap (λ p. p.code) (e ∙ ap by-fault w))))

  -- an item that is refused has that fault
  pub refused-with
      : (r : Refusal) → held_verdict (Err r) ≡ held_for M held kind number →
      (number_of r ≡ fault_of M held kind number) × (number_of r ≡ 0 → ⊥)
  refused-with r e = by (eqb (fault_of M held kind number) 0) refl
    where
      some : number_of r ≡ 0 → ⊥
      some = eqb-false _ 0 (not-zero r)

      by
          : (t : Bool) → eqb (fault_of M held kind number) 0 ≡ t →
          (number_of r ≡ fault_of M held kind number) × (number_of r ≡ 0 → ⊥)
      by true w = absurd (some (ap (λ p. p.code) (e ∙ ap by-fault w)))
      by false w = (ap (λ p. p.code) (e ∙ ap by-fault w), some)

-- at item i
module _ (M i held : ℕ) (ks ns : List ℕ) (within : i < length ks) (equal : length ks ≡ length ns) where
  abbrev here : Item
  here = item_of (get_or ks i 0) (get_or ns i 0)

  at-item : shape_from M i held (drop i (items ks ns)) ≡ shape_from M i held (here ∷ drop (suc i) (items ks ns))
  at-item = ap (shape_from M i held) (items-at ks ns i within (omega arith))

  pub turn
      : (left : ℕ) → held_verdict (Ok left) ≡ held_for M held (kind_of (get_or ks i 0)) (get_or ns i 0) →
      shape_from M (i + 1) left (drop (i + 1) (items ks ns)) ≡ shape_from M i held (drop i (items ks ns))
  turn left e =
      let p = passes-with M held (kind_of (get_or ks i 0)) (get_or ns i 0) left e in
      simp (p.1, add-one) (sym (at-item ∙ item-passes M i held here (drop (suc i) (items ks ns)) p.0))

  pub turned-away
      : (r : Refusal) → held_verdict (Err r) ≡ held_for M held (kind_of (get_or ks i 0)) (get_or ns i 0) →
      refused (number_of r) i ≡ shape_from M i held (drop i (items ks ns))
  turned-away r e =
      let p = refused-with M held (kind_of (get_or ks i 0)) (get_or ns i 0) r e in
      ap (λ c. refused c i) p.0 ∙ sym (at-item ∙ item-refused M i held here (drop (suc i) (items ks ns)) (λ z. p.1 (p.0 ∙ z)))
