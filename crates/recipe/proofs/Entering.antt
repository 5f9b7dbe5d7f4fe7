-- The next item's first step: the code begins it as the run does, and what is still to come after it stays well
-- formed.
-- Assumes nothing.
use mathlib.Core.Path.{◌≡◌, ap, sym, ◌∙◌, subst}
use mathlib.Core.List.{List, ◌∷◌}
use Prim.Native.Nat.{ℕ, suc, ◌-◌, ◌≤◌, ◌<◌}
use native.Mathlib.Decide.{dec_lt}
use native.Mathlib.Omega.{arith}
use lib.ListN.{length, get_or, drop}
use Rattle.std.specs.Prelude.{Result, Ok}
use Rattle.checked.specs.declared.refusal.Refusal.{Refusal}
use Rattle.checked.specs.declared.types.Checked.TheVariants.{Fits}
use Rattle.checked.specs.Value.{Value}
use Rattle.shape.specs.Items.{Operation, Item, Kind, literal, operation, unknown, kind_of, item_of, items}
use Rattle.shape.specs.Shape.{fault_of, held_after, Good}
use Rattle.shape.proofs.Codes.{kind-operation, kind_unknown}
use Rattle.shape.proofs.Items.{items-at, length-items}
use Rattle.shape.proofs.Shapes.{literal-good, operation-good, unknown-not-good}
use Rattle.steps.specs.declared.types.Phase.TheVariants.{Between}
use Rattle.steps.specs.Steps as steps
use Rattle.recipe.specs.declared.types.State.{State}
use Rattle.recipe.specs.Machine.{rest, Finishes, entered_of, Operates, AtItem, Enters}
use Rattle.recipe.proofs.Going.{step-leads, landed-placed}
use Rattle.recipe.proofs.Landing.{finished-state, finished-stands}

module _
    {M : ℕ} {ks ns : List ℕ} {d : ℕ} {hand : List Value} (at : AtItem M ks ns d hand)
  where
    abbrev held : ℕ
    held = length hand

    item : Item
    item = item_of (get_or ks d 0) (get_or ns d 0)

    later : List Item
    later = drop (suc d) (items ks ns)

    next : drop d (items ks ns) ≡ item ∷ later
    unfolding item later
    next = let h = at.more in let e = at.same in items-at ks ns d h (omega arith)

    -- ---- what is still to come

    -- an item of this kind passes, and what comes after it does
    abbrev GoodAs : Kind → Type 0
    GoodAs k = (fault_of M held k (get_or ns d 0) ≡ 0) × Good M (held_after held k) (drop (suc d) (items ks ns))

    good-as : (k : Kind) → kind_of (get_or ks d 0) ≡ k → GoodAs k
    unfolding item later
    good-as k e = subst GoodAs e (subst (Good M held) next at.good)

    pub good-literal : kind_of (get_or ks d 0) ≡ literal → (held < 32) × Good M (suc held) (drop (suc d) (items ks ns))
    good-literal e =
        let w = good-as literal e in
        ((literal-good M held (get_or ns d 0) w.0).1, w.1)

    pub good-operation
        : (o : Operation) → kind_of (get_or ks d 0) ≡ operation o →
        (2 ≤ held) × Good M (held - 1) (drop (suc d) (items ks ns))
    good-operation o e =
        let w = good-as (operation o) e in ((operation-good held (get_or ns d 0) w.0).1, w.1)

    -- an item that is no literal is an operation
    pub there-is : (get_or ks d 0 ≡ 0 → ⊥) → (o : Operation) × (kind_of (get_or ks d 0) ≡ operation o)
    there-is n =
        let k = get_or ks d 0 in
        elim (dec_lt k 7) [
          | yes h ↦ kind-operation k (omega arith) h
          | no h ↦ absurd (unknown-not-good M held (get_or ns d 0) (good-as unknown (kind_unknown k (omega arith))).0)
        ]

    pub few : d < 256
    few = let h = at.few in let m = at.more in omega arith

    there : d < length (items ks ns)
    there = let m = at.more in let e = length-items ks ns at.same in omega arith

    -- ---- the item

    begins
        : (a t : ℕ) (hand' : List Value) (o : steps.Outcome) → t < a →
        steps.beginning M t d hand item.kind item later ≡ steps.landed t d hand' item later o →
        rest M a (steps.going t d hand Between (drop d (items ks ns)))
        ≡ rest M a (steps.landed t d hand' item later o)
    begins a t hand' o h s =
        ap (λ xs. rest M a (steps.going t d hand Between xs)) next
        ∙ step-leads M a t d hand hand' Between item later o h s

    module _ {from : ℕ} {hand' : List Value} where
      pub literal-enters
          : {r : State} → kind_of (get_or ks d 0) ≡ literal →
          Finishes d from (Fits (get_or ns d 0)) hand hand' r →
          Enters M from (items ks ns) d hand hand' (Ok r)
      unfolding item later
      literal-enters {r} e f =
          record { leads = led; ready = finished-stands f (items ks ns) M there (good-literal e).1 }
        where
          led
              : (a t : ℕ) → t < a → from ≡ suc t →
              rest M a (steps.going t d hand Between (drop d (items ks ns)))
              ≡ rest M a (entered_of from d (items ks ns) hand' (Ok r))
          led a t h n =
              let o = steps.value (Fits (get_or ns d 0)) in
              begins a t hand o h (ap (λ κ. steps.beginning M t d hand κ item later) e)
              ∙ ap (rest M a) (landed-placed t from d hand item later o n ∙ sym (finished-state f (items ks ns)))

      pub operation-enters
          : {r : Result State Refusal} (o : Operation) → kind_of (get_or ks d 0) ≡ operation o →
          Operates M from (kind_of (get_or ks d 0)) d hand hand' r →
          Enters M from (items ks ns) d hand hand' r
      unfolding item later
      operation-enters {r} o e operated =
          record { leads = led; ready = operated.ready (items ks ns) there (good-operation o e).1 }
        where
          led
              : (a t : ℕ) → t < a → from ≡ suc t →
              rest M a (steps.going t d hand Between (drop d (items ks ns)))
              ≡ rest M a (entered_of from d (items ks ns) hand' r)
          led a t h n =
              let begun = steps.begun M o (steps.top (steps.under hand)) (steps.top hand) in
              begins a t (steps.under (steps.under hand)) begun h
              (ap (λ κ. steps.beginning M t d hand κ item later) e)
              ∙ ap (rest M a) (operated.leads t (items ks ns) item o n next e)
