-- An operation's operands, which leave the hand with its first step, and an item's value, which is put on it with the
-- last.
-- Assumes nothing.
use mathlib.Core.Path.{◌≡◌, refl, ap, sym, ◌∙◌, subst}
use mathlib.Core.List.{List, ◌∷◌}
use Prim.Native.Nat.{ℕ, suc, ◌-◌, ◌<◌}
use native.Mathlib.Omega.{arith}
use lib.ListN.{length, drop}
use Rattle.std.specs.Prelude.{Result, Ok, Err}
use Rattle.checked.specs.declared.refusal.Refusal.{Refusal}
use Rattle.checked.specs.Value.{Value}
use Rattle.shape.specs.Items.{Item, Kind, Operation, operation}
use Rattle.shape.specs.Shape.{Good}
use Rattle.steps.specs.declared.types.Phase.{Phase}
use Rattle.steps.specs.declared.types.Phase.TheVariants.{Between, InPower, InLogarithm}
use Rattle.steps.specs.Steps as steps
use Rattle.operation.specs.declared.types.Progress.{Progress}
use Rattle.operation.specs.declared.types.Progress.TheVariants as progress
use Rattle.operation.specs.Work.{begun_as, outcome}
use Rattle.operation.proofs.Sound.{SoundOutcome, begun-sound, sound-works}
use Rattle.recipe.specs.declared.types.State.{State}
use Rattle.recipe.specs.Machine.{state_of, between, WithinItem, Ahead, Stands, placed}
use Rattle.recipe.specs.Machine.{Finishes, Operates}
use Rattle.recipe.proofs.Going.{landed-placed}

-- ---- an item's value

module _
    {d taken : ℕ} {v : Value} {hand hand' : List Value} {r : State} (finished : Finishes d taken v hand hand' r)
    (zs : List Item)
  where
    pub finished-state : state_of zs hand' r ≡ steps.going taken (suc d) (v ∷ hand) Between (drop (suc d) zs)
    finished-state =
        ap (state_of zs hand') finished.is
        ∙ ap (λ hand. steps.going taken (suc d) hand Between (drop (suc d) zs)) finished.on

    pub finished-stands
        : (M : ℕ) → d < length zs → Good M (suc (length hand)) (drop (suc d) zs) →
        Stands M zs hand' r × (r.taken ≡ taken)
    finished-stands M m g =
        let stands : Stands M zs (v ∷ hand) (between (suc d) taken) = record { ahead = (m, g) } in
        subst (λ h. Stands M zs h r × (r.taken ≡ taken)) (sym finished.on)
        (subst (λ r. Stands M zs (v ∷ hand) r × (r.taken ≡ taken)) (sym finished.is) (stands, refl))

-- ---- an operation's operands leave the hand, the right one first

-- nothing is wrong in a phase that an operation has entered
entered-ahead
    : (M : ℕ) (zs : List Item) (held d : ℕ) (p : Phase) → WithinItem M zs held d p → Ahead M zs held d p
entered-ahead M zs held d Between w = absurd (sound-works Between w.works)
entered-ahead M zs held d (InPower p) w = w
entered-ahead M zs held d (InLogarithm q) w = w

-- what the operation of item d begins with, where the two operands have left the hand
module _
    {hand under : List Value} {l r : Value} (taken : hand ≡ r ∷ l ∷ under) (room : length under < 32)
    (M from : ℕ) (k : Kind) (d : ℕ) (o : Result Progress Refusal) (few : d < 256) (comes : outcome o ≡ begun_as M k l r)
  where
    begins
        : (o' : Result Progress Refusal) → o ≡ o' → (t' : ℕ) (zs : List Item) (x : Item) (p : Operation) →
        from ≡ suc t' → k ≡ operation p →
        steps.operating M t' d hand p x (drop (suc d) zs) ≡ placed from d under x (drop (suc d) zs) (outcome o')
    begins o' e t' zs x p n h =
        let xs = drop (suc d) zs in
        ap (λ hand. steps.operating M t' d hand p x xs) taken
        ∙ ap (λ κ. steps.landed t' d under x xs (begun_as M κ l r)) (sym h)
        ∙ ap (steps.landed t' d under x xs) (sym comes ∙ ap outcome e)
        ∙ landed-placed t' from d under x xs (outcome o') n

    one-more
        : (zs : List Item) → Good M (length hand - 1) (drop (suc d) zs) → Good M (suc (length under)) (drop (suc d) zs)
    one-more zs g =
        let e = ap length taken in subst (λ n. Good M n (drop (suc d) zs)) (omega arith) g

    pub value-operates
        : {v : Value} {hand' : List Value} {s : State} → o ≡ Ok (progress.Value v) →
        Finishes d from v under hand' s → Operates M from k d hand hand' (Ok s)
    value-operates {v} e f =
        record {
          leads = λ t' zs x p n h i. begins (Ok (progress.Value v)) e t' zs x p n i ∙ sym (finished-state f zs);
          ready = λ zs m g. finished-stands f zs M m (one-more zs g);
        }

    pub phase-operates
        : {p : Phase} → o ≡ Ok (progress.Within p) →
        Operates M from k d hand under (Ok (record { done = d; taken = from; phase = p }))
    phase-operates {p} e =
        record {
          leads =
              λ t' zs x q n h i.
              begins (Ok (progress.Within p)) e t' zs x q n i ∙ ap (steps.going from d under p) (sym h);
          ready =
              λ zs m g. (
                record {
                  ahead =
                      entered-ahead M zs (length under) d p
                      (record { works = works; room = room; few = few; more = m; good = one-more zs g });
                },
                refl,
              );
        }
      where
        works : SoundOutcome (outcome (Ok (progress.Within p)))
        works = subst SoundOutcome (sym comes ∙ ap outcome e) (begun-sound M k l r)

    pub refusal-operates : {c : Refusal} → o ≡ Err c → Operates M from k d hand under (Err c)
    refusal-operates {c} e =
        record { leads = λ t' zs x p n h i. begins (Err c) e t' zs x p n i; ready = λ zs m g. tt }
