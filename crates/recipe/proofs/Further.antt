-- The state in its phase: it goes on there until its operation has its value, with which the phase is left, or until
-- the allowance is spent.
-- Assumes nothing.
use mathlib.Core.Path.{◌≡◌, refl, ap, sym, ◌∙◌, subst}
use mathlib.Core.Logic.{inl, inr}
use mathlib.Core.List.{List, [], ◌∷◌}
use Prim.Native.Nat.{ℕ, suc, ◌-◌, ◌≤◌, ◌<◌}
use native.Mathlib.Omega.{arith}
use lib.ListN.{length, get_or, drop}
use lib.Seq.{drop-cons}
use Rattle.checked.specs.Value.{Value}
use Rattle.shape.specs.Items.{Item, item_of}
use Rattle.shape.specs.Shape.{Good}
use Rattle.steps.specs.declared.types.Phase.{Phase}
use Rattle.steps.specs.declared.types.Phase.TheVariants.{Between, InPower, InLogarithm}
use Rattle.steps.specs.Steps as steps
use Rattle.operation.specs.declared.types.Reached.{Reached}
use Rattle.operation.specs.declared.types.Progress.{Progress}
use Rattle.operation.specs.declared.types.Progress.TheVariants as progress
use Rattle.operation.specs.Work.{reach_of, work_of}
use Rattle.operation.proofs.Sound.{sound-works, sound-goes}
use Rattle.recipe.specs.declared.types.State.{State}
use Rattle.recipe.specs.Machine.{between, WithinItem, Ahead, Stands, Rests, rest, placed_as, Kept}
use Rattle.recipe.specs.Machine.{Finishes, Goes}
use Rattle.recipe.proofs.Going.{GoesOn, goes-on}

-- ---- what is reached

abbrev valued : Value → ℕ → Reached
valued v n = record { progress = progress.Value v; taken = n }

abbrev still : Phase → ℕ → Reached
still p n = record { progress = progress.Within p; taken = n }

with-steps : (w : Reached) {p : Progress} → w.progress ≡ p → w ≡ record { progress = p; taken = w.taken }
with-steps w e = ap (λ p. record { progress = p; taken = w.taken }) e

-- ---- at work

-- the item at place d
item_at : List Item → ℕ → Item
item_at zs d = get_or zs d (item_of 0 0)

-- an operation at work takes the run's own steps: after t of them, and as far as the allowance a brings it
module _
    (M a : ℕ) (zs : List Item) (held d t : ℕ) (p : Phase) (w : Reached) (hand : List Value)
    (at : WithinItem M zs held d p) (allowed : t ≤ a) (comes : reach_of w ≡ work_of M p t a)
  where
    goes : GoesOn M a t (steps.within p) (reach_of w)
    goes =
        let on = goes-on M a (a - t) t (steps.within p) (sound-works p at.works) (omega arith) in
        subst (GoesOn M a t (steps.within p)) (sound-goes M t a p at.works ∙ sym comes) on

    there : drop d zs ≡ item_at zs d ∷ drop (suc d) zs
    unfolding item_at
    there = drop-cons zs d (item_of 0 0) at.more

    leads-to
        : (w' : Reached) → w ≡ w' →
        rest M a (steps.going t d hand p (drop d zs))
        ≡ rest M a (placed_as d hand (item_at zs d) (drop (suc d) zs) (reach_of w'))
    leads-to w' e =
        ap (λ xs. rest M a (steps.going t d hand p xs)) there
        ∙ goes.0 d hand (item_at zs d) (drop (suc d) zs)
        ∙ ap (λ w. rest M a (placed_as d hand (item_at zs d) (drop (suc d) zs) (reach_of w))) e

    kept : (w' : Reached) → w ≡ w' → Kept a t (reach_of w').taken (reach_of w').outcome
    kept w' e = subst (λ w. Kept a t (reach_of w).taken (reach_of w).outcome) e goes.1

-- ---- the value

Valued : steps.Outcome → Type 0
Valued (steps.value v) = Unit {0}
Valued (steps.within p) = ⊥
Valued (steps.fails code) = ⊥

-- what has come to its value was at work
at-work
    : (M a : ℕ) (zs : List Item) (held d t : ℕ) (p : Phase) (w : Reached) → Ahead M zs held d p →
    reach_of w ≡ work_of M p t a → (v : Value) (n : ℕ) → w ≡ valued v n → WithinItem M zs held d p
unfolding Valued
at-work M a zs held d t Between w h c v n e = absurd (subst (λ w. Valued w.outcome) (sym (ap reach_of e) ∙ c) tt)
at-work M a zs held d t (InPower p) w h c v n e = h
at-work M a zs held d t (InLogarithm q) w h c v n e = h

-- ---- still in a phase

phase_in : steps.Outcome → Phase
phase_in (steps.value v) = Between
phase_in (steps.within p) = p
phase_in (steps.fails code) = Between

-- between items nothing changes; at work the allowance is spent
abbrev StillIn
    : (M a : ℕ) (zs : List Item) (held d t : ℕ) (p : Phase) (hand : List Value) (p' : Phase) (n : ℕ) → Type 0
StillIn M a zs held d t p hand p' n =
    (rest M a (steps.going t d hand p (drop d zs)) ≡ rest M a (steps.going n d hand p' (drop d zs)))
    × Rests M a zs held (record { done = d; taken = n; phase = p' })
    × (t ≤ n)
    × (n ≤ a)

spent
    : (M a : ℕ) (zs : List Item) (held d t : ℕ) (p : Phase) (w : Reached) (hand : List Value) →
    WithinItem M zs held d p → t ≤ a → reach_of w ≡ work_of M p t a → (p' : Phase) (n : ℕ) → w ≡ still p' n →
    StillIn M a zs held d t p hand p' n
spent M a zs held d t p w hand at h c p' n e =
    let k = kept M a zs held d t p w hand at h c (still p' n) e in (
      leads-to M a zs held d t p w hand at h c (still p' n) e
          ∙ ap (λ xs. rest M a (steps.going n d hand p' xs)) (sym (there M a zs held d t p w hand at h c)),
      inr (k, at.more),
      omega arith,
      omega arith,
    )

goes-within
    : (M a : ℕ) (zs : List Item) (held d t : ℕ) (p : Phase) (w : Reached) (hand : List Value) →
    Ahead M zs held d p → t ≤ a → reach_of w ≡ work_of M p t a → (p' : Phase) (n : ℕ) → w ≡ still p' n →
    StillIn M a zs held d t p hand p' n
unfolding phase_in
goes-within M a zs held d t Between w hand h l c p' n e =
    let q = sym (ap reach_of e) ∙ c in
    let m : n ≡ t = ap (λ w. w.taken) q in (
      sym (ap (λ w. rest M a (steps.going w.taken d hand (phase_in w.outcome) (drop d zs))) q),
      inl (ap (λ w. phase_in w.outcome) q, h.0, h.1),
      omega arith,
      omega arith,
    )
goes-within M a zs held d t (InPower p) w hand h l c p' n e = spent M a zs held d t (InPower p) w hand h l c p' n e
goes-within M a zs held d t (InLogarithm q) w hand h l c p' n e =
    spent M a zs held d t (InLogarithm q) w hand h l c p' n e

-- ---- the state

module _
    {M a : ℕ} {hand : List Value} {s : State} {w : Reached} (allowed : s.taken ≤ a)
    (comes : reach_of w ≡ work_of M s.phase s.taken a)
  where
    module _ {v : Value} (is : w.progress ≡ progress.Value v) {zs : List Item} (stands : Stands M zs hand s) where
      at : WithinItem M zs (length hand) s.done s.phase
      at = at-work M a zs (length hand) s.done s.taken s.phase w stands.ahead comes v w.taken (with-steps w is)

      pub has-room : (length hand < 32) × (s.done < 256)
      has-room = (at.room, at.few)

      -- it is left with the value
      pub value-goes
          : {hand' : List Value} {r : State} → Finishes s.done w.taken v hand hand' r →
          Goes M a zs hand hand' s r
      value-goes {hand'} f = subst (Goes M a zs hand hand' s) (sym f.is) left
        where
          k : (s.taken ≤ w.taken) × (w.taken ≤ a)
          k = kept M a zs (length hand) s.done s.taken s.phase w [] at allowed comes (valued v w.taken) (with-steps w is)

          left : Goes M a zs hand hand' s (between (suc s.done) w.taken)
          left =
              let o = valued v w.taken in
              record {
                leads =
                    leads-to M a zs (length hand) s.done s.taken s.phase w hand at allowed comes o (with-steps w is)
                    ∙ ap (λ h. rest M a (steps.going w.taken (suc s.done) h Between (drop (suc s.done) zs)))
                    (sym f.on);
                rests = inl (refl, at.more, subst (λ h. Good M (length h) (drop (suc s.done) zs)) (sym f.on) at.good);
                later = k.0;
                allowed = k.1;
              }

    -- or the allowance is spent before
    pub phase-goes
        : {p : Phase} → w.progress ≡ progress.Within p → {zs : List Item} → Stands M zs hand s →
        Goes M a zs hand hand s (record { done = s.done; taken = w.taken; phase = p })
    phase-goes {p} is {zs} stands =
        let g =
        goes-within M a zs (length hand) s.done s.taken s.phase w hand stands.ahead
        allowed comes p w.taken (with-steps w is) in
        record { leads = g.0; rests = g.1; later = g.2; allowed = g.3 }
