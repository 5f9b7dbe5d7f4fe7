-- The loop of the run: what is left of the allowance leads from its state to where the whole leads from the start, and
-- so where the loop ends it shows what the whole shows.
-- Assumes nothing.
use mathlib.Core.Path.{◌≡◌, refl, ap, sym, ◌∙◌, subst}
use mathlib.Core.Logic.{inl, ⊎_elim}
use mathlib.Core.List.{List, [], ◌∷◌}
use Prim.Native.Nat.{ℕ, ◌+◌, ◌-◌, ◌≤◌, ◌<◌}
use native.Mathlib.Numerals.{add-one}
use native.Mathlib.Omega.{arith}
use lib.ListN.{length, drop, drop_of_length-le}
use Rattle.std.specs.Prelude.{Result, Ok, Err}
use Rattle.checked.specs.declared.refusal.Refusal.{Refusal}
use Rattle.checked.specs.Value.{Value}
use Rattle.checked.specs.Paper.{given, number_of}
use Rattle.shape.specs.Items.{Item, items}
use Rattle.shape.specs.Shape.{Good}
use Rattle.shape.proofs.Items.{items-at, length-items}
use Rattle.steps.specs.declared.types.Phase.TheVariants.{Between}
use Rattle.steps.specs.Steps as steps
use Rattle.steps.proofs.Runs.{ended-stays}
use Rattle.recipe.specs.declared.types.Driven.TheVariants.{Stopped}
use Rattle.recipe.specs.declared.types.State.{State}
use Rattle.recipe.specs.Run.{shown, ended, refused_at}
use Rattle.recipe.specs.Machine.{state_of, between, Stands, Rests, rest, entered_of, Ready}
use Rattle.recipe.specs.Machine.{AtItem, Enters, Goes, driven_of}

-- where the whole allowance a leads from the start
abbrev pub whole : ℕ → List ℕ → List ℕ → ℕ → steps.State
whole M ks ns a = steps.after M a (steps.start (items ks ns))

-- at the head of the loop: between items or out of the allowance, with an item still to do
pub record Drives (M : ℕ) (ks ns : List ℕ) (a : ℕ) (hand : List Value) (s : State) : Type 0 where
  pub allowed : s.taken ≤ a
  pub more : s.done < length ks
  pub rests : Rests M a (items ks ns) (length hand) s
  pub leads : rest M a (state_of (items ks ns) hand s) ≡ whole M ks ns a

pub begins-driving
    : (M : ℕ) (ks ns : List ℕ) (a : ℕ) (hand : List Value) → 0 < length ks → hand ≡ [] → Good M 0 (items ks ns) →
    Drives M ks ns a hand (between 0 0)
begins-driving M ks ns a hand h s g = subst (λ hand. Drives M ks ns a hand (between 0 0)) (sym s) begun
  where
    begun : Drives M ks ns a [] (between 0 0)
    begun =
        let e : a - 0 ≡ a = omega arith in
        record {
          allowed = omega arith;
          more = h;
          rests = inl (refl, omega arith, g);
          leads = ap (λ k. steps.after M k (steps.start (items ks ns))) e;
        }

-- the allowance is spent, and an item is still to do
spent-shown
    : (M : ℕ) (ks ns : List ℕ) (a : ℕ) (hand : List Value) (s : State) → length ks ≡ length ns → a ≤ s.taken →
    s.done < length ks → rest M a (state_of (items ks ns) hand s) ≡ whole M ks ns a →
    driven_of hand (Stopped s) ≡ shown (whole M ks ns a)
unfolding steps.after
spent-shown M ks ns a hand s same h m leads =
    let e : a - s.taken ≡ 0 = omega arith in
    ap (λ xs. shown (steps.going s.taken s.done hand s.phase xs)) (sym (items-at ks ns s.done m (omega arith)))
    ∙ ap shown (ap (λ k. steps.after M k (state_of (items ks ns) hand s)) (sym e) ∙ leads)

-- ---- after an item's steps

-- the next item was entered after t steps, and the run has gone on to this
pub record Turned (M : ℕ) (ks ns : List ℕ) (a t : ℕ) (hand : List Value) (s : State) : Type 0 where
  pub same : length ks ≡ length ns
  pub later : t < s.taken
  pub allowed : s.taken ≤ a
  pub rests : Rests M a (items ks ns) (length hand) s
  pub leads : rest M a (state_of (items ks ns) hand s) ≡ whole M ks ns a

module _
    {M : ℕ} {ks ns : List ℕ} {a t : ℕ} {hand : List Value} {s : State} (turned : Turned M ks ns a t hand s)
  where
    -- items are left
    pub drives-on : (s.done ≡ length ks → ⊥) → Drives M ks ns a hand s
    drives-on m =
        record { allowed = turned.allowed; more = left; rests = turned.rests; leads = turned.leads }
      where
        left : s.done < length ks
        left =
            let l = length-items ks ns turned.same in
            ⊎_elim (λ w. let h = w.1 in let f : (s.done ≡ length ks → ⊥) = m in omega arith)
            (λ w. let h = w.1 in omega arith) turned.rests

    -- the run is still in a phase, and so the allowance is spent
    pub within-shown : (s.phase ≡ Between → ⊥) → driven_of hand (Stopped s) ≡ shown (whole M ks ns a)
    within-shown n =
        ⊎_elim (λ w. absurd (n w.0))
        (λ w.
        let e = w.0 in
        let h = w.1 in
        let l = length-items ks ns turned.same in
        spent-shown M ks ns a hand s turned.same (omega arith) (omega arith) turned.leads)
        turned.rests

    -- all are done
    module _ (last : s.done ≡ length ks) where
      nothing-left : drop s.done (items ks ns) ≡ []
      nothing-left =
          let h : length (items ks ns) ≤ s.done = omega (arith, length-items ks ns turned.same) in
          drop_of_length-le (items ks ns) h

      -- one value is on hand
      pub one-left : length hand ≡ 1
      one-left =
          let l = length-items ks ns turned.same in
          ⊎_elim (λ w. subst (Good M (length hand)) nothing-left w.2)
          (λ w. let h = w.1 in let f : ⊥ = omega arith in absurd f) turned.rests

      pub finished-shown
          : {v : Value} {hand' : List Value} → hand ≡ v ∷ hand' → ended (given v) s.taken ≡ shown (whole M ks ns a)
      finished-shown q =
          let t = s.taken in
          let d = s.done in
          let p = s.phase in
          ap (λ hand. ended (given (steps.top hand)) t) (sym q)
          ∙ ap shown
          (sym (ended-stays M (a - t) (steps.going t d hand p []) tt)
          ∙ ap (λ xs. rest M a (steps.going t d hand p xs)) (sym nothing-left)
          ∙ turned.leads)

-- ---- the loop's state

module _
    {M : ℕ} {ks ns : List ℕ} {a : ℕ} {hand : List Value} {s : State} (same : length ks ≡ length ns)
    (drives : Drives M ks ns a hand s)
  where
    -- the allowance is spent
    pub stopped-shown : a ≤ s.taken → driven_of hand (Stopped s) ≡ shown (whole M ks ns a)
    stopped-shown h = spent-shown M ks ns a hand s same h drives.more drives.leads

    -- there is a step for the next item
    module _ (left : s.taken < a) where
      in-turn : (s.phase ≡ Between) × Good M (length hand) (drop s.done (items ks ns))
      in-turn = ⊎_elim (λ w. (w.0, w.2)) (λ w. let e = w.0 in let f : ⊥ = omega arith in absurd f) drives.rests

      pub at-item : length ks ≤ 256 → AtItem M ks ns s.done hand
      at-item few = record { same = same; few = few; more = drives.more; good = in-turn.1 }

      module _
          {hand' : List Value} {r : Result State Refusal}
          (enters : Enters M (s.taken + 1) (items ks ns) s.done hand hand' r)
        where
          -- the same of the case that the answer is
          led
              : (r' : Result State Refusal) → r ≡ r' →
              rest M a (entered_of (s.taken + 1) s.done (items ks ns) hand' r') ≡ whole M ks ns a
          led r' e =
              ap (λ r. rest M a (entered_of (s.taken + 1) s.done (items ks ns) hand' r)) (sym e)
              ∙ sym (enters.leads a s.taken left (add-one s.taken))
              ∙ ap (λ p. rest M a (steps.going s.taken s.done hand p (drop s.done (items ks ns)))) (sym in-turn.0)
              ∙ drives.leads

          pub refused-shown
              : {c : Refusal} → r ≡ Err c →
              ended (refused_at (number_of c) s.done) (s.taken + 1) ≡ shown (whole M ks ns a)
          refused-shown {c} e = ap shown (led (Err c) e)

          module _ {s' : State} (e : r ≡ Ok s') where
            ready : Ready M (s.taken + 1) (items ks ns) hand' (Ok s')
            ready = subst (Ready M (s.taken + 1) (items ks ns) hand') e enters.ready

            pub entered-stands : ((zs : List Item) × Stands M zs hand' s') × (s'.taken ≤ a)
            entered-stands = let n = ready.1 in ((items ks ns, ready.0), omega arith)

            pub turn
                : {hand'' : List Value} {s'' : State} →
                ((zs : List Item) → Stands M zs hand' s' → Goes M a zs hand' hand'' s' s'') →
                Turned M ks ns a s.taken hand'' s''
            turn goes =
                let g = goes (items ks ns) ready.0 in
                let n = ready.1 in
                let l = g.later in
                record {
                  same = same;
                  later = omega arith;
                  allowed = g.allowed;
                  rests = g.rests;
                  leads = sym g.leads ∙ led (Ok s') e;
                }
