-- What the search over a run of blocks promises, one named theorem for each promise. The function's contract says
-- that its answer is the one of `search_of`; `Unique` says that no other answer is.
-- Assumes nothing.
use mathlib.Core.Path.{◌≡◌, refl, ap, sym, ◌∙◌, subst}
use mathlib.Core.Logic.{◌↔◌, ◌⊎◌, inl, inr, ⊎_elim}
use mathlib.Core.List.{List, []}
use Prim.Native.Nat.{ℕ, ◌*◌, ◌<◌}
use native.Mathlib.Omega.{arith}
use lib.ListN.{length}
use Rattle.layout.specs.Editions.{block_length}
use Rattle.layout.specs.Layout.{edition_of}
use Rattle.layout.specs.Runs.{blocks, block_at, Whole}
use Rattle.layout.proofs.Promises.{fault-16-exactly, fault-only-codes}
use Rattle.layout.proofs.Runs.{block-length}
use Rattle.search.specs.Search.{refused, none, found_at, QuietBefore, search_of, BadBlock, OverflowedBlock}
use Rattle.search.proofs.Stages.{at-partial, at-bad, at-overflowed, at-none, partial, all-quiet, bad-block}
use Rattle.search.proofs.Stages.{overflowed-block, stage}

module _ (run : List ℕ) where
  -- place i of the block at position p is found exactly when the run has whole blocks, every block before p is quiet,
  -- and block p is sound with i its first overflowed place
  pub found-exactly : (p i : ℕ) → (search_of run ≡ found_at p i) ↔ (Whole run × OverflowedBlock run p i)
  found-exactly p i = (only, λ w. at-overflowed run p i w.0 w.1.0 w.1.1 w.1.2 w.1.3)
    where
      only : search_of run ≡ found_at p i → Whole run × OverflowedBlock run p i
      only r =
          elim (stage run) [
            | partial n s ↦ let f : ⊥ = omega (arith, ap (λ s. s.code) (sym s ∙ r)) in absurd f
            | all-quiet z q s ↦ let f : ⊥ = omega (arith, ap (λ s. s.found) (sym s ∙ r)) in absurd f
            | bad-block z k h n q s ↦ absurd (n (ap (λ s. s.code) (sym s ∙ r)))
            | overflowed-block z k j h e f q s ↦
                let same = ap (λ s. s.position) (sym s ∙ r) in (
                  z,
                  subst (λ j. OverflowedBlock run p j) (ap (λ s. s.within) (sym s ∙ r))
                      (subst (λ k. OverflowedBlock run k j) same (h, e, f, q)),
                )
          ]

  -- none exactly when it has whole blocks and every one is quiet
  pub none-exactly : (search_of run ≡ none) ↔ (Whole run × QuietBefore run (blocks run))
  none-exactly = (only, λ w. at-none run w.0 w.1)
    where
      only : search_of run ≡ none → Whole run × QuietBefore run (blocks run)
      only r =
          elim (stage run) [
            | partial n s ↦ let f : ⊥ = omega (arith, ap (λ s. s.code) (sym s ∙ r)) in absurd f
            | all-quiet z q s ↦ (z, q)
            | bad-block z k h n q s ↦ absurd (n (ap (λ s. s.code) (sym s ∙ r)))
            | overflowed-block z k j h e f q s ↦ let f : ⊥ = omega (arith, ap (λ s. s.found) (sym s ∙ r)) in absurd f
          ]

  -- a refusal c with position p is given exactly when it is 16 with 0 and the run is no multiple of 512 bytes, or it
  -- is one, every block before p is quiet, and c is the fault of block p
  pub refused-exactly
      : (c p : ℕ) →
      (c ≡ 0 → ⊥) →
      (search_of run ≡ refused c p) ↔ (((c ≡ 16) × (p ≡ 0) × (Whole run → ⊥)) ⊎ (Whole run × BadBlock run c p))
  refused-exactly c p n = (only, ⊎_elim of-length of-block)
    where
      of-length : (c ≡ 16) × (p ≡ 0) × (Whole run → ⊥) → search_of run ≡ refused c p
      of-length (e, z, w) = at-partial run w ∙ ap (λ c. refused c 0) (sym e) ∙ ap (refused c) (sym z)

      of-block : Whole run × BadBlock run c p → search_of run ≡ refused c p
      of-block (w, (h, f, q)) = at-bad run p w h (λ z. n (sym f ∙ z)) q ∙ ap (λ c. refused c p) f

      only : search_of run ≡ refused c p → ((c ≡ 16) × (p ≡ 0) × (Whole run → ⊥)) ⊎ (Whole run × BadBlock run c p)
      only r =
          elim (stage run) [
            | partial w s ↦ inl (sym (ap (λ s. s.code) (sym s ∙ r)), sym (ap (λ s. s.place) (sym s ∙ r)), w)
            | all-quiet z q s ↦ absurd (n (sym (ap (λ s. s.code) (sym s ∙ r))))
            | bad-block z k h m q s ↦
                let e = ap (λ s. s.code) (sym s ∙ r) in
                inr (z, subst (BadBlock run c) (ap (λ s. s.place) (sym s ∙ r)) (h, e, q))
            | overflowed-block z k j h e f q s ↦ absurd (n (sym (ap (λ s. s.code) (sym s ∙ r))))
          ]

  -- 16 exactly when the run is no multiple of 512 bytes: a block of a run that is one is never refused with it
  pub refused-16-exactly : ((search_of run).code ≡ 16) ↔ (Whole run → ⊥)
  refused-16-exactly = (only, λ n. ap (λ s. s.code) (at-partial run n))
    where
      only : (search_of run).code ≡ 16 → Whole run → ⊥
      only r w =
          elim (stage run) [
            | partial n s ↦ n w
            | all-quiet z q s ↦ omega (arith, ap (λ s. s.code) s)
            | bad-block z p h n q s ↦
                let b = block_at run p in
                let all : length run ≡ block_length * blocks run = omega arith in
                (fault-16-exactly (edition_of b) b).0 (sym (ap (λ s. s.code) s) ∙ r)
                (block-length run (blocks run) all p h)
            | overflowed-block z p i h e f q s ↦ omega (arith, ap (λ s. s.code) s)
          ]

  -- and then its position is 0
  pub refused-16-at-0 : (Whole run → ⊥) → search_of run ≡ refused 16 0
  refused-16-at-0 = at-partial run

  -- no other number than 0, 16, 17 and 18 is given
  pub only-codes
      : ((search_of run).code ≡ 0)
      ⊎ (((search_of run).code ≡ 16) ⊎ (((search_of run).code ≡ 17) ⊎ ((search_of run).code ≡ 18)))
  only-codes =
      elim (stage run) [
        | partial n s ↦ inr (inl (ap (λ s. s.code) s))
        | all-quiet z q s ↦ inl (ap (λ s. s.code) s)
        | bad-block z p h n q s ↦
            let b = block_at run p in
            subst
            (λ c. (c ≡ 0) ⊎ ((c ≡ 16) ⊎ ((c ≡ 17) ⊎ (c ≡ 18))))
            (sym (ap (λ s. s.code) s)) (fault-only-codes (edition_of b) b)
        | overflowed-block z p i h e f q s ↦ inl (ap (λ s. s.code) s)
      ]

-- an empty run has none
pub empty-run-none : search_of [] ≡ none
empty-run-none = (none-exactly []).1 (refl, λ p h. absurd (no-block p h))
  where
    no-block : (p : ℕ) → p < 0 → ⊥
    no-block p h = omega arith
