-- The whole search by its stages: the run's length, a bad block, an overflowed place, none.
-- Assumes nothing.
use mathlib.Core.Path.{◌≡◌, ap, ◌∙◌}
use mathlib.Core.Bool.{cond}
use mathlib.Core.List.{List}
use Prim.Native.Nat.{ℕ, ◌%◌, ◌<◌}
use native.Mathlib.Decide.{ℕ_discrete}
use native.Mathlib.Omega.{arith}
use borrow.Author.Tests.{eq-eqb, ne_eqb}
use lib.ListN.{length}
use Rattle.places.specs.Faults.{NoFaultBefore}
use Rattle.places.proofs.Faults.{walk, faulty-at, faultless, answer-at, answer-none}
use Rattle.layout.specs.Editions.{block_length}
use Rattle.layout.specs.Sound.{fault_of}
use Rattle.layout.specs.Runs.{blocks, block_at, Whole}
use Rattle.search.specs.Search.{refused, none, found_at, first_overflowed, OverflowsFirstAt}
use Rattle.search.specs.Search.{QuietBefore, ended_at, end_at, search_blocks, search_of}
use Rattle.search.proofs.Ends.{first-overflowed, ends-at-bad, ends-at-overflowed, passes-quiet, quiet-passed}
use Rattle.search.proofs.Ends.{quiet, bad, overflowed, kind}

module _ (run : List ℕ) where
  -- ---- the answer at each stage

  pub at-partial : (Whole run → ⊥) → search_of run ≡ refused 16 0
  unfolding search_of
  at-partial n = ap (λ t. cond t (search_blocks run) (refused 16 0)) (ne_eqb (length run % block_length) 0 n)

  at-blocks : Whole run → search_of run ≡ search_blocks run
  unfolding search_of
  at-blocks z = ap (λ t. cond t (search_blocks run) (refused 16 0)) (eq-eqb (length run % block_length) 0 z)

  -- the blocks that the search passes are the quiet ones
  pub quiet-before : (p : ℕ) → NoFaultBefore (end_at run) p → QuietBefore run p
  quiet-before p n q h = quiet-passed (block_at run q) (n q h)

  passed-before : (p : ℕ) → QuietBefore run p → NoFaultBefore (end_at run) p
  passed-before p b q h = passes-quiet (block_at run q) (b q h)

  -- the first block at which the search ends is at position p
  ended
      : (c p : ℕ) → (c ≡ 0 → ⊥) → p < blocks run → end_at run p ≡ c → QuietBefore run p → Whole run →
      search_of run ≡ ended_at p (block_at run p)
  ended c p n h e q z =
      at-blocks z
      ∙ answer-at (end_at run) (blocks run) (λ c p. ended_at p (block_at run p)) none c p n (h, e, passed-before p q)

  pub at-bad
      : (p : ℕ) → Whole run → p < blocks run → (fault_of (block_at run p) ≡ 0 → ⊥) → QuietBefore run p →
      search_of run ≡ refused (fault_of (block_at run p)) p
  at-bad p z h n q =
      let b = block_at run p in
      ended (fault_of b) p n h (ends-at-bad b n) q z
      ∙ ap (λ t. cond t (found_at p (first_overflowed b)) (refused (fault_of b) p)) (ne_eqb (fault_of b) 0 n)

  pub at-overflowed
      : (p i : ℕ) → Whole run → p < blocks run → fault_of (block_at run p) ≡ 0 → OverflowsFirstAt (block_at run p) i →
      QuietBefore run p → search_of run ≡ found_at p i
  at-overflowed p i z h s f q =
      let b = block_at run p in
      ended 3 p (λ e. omega arith) h (ends-at-overflowed b i s f) q z
      ∙ ap (λ t. cond t (found_at p (first_overflowed b)) (refused (fault_of b) p)) (eq-eqb (fault_of b) 0 s)
      ∙ ap (found_at p) (first-overflowed b i f)

  pub at-none : Whole run → QuietBefore run (blocks run) → search_of run ≡ none
  at-none z q =
      at-blocks z
      ∙ answer-none (end_at run) (blocks run) (λ c p. ended_at p (block_at run p)) none (passed-before (blocks run) q)

  -- ---- which stage it is

  pub data Stage : Type 0 where
    partial : (Whole run → ⊥) → search_of run ≡ refused 16 0 → Stage
    all-quiet : Whole run → QuietBefore run (blocks run) → search_of run ≡ none → Stage
    bad-block
        : Whole run →
        (p : ℕ) →
        p < blocks run →
        (fault_of (block_at run p) ≡ 0 → ⊥) →
        QuietBefore run p →
        search_of run ≡ refused (fault_of (block_at run p)) p →
        Stage
    overflowed-block
        : Whole run →
        (p i : ℕ) →
        p < blocks run →
        fault_of (block_at run p) ≡ 0 →
        OverflowsFirstAt (block_at run p) i →
        QuietBefore run p →
        search_of run ≡ found_at p i →
        Stage

  pub stage : Stage
  stage =
      elim (ℕ_discrete (length run % block_length) 0) [
        | no n ↦ partial n (at-partial n)
        | yes z ↦
            elim (walk (end_at run) (blocks run)) [
              | faultless b ↦ let q = quiet-before (blocks run) b in all-quiet z q (at-none z q)
              | faulty-at p n (h, e, b) ↦ at-first z p h n (quiet-before p b)
            ]
      ]
    where
      at-first : Whole run → (p : ℕ) → p < blocks run → (end_at run p ≡ 0 → ⊥) → QuietBefore run p → Stage
      at-first z p h n q =
          let b = block_at run p in
          elim (kind b) [
            | quiet k ↦ absurd (n (passes-quiet b k))
            | bad m ↦ bad-block z p h m q (at-bad p z h m q)
            | overflowed s i f ↦ overflowed-block z p i h s f q (at-overflowed p i z h s f q)
          ]
