-- Where the writer ends: each of its returns, by the tests that lead there.
-- Assumes nothing.
use mathlib.Core.Path.{◌≡◌, ap, sym, ◌∙◌}
use mathlib.Core.List.{List}
use Prim.Native.Nat.{ℕ, ◌+◌, ◌-◌, ◌*◌, ◌/◌, ◌^◌, ◌≤◌, ◌<◌}
use native.Mathlib.Omega.{arith}
use lib.ListN.{length}
use Rattle.places.specs.Places.{overlaid}
use Rattle.places.specs.Faults.{faulty, first_fault}
use Rattle.places.proofs.First.{first-within}
use Rattle.field.specs.Field.{mark_fault_at}
use Rattle.field.proofs.Promises.{first-bad-exactly, no-bad-exactly}
use Rattle.layout.specs.Editions.{block_length, one}
use Rattle.written.specs.Run.{blocks_for, run_for}
use Rattle.written.specs.Writing.{Writing, refused, given, writing_of, run_after, GoodField}
use Rattle.written.proofs.Counts.{blocks-is}
use Rattle.written.proofs.Stages.{at-unequal, at-empty, at-bad, at-short, at-large, at-given}
use Rattle.written.proofs.Stages.{after-refused, after-given}

-- how many blocks the code works out for n values
abbrev blocks_of : ℕ → ℕ
blocks_of n = (n - 1) / 55 + 1

pub blocks-of : (n : ℕ) → (n ≡ 0 → ⊥) → blocks_for one n ≡ blocks_of n
blocks-of n m =
    let some : 0 < n = omega arith in
    blocks-is one (omega arith) n (blocks_of n) (omega arith) (omega arith)

module _ (first : ℕ) (numbers marks run : List ℕ) where
  abbrev n : ℕ
  n = length numbers

  -- the answer is the one to be given, and the run is what it is to be afterwards
  abbrev pub Ended : Writing → List ℕ → Type 0
  Ended w after = (w ≡ writing_of one first numbers marks run) × (after ≡ run_after one first numbers marks run)

  refused-so : (c i : ℕ) → (c ≡ 0 → ⊥) → writing_of one first numbers marks run ≡ refused c i → Ended (refused c i) run
  refused-so c i m e =
      (sym e, sym (after-refused one first numbers marks run (λ z. m (sym (ap (λ w. w.code) e) ∙ z))))

  -- ---- the lists' lengths

  pub unequal-ends : (n ≡ length marks → ⊥) → Ended (refused 6 0) run
  unequal-ends m = refused-so 6 0 (λ z. omega arith) (at-unequal one first numbers marks run m)

  module _ (even : n ≡ length marks) where
    pub empty-ends : n ≡ 0 → Ended (refused 14 0) run
    empty-ends z = refused-so 14 0 (λ e. omega arith) (at-empty one first numbers marks run even z)

    -- ---- the marks

    module _ (some : n ≡ 0 → ⊥) (place : ℕ) (found : place ≡ first_fault (mark_fault_at numbers marks) n) where
      pub bad-ends : place < n → Ended (refused 15 place) run
      bad-ends h =
          refused-so 15 place (λ e. omega arith)
          (at-bad one first numbers marks run even place ((first-bad-exactly numbers marks place).0 (sym found, h)))

      -- ---- the run

      module _ (well_marked : n ≤ place) where
        good-field : GoodField numbers marks
        good-field =
            let within = (first-within (faulty (mark_fault_at numbers marks)) 0 n).1 in
            record {
              even = even;
              some = omega arith;
              well_marked = (no-bad-exactly numbers marks).0 (omega arith);
            }

        pub short-ends : length run / block_length < blocks_of n → Ended (refused 19 0) run
        short-ends h =
            let b = blocks-of n some in
            refused-so 19 0 (λ e. omega arith) (at-short one first numbers marks run good-field (omega arith))

        module _ (room : blocks_of n ≤ length run / block_length) where
          pub large-ends : 2 ^ 32 - first < blocks_of n → Ended (refused 21 0) run
          large-ends h =
              let b = blocks-of n some in
              refused-so 21 0 (λ e. omega arith)
              (at-large one first numbers marks run good-field (omega arith) (omega arith))

          pub written-ends
              : {after : List ℕ} → blocks_of n ≤ 2 ^ 32 - first → after ≡ overlaid (run_for one first numbers marks) run →
              Ended (given (block_length * blocks_of n)) after
          written-ends {after} h e =
              let b = blocks-of n some in
              let g = at-given one first numbers marks run good-field (omega arith) (omega arith) in (
                ap (λ k. given (block_length * k)) (sym b) ∙ sym g,
                e ∙ sym (after-given one first numbers marks run (ap (λ w. w.code) g)),
              )
