-- What writing a field answers, stage by stage: the lists' lengths, the marks, the room, the block numbers.
-- Assumes nothing.
use mathlib.Core.Path.{◌≡◌, ap, ◌∙◌}
use mathlib.Core.Bool.{cond}
use mathlib.Core.List.{List}
use Prim.Native.Nat.{ℕ, ◌+◌, ◌^◌, ◌≤◌, ◌<◌}
use native.Mathlib.Decide.{ℕ_discrete, dec_lt}
use native.Mathlib.Omega.{arith}
use borrow.Author.Tests.{eq-eqb, ne_eqb, le-leb, lt-leb}
use lib.Dec.{eqb, leb}
use lib.ListN.{length, get_or}
use Rattle.places.specs.Places.{overlaid}
use Rattle.places.specs.Faults.{at_first_fault, FirstFault}
use Rattle.places.proofs.Faults.{walk, faulty-at, faultless, answer-at, answer-none}
use Rattle.field.specs.Field.{mark_fault_at}
use Rattle.field.proofs.Promises.{mark-fault-0-or-15}
use Rattle.layout.specs.Editions.{Edition}
use Rattle.written.specs.Run.{blocks_for, length_for, run_for}
use Rattle.written.specs.Writing.{Writing, refused, given, room_of, writing_of, run_after, GoodField}

module _ (E : Edition) (first : ℕ) (numbers marks run : List ℕ) where
  abbrev n : ℕ
  n = length numbers

  abbrev answer : Writing
  answer = writing_of E first numbers marks run

  abbrev faults : ℕ → ℕ
  faults = mark_fault_at numbers marks

  -- the marks, and then the run
  abbrev by-marks : Writing
  by-marks = at_first_fault faults n refused (room_of E first n (length run))

  -- ---- each stage

  pub at-unequal : (n ≡ length marks → ⊥) → answer ≡ refused 6 0
  unfolding writing_of
  at-unequal m = ap (λ t. cond t (cond (eqb n 0) (refused 14 0) by-marks) (refused 6 0)) (ne_eqb n (length marks) m)

  at-even : n ≡ length marks → answer ≡ cond (eqb n 0) (refused 14 0) by-marks
  unfolding writing_of
  at-even e = ap (λ t. cond t (cond (eqb n 0) (refused 14 0) by-marks) (refused 6 0)) (eq-eqb n (length marks) e)

  pub at-empty : n ≡ length marks → n ≡ 0 → answer ≡ refused 14 0
  at-empty e z = at-even e ∙ ap (λ t. cond t (refused 14 0) by-marks) (eq-eqb n 0 z)

  at-marks : n ≡ length marks → (n ≡ 0 → ⊥) → answer ≡ by-marks
  at-marks e m = at-even e ∙ ap (λ t. cond t (refused 14 0) by-marks) (ne_eqb n 0 m)

  pub at-bad : n ≡ length marks → (i : ℕ) → FirstFault faults n 15 i → answer ≡ refused 15 i
  at-bad e i f =
      let h = f.0 in
      at-marks e (λ z. omega arith)
      ∙ answer-at faults n refused (room_of E first n (length run)) 15 i (λ z. omega arith) f

  at-run : GoodField numbers marks → answer ≡ room_of E first n (length run)
  at-run f =
      let s = f.some in
      at-marks f.even (λ z. omega arith)
      ∙ answer-none faults n refused (room_of E first n (length run)) f.well_marked

  abbrev by-number : Writing
  by-number = cond (leb (first + blocks_for E n) (2 ^ 32)) (given (length_for E n)) (refused 21 0)

  pub at-short : GoodField numbers marks → length run < length_for E n → answer ≡ refused 19 0
  at-short f h = at-run f ∙ ap (λ t. cond t by-number (refused 19 0)) (lt-leb (length_for E n) (length run) h)

  at-room : GoodField numbers marks → length_for E n ≤ length run → answer ≡ by-number
  at-room f h = at-run f ∙ ap (λ t. cond t by-number (refused 19 0)) (le-leb (length_for E n) (length run) h)

  pub at-large
      : GoodField numbers marks → length_for E n ≤ length run → 2 ^ 32 < first + blocks_for E n → answer ≡ refused 21 0
  at-large f h g =
      at-room f h ∙ ap (λ t. cond t (given (length_for E n)) (refused 21 0)) (lt-leb (first + blocks_for E n) (2 ^ 32) g)

  pub at-given
      : GoodField numbers marks → length_for E n ≤ length run → first + blocks_for E n ≤ 2 ^ 32 →
      answer ≡ given (length_for E n)
  at-given f h g =
      at-room f h ∙ ap (λ t. cond t (given (length_for E n)) (refused 21 0)) (le-leb (first + blocks_for E n) (2 ^ 32) g)

  -- ---- one of the six it is

  pub data Stage : Type 0 where
    unequal : (n ≡ length marks → ⊥) → answer ≡ refused 6 0 → Stage
    empty : n ≡ length marks → n ≡ 0 → answer ≡ refused 14 0 → Stage
    bad : n ≡ length marks → (i : ℕ) → FirstFault faults n 15 i → answer ≡ refused 15 i → Stage
    short : GoodField numbers marks → length run < length_for E n → answer ≡ refused 19 0 → Stage
    large
        : GoodField numbers marks → length_for E n ≤ length run → 2 ^ 32 < first + blocks_for E n →
        answer ≡ refused 21 0 → Stage
    written
        : GoodField numbers marks → length_for E n ≤ length run → first + blocks_for E n ≤ 2 ^ 32 →
        answer ≡ given (length_for E n) → Stage

  of-run : GoodField numbers marks → Stage
  of-run f =
      elim (dec_lt (length run) (length_for E n)) [
        | yes h ↦ short f h (at-short f h)
        | no h ↦
            let room : length_for E n ≤ length run = omega arith in
            elim (dec_lt (2 ^ 32) (first + blocks_for E n)) [
              | yes g ↦ large f room g (at-large f room g)
              | no g ↦
                  let below : first + blocks_for E n ≤ 2 ^ 32 = omega arith in
                  written f room below (at-given f room below)
            ]
      ]

  pub stage : Stage
  stage =
      elim (ℕ_discrete n (length marks)) [
        | no m ↦ unequal m (at-unequal m)
        | yes e ↦
            elim (ℕ_discrete n 0) [
              | yes z ↦ empty e z (at-empty e z)
              | no m ↦
                  elim (walk faults n) [
                    | faulty-at i f (h, o, b) ↦
                        let g = mark-fault-0-or-15 (get_or marks i 0) (get_or numbers i 0) f in
                        bad e i (h, g, b) (at-bad e i (h, g, b))
                    | faultless b ↦ of-run (record { even = e; some = omega arith; well_marked = b })
                  ]
            ]
      ]

  -- ---- what the run holds afterwards

  pub after-refused : (answer.code ≡ 0 → ⊥) → run_after E first numbers marks run ≡ run
  unfolding run_after
  after-refused m = ap (λ t. cond t (overlaid (run_for E first numbers marks) run) run) (ne_eqb answer.code 0 m)

  pub after-given : answer.code ≡ 0 → run_after E first numbers marks run ≡ overlaid (run_for E first numbers marks) run
  unfolding run_after
  after-given z = ap (λ t. cond t (overlaid (run_for E first numbers marks) run) run) (eq-eqb answer.code 0 z)
