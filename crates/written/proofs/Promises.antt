-- What writing a field promises, one named theorem for each promise, for any edition E: over `writing_of E`, which gives
-- the length written or a refusal with its place, and over `run_after E`, which the lent run is afterwards. The writer's
-- contract speaks of these at edition 1.
-- Assumes nothing.
use mathlib.Core.Path.{◌≡◌, ap, sym, ◌∙◌, subst}
use mathlib.Core.Logic.{◌↔◌, ◌⊎◌, inl, inr}
use mathlib.Core.List.{List, [], ◌∷◌, ◌++◌}
use Prim.Native.Nat.{ℕ, zero, suc, ◌+◌, ◌^◌, ◌≤◌, ◌<◌}
use native.Mathlib.Decide.{ℕ_discrete}
use native.Mathlib.Omega.{arith}
use lib.ListN.{length, get_or, take, drop}
use lib.Seq.{take_at, drop_at}
use Rattle.places.specs.Places.{overlaid}
use Rattle.places.specs.Faults.{FirstFault}
use Rattle.little.specs.Bytes.{byte_at, Bytes}
use Rattle.field.specs.Field.{mark_fault_at}
use Rattle.field.proofs.Promises.{mark-fault-15-exactly, mark-fault-0-or-15}
use Rattle.layout.specs.Editions.{Edition, one}
use Rattle.layout.specs.Layout.{count}
use Rattle.layout.specs.Reading.{reading_as, numbers_after_as, marks_after_as}
use Rattle.layout.specs.Reading as reading
use Rattle.layout.specs.Runs.{block_at}
use Rattle.layout.proofs.Faults.{read-sound}
use Rattle.layout.proofs.Promises as reader
use Rattle.written.specs.Block.{Writable}
use Rattle.written.specs.Run.{blocks_for, length_for, held_at, run_for, run_numbers, run_marks, InOrder}
use Rattle.written.specs.Writing.{refused, given, Writing, writing_of, run_after, GoodField, Sized, FirstBadMark}
use Rattle.written.proofs.Counts as counts
use Rattle.written.proofs.Runs as runs
use Rattle.written.proofs.Stages.{unequal, empty, bad, short, large, written, stage}
use Rattle.written.proofs.Stages.{at-unequal, at-empty, at-bad}
use Rattle.written.proofs.Stages.{at-short, at-large, at-given, after-refused, after-given}
-- a field's blocks are as many as its values need: they have room for them, and without the last they haven't
pub use Rattle.written.proofs.Counts.{blocks-reach, blocks-needed, blocks-is}
-- a written block is laid out as the edition says, and is sound
pub use Rattle.written.proofs.Blocks.{written-laid-out, written-sound}
-- a sound block written again from its number and its values is the same bytes
pub use Rattle.written.proofs.Back.{written-again}

-- edition 1 can be written
pub one-writable : Writable one
one-writable = record { takes = omega arith; tagged = omega arith; headed = λ numbers marks. zeros }
  where
    zeros : (i : ℕ) → byte_at (0 ∷ 0 ∷ []) i < 256
    zeros zero = omega arith
    zeros (suc zero) = omega arith
    zeros (suc (suc i)) = omega arith

-- the first bad mark is the first fault by the marks alone
first-bad
    : (numbers marks : List ℕ) (i : ℕ) →
    FirstBadMark numbers marks i ↔ FirstFault (mark_fault_at numbers marks) (length numbers) 15 i
first-bad numbers marks i = (there, back)
  where
    there : FirstBadMark numbers marks i → FirstFault (mark_fault_at numbers marks) (length numbers) 15 i
    there (h, b, n) = (
      h,
      (mark-fault-15-exactly (get_or marks i 0) (get_or numbers i 0)).1 b,
      λ j k.
          elim (ℕ_discrete (mark_fault_at numbers marks j) 0) [
            | yes z ↦ z
            | no m ↦
                absurd
                (n j k
                ((mark-fault-15-exactly (get_or marks j 0) (get_or numbers j 0)).0
                (mark-fault-0-or-15 (get_or marks j 0) (get_or numbers j 0) m)))
          ],
    )

    back : FirstFault (mark_fault_at numbers marks) (length numbers) 15 i → FirstBadMark numbers marks i
    back (h, f, n) = (
      h,
      (mark-fault-15-exactly (get_or marks i 0) (get_or numbers i 0)).0 f,
      λ j k b.
          let z = n j k in
          let e = (mark-fault-15-exactly (get_or marks j 0) (get_or numbers j 0)).1 b in omega arith,
    )

-- ---- each refusal exactly

module _ (E : Edition) (first : ℕ) (numbers marks run : List ℕ) where
  abbrev answer : Writing
  answer = writing_of E first numbers marks run

  abbrev n : ℕ
  n = length numbers

  -- two numbers are not given together
  other : {x y : Writing} → answer ≡ x → answer ≡ y → (x.code ≡ y.code → ⊥) → ⊥
  other p q m = m (ap (λ w. w.code) (sym p ∙ q))

  -- 6 exactly when the lists differ in length
  pub refused-6-exactly : (answer ≡ refused 6 0) ↔ (n ≡ length marks → ⊥)
  refused-6-exactly = (only, at-unequal E first numbers marks run)
    where
      only : answer ≡ refused 6 0 → n ≡ length marks → ⊥
      only r e =
          elim (stage E first numbers marks run) [
            | unequal m s ↦ m e
            | empty d z s ↦ other s r (λ x. omega arith)
            | bad d i f s ↦ other s r (λ x. omega arith)
            | short f h s ↦ other s r (λ x. omega arith)
            | large f h g s ↦ other s r (λ x. omega arith)
            | written f h g s ↦ other s r (λ x. omega arith)
          ]

  -- 14 exactly when both are empty
  pub refused-14-exactly : (answer ≡ refused 14 0) ↔ ((n ≡ 0) × (length marks ≡ 0))
  refused-14-exactly = (only, λ p. at-empty E first numbers marks run (p.0 ∙ sym p.1) p.0)
    where
      only : answer ≡ refused 14 0 → (n ≡ 0) × (length marks ≡ 0)
      only r =
          elim (stage E first numbers marks run) [
            | unequal m s ↦ absurd (other s r (λ x. omega arith))
            | empty e z s ↦ (z, sym e ∙ z)
            | bad e i f s ↦ absurd (other s r (λ x. omega arith))
            | short f h s ↦ absurd (other s r (λ x. omega arith))
            | large f h g s ↦ absurd (other s r (λ x. omega arith))
            | written f h g s ↦ absurd (other s r (λ x. omega arith))
          ]

  -- 15 at place i exactly when the lists are as long, place i has a bad mark, and no place before it has one
  pub refused-15-exactly
      : (i : ℕ) → (answer ≡ refused 15 i) ↔ ((n ≡ length marks) × FirstBadMark numbers marks i)
  refused-15-exactly i =
      (only, λ p. at-bad E first numbers marks run p.0 i ((first-bad numbers marks i).0 p.1))
    where
      only : answer ≡ refused 15 i → (n ≡ length marks) × FirstBadMark numbers marks i
      only r =
          elim (stage E first numbers marks run) [
            | unequal m s ↦ absurd (other s r (λ x. omega arith))
            | empty e z s ↦ absurd (other s r (λ x. omega arith))
            | bad e j f s ↦
                let p = ap (λ w. w.place) (sym s ∙ r) in
                (e, (first-bad numbers marks i).1 (subst (FirstFault (mark_fault_at numbers marks) n 15) p f))
            | short f h s ↦ absurd (other s r (λ x. omega arith))
            | large f h g s ↦ absurd (other s r (λ x. omega arith))
            | written f h g s ↦ absurd (other s r (λ x. omega arith))
          ]

  -- 19 exactly when the field can be written and the run is shorter than what would be
  pub refused-19-exactly : (answer ≡ refused 19 0) ↔ (GoodField numbers marks × (length run < length_for E n))
  refused-19-exactly = (only, λ p. at-short E first numbers marks run p.0 p.1)
    where
      only : answer ≡ refused 19 0 → GoodField numbers marks × (length run < length_for E n)
      only r =
          elim (stage E first numbers marks run) [
            | unequal m s ↦ absurd (other s r (λ x. omega arith))
            | empty e z s ↦ absurd (other s r (λ x. omega arith))
            | bad e i f s ↦ absurd (other s r (λ x. omega arith))
            | short f h s ↦ (f, h)
            | large f h g s ↦ absurd (other s r (λ x. omega arith))
            | written f h g s ↦ absurd (other s r (λ x. omega arith))
          ]

  -- 21 exactly when it can be, the run has room, and a block number would pass 2^32 - 1
  pub refused-21-exactly
      : (answer ≡ refused 21 0)
      ↔ (GoodField numbers marks × (length_for E n ≤ length run) × (2 ^ 32 < first + blocks_for E n))
  refused-21-exactly = (only, λ p. at-large E first numbers marks run p.0 p.1 p.2)
    where
      only
          : answer ≡ refused 21 0 →
          GoodField numbers marks × (length_for E n ≤ length run) × (2 ^ 32 < first + blocks_for E n)
      only r =
          elim (stage E first numbers marks run) [
            | unequal m s ↦ absurd (other s r (λ x. omega arith))
            | empty e z s ↦ absurd (other s r (λ x. omega arith))
            | bad e i f s ↦ absurd (other s r (λ x. omega arith))
            | short f h s ↦ absurd (other s r (λ x. omega arith))
            | large f h g s ↦ (f, h, g)
            | written f h g s ↦ absurd (other s r (λ x. omega arith))
          ]

  -- a length is given exactly when it can be, the run has room and the block numbers stay below 2^32; and it is that of
  -- the field's blocks
  pub length-given-exactly
      : (l : ℕ) →
      (answer ≡ given l)
      ↔ ((l ≡ length_for E n) × GoodField numbers marks × (length_for E n ≤ length run) × (first + blocks_for E n ≤ 2 ^ 32))
  length-given-exactly l =
      (only, λ p. at-given E first numbers marks run p.1 p.2 p.3 ∙ ap given (sym p.0))
    where
      only
          : answer ≡ given l →
          (l ≡ length_for E n) × GoodField numbers marks × (length_for E n ≤ length run) × (first + blocks_for E n ≤ 2 ^ 32)
      only r =
          elim (stage E first numbers marks run) [
            | unequal m s ↦ absurd (other s r (λ x. omega arith))
            | empty e z s ↦ absurd (other s r (λ x. omega arith))
            | bad e i f s ↦ absurd (other s r (λ x. omega arith))
            | short f h s ↦ absurd (other s r (λ x. omega arith))
            | large f h g s ↦ absurd (other s r (λ x. omega arith))
            | written f h g s ↦ (ap (λ w. w.length) (sym r ∙ s), f, h, g)
          ]

  -- no other number is given, 3 neither
  pub only-codes
      : (answer.code ≡ 0)
      ⊎ ((answer.code ≡ 6)
      ⊎ ((answer.code ≡ 14) ⊎ ((answer.code ≡ 15) ⊎ ((answer.code ≡ 19) ⊎ (answer.code ≡ 21)))))
  only-codes =
      elim (stage E first numbers marks run) [
        | unequal m s ↦ inr (inl (ap (λ w. w.code) s))
        | empty e z s ↦ inr (inr (inl (ap (λ w. w.code) s)))
        | bad e i f s ↦ inr (inr (inr (inl (ap (λ w. w.code) s))))
        | short f h s ↦ inr (inr (inr (inr (inl (ap (λ w. w.code) s)))))
        | large f h g s ↦ inr (inr (inr (inr (inr (ap (λ w. w.code) s)))))
        | written f h g s ↦ inl (ap (λ w. w.code) s)
      ]

  -- a number alone says the whole answer, but for the place of 15 and the length with 0: the places of 6, 14, 19 and 21
  -- are 0
  pub said-by-code
      : (answer ≡ given answer.length)
      ⊎ ((answer ≡ refused 15 answer.place) ⊎ (answer ≡ refused answer.code 0))
  said-by-code =
      elim (stage E first numbers marks run) [
        | unequal m s ↦ inr (inr (s ∙ ap (λ w. refused w.code 0) (sym s)))
        | empty e z s ↦ inr (inr (s ∙ ap (λ w. refused w.code 0) (sym s)))
        | bad e i f s ↦ inr (inl (s ∙ ap (λ w. refused 15 w.place) (sym s)))
        | short f h s ↦ inr (inr (s ∙ ap (λ w. refused w.code 0) (sym s)))
        | large f h g s ↦ inr (inr (s ∙ ap (λ w. refused w.code 0) (sym s)))
        | written f h g s ↦ inl (s ∙ ap (λ w. given w.length) (sym s))
      ]

  -- ---- what the run holds afterwards

  -- on refusal it stays as it was
  pub refused-stays : (answer.code ≡ 0 → ⊥) → run_after E first numbers marks run ≡ run
  refused-stays = after-refused E first numbers marks run

  module _ (takes : 0 < E.most) (z : answer.code ≡ 0) where
    -- what 0 says
    abbrev pub Given : Type 0
    Given =
        (answer.length ≡ length_for E n)
        × GoodField numbers marks
        × (length_for E n ≤ length run)
        × (first + blocks_for E n ≤ 2 ^ 32)

    pub zero-given : Given
    zero-given =
        elim (stage E first numbers marks run) [
          | unequal m s ↦ absurd (not-zero s (λ x. omega arith))
          | empty e o s ↦ absurd (not-zero s (λ x. omega arith))
          | bad e i f s ↦ absurd (not-zero s (λ x. omega arith))
          | short f h s ↦ absurd (not-zero s (λ x. omega arith))
          | large f h g s ↦ absurd (not-zero s (λ x. omega arith))
          | written f h g s ↦ (ap (λ w. w.length) s, f, h, g)
        ]
      where
        not-zero : {x : Writing} → answer ≡ x → (x.code ≡ 0 → ⊥) → ⊥
        not-zero s m = m (ap (λ w. w.code) (sym s) ∙ z)

    -- the length given is that of the field's blocks
    pub length-written : answer.length ≡ length (run_for E first numbers marks)
    length-written =
        zero-given.0 ∙ sym (runs.run-length E takes first numbers marks zero-given.1.even)

    -- the run begins with them
    pub blocks-written : take answer.length (run_after E first numbers marks run) ≡ run_for E first numbers marks
    blocks-written =
        let r = run_for E first numbers marks in
        ap (take answer.length) (after-given E first numbers marks run z)
        ∙ take_at r (drop (length r) run) answer.length (sym length-written)

    -- and what is past that length stays
    pub rest-stays : drop answer.length (run_after E first numbers marks run) ≡ drop answer.length run
    rest-stays =
        let r = run_for E first numbers marks in
        ap (drop answer.length) (after-given E first numbers marks run z)
        ∙ drop_at r (drop (length r) run) answer.length (sym length-written)
        ∙ ap (λ k. drop k run) (sym length-written)

-- ---- reading what was written

module _
    (E : Edition)
    (w : Writable E)
    (first : ℕ)
    (numbers marks run : List ℕ)
    (sized : Sized numbers)
    (z : (writing_of E first numbers marks run).code ≡ 0)
  where
    abbrev g : Given E first numbers marks run w.takes z
    g = zero-given E first numbers marks run w.takes z

    abbrev r : List ℕ
    r = run_for E first numbers marks

    -- its blocks are sound, filled and numbered from the first on
    pub written-in-order : InOrder E first r
    written-in-order = runs.in-order E w first numbers marks g.1 sized g.3

    -- their values one after the other are the field
    pub reading-gives-back : (run_numbers E r ≡ numbers) × (run_marks r ≡ marks)
    reading-gives-back = (
      runs.numbers-back E w first numbers marks g.1 sized g.3,
      runs.marks-back E w first numbers marks g.1 sized g.3,
    )

    -- the reader, lent lists with room for a block's values, gives the number that follows and writes those values
    pub block-read
        : (p : ℕ) → p < blocks_for E (length numbers) → (ns ms : List ℕ) →
        length (held_at E p numbers) ≤ length ns → length (held_at E p numbers) ≤ length ms →
        (reading_as E (block_at r p) ns ms ≡ reading.given (first + p) (length (held_at E p numbers)))
        × (numbers_after_as E (block_at r p) ns ms ≡ overlaid (held_at E p numbers) ns)
        × (marks_after_as E (block_at r p) ns ms ≡ overlaid (held_at E p marks) ms)
    block-read p h ns ms a b =
        let block = block_at r p in
        let c = runs.block-counted E w first numbers marks g.1 sized g.3 p h in
        let e = read-sound E block ns ms (runs.block-sound E w first numbers marks g.1 sized g.3 p h)
        (omega arith) (omega arith) in
        let k = counts.held-even E w.takes numbers marks p g.1.even in
        let s = reader.written E block ns ms e in (
          reader.given-where-accepted E block ns ms e
              ∙ ap (λ m. reading.given m (count block))
              (runs.block-numbered E w first numbers marks g.1 sized g.3 p h)
              ∙ ap (reading.given (first + p)) c,
          s.0
              ∙ ap (λ l. l ++ drop (count block) ns)
              (runs.block-numbers E w first numbers marks g.1 sized g.3 p h)
              ∙ ap (λ m. held_at E p numbers ++ drop m ns) c,
          s.1
              ∙ ap (λ l. l ++ drop (count block) ms)
              (runs.block-marks E w first numbers marks g.1 sized g.3 p h)
              ∙ ap (λ m. held_at E p marks ++ drop m ms) (c ∙ k),
        )

-- ---- writing what was read

-- a run that is filled and numbered in that manner, written again from what was read, is the same bytes
pub writing-gives-back
    : (E : Edition) → Writable E → (first : ℕ) (run : List ℕ) → Bytes run → InOrder E first run →
    run_for E first (run_numbers E run) (run_marks run) ≡ run
writing-gives-back E w first run bytes o = runs.run-again E w.takes first run bytes o

-- and a lent run with room gets them: the length given is the run's, and what is past it stays
pub read-then-written
    : (E : Edition) (w : Writable E) (first : ℕ) (run lent : List ℕ) → Bytes run → InOrder E first run →
    length run ≤ length lent →
    (writing_of E first (run_numbers E run) (run_marks run) lent ≡ given (length run))
    × (run_after E first (run_numbers E run) (run_marks run) lent ≡ overlaid run lent)
read-then-written E w first run lent bytes o h =
    let ns = run_numbers E run in
    let ms = run_marks run in
    let l = runs.read-length E w.takes first run bytes o in
    let e =
    (length-given-exactly E first ns ms lent (length run)).1 (
      sym l,
      runs.read-good-field E w.takes first run bytes o,
      omega arith,
      runs.read-numbered E w.takes first run bytes o,
    ) in (
      e,
      after-given E first ns ms lent (ap (λ w. w.code) e)
          ∙ ap (λ r. overlaid r lent) (writing-gives-back E w first run bytes o),
    )
