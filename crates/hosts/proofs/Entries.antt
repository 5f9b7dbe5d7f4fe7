-- What the reader's and the writer's entries return and what their lists hold, where the list of the answer is too short
-- and where it has room.
-- Assumes nothing.
use mathlib.Core.Path.{◌≡◌, sym, ap, ◌∙◌}
use mathlib.Core.List.{List}
use Prim.Native.Nat.{ℕ, ◌≤◌, ◌<◌}
use native.Mathlib.Decide.{ℕ_discrete}
use lib.ListN.{length}
use lib.Seq.{sets}
use Rattle.layout.specs.Layout.{edition_of}
use Rattle.layout.specs.Reading.{read_fault, reading_of, numbers_after, marks_after}
use Rattle.layout.proofs.Promises.{given-where-accepted, refused-at-0}
use Rattle.layout.specs.Editions.{one}
use Rattle.std.specs.Prelude.{Result}
use Rattle.checked.specs.declared.refusal.Refusal.{Refusal}
use Rattle.checked.specs.declared.refusal.RefusedAt.{RefusedAt}
use Rattle.block.specs.declared.types.Head.{Head}
use Rattle.block.specs.Answers.{reading}
use Rattle.written.specs.Writing.{writing_of, run_after}
use Rattle.write.specs.Answers.{writing}
use Rattle.entry.specs.Entry.{Told, answer_code, answer_list}
use Rattle.entry.proofs.Entries.{short-gives, short-beside, roomy-beside, arm}
use Rattle.hosts.specs.Answers.{of_reading, of_writing, numbers_beside, marks_beside, run_beside}

-- ---- the reader, with its two lists

module _ (b numbers marks lent : List ℕ) where
  abbrev told : Told
  told = of_reading (reading_of b numbers marks)

  pub read-short-gives
      : {r : ℕ} → length lent < 3 → r ≡ 19 →
      (r ≡ answer_code told lent)
      × ((lent ≡ answer_list told lent)
      × ((numbers ≡ numbers_beside b numbers marks lent) × (marks ≡ marks_beside b numbers marks lent)))
  read-short-gives h e =
      let s = short-gives told lent h e in
      let n = short-beside told lent (numbers_after b numbers marks) numbers h in
      let m = short-beside told lent (marks_after b numbers marks) marks h in
      (s.0, (s.1, (sym n, sym m)))

  -- in an arm of the `match` on its answer, which is x there
  pub read-gives
      : {x answer : Result Head Refusal} {r : ℕ} {now ns ms : List ℕ} → 3 ≤ length lent → r ≡ (of_reading (reading x)).code →
      now ≡ sets lent 0 (of_reading (reading x)).words → answer ≡ x → reading answer ≡ reading_of b numbers marks →
      ns ≡ numbers_after b numbers marks → ms ≡ marks_after b numbers marks →
      (r ≡ answer_code told lent)
      × ((now ≡ answer_list told lent)
      × ((ns ≡ numbers_beside b numbers marks lent) × (ms ≡ marks_beside b numbers marks lent)))
  read-gives {x} h e s is ensured filled marked =
      let g = arm reading of_reading lent {x = x} h e s is ensured in
      let n = roomy-beside told lent (numbers_after b numbers marks) numbers h in
      let m = roomy-beside told lent (marks_after b numbers marks) marks h in
      (g.0, (g.1, (filled ∙ sym n, marked ∙ sym m)))

-- ---- the writer, with its run

module _ (first : ℕ) (numbers marks run lent : List ℕ) where
  abbrev told-writing : Told
  told-writing = of_writing (writing_of one first numbers marks run)

  pub write-short-gives
      : {r : ℕ} → length lent < 2 → r ≡ 19 →
      (r ≡ answer_code told-writing lent)
      × ((lent ≡ answer_list told-writing lent) × (run ≡ run_beside first numbers marks run lent))
  write-short-gives h e =
      let s = short-gives told-writing lent h e in
      (s.0, (s.1, sym (short-beside told-writing lent (run_after one first numbers marks run) run h)))

  -- in an arm of the `match` on its answer, which is x there
  pub write-gives
      : {x answer : Result ℕ RefusedAt} {r : ℕ} {now after : List ℕ} → 2 ≤ length lent → r ≡ (of_writing (writing x)).code →
      now ≡ sets lent 0 (of_writing (writing x)).words → answer ≡ x →
      writing answer ≡ writing_of one first numbers marks run → after ≡ run_after one first numbers marks run →
      (r ≡ answer_code told-writing lent)
      × ((now ≡ answer_list told-writing lent) × (after ≡ run_beside first numbers marks run lent))
  write-gives {x} h e s is ensured filled =
      let g = arm writing of_writing lent {x = x} h e s is ensured in
      (g.0, (g.1, filled ∙ sym (roomy-beside told-writing lent (run_after one first numbers marks run) run h)))

-- what the reader answers has its fault's number
pub reading-code : (b numbers marks : List ℕ) → (reading_of b numbers marks).code ≡ read_fault b numbers marks
reading-code b numbers marks =
    elim (ℕ_discrete (read_fault b numbers marks) 0) [
      | yes e ↦ ap (λ r. r.code) (given-where-accepted (edition_of b) b numbers marks e) ∙ sym e
      | no n ↦ ap (λ r. r.code) (refused-at-0 (edition_of b) b numbers marks n)
    ]
