-- `read::values` meets its contract.
-- Assumes nothing.
use mathlib.Core.Path.{◌≡◌, refl, ap, ◌∙◌}
use mathlib.Core.List.{List}
use Prim.Native.Nat.{ℕ}
use native.Mathlib.Omega.{arith}
use Rattle.little.specs.Bytes.{part, little}
use Rattle.layout.specs.Editions.{one}
use Rattle.layout.specs.Layout.{block_number, count}
use Rattle.layout.specs.Reading.{refused, given, reading_as, numbers_after_as, marks_after_as}
use Rattle.layout.proofs.Faults.{read-sound}
use Rattle.layout.proofs.Layouts.{sound-sizes}
use Rattle.block.proofs.Readings.{numbers-short-so, marks-short-so, given-so}
use Rattle.block.proofs.read.values.Goals.{then-numbers-count-via-then-numbers-count, then-numbers-count-via-else-numbers-count+then-marks-count}
use Rattle.block.proofs.read.values.Goals as goal

number-read : (b : List ℕ) → little (part 0 4 b) ≡ block_number b
unfolding block_number
number-read b = refl

pub bounds-block-4 : goal.bounds-block-4
bounds-block-4 c =
    let d = c in omega (arith, sound-sizes one d.args.block.now d.requires)

pub returns-then-numbers-count : goal.returns-then-numbers-count
returns-then-numbers-count c =
    let b = c.args.block.now in
    let ns = c.args.numbers.now in
    let ms = c.args.marks.now in
    let d : (refused 19 ≡ reading_as one b ns ms) × ((ns ≡ numbers_after_as one b ns ms) × (ms ≡ marks_after_as one b ns ms)) =
    elim c.then-numbers-count.branch [
      | then-numbers-count-via-then-numbers-count w ↦ numbers-short-so one b ns ms c.requires w.if-numbers-count.true
      | then-numbers-count-via-else-numbers-count+then-marks-count w ↦
          marks-short-so one b ns ms c.requires w.if-numbers-count.false w.if-marks-count.true
    ] in
    record { result_value = d.0; numbers_new = d.1.0; marks_new = d.1.1 }

pub copy_numbers-requires : goal.copy_numbers-requires
copy_numbers-requires c =
    let s = c in
    let z = sound-sizes one s.args.block.now s.requires in
    let room = c.if-numbers-count.false in
    (z.0, omega arith, omega arith)

pub copy_marks-requires : goal.copy_marks-requires
copy_marks-requires c =
    let s = c in
    let z = sound-sizes one s.args.block.now s.requires in
    let room = c.if-marks-count.false in
    (z.0, omega arith, omega arith)

pub word_at-requires : goal.word_at-requires
word_at-requires c =
    let z = sound-sizes one c.args.block.now c.requires in omega (arith, z.0)

pub returns-clause-result_value : goal.returns-clause-result_value
returns-clause-result_value c =
    let e = c in
    let s = e in
    let a = s.args in
    let b = a.block.now in
    let r =
    given-so one b a.numbers.now a.marks.now
    (read-sound one b a.numbers.now a.marks.now s.requires e.if-numbers-count.false e.if-marks-count.false) in ap (λ n. given n (count b)) (c.word_at.ensures ∙ number-read b) ∙ r.0

pub returns-clause-numbers_new : goal.returns-clause-numbers_new
returns-clause-numbers_new c =
    let e = c in
    let s = e in
    let a = s.args in
    let b = a.block.now in
    let r =
    given-so one b a.numbers.now a.marks.now
    (read-sound one b a.numbers.now a.marks.now s.requires e.if-numbers-count.false e.if-marks-count.false) in c.copy_numbers.ensures ∙ r.1.0

pub returns-clause-marks_new : goal.returns-clause-marks_new
returns-clause-marks_new c =
    let e = c in
    let s = e in
    let a = s.args in
    let b = a.block.now in
    let r =
    given-so one b a.numbers.now a.marks.now
    (read-sound one b a.numbers.now a.marks.now s.requires e.if-numbers-count.false e.if-marks-count.false) in c.copy_marks.ensures ∙ r.1.1
