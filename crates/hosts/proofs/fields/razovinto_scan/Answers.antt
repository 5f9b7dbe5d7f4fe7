-- `fields::razovinto_scan` meets its contract.
-- Assumes nothing.
use mathlib.Core.Path.{refl}
use Rattle.field.specs.Range.{scan_of}
use Rattle.field.specs.Answers.{scanned}
use Rattle.hosts.specs.Answers.{of_scan}
use Rattle.entry.proofs.Entries.{short-gives, arm}
use Rattle.hosts.proofs.fields.razovinto_scan.Goals as goal

pub returns-then-answer-lt-RANGE_LENGTH : goal.returns-then-answer-lt-RANGE_LENGTH
returns-then-answer-lt-RANGE_LENGTH c =
    let g = c.args in
    let w = short-gives (of_scan (scan_of g.numbers.now g.marks.now)) g.answer.now c.if-answer-lt-RANGE_LENGTH.true c.too_short.ensures in
    record { value = w.0; answer_new = w.1 }

pub returns-in-Ok : goal.returns-in-Ok
returns-in-Ok c =
    let w = arm scanned of_scan c.args.answer.now c.if-answer-lt-RANGE_LENGTH.false refl c.put.ensures c.in-Ok.is c.scan.ensures in
    record { value = w.0; answer_new = w.1 }

pub returns-in-Err : goal.returns-in-Err
returns-in-Err c =
    let w = arm scanned of_scan c.args.answer.now c.if-answer-lt-RANGE_LENGTH.false c.number.ensures c.put-in-Err.ensures c.in-Err.is c.scan.ensures in
    record { value = w.0; answer_new = w.1 }
