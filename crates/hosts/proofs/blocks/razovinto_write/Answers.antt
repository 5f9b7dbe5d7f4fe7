-- `blocks::razovinto_write` meets its contract.
-- Assumes nothing.
use mathlib.Core.Path.{refl}
use Rattle.hosts.proofs.Entries.{write-short-gives, write-gives}
use Rattle.hosts.proofs.blocks.razovinto_write.Goals as goal

pub returns-then-answer-lt-WRITTEN_LENGTH : goal.returns-then-answer-lt-WRITTEN_LENGTH
returns-then-answer-lt-WRITTEN_LENGTH c =
    let g = c.args in
    let w = write-short-gives g.first g.numbers.now g.marks.now g.run.now g.answer.now c.if-answer-lt-WRITTEN_LENGTH.true
    c.too_short.ensures in
    record { value = w.0; answer_new = w.1.0; run_new = w.1.1 }

pub returns-in-Ok : goal.returns-in-Ok
returns-in-Ok c =
    let g = c.args in
    let r = c.write.ensures in
    let w = write-gives g.first g.numbers.now g.marks.now g.run.now g.answer.now c.if-answer-lt-WRITTEN_LENGTH.false refl
    c.put.ensures c.in-Ok.is r.result_value r.run_new in
    record { value = w.0; answer_new = w.1.0; run_new = w.1.1 }

pub returns-in-Err : goal.returns-in-Err
returns-in-Err c =
    let g = c.args in
    let r = c.write.ensures in
    let w = write-gives g.first g.numbers.now g.marks.now g.run.now g.answer.now c.if-answer-lt-WRITTEN_LENGTH.false
    c.number.ensures c.put-in-Err.ensures c.in-Err.is r.result_value r.run_new in
    record { value = w.0; answer_new = w.1.0; run_new = w.1.1 }
