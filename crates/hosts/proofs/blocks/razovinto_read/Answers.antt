-- `blocks::razovinto_read` meets its contract.
-- Assumes nothing.
use mathlib.Core.Path.{refl}
use Rattle.hosts.proofs.Entries.{read-short-gives, read-gives}
use Rattle.hosts.proofs.blocks.razovinto_read.Goals as goal

pub returns-then-answer-lt-BLOCK_ANSWER_LENGTH : goal.returns-then-answer-lt-BLOCK_ANSWER_LENGTH
returns-then-answer-lt-BLOCK_ANSWER_LENGTH c =
    let g = c.args in
    let w = read-short-gives g.block.now g.numbers.now g.marks.now g.answer.now c.if-answer-lt-BLOCK_ANSWER_LENGTH.true
    c.too_short.ensures in
    record { value = w.0; answer_new = w.1.0; numbers_new = w.1.1.0; marks_new = w.1.1.1 }

pub returns-in-Ok : goal.returns-in-Ok
returns-in-Ok c =
    let g = c.args in
    let r = c.read.ensures in
    let w = read-gives g.block.now g.numbers.now g.marks.now g.answer.now c.if-answer-lt-BLOCK_ANSWER_LENGTH.false refl
    (rw c.from.ensures at c.put.ensures) c.in-Ok.is r.result_value r.numbers_new r.marks_new in
    record { value = w.0; answer_new = w.1.0; numbers_new = w.1.1.0; marks_new = w.1.1.1 }

pub returns-in-Err : goal.returns-in-Err
returns-in-Err c =
    let g = c.args in
    let r = c.read.ensures in
    let w = read-gives g.block.now g.numbers.now g.marks.now g.answer.now c.if-answer-lt-BLOCK_ANSWER_LENGTH.false
    c.number.ensures c.put-in-Err.ensures c.in-Err.is r.result_value r.numbers_new r.marks_new in
    record { value = w.0; answer_new = w.1.0; numbers_new = w.1.1.0; marks_new = w.1.1.1 }
