-- `levels::razovinto_level_to_field` meets its contract.
-- Assumes nothing.
use mathlib.Core.Path.{refl}
use Rattle.floats.proofs.Entries.{turn-short-gives, turn-gives}
use Rattle.floats.proofs.levels.razovinto_level_to_field.Goals as goal

pub returns-then-answer-lt-PLACE_LENGTH : goal.returns-then-answer-lt-PLACE_LENGTH
returns-then-answer-lt-PLACE_LENGTH c =
    let g = c.args in
    let d =
    turn-short-gives g.level.now g.grounds.now g.numbers.now g.marks.now g.answer.now
    c.if-answer-lt-PLACE_LENGTH.true c.too_short.ensures in
    record { value = d.0; answer_new = d.1.0; numbers_new = d.1.1.0; marks_new = d.1.1.1 }

pub returns-in-Ok : goal.returns-in-Ok
returns-in-Ok c =
    let g = c.args in
    let r = c.turn.ensures in
    let d =
    turn-gives g.level.now g.grounds.now g.numbers.now g.marks.now g.answer.now
    c.if-answer-lt-PLACE_LENGTH.false refl refl c.in-Ok.is r.result_value r.numbers_new r.marks_new in
    record { value = d.0; answer_new = d.1.0; numbers_new = d.1.1.0; marks_new = d.1.1.1 }

pub returns-in-Err : goal.returns-in-Err
returns-in-Err c =
    let g = c.args in
    let r = c.turn.ensures in
    let d =
    turn-gives g.level.now g.grounds.now g.numbers.now g.marks.now g.answer.now
    c.if-answer-lt-PLACE_LENGTH.false c.number.ensures refl c.in-Err.is r.result_value r.numbers_new
    r.marks_new in
    record { value = d.0; answer_new = d.1.0; numbers_new = d.1.1.0; marks_new = d.1.1.1 }
