-- `levels::razovinto_level_scan` meets its contract.
-- Assumes nothing.
use Rattle.floats.proofs.Entries.{scan-short-gives, no-extent-gives, ranged-gives, refused-gives}
use Rattle.floats.proofs.levels.razovinto_level_scan.Goals as goal

pub returns-then-answer-lt-PLACE_LENGTH : goal.returns-then-answer-lt-PLACE_LENGTH
returns-then-answer-lt-PLACE_LENGTH c =
    let g = c.args in
    let d =
    scan-short-gives g.level.now g.grounds.now g.extent.now g.answer.now c.if-answer-lt-PLACE_LENGTH.true
    c.too_short.ensures in
    record { value = d.0; answer_new = d.1.0; extent_new = d.1.1 }

pub returns-then-extent-lt-EXTENT_LENGTH : goal.returns-then-extent-lt-EXTENT_LENGTH
returns-then-extent-lt-EXTENT_LENGTH c =
    let g = c.args in
    let d =
    no-extent-gives g.level.now g.grounds.now g.extent.now g.answer.now c.if-answer-lt-PLACE_LENGTH.false
    c.if-extent-lt-EXTENT_LENGTH.true c.too_short-then-extent-lt-EXTENT_LENGTH.ensures in
    record { value = d.0; answer_new = d.1.0; extent_new = d.1.1 }

pub returns-in-Ok : goal.returns-in-Ok
returns-in-Ok c =
    let g = c.args in
    let d =
    ranged-gives g.level.now g.grounds.now g.extent.now g.answer.now c.if-answer-lt-PLACE_LENGTH.false
    c.if-extent-lt-EXTENT_LENGTH.false c.scan.ensures c.in-Ok.is in
    record { value = d.0; answer_new = d.1.0; extent_new = d.1.1 }

pub returns-in-Err : goal.returns-in-Err
returns-in-Err c =
    let g = c.args in
    let d =
    refused-gives g.level.now g.grounds.now g.extent.now g.answer.now c.if-answer-lt-PLACE_LENGTH.false
    c.if-extent-lt-EXTENT_LENGTH.false c.scan.ensures c.in-Err.is c.number.ensures in
    record { value = d.0; answer_new = d.1.0; extent_new = d.1.1 }
