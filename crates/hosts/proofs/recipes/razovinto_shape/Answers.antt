-- `recipes::razovinto_shape` meets its contract.
-- Assumes nothing.
use mathlib.Core.Path.{refl}
use Rattle.shape.specs.Shape.{shape_of}
use Rattle.shape.specs.Answers.{verdict}
use Rattle.hosts.specs.Answers.{of_shape}
use Rattle.entry.proofs.Entries.{short-gives, arm}
use Rattle.hosts.proofs.recipes.razovinto_shape.Goals as goal

pub returns-then-answer-lt-SHAPE_LENGTH : goal.returns-then-answer-lt-SHAPE_LENGTH
returns-then-answer-lt-SHAPE_LENGTH c =
    let g = c.args in
    let w = short-gives (of_shape (shape_of g.width g.kinds.now g.numbers.now)) g.answer.now c.if-answer-lt-SHAPE_LENGTH.true c.too_short.ensures in
    record { value = w.0; answer_new = w.1 }

pub returns-in-Ok : goal.returns-in-Ok
returns-in-Ok c =
    let w = arm verdict of_shape c.args.answer.now c.if-answer-lt-SHAPE_LENGTH.false refl c.put.ensures c.in-Ok.is c.shape.ensures in
    record { value = w.0; answer_new = w.1 }

pub returns-in-Err : goal.returns-in-Err
returns-in-Err c =
    let w = arm verdict of_shape c.args.answer.now c.if-answer-lt-SHAPE_LENGTH.false c.number.ensures c.put-in-Err.ensures c.in-Err.is c.shape.ensures in
    record { value = w.0; answer_new = w.1 }
