-- `blocks::razovinto_search` meets its contract.
-- Assumes nothing.
use mathlib.Core.Path.{refl, ap, ◌∙◌}
use Rattle.std.specs.Prelude.{Ok}
use Rattle.search.specs.Search.{search_of}
use Rattle.search.specs.Answers.{searched}
use Rattle.hosts.specs.Answers.{of_search}
use Rattle.entry.proofs.Entries.{short-gives, arm}
use Rattle.hosts.proofs.blocks.razovinto_search.Goals as goal

pub returns-then-answer-lt-FOUND_LENGTH : goal.returns-then-answer-lt-FOUND_LENGTH
returns-then-answer-lt-FOUND_LENGTH c =
    let g = c.args in
    let w = short-gives (of_search (search_of g.run.now)) g.answer.now c.if-answer-lt-FOUND_LENGTH.true c.too_short.ensures in
    record { value = w.0; answer_new = w.1 }

pub returns-in-Ok-Some : goal.returns-in-Ok-Some
returns-in-Ok-Some c =
    let w = arm searched of_search c.args.answer.now c.if-answer-lt-FOUND_LENGTH.false refl c.put.ensures (c.in-Ok-Some.is ∙ ap Ok c.in-Ok-Some.field-0-is) c.search.ensures in
    record { value = w.0; answer_new = w.1 }

pub returns-in-Ok-None : goal.returns-in-Ok-None
returns-in-Ok-None c =
    let w = arm searched of_search c.args.answer.now c.if-answer-lt-FOUND_LENGTH.false refl c.put-in-Ok-None.ensures (c.in-Ok-None.is ∙ ap Ok c.in-Ok-None.field-0-is) c.search.ensures in
    record { value = w.0; answer_new = w.1 }

pub returns-in-Err : goal.returns-in-Err
returns-in-Err c =
    let w = arm searched of_search c.args.answer.now c.if-answer-lt-FOUND_LENGTH.false c.number.ensures c.put-in-Err.ensures c.in-Err.is c.search.ensures in
    record { value = w.0; answer_new = w.1 }
