-- `bad_marks::first_bad` meets its contract.
-- Assumes nothing.
use mathlib.Core.Path.{sym, ◌∙◌}
use Rattle.field.proofs.BadMarks.{unmarked-is, all-well-marked-is}
use Rattle.field.proofs.bad_marks.first_bad.Goals as goal

pub returns-then-all_zero : goal.returns-then-all_zero
returns-then-all_zero c =
    let g = c.args in
    unmarked-is g.numbers.now g.marks.now (sym c.all_zero.ensures ∙ c.if-all_zero.true)

pub returns-then-all_well_marked : goal.returns-then-all_well_marked
returns-then-all_well_marked c =
    let g = c.args in
    all-well-marked-is g.numbers.now g.marks.now (sym c.all_well_marked.ensures ∙ c.if-all_well_marked.true)
