-- `sound::marks_fine` meets its contract.
-- Assumes nothing.
use mathlib.Core.Path.{sym, ◌∙◌}
use Rattle.block.proofs.Marking.{unmarked}
use Rattle.block.proofs.sound.marks_fine.Goals as goal

pub returns-then-all_zero : goal.returns-then-all_zero
returns-then-all_zero c =
    let a = c.args in
    c.if-all_zero.true ∙ unmarked a.first a.b.now a.count c.requires (sym c.all_zero.ensures ∙ c.if-all_zero.true)
