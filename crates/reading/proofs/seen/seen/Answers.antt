-- `seen::seen` meets its contract.
-- Assumes nothing.
use mathlib.Core.Path.{sym, ◌∙◌}
use Rattle.reading.proofs.Readings.{unusable-is, in-air, under-ground}
use Rattle.reading.proofs.seen.seen.Goals as goal

pub returns-then-not-usable : goal.returns-then-not-usable
returns-then-not-usable c =
    let g = c.args in unusable-is g.x g.mark (sym c.usable.ensures ∙ c.if-not-usable.true)

pub returns-then-mark-eq0 : goal.returns-then-mark-eq0
returns-then-mark-eq0 c =
    let g = c.args in
    in-air g.x g.mark (sym c.usable.ensures ∙ c.if-not-usable.false) c.if-mark-eq0.true

pub returns-else-mark-eq0 : goal.returns-else-mark-eq0
returns-else-mark-eq0 c =
    let g = c.args in
    under-ground g.x g.mark (sym c.usable.ensures ∙ c.if-not-usable.false) c.if-mark-eq0.false
