-- `seen::usable` meets its contract.
-- Assumes nothing.
use mathlib.Core.Path.{◌∙◌}
use Rattle.reading.proofs.Readings.{above-is, not-above-is}
use Rattle.reading.proofs.seen.usable.Goals as goal

pub returns-then-x : goal.returns-then-x
returns-then-x c = above-is c.args.x c.if-x.true

pub returns-else-x : goal.returns-else-x
returns-else-x c = c.if-x.false ∙ not-above-is c.args.x c.if-x.false
