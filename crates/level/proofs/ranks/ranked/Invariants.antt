-- `ranks::ranked` meets its contract. The invariant: these are the ranks up to place i.
-- Assumes nothing.
use Rattle.level.specs.Ranks.{RankedTo}
use Rattle.level.proofs.ranks.ranked.Given as goal

abbrev pub invariant-loop-i : goal.invariant-loop-i
invariant-loop-i l = RankedTo l.level l.from l.i l.least l.greatest
