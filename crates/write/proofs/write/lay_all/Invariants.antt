-- `write::lay_all` meets its contract. The invariant: the run begins with the blocks before this position and goes on
-- as it was.
-- Assumes nothing.
use mathlib.Core.Path.{◌≡◌}
use Rattle.places.specs.Places.{chained, overlaid}
use Rattle.layout.specs.Editions.{one}
use Rattle.written.specs.Run.{field_block}
use Rattle.write.proofs.write.lay_all.Given as goal

abbrev pub invariant-loop-position : goal.invariant-loop-position
invariant-loop-position l = l.run ≡ overlaid (chained (field_block one l.first l.numbers l.marks) l.position) l.initial.run
