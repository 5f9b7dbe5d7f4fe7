-- `copy::copy_marks` meets its contract. The invariant: the first i places are written over, and nothing past them.
-- Assumes nothing.
use mathlib.Core.Path.{◌≡◌}
use Rattle.places.specs.Places.{over}
use Rattle.layout.specs.Layout.{mark}
use Rattle.block.proofs.copy.copy_marks.Given as goal

abbrev pub invariant-loop-i : goal.invariant-loop-i
invariant-loop-i l = l.marks ≡ over (mark l.b) l.i l.initial.marks
