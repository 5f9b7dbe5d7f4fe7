-- `copy::copy_numbers` meets its contract. The invariant: the first i places are written over, and nothing past them.
-- Assumes nothing.
use mathlib.Core.Path.{◌≡◌}
use Rattle.places.specs.Places.{over}
use Rattle.layout.specs.Layout.{number_from}
use Rattle.block.proofs.copy.copy_numbers.Given as goal

abbrev pub invariant-loop-i : goal.invariant-loop-i
invariant-loop-i l = l.numbers ≡ over (number_from l.first l.b) l.i l.initial.numbers
