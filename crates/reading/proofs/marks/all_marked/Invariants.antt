-- `marks::all_marked` meets its contract. The invariant: the largest mark so far says whether those passed are 0 or 1.
-- Assumes nothing.
use mathlib.Core.Path.{◌≡◌}
use lib.Dec.{leb}
use Rattle.places.specs.Places.{every}
use Rattle.reading.specs.Reading.{marked_at}
use Rattle.reading.proofs.marks.all_marked.Given as goal

abbrev pub invariant-loop-mark : goal.invariant-loop-mark
invariant-loop-mark l = leb l.most 1 ≡ every (marked_at l.grounds) l.mark-index
