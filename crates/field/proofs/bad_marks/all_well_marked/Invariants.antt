-- `bad_marks::all_well_marked` meets its contract. The invariant: the largest mark so far and the numbers of the marked places, joined,
-- say whether the places passed are well marked.
-- Assumes nothing.
use mathlib.Core.Path.{◌≡◌}
use mathlib.Core.Bool.{◌&&◌}
use lib.Dec.{eqb, leb}
use lib.ListN.{length}
use Rattle.places.specs.Places.{every}
use Rattle.field.specs.Field.{well_marked_at}
use Rattle.field.proofs.bad_marks.all_well_marked.Given as goal

abbrev pub invariant-loop-number : goal.invariant-loop-number
invariant-loop-number l = (leb l.most 1 && eqb l.any 0) ≡ every (well_marked_at l.numbers l.marks) (length l.yielded)
