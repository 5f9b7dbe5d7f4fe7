-- `wholes::all_whole` meets its contract. The invariant: what is joined so far says whether the readings passed are
-- whole.
-- Assumes nothing.
use mathlib.Core.Path.{◌≡◌}
use mathlib.Core.Bool.{cond}
use Rattle.places.specs.Places.{every}
use Rattle.turn.specs.Wholes.{is_whole_at}
use Rattle.turn.proofs.wholes.all_whole.Given as goal

abbrev pub invariant-loop-x : goal.invariant-loop-x
invariant-loop-x l = l.any ≡ cond (every (is_whole_at l.level) l.x-index) 0 1
