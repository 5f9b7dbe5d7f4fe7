-- `turn::put_values` meets its contract. The invariant: the first i numbers are the readings' values, and nothing past
-- them is written.
-- Assumes nothing.
use mathlib.Core.Path.{◌≡◌}
use Rattle.places.specs.Places.{over}
use Rattle.turn.specs.Wholes.{value_at}
use Rattle.turn.proofs.turn.put_values.Given as goal

abbrev pub invariant-loop-i : goal.invariant-loop-i
invariant-loop-i l = l.numbers ≡ over (value_at l.level) l.i l.initial.numbers
