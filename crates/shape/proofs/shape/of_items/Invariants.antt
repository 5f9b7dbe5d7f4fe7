-- The answer from item i on, with `held` values on hand, is the whole answer.
-- Assumes nothing.
use Rattle.std.proofs.Common.{◌≡◌, drop}
use Rattle.shape.specs.Items.{items}
use Rattle.shape.specs.Shape.{shape_from}
use Rattle.shape.proofs.shape.of_items.Given as goal

abbrev pub invariant-loop-i : goal.invariant-loop-i
invariant-loop-i l = shape_from l.limit l.i l.held (drop l.i (items l.kinds l.numbers)) ≡ shape_from l.limit 0 0 (items l.kinds l.numbers)
