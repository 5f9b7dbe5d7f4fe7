-- `scan::range` meets its contract. The invariant: the least and the greatest from place i on are those of all the numbers.
-- Assumes nothing.
use mathlib.Core.Path.{◌≡◌}
use Prim.Native.Nat.{◌≤◌, min, max}
use lib.ListN.{drop}
use Rattle.field.specs.Range as range
use Rattle.field.proofs.scan.range.Given as goal

abbrev pub invariant-loop-number : goal.invariant-loop-number
invariant-loop-number l = (range.kept_from min l.least (drop l.number-index l.numbers) ≡ range.least l.numbers)
    × (range.kept_from max l.greatest (drop l.number-index l.numbers) ≡ range.greatest l.numbers)
    × (l.least ≤ l.greatest)
