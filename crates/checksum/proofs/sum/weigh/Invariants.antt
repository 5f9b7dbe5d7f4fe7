-- `sum::weigh` meets its contract. The invariant: `sum` is what the first j columns weigh.
-- Assumes nothing.
use mathlib.Core.Path.{◌≡◌}
use Rattle.places.specs.Places.{total}
use Rattle.checksum.specs.Rows.{column_weight}
use Rattle.checksum.proofs.sum.weigh.Given as goal

abbrev pub invariant-loop-j : goal.invariant-loop-j
invariant-loop-j l = l.sum ≡ total (column_weight l.all l.rows) l.j
