-- `sum::check_sum` meets its contract. The invariant: the columns are summed down to row `row`.
-- Assumes nothing.
use Prim.Native.Nat.{◌≤◌}
use Rattle.checksum.specs.Rows.{Columns}
use Rattle.checksum.proofs.sum.check_sum.Given as goal

abbrev pub invariant-loop-row : goal.invariant-loop-row
invariant-loop-row l = Columns l.b l.row l.all l.rows × (l.row ≤ 8)
