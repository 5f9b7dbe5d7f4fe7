-- `sum::add_row` meets its contract. The invariant: the first j columns are done, and the others are as they were.
-- Assumes nothing.
use Rattle.checksum.proofs.Columns.{Added}
use Rattle.checksum.proofs.sum.add_row.Given as goal

abbrev pub invariant-loop-j : goal.invariant-loop-j
invariant-loop-j l = Added l.b l.at l.initial.all l.initial.rows l.j l.all l.rows
