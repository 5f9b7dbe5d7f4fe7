-- `row::row` meets its contract. The invariant: the first i places of the three lists are written, and i is at most the
-- number of turns.
-- Assumes nothing.
use Rattle.rows.specs.Rows.{lists}
use Rattle.rows.proofs.Filling.{Filled}
use Rattle.rows.proofs.row.row.Given as goal

abbrev pub invariant-loop-i : goal.invariant-loop-i
invariant-loop-i l = Filled (lists l.kinds l.lefts l.rights) l.initial.numbers l.initial.marks l.initial.codes l.i l.numbers l.marks l.codes
