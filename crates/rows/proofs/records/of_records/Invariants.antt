-- `records::of_records` meets its contract. The invariant: the first i places of the three lists are
-- written, and i is at most the number of turns.
-- Assumes nothing.
use Rattle.rows.specs.Rows.{fields}
use Rattle.rows.proofs.Filling.{Filled}
use Rattle.rows.proofs.records.of_records.Given as goal

abbrev pub invariant-loop-i : goal.invariant-loop-i
invariant-loop-i l =
    Filled (fields l.operations) l.initial.numbers l.initial.marks l.initial.codes l.i l.numbers l.marks l.codes
