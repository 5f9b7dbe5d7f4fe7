-- `limited::overflowed_by` meets its contract.
-- Assumes nothing.
use Rattle.checked.specs.declared.types.Checked.TheVariants.{Overflowed}
use Rattle.checked.specs.Value.{raised_of}
use Rattle.checked.proofs.Arms.{at}
use Rattle.checked.proofs.Known.{overflowed-to-overflowed}
use Rattle.checked.proofs.limited.overflowed_by.Goals as goal

pub returns-in-Overflowed : goal.returns-in-Overflowed
returns-in-Overflowed c =
    let g = c.args in
    at (raised_of g.limit Overflowed) (overflowed-to-overflowed g.limit) c.in-Overflowed.is
