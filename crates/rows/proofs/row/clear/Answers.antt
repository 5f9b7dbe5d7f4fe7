-- `row::clear` meets its contract.
-- Assumes nothing.
use mathlib.Core.Path.{◌∙◌}
use Rattle.rows.proofs.Noted.{zeros-clear}
use Rattle.rows.proofs.row.clear.Goals as goal

pub returns-clause-marks_new : goal.returns-clause-marks_new
returns-clause-marks_new c =
    let g = c.args in c.put_zeros.ensures ∙ zeros-clear g.count g.marks.now c.requires.0

pub returns-clause-codes_new : goal.returns-clause-codes_new
returns-clause-codes_new c =
    let g = c.args in c.put_zeros-2.ensures ∙ zeros-clear g.count g.codes.now c.requires.1
