-- `types::Checked::logarithm` meets its contract.
-- Assumes nothing.
use Rattle.checked.specs.Paper.{logarithm_of}
use Rattle.checked.proofs.Widths.{answer-at, logarithm-keeps}
use Rattle.checked.proofs.types.Checked.logarithm.Goals as goal

pub returns : goal.returns
returns g c =
    let M = g.N.Width.LIMIT in
    answer-at M logarithm_of (logarithm-keeps M) c.logarithm.result c.narrow_answer.ensures c.logarithm.ensures c.wide.ensures c.wide-2.ensures
