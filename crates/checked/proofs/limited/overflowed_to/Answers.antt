-- `limited::overflowed_to` meets its contract.
-- Assumes nothing.
use Rattle.checked.proofs.Known.{overflowed-to-more}
use Rattle.checked.proofs.limited.overflowed_to.Goals as goal

pub returns : goal.returns
returns c = let g = c.args in overflowed-to-more g.limit g.r c.if-r-eq0.false
