-- `begin::begin_logarithm` meets its contract.
-- Assumes nothing.
use mathlib.Core.Path.{ap, ◌∙◌}
use Rattle.shape.specs.Items.{logarithm}
use Rattle.operation.proofs.Outcomes.{told, begun-logarithm, small-base, logarithm-at-once, fitting-begins, one-overflowed}
use Rattle.operation.proofs.begin.begin_logarithm.Goals as goal

pub returns-then-l-lt2 : goal.returns-then-l-lt2
returns-then-l-lt2 c =
    let g = c.args in
    let n = c.in-Some in
    fitting-begins g.limit logarithm g.left g.right n.l n.r c.both.ensures n.is (small-base g.limit n.l n.r c.if-l-lt2.true)

pub returns-else-l-lt2 : goal.returns-else-l-lt2
returns-else-l-lt2 c =
    let g = c.args in
    let n = c.in-Some in
    fitting-begins g.limit logarithm g.left g.right n.l n.r c.both.ensures n.is
    (c.dividing.ensures ∙ begun-logarithm g.limit n.l n.r c.if-l-lt2.false)

pub returns-in-None : goal.returns-in-None
returns-in-None c =
    let g = c.args in
    c.at_once.ensures ∙ ap told c.logarithm.ensures
    ∙ logarithm-at-once g.limit g.left g.right (one-overflowed g.left g.right c.both.ensures c.in-None.is)
