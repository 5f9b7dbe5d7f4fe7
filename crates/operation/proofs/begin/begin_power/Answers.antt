-- `begin::begin_power` meets its contract.
-- Assumes nothing.
use mathlib.Core.Path.{ap, ◌∙◌}
use Rattle.checked.specs.declared.types.Checked.TheVariants.{Fits}
use Rattle.shape.specs.Items.{power}
use Rattle.steps.specs.Steps.{value, powering}
use Rattle.operation.proofs.Outcomes.{begun-power, power-at-once, fitting-begins, one-overflowed}
use Rattle.operation.proofs.begin.begin_power.Goals as goal

pub returns-in-Some : goal.returns-in-Some
returns-in-Some c =
    let g = c.args in
    let n = c.in-Some in
    fitting-begins g.limit power g.left g.right n.l n.r c.both.ensures n.is
    (c.powering.ensures ∙ ap (λ f. powering f (Fits n.l) n.r) c.checked_of.ensures ∙ begun-power g.limit n.l n.r)

pub returns-in-None : goal.returns-in-None
returns-in-None c =
    let g = c.args in
    ap value c.power_apart.ensures
    ∙ power-at-once g.limit g.left g.right (one-overflowed g.left g.right c.both.ensures c.in-None.is)
