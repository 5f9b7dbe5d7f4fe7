-- `within::logarithm_on` meets its contract.
-- Assumes nothing.
use mathlib.Core.Path.{◌∙◌}
use Rattle.steps.specs.declared.types.Logarithm.{Logarithm}
use Rattle.steps.specs.declared.types.Phase.TheVariants.{InLogarithm}
use Rattle.steps.specs.Steps.{within}
use Rattle.operation.proofs.Going.{stops, logarithm-value, logarithm-goes-on}
use Rattle.operation.proofs.Outcomes.{sound-step}
use Rattle.operation.proofs.within.logarithm_on.Goals as goal

pub returns-then-left-base : goal.returns-then-left-base
returns-then-left-base c =
    let g = c.args in
    let l = c.loop-taken in
    let q : Logarithm = record { base = g.q.base; left = l.left; count = l.count } in
    λ M. logarithm-value M g.allowance l.taken c.loop-taken-test.true q c.if-left-base.true ∙ l.invariant.1 M

pub loop-taken-preserved : goal.loop-taken-preserved
loop-taken-preserved c =
    let g = c.args in
    let l = c.loop-taken in
    let q : Logarithm = record { base = g.q.base; left = l.left; count = l.count } in (
      (sound-step g.q.base l.left l.count l.invariant.0.0 l.invariant.0.1, c.if-left-base.false),
      λ M. logarithm-goes-on M g.allowance l.taken c.loop-taken-test.true q c.if-left-base.false ∙ l.invariant.1 M,
    )

pub returns : goal.returns
returns c =
    let g = c.args in
    let l = c.loop-taken in
    let q : Logarithm = record { base = g.q.base; left = l.left; count = l.count } in
    λ M. stops M g.allowance l.taken (within (InLogarithm q)) c.loop-taken-test.false ∙ l.invariant.1 M
