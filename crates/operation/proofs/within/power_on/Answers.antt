-- `within::power_on` meets its contract.
-- Assumes nothing.
use mathlib.Core.Path.{◌≡◌, ◌∙◌}
use Rattle.steps.specs.declared.types.Power.{Power}
use Rattle.steps.specs.declared.types.Phase.TheVariants.{InPower}
use Rattle.steps.specs.Steps.{within}
use Rattle.operation.proofs.Going.{stops, power-value, power-goes-on}
use Rattle.operation.proofs.Outcomes.{first_after, odd-first, even-first, power-ends, power-goes}
use Rattle.operation.proofs.within.power_on.Goals.{Joined-exponent-eq1, then-exponent-eq1, else-exponent-eq1}
use Rattle.operation.proofs.within.power_on.Goals as goal

first-came
    : (c : Joined-exponent-eq1) →
    c.if-exponent-eq1.first
    ≡ first_after
    c.loop-taken.first
    c.loop-taken.second
    c.loop-taken.exponent
    c.args.limit
first-came c =
    let g = c.args in
    let l = c.loop-taken in
    elim c.if-exponent-eq1.branch [
      | then-exponent-eq1 w ↦ odd-first l.first l.second l.exponent g.limit _ w.if-exponent-eq1.true (w.first-is ∙ w.mul_checked-first.ensures)
      | else-exponent-eq1 w ↦ even-first l.first l.second l.exponent g.limit _ w.if-exponent-eq1.false w.first-is
    ]

pub returns-then-exponent-lt2 : goal.returns-then-exponent-lt2
returns-then-exponent-lt2 c =
    let g = c.args in
    let l = c.loop-taken in
    let p : Power = record { first = l.first; second = l.second; exponent = l.exponent } in
    let v = c.if-exponent-eq1.first in
    let ends = power-ends l.first l.second l.exponent g.limit v c.if-exponent-lt2.true (first-came (goal.at.returns-then-exponent-lt2 c).Joined-exponent-eq1) in
    power-value g.limit g.allowance l.taken c.loop-taken-test.true p v ends ∙ l.invariant

pub loop-taken-preserved : goal.loop-taken-preserved
loop-taken-preserved c =
    let g = c.args in
    let l = c.loop-taken in
    let p : Power = record { first = l.first; second = l.second; exponent = l.exponent } in
    let v = c.if-exponent-eq1.first in
    let w = c.mul_checked-second in
    let goes =
    power-goes l.first l.second l.exponent g.limit v w.result c.if-exponent-lt2.false
    (first-came (goal.at.loop-taken-preserved c).Joined-exponent-eq1) w.ensures in
    power-goes-on g.limit g.allowance l.taken c.loop-taken-test.true p _ goes ∙ l.invariant

pub returns : goal.returns
returns c =
    let g = c.args in
    let l = c.loop-taken in
    let p : Power = record { first = l.first; second = l.second; exponent = l.exponent } in
    stops g.limit g.allowance l.taken (within (InPower p)) c.loop-taken-test.false ∙ l.invariant
