-- `machine::go_on` meets its contract.
-- Assumes nothing.
use Rattle.recipe.proofs.Further.{value-goes, phase-goes}
use Rattle.recipe.proofs.machine.go_on.Goals as goal

pub returns-in-Value : goal.returns-in-Value
returns-in-Value c =
    let w = c in
    let s = w in
    let e = c.in-Value.is in
    λ zs stands. value-goes s.requires.1 w.work-reached.ensures e stands c.finish.ensures

pub returns-in-Within : goal.returns-in-Within
returns-in-Within c =
    let w = c in
    let s = w in
    λ zs stands. phase-goes s.requires.1 w.work-reached.ensures c.in-Within.is stands
