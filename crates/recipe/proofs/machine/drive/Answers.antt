-- `machine::drive` meets its contract.
-- Assumes nothing.
use native.Mathlib.Omega.{arith}
use Rattle.recipe.proofs.Driving.{Turned, turn}
use Rattle.recipe.proofs.Driving.{drives-on, within-shown, one-left, finished-shown, stopped-shown}
use Rattle.recipe.proofs.machine.drive.Goals.{After-go_on-state}
use Rattle.recipe.proofs.machine.drive.Goals as goal

turned
    : (c : After-go_on-state) →
    Turned c.args.limit c.args.kinds.now c.args.numbers.now c.args.allowance c.loop-state.state.taken c.go_on-state.new.hand
    c.go_on-state.result
turned c =
    turn c.requires.kinds_len.0 c.loop-state.invariant c.loop-state-test.true c.enter.ensures c.in-Ok.is
    c.go_on-state.ensures

pub pop-requires : goal.pop-requires
pop-requires c =
    let e = one-left (turned (goal.at.pop-requires c).After-go_on-state) c.if-state-n.true in omega arith

pub returns-then-state-n : goal.returns-then-state-n
returns-then-state-n c =
    finished-shown (turned (goal.at.returns-then-state-n c).After-go_on-state) c.if-state-n.true c.pop.ensures.value

pub loop-state-preserved : goal.loop-state-preserved
loop-state-preserved c =
    drives-on (turned (goal.at.loop-state-preserved c).After-go_on-state) c.if-state-n.false

pub returns-in_default : goal.returns-in_default
returns-in_default c =
    within-shown (turned (goal.at.returns-in_default c).After-go_on-state) c.in_default.not-Between

pub returns : goal.returns
returns c = stopped-shown c.requires.kinds_len.0 c.loop-state.invariant c.loop-state-test.false
