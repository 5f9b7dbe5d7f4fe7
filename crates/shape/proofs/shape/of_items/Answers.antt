-- `shape::of_items` meets its contract.
-- Assumes nothing.
use mathlib.Core.Path.{◌≡◌, ap, sym, ◌∙◌}
use mathlib.Core.List.{[]}
use native.Mathlib.Omega.{arith}
use lib.ListN.{length}
use Rattle.std.specs.Prelude.{Err}
use Rattle.shape.specs.Shape.{shape_from}
use Rattle.shape.specs.Answers.{verdict, held_verdict}
use Rattle.shape.proofs.Turns.{no-item-left, turn, turned-away}
use Rattle.shape.proofs.shape.of_items.Goals as goal

pub returns-in-Err : goal.returns-in-Err
returns-in-Err c =
    ap (λ e. verdict (Err e)) c.at.ensures
    ∙ turned-away c.args.limit c.loop-i.i c.loop-i.held c.args.kinds.now c.args.numbers.now c.loop-i-test.true c.requires c.in-Err.refusal (sym (ap held_verdict c.in-Err.is) ∙ c.after.ensures)
    ∙ c.loop-i.invariant

pub loop-i-preserved : goal.loop-i-preserved
loop-i-preserved c =
    turn c.args.limit c.loop-i.i c.loop-i.held c.args.kinds.now c.args.numbers.now c.loop-i-test.true c.requires c.in-Ok.left (sym (ap held_verdict c.in-Ok.is) ∙ c.after.ensures)
    ∙ c.loop-i.invariant

pub returns : goal.returns
returns c =
    let g = c.args in
    let l = c.loop-i in
    let all : length g.kinds.now ≡ l.i = omega arith in
    c.at_end.ensures
    ∙ ap (λ p. shape_from g.limit p l.held []) all
    ∙ no-item-left g.limit l.i l.held g.kinds.now g.numbers.now c.requires c.loop-i-test.false
    ∙ l.invariant
