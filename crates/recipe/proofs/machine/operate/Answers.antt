-- `machine::operate` meets its contract.
-- Assumes nothing.
use mathlib.Core.Path.{◌≡◌, ap, ◌∙◌}
use mathlib.Core.List.{◌∷◌}
use Rattle.std.specs.Prelude.{Ok}
use Rattle.std.proofs.lemmas.Result.{err_from_is_err_and}
use Rattle.shape.specs.Items.{kind_of}
use Rattle.recipe.proofs.Landing.{value-operates, phase-operates, refusal-operates}
use Rattle.recipe.proofs.machine.operate.Goals.{After-begin}
use Rattle.recipe.proofs.machine.operate.Goals as goal

taken
    : (c : After-begin) →
    c.args.hand.now ≡ c.operands-left.result.1 ∷ c.operands-left.result.0 ∷ c.operands-left.new.self
taken c = c.operands-left.ensures.value

pub returns-in-Value : goal.returns-in-Value
returns-in-Value c =
    let g = c.args in
    value-operates (taken (goal.at.returns-in-Value c).After-begin) c.operands-left.ensures.room g.limit g.from
    (kind_of g.kind) g.done _ c.requires.1 c.begin.ensures
    (c.in_ok-value.was ∙ ap Ok c.in-Value.is) c.finish.ensures

pub returns-in-Within : goal.returns-in-Within
returns-in-Within c =
    let g = c.args in
    phase-operates (taken (goal.at.returns-in-Within c).After-begin) c.operands-left.ensures.room g.limit g.from
    (kind_of g.kind) g.done _ c.requires.1 c.begin.ensures
    (c.in_ok-value.was ∙ ap Ok c.in-Within.is)

pub returns-in_err-value : goal.returns-in_err-value
returns-in_err-value c =
    let g = c.args in
    let p = err_from_is_err_and c.from_residual.result c.from_residual.ensures.1 in
    rw (p.1, p.2)
    (refusal-operates (taken (goal.at.returns-in_err-value c).After-begin) c.operands-left.ensures.room g.limit
    g.from (kind_of g.kind) g.done _ c.requires.1 c.begin.ensures c.in_err-value.was)
