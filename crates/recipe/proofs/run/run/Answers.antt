-- `run::run` meets its contract.
-- Assumes nothing.
use Rattle.recipe.proofs.Shaped.{good-brings, good-runs, refusal-runs}
use mathlib.Core.Path.{◌∙◌}
use Rattle.recipe.proofs.run.run.Goals as goal

pub run_good-requires-clause-kinds_len : goal.run_good-requires-clause-kinds_len
run_good-requires-clause-kinds_len c = let g = c.args in let w = good-brings g.width g.kinds.now g.numbers.now g.allowance c.shape.ensures c.in-Ok.limit c.in-Ok.is in (w.0, w.1, w.2)

pub run_good-requires-clause-good : goal.run_good-requires-clause-good
run_good-requires-clause-good c = let g = c.args in let w = good-brings g.width g.kinds.now g.numbers.now g.allowance c.shape.ensures c.in-Ok.limit c.in-Ok.is in w.3

pub returns-in-Ok : goal.returns-in-Ok
returns-in-Ok c = let g = c.args in c.run_good.ensures ∙ good-runs g.width g.kinds.now g.numbers.now g.allowance c.shape.ensures c.in-Ok.limit c.in-Ok.is

pub returns-in-Err : goal.returns-in-Err
returns-in-Err c = let g = c.args in c.ended.ensures ∙ refusal-runs g.width g.kinds.now g.numbers.now g.allowance c.shape.ensures c.in-Err.refused c.in-Err.is
