-- `recipes::put_run` meets its contract.
-- Assumes nothing.
use mathlib.Core.Path.{ap, ◌∙◌}
use lib.Seq.{sets}
use Rattle.recipe.specs.Run.{paper}
use Rattle.hosts.proofs.Runs.{run-stored}
use Rattle.hosts.proofs.recipes.put_run.Goals as goal

pub returns : goal.returns
returns c =
    let g = c.args in
    let a = c.put_outcome-code in
    let phased = c.put_at.ensures ∙ ap (sets a.new.lent 5) c.phase_words.ensures in
    let marked = c.put_at-2.ensures ∙ ap (sets c.put_at.new.answer 14) c.mark_words.ensures in
    let all =
    run-stored (paper g.shown) g.lent.now a.new.lent c.put_at.new.answer c.put_at-2.new.answer c.put_at-3.new.answer in
    record { value = a.ensures.value; lent_new = all a.ensures.lent_new phased marked c.put_at-3.ensures }
