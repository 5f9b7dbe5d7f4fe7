-- `write::write` meets its contract: each return is one of the writer's ends.
-- Assumes nothing.
use mathlib.Core.Path.{ap, ◌∙◌}
use borrow.Author.Rules.{rules}
use Rattle.checked.specs.Paper.{number_of}
use Rattle.checked.specs.declared.refusal.RefusedAt.{RefusedAt}
use Rattle.written.specs.Writing.{Writing, refused}
use Rattle.written.specs.Run.{blocks_for}
use Rattle.write.proofs.Ends.{unequal-ends, empty-ends, bad-ends, short-ends, large-ends, written-ends}
use Rattle.write.proofs.write.write.Goals as goal

abbrev told : RefusedAt → Writing
told e = refused (number_of e.refusal) e.place

pub returns-then-count-marks-clause-result_value : goal.returns-then-count-marks-clause-result_value
returns-then-count-marks-clause-result_value c = ap told c.at.ensures ∙ (unequal-ends _ _ _ _ (search rules)).0

pub returns-then-count-marks-clause-run_new : goal.returns-then-count-marks-clause-run_new
returns-then-count-marks-clause-run_new c = (unequal-ends _ _ _ _ (search rules)).1

pub returns-then-count-eq0-clause-result_value : goal.returns-then-count-eq0-clause-result_value
returns-then-count-eq0-clause-result_value c = ap told c.at-then-count-eq0.ensures ∙ (empty-ends _ _ _ _ (search rules) (search rules)).0

pub returns-then-count-eq0-clause-run_new : goal.returns-then-count-eq0-clause-run_new
returns-then-count-eq0-clause-run_new c = (empty-ends _ _ _ _ (search rules) (search rules)).1

pub returns-then-place-count-clause-result_value : goal.returns-then-place-count-clause-result_value
returns-then-place-count-clause-result_value c = ap told c.at-then-place-count.ensures ∙ (bad-ends _ _ _ _ (search rules) (search rules) _ c.first_bad-place.ensures (search rules)).0

pub returns-then-place-count-clause-run_new : goal.returns-then-place-count-clause-run_new
returns-then-place-count-clause-run_new c = (bad-ends _ _ _ _ (search rules) (search rules) _ c.first_bad-place.ensures (search rules)).1

pub returns-then-run-blocks-clause-result_value : goal.returns-then-run-blocks-clause-result_value
returns-then-run-blocks-clause-result_value c = ap told c.at-then-run-blocks.ensures ∙ (short-ends _ _ _ _ (search rules) (search rules) _ c.first_bad-place.ensures (search rules)
    (search rules)).0

pub returns-then-run-blocks-clause-run_new : goal.returns-then-run-blocks-clause-run_new
returns-then-run-blocks-clause-run_new c = (short-ends _ _ _ _ (search rules) (search rules) _ c.first_bad-place.ensures (search rules)
    (search rules)).1

pub returns-then-left-blocks-clause-result_value : goal.returns-then-left-blocks-clause-result_value
returns-then-left-blocks-clause-result_value c = ap told c.at-then-left-blocks.ensures ∙ (large-ends _ _ _ _ (search rules) (search rules) _ c.first_bad-place.ensures (search rules)
    (search rules) (search rules)).0

pub returns-then-left-blocks-clause-run_new : goal.returns-then-left-blocks-clause-run_new
returns-then-left-blocks-clause-run_new c = (large-ends _ _ _ _ (search rules) (search rules) _ c.first_bad-place.ensures (search rules)
    (search rules) (search rules)).1

pub lay_all-requires : goal.lay_all-requires
unfolding blocks_for
lay_all-requires c = search rules

pub returns-clause-result_value : goal.returns-clause-result_value
returns-clause-result_value c =
    let found = c.first_bad-place.ensures in (written-ends _ _ _ _ (search rules) (search rules) _ found (search rules) (search rules) (search rules)
    c.lay_all.ensures).0

pub returns-clause-run_new : goal.returns-clause-run_new
returns-clause-run_new c =
    let found = c.first_bad-place.ensures in (written-ends _ _ _ _ (search rules) (search rules) _ found (search rules) (search rules) (search rules)
    c.lay_all.ensures).1
