-- `search::search` meets its contract.
-- Assumes nothing.
use mathlib.Core.Path.{ap, sym, ◌∙◌}
use Rattle.checked.specs.Paper.{number_of}
use Rattle.checked.specs.declared.refusal.RefusedAt.{RefusedAt}
use Rattle.search.specs.Search.{Searched, refused}
use Rattle.search.proofs.Stages.{at-partial}
use Rattle.search.proofs.search.search.Goals as goal

abbrev told : RefusedAt → Searched
told e = refused (number_of e.refusal) e.place

pub returns-then-run-ne0 : goal.returns-then-run-ne0
returns-then-run-ne0 c = ap told c.at.ensures ∙ sym (at-partial c.args.run.now c.if-run-ne0.true)
