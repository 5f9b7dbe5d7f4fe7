-- `result::put_answer` meets its contract.
-- Assumes nothing.
use mathlib.Core.Path.{◌∙◌}
use Rattle.checked.specs.Paper.{paper, refused, number_of}
use Rattle.checked.proofs.Arms.{at}
use Rattle.razovinto.specs.Entry.{returned, afterwards}
use Rattle.razovinto.proofs.Slices.{value-returns, roomy-returns, refusal-stays}
use Rattle.razovinto.proofs.result.put_answer.Goals as goal

pub returns-in-Ok-clause-value : goal.returns-in-Ok-clause-value
returns-in-Ok-clause-value c =
    let s = c in
    let r = s.args.res.now in
    at (λ x. returned (paper x) r) (value-returns c.in-Ok.value r s.requires) c.in-Ok.is

pub returns-in-Err-clause-value : goal.returns-in-Err-clause-value
returns-in-Err-clause-value c =
    let s = c in
    let r = s.args.res.now in
    at (λ x. returned (paper x) r) (c.number.ensures ∙ roomy-returns (refused (number_of c.in-Err.refusal)) r s.requires) c.in-Err.is

pub returns-in-Err-clause-res_new : goal.returns-in-Err-clause-res_new
returns-in-Err-clause-res_new c =
    let s = c in
    let r = s.args.res.now in
    at (λ x. afterwards (paper x) r) (refusal-stays c.in-Err.refusal r s.requires) c.in-Err.is
