-- `numbers::put_signed` meets its contract.
-- Assumes nothing.
use mathlib.Core.Path.{ap, ◌∙◌}
use lib.ListN.{set}
use mir.Syntax.{w64}
use mir.Val.{SFits}
use mir.Facts.{to_z-of_z}
use Rattle.hosts.specs.Entry.{signed_code, signed_list}
use Rattle.hosts.proofs.Signed.{number-signed-gives, refusal-signed-gives}
use Rattle.signed.specs.Signed.{answer}
use Rattle.checked.proofs.Arms.{at}
use borrow.Author.Rules.{rules}
use Rattle.hosts.proofs.numbers.put_signed.Goals as goal

pub returns-in-Ok : goal.returns-in-Ok
returns-in-Ok c =
    let g = c.args in
    let z = c.in-Ok.n in
    let f : SFits w64 z = search rules in
    let s = number-signed-gives z g.res.now c.requires in record { value = at (λ x. signed_code (answer x) g.res.now) s.0 c.in-Ok.is; res_new = at (λ x. signed_list (answer x) g.res.now) (ap (set g.res.now 0) (to_z-of_z f) ∙ s.1) c.in-Ok.is }

pub returns-in-Err : goal.returns-in-Err
returns-in-Err c =
    let g = c.args in
    let s = refusal-signed-gives c.in-Err.refusal g.res.now c.requires in record { value = at (λ x. signed_code (answer x) g.res.now) (c.number.ensures ∙ s.0) c.in-Err.is; res_new = at (λ x. signed_list (answer x) g.res.now) s.1 c.in-Err.is }
