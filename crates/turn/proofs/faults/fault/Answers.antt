-- `faults::fault` meets its contract.
-- Assumes nothing.
use mathlib.Core.Path.{sym, ◌∙◌}
use mathlib.Core.Logic.{inl, inr}
use Rattle.reading.proofs.Told.{number-is, unusable-told}
use Rattle.turn.proofs.Standing.{badly-marked, not-usable, not-whole, fine}
use Rattle.turn.proofs.faults.fault.Goals as goal

pub returns-then-mark-gt1 : goal.returns-then-mark-gt1
returns-then-mark-gt1 c = let g = c.args in badly-marked g.x g.mark c.if-mark-gt1.true

pub returns-then-whole : goal.returns-then-whole
returns-then-whole c =
    let g = c.args in fine g.x g.mark c.if-mark-gt1.false (sym c.whole.ensures ∙ c.if-whole.true)

pub returns-in-Air : goal.returns-in-Air
returns-in-Air c =
    let g = c.args in
    not-whole g.x g.mark c.if-mark-gt1.false
    (elim c.in-Air.is [
      | inl a ↦ (number-is g.x g.mark a.0 (inl (sym c.seen.ensures ∙ a.1))).0
      | inr a ↦ (number-is g.x g.mark a.0 (inr (sym c.seen.ensures ∙ a.1))).0
    ])
    (sym c.whole.ensures ∙ c.if-whole.false)

pub returns-in-Unusable : goal.returns-in-Unusable
returns-in-Unusable c =
    let g = c.args in
    not-usable g.x g.mark c.if-mark-gt1.false (unusable-told g.x g.mark (sym c.in-Unusable.ensures))
