-- `faults::fault` meets its contract.
-- Assumes nothing.
use mathlib.Core.Path.{sym, ◌∙◌}
use mathlib.Core.Logic.{inl, inr}
use Rattle.reading.proofs.Told.{bad-mark-is, sound-is, unusable-reading-is, number-is, unusable-told}
use Rattle.level.proofs.faults.fault.Goals as goal

pub returns-then-mark-gt-GROUND : goal.returns-then-mark-gt-GROUND
returns-then-mark-gt-GROUND c = let g = c.args in bad-mark-is g.x g.mark c.if-mark-gt-GROUND.true

pub returns-in-Air : goal.returns-in-Air
returns-in-Air c =
    let g = c.args in
    sound-is g.x g.mark c.if-mark-gt-GROUND.false
    (elim c.in-Air.is [
      | inl a ↦ (number-is g.x g.mark a.0 (inl (sym c.seen.ensures ∙ a.1))).0
      | inr a ↦ (number-is g.x g.mark a.0 (inr (sym c.seen.ensures ∙ a.1))).0
    ])

pub returns-in-Unusable : goal.returns-in-Unusable
returns-in-Unusable c =
    let g = c.args in
    unusable-reading-is g.x g.mark c.if-mark-gt-GROUND.false (unusable-told g.x g.mark (sym c.in-Unusable.ensures))
