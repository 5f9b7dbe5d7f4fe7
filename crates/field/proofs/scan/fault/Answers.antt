-- `scan::fault` meets its contract.
-- Assumes nothing.
use mathlib.Core.Path.{sym}
use mathlib.Core.Logic.{inl, inr}
use native.Mathlib.Omega.{arith}
use Rattle.field.proofs.Faults.{overflowed-faults, bad-faults}
use Rattle.field.proofs.scan.fault.Goals as goal
use Rattle.field.proofs.scan.fault.Goals.{else-mark-eq1-via-then-mark-eq1+else-number-eq0, else-mark-eq1-via-else-mark-eq1}

pub returns-then-number-eq0 : goal.returns-then-number-eq0
returns-then-number-eq0 c =
    let g = c.args in sym (overflowed-faults g.mark g.number c.if-mark-eq1.true c.if-number-eq0.true).1

pub returns-else-mark-eq1 : goal.returns-else-mark-eq1
returns-else-mark-eq1 c =
    let g = c.args in
    let p = c.requires in
    elim c.else-mark-eq1.branch [
      | else-mark-eq1-via-then-mark-eq1+else-number-eq0 w ↦
          sym (bad-faults g.mark g.number (inr (w.if-mark-eq1.true, w.if-number-eq0.false))).1
      | else-mark-eq1-via-else-mark-eq1 w ↦
          sym (bad-faults g.mark g.number (inl (λ z. omega arith, w.if-mark-eq1.false))).1
    ]
