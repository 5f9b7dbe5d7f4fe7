-- `copy::copy_marks` meets its contract. The invariant: the first i places are written over, and nothing past them.
-- Assumes nothing.
use mathlib.Core.Path.{refl, sym}
use native.Mathlib.Omega.{arith}
use Rattle.places.proofs.Tables.{over-none}
use Rattle.layout.specs.Layout.{mark}
use Rattle.places.proofs.Copies.{copy-turn}
use Rattle.block.proofs.copy.copy_marks.Goals as goal

pub loop-i-init : goal.loop-i-init
loop-i-init c = sym (over-none (mark c.args.b.now) c.args.marks.now)

pub loop-i-preserved : goal.loop-i-preserved
loop-i-preserved c =
    let g = c.args in
    let l = c.loop-i in
    copy-turn (mark g.b.now) g.marks.now l.marks l.i l.invariant (mark g.b.now l.i) refl (omega arith)
