-- `copy::copy_numbers` meets its contract. The invariant: the first i places are written over, and nothing past them.
-- Assumes nothing.
use mathlib.Core.Path.{sym}
use native.Mathlib.Omega.{arith}
use Rattle.places.proofs.Tables.{over-none}
use Rattle.layout.specs.Layout.{number_from}
use Rattle.places.proofs.Copies.{copy-turn}
use Rattle.block.proofs.copy.copy_numbers.Goals as goal

pub loop-i-init : goal.loop-i-init
loop-i-init c = sym (over-none (number_from c.args.first c.args.b.now) c.args.numbers.now)

pub loop-i-preserved : goal.loop-i-preserved
unfolding number_from
loop-i-preserved c =
    let g = c.args in
    let l = c.loop-i in
    copy-turn (number_from g.first g.b.now) g.numbers.now l.numbers l.i l.invariant
    c.long_at.result c.long_at.ensures (omega arith)
