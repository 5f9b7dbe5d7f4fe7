-- `turn::put_values` meets its contract. The invariant: the first i numbers are the readings' values, and nothing past
-- them is written.
-- Assumes nothing.
use mathlib.Core.Path.{sym}
use native.Mathlib.Omega.{arith}
use lib.ListN.{length}
use Rattle.places.proofs.Every.{every-at}
use Rattle.places.proofs.Tables.{over-none}
use Rattle.places.proofs.Copies.{copy-turn}
use Rattle.turn.specs.Wholes.{is_whole_at, value_at}
use Rattle.turn.proofs.turn.put_values.Goals as goal

pub loop-i-init : goal.loop-i-init
loop-i-init c = let g = c.args in sym (over-none (value_at g.level.now) g.numbers.now)

pub value-requires : goal.value-requires
value-requires c =
    let level = c.args.level.now in
    every-at (is_whole_at level) (length level) c.loop-i.i c.requires.level_value (omega arith)

pub loop-i-preserved : goal.loop-i-preserved
loop-i-preserved c =
    let g = c.args in
    copy-turn (value_at g.level.now) g.numbers.now c.loop-i.numbers c.loop-i.i c.loop-i.invariant
    c.value.result c.value.ensures (omega arith)
