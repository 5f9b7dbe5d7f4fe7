-- `wholes::rounded` meets its contract.
-- Assumes nothing.
use mathlib.Core.Path.{ap, sym}
use mathlib.Core.Bool.{cond}
use lib.Ieee.{binary32, add, sub, of_bits}
use Rattle.turn.specs.Wholes.{room}
use Rattle.turn.proofs.wholes.rounded.Goals as goal

pub returns-then-x : goal.returns-then-x
unfolding of_bits
returns-then-x c =
    let x = c.args.x in
    sym (ap (λ t. cond t x (sub binary32 (add binary32 x room) room)) c.if-x.true)

pub returns-else-x : goal.returns-else-x
unfolding of_bits
returns-else-x c =
    let x = c.args.x in
    sym (ap (λ t. cond t x (sub binary32 (add binary32 x room) room)) c.if-x.false)
