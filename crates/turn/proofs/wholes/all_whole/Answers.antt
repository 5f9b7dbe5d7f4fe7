-- `wholes::all_whole` meets its contract. The invariant: what is joined so far says whether the readings passed are
-- whole.
-- Assumes nothing.
use Rattle.turn.proofs.Together.{unfit-start, unfit-turn}
use Rattle.turn.proofs.wholes.all_whole.Goals as goal

pub loop-x-init : goal.loop-x-init
loop-x-init c = unfit-start c.args.level.now

pub loop-x-preserved : goal.loop-x-preserved
loop-x-preserved c = unfit-turn c.args.level.now c.loop-x.x-index c.loop-x.invariant c.unfit-any.ensures
