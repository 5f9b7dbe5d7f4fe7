-- `answer::put_at` meets its contract. The invariant: the first i numbers are stored.
-- Assumes nothing.
use mathlib.Core.Path.{ap, ◌∙◌}
use native.Mathlib.Omega.{arith}
use lib.ListN.{get_or}
use lib.Seq.{sets}
use Rattle.places.proofs.Stores.{stored-none, stored-turn, stored-all, listed}
use Rattle.hosts.proofs.answer.put_at.Goals as goal

pub loop-i-init : goal.loop-i-init
loop-i-init g c = let a = c.args in stored-none (λ j. get_or a.numbers.now j 0) a.at a.answer.now

pub loop-i-preserved : goal.loop-i-preserved
loop-i-preserved g c =
    let a = c.args in
    let l = c.loop-i in
    stored-turn (λ j. get_or a.numbers.now j 0) a.at a.answer.now l.i l.invariant

pub returns : goal.returns
returns g c =
    let a = c.args in
    let l = c.loop-i in
    stored-all (λ j. get_or a.numbers.now j 0) a.at a.answer.now l.i g.row.N l.invariant (omega arith)
    ∙ ap (sets a.answer.now a.at) (listed a.numbers.now g.row.N c.told-numbers)
