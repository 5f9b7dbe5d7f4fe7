-- `extent::settle` meets its contract.
-- Assumes nothing.
use mathlib.Core.Path.{◌≡◌, sym, ◌∙◌}
use Prim.Native.Nat.{◌<◌}
use Rattle.reading.specs.Order.{rank}
use Rattle.level.specs.Ranks.{place_of_rank}
use Rattle.level.proofs.Parts.{settled-other, number-placed, float-placed}
use Rattle.level.proofs.extent.settle.Goals.{Else-found-rank}
use Rattle.level.proofs.extent.settle.Goals as goal

-- where the rank isn't that of the float kept so far
other : (c : Else-found-rank) → let g = c.args in g.found ≡ rank g.kept → ⊥
other c e = c.if-found-rank.false (e ∙ sym c.rank.ensures)

among
    : (c : Else-found-rank) → let g = c.args in
    place_of_rank g.level.now g.from g.to g.found < g.to
among c = c.requires.among (other c)

pub float_of-requires : goal.float_of-requires
float_of-requires c =
    let g = c.args in
    let n =
    number-placed g.level.now g.from g.to g.found (among (goal.at.float_of-requires c).Else-found-rank)
    (c.type_inv.level (place_of_rank g.level.now g.from g.to g.found)) c.requires.all_usable in
    record { rank_value = n.0; rank_nonzero = n.1 }

pub returns : goal.returns
returns c =
    let g = c.args in
    c.float_of.ensures
    ∙ float-placed g.level.now g.from g.to g.found (among (goal.at.returns c).Else-found-rank)
    (c.type_inv.level (place_of_rank g.level.now g.from g.to g.found)) c.if-found-eq-ZEROS.false
    ∙ sym (settled-other g.level.now g.from g.to g.kept g.found (other (goal.at.returns c).Else-found-rank))
