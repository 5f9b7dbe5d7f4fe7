-- `write::lay_all` meets its contract. The invariant: the run begins with the blocks before this position and goes on
-- as it was.
-- Assumes nothing.
use Prim.Native.Nat.{◌*◌, ◌<◌}
use native.Mathlib.Omega.{arith}
use lib.ListN.{length}
use Rattle.layout.specs.Editions.{one}
use Rattle.written.proofs.Counts.{begins-within}
use Rattle.write.proofs.Walks.{none-laid, block-turn, all-laid}
use Rattle.write.proofs.write.lay_all.Goals.{In-loop-position}
use Rattle.write.proofs.write.lay_all.Goals as goal

within
    : (d : In-loop-position) →
    one.most * d.loop-position.position < length d.args.numbers.now
within d =
    let s = d in
    begins-within one (omega arith) (length s.args.numbers.now) d.loop-position.position
    (omega (arith, s.requires.1))

pub loop-position-init : goal.loop-position-init
loop-position-init c =
    let s = c in
    let g = s.args in
    none-laid one (omega arith) g.first g.numbers.now g.marks.now g.run.now s.requires.0

pub slice_bounds-lay-count : goal.slice_bounds-lay-count
slice_bounds-lay-count c = omega (arith, within (goal.at.slice_bounds-lay-count c).In-loop-position)

pub slice_bounds-lay-start : goal.slice_bounds-lay-start
slice_bounds-lay-start c = omega (arith, within (goal.at.slice_bounds-lay-start c).In-loop-position)

pub slice_bounds-lay-count-in-loop-position : goal.slice_bounds-lay-count-in-loop-position
slice_bounds-lay-count-in-loop-position c = omega (arith, within (goal.at.slice_bounds-lay-count-in-loop-position c).In-loop-position)

pub slice_bounds-lay-start-in-loop-position : goal.slice_bounds-lay-start-in-loop-position
slice_bounds-lay-start-in-loop-position c = omega (arith, within (goal.at.slice_bounds-lay-start-in-loop-position c).In-loop-position)

pub loop-position-preserved : goal.loop-position-preserved
loop-position-preserved c =
    let l = c in
    let s = l in
    let g = s.args in
    let p = l.loop-position.position in
    let end = c.min-end in
    block-turn one (omega arith) g.first g.numbers.now g.marks.now g.run.now s.requires.0 p
    end.result l.loop-position.invariant end.ensures (omega (arith, s.requires.2))
    c.lay.ensures

pub returns : goal.returns
returns c =
    let l = c.loop-position in
    let s = c in
    let g = s.args in
    all-laid one (omega arith) g.first g.numbers.now g.marks.now g.run.now s.requires.0 l.position
    l.invariant (omega (arith, s.requires.1))
