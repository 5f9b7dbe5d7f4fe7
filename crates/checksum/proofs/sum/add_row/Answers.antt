-- `sum::add_row` meets its contract. The invariant: the first j columns are done, and the others are as they were.
-- Assumes nothing.
use Prim.Native.Nat.{◌+◌, ◌≤◌}
use native.Mathlib.Omega.{arith}
use lib.ListN.{get_or}
use Rattle.checksum.proofs.Columns.{added-none, added-more, column-small}
use Rattle.checksum.proofs.sum.add_row.Goals.{In-loop-j}
use Rattle.checksum.proofs.sum.add_row.Goals as goal

here
    : (d : In-loop-j) →
    (get_or d.loop-j.all d.loop-j.j 0 ≤ 2040)
    × (get_or d.loop-j.rows d.loop-j.j 0 ≤ 14280)
here d =
    let g = d.args in
    let l = d.loop-j in
    column-small g.b.now g.at g.all.now g.rows.now d.requires.2 l.j l.all
    l.rows l.invariant d.loop-j-test.true

pub loop-j-init : goal.loop-j-init
loop-j-init c = added-none c.args.b.now c.args.at c.args.all.now c.args.rows.now

pub overflow_add-rows : goal.overflow_add-rows
overflow_add-rows c = omega (arith, here (goal.at.overflow_add-rows c).In-loop-j)

pub overflow_add-all-in-loop-j : goal.overflow_add-all-in-loop-j
overflow_add-all-in-loop-j c =
    let d = c in
    let small = here (goal.at.overflow_add-all-in-loop-j c).In-loop-j in
    omega (arith, small, c.type_inv.b (d.args.at + d.loop-j.j))

pub loop-j-preserved : goal.loop-j-preserved
loop-j-preserved c =
    let d = c in
    let g = d.args in
    let l = d.loop-j in
    added-more g.b.now g.at g.all.now g.rows.now d.requires.2 l.j l.all l.rows
    l.invariant d.loop-j-test.true
