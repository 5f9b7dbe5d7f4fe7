-- `sum::weigh` meets its contract. The invariant: `sum` is what the first j columns weigh.
-- Assumes nothing.
use mathlib.Core.Path.{◌≡◌, ap, sym, ◌∙◌}
use Prim.Native.Nat.{◌+◌, ◌≤◌}
use native.Mathlib.Numerals.{add-one}
use native.Mathlib.Omega.{arith}
use lib.ListN.{get_or}
use Rattle.places.specs.Places.{total}
use Rattle.places.proofs.Totals.{total-none, total-more}
use Rattle.checksum.specs.Rows.{column_weight}
use Rattle.checksum.proofs.Columns.{weight-at-most, weights-at-most}
use Rattle.checksum.proofs.sum.weigh.Goals.{In-loop-j}
use Rattle.checksum.proofs.sum.weigh.Goals as goal

here
    : (c : In-loop-j) → let all = c.args.all.now in
    let rows = c.args.rows.now in
    let j = c.loop-j.j in
    (get_or all j 0 ≤ 2040)
    × (get_or rows j 0 ≤ 14280)
    × (column_weight all rows j ≤ 1044480)
    × (total (column_weight all rows) j ≤ 66846720)
    × (total (column_weight all rows) (j + 1) ≡ total (column_weight all rows) j + column_weight all rows j)
here c =
    let all = c.args.all.now in
    let rows = c.args.rows.now in
    let j = c.loop-j.j in
    let s = c.requires in
    let h = c.loop-j-test.true in (
      s.all_small j h,
      s.rows_small j h,
      weight-at-most all rows s j h,
      weights-at-most all rows s j (omega arith),
      ap (total (column_weight all rows)) (add-one j) ∙ total-more (column_weight all rows) j,
    )

pub loop-j-init : goal.loop-j-init
loop-j-init c = sym (total-none (column_weight c.args.all.now c.args.rows.now))

pub overflow_add-sum-in-loop-j-2 : goal.overflow_add-sum-in-loop-j-2
overflow_add-sum-in-loop-j-2 c = omega (arith, here (goal.at.overflow_add-sum-in-loop-j-2 c).In-loop-j)

pub loop-j-preserved : goal.loop-j-preserved
loop-j-preserved c = omega (arith, here (goal.at.loop-j-preserved c).In-loop-j)
