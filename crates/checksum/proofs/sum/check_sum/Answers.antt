-- `sum::check_sum` meets its contract. The invariant: the columns are summed down to row `row`.
-- Assumes nothing.
use mathlib.Core.Path.{◌≡◌, sym, ◌∙◌, subst}
use Prim.Native.Nat.{suc, ◌+◌, ◌-◌, ◌*◌}
use native.Mathlib.Omega.{arith}
use Rattle.layout.specs.Layout.{check_sum}
use Rattle.checksum.specs.Rows.{Columns, all_more}
use Rattle.checksum.proofs.Columns.{columns-start, columns-more, columns-small, columns-weigh}
use Rattle.checksum.proofs.Sums.{sum-of-block, sum-of-no-block}
use Rattle.checksum.proofs.sum.check_sum.Goals.{After-own, At-loop-row}
use Rattle.checksum.proofs.sum.check_sum.Goals as goal

rest
    : (c : After-own) →
    c.weigh.result ≡ check_sum c.args.b.now + c.own.result
rest c =
    let l = c in
    let b = c.args.b.now in
    let t : l.loop-row.row ≡ 0 = omega arith in
    let all-rows = subst (λ n. Columns b n l.loop-row.all l.loop-row.rows) t l.loop-row.invariant.0 in
    let w = c.weigh.ensures ∙ columns-weigh b l.loop-row.all l.loop-row.rows all-rows in
    omega (arith, w, c.own.ensures)

pub returns-then-b-ne-BLOCK_LENGTH : goal.returns-then-b-ne-BLOCK_LENGTH
returns-then-b-ne-BLOCK_LENGTH c = sym (sum-of-no-block c.args.b.now c.if-b-ne-BLOCK_LENGTH.true)

pub loop-row-init : goal.loop-row-init
loop-row-init c = (columns-start c.args.b.now, omega arith)

pub add_row-requires : goal.add_row-requires
add_row-requires c =
    let l = c in (
      omega arith,
      omega arith,
      columns-small c.args.b.now (λ i. let p = c.type_inv.b i in omega arith) l.loop-row.row l.loop-row.all l.loop-row.rows l.loop-row.invariant.0,
    )

pub loop-row-preserved : goal.loop-row-preserved
loop-row-preserved c =
    let l = c in
    let b = c.args.b.now in
    let e : l.loop-row.row ≡ suc (l.loop-row.row - 1) = omega arith in
    let before = subst (λ n. Columns b n l.loop-row.all l.loop-row.rows) e l.loop-row.invariant.0 in
    let s = columns-more b (l.loop-row.row - 1) l.loop-row.all l.loop-row.rows before in (
      subst (λ n. Columns b (l.loop-row.row - 1) n c.add_row.new.rows) (sym c.add_row.ensures.all_new)
          (subst (λ n. Columns b (l.loop-row.row - 1) (all_more b (64 * (l.loop-row.row - 1)) l.loop-row.all) n)
          (sym c.add_row.ensures.rows_new) s),
      omega arith,
    )

pub weigh-requires : goal.weigh-requires
weigh-requires c =
    let l = c in
    columns-small c.args.b.now (λ i. let p = c.type_inv.b i in omega arith) l.loop-row.row l.loop-row.all l.loop-row.rows l.loop-row.invariant.0

pub overflow_sub-result : goal.overflow_sub-result
overflow_sub-result c = omega (arith, rest (goal.at.overflow_sub-result c).After-own)

pub returns : goal.returns
returns c =
    let l = c in
    omega (arith, rest (goal.at.returns c).After-own, sum-of-block c.args.b.now l.if-b-ne-BLOCK_LENGTH.false)
