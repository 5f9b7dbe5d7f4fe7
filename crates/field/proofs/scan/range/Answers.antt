-- `scan::range` meets its contract. The invariant: the least and the greatest from place i on are those of all the numbers.
-- Assumes nothing.
use Prim.Native.Nat.{min, max}
use native.Mathlib.Omega.{arith}
use Rattle.field.proofs.Ranges.{kept-start}
use Rattle.field.proofs.Turns.{kept-turn, range-found}
use Rattle.field.proofs.scan.range.Goals as goal

pub loop-number-init : goal.loop-number-init
loop-number-init c =
    let numbers = c.args.numbers.now in
    (kept-start min numbers (λ n. omega arith) c.requires, kept-start max numbers (λ n. omega arith) c.requires, omega arith)

pub loop-number-preserved : goal.loop-number-preserved
loop-number-preserved c =
    let l = c.loop-number in
    let numbers = c.args.numbers.now in (
      kept-turn min numbers l.number-index l.least c.loop-number-test.true l.invariant.0 c.min-least.ensures,
      kept-turn max numbers l.number-index l.greatest c.loop-number-test.true l.invariant.1 c.max-greatest.ensures,
      omega arith,
    )

pub returns : goal.returns
returns c =
    let l = c.loop-number in
    let numbers = c.args.numbers.now in
    range-found numbers l.number-index c.loop-number-test.false l.invariant.0 l.invariant.1 c.packing_width.ensures
