-- `sound::has_layout_one` meets its contract: each test is one of the layout's.
-- Assumes nothing.
use mathlib.Core.Path.{sym, ◌∙◌}
use mathlib.Core.Bool.{false≢true}
use native.Mathlib.Omega.{arith}
use borrow.Author.Tests.{eqb-true, leb-true, eq-eqb, le-leb}
use Rattle.layout.specs.Editions.{one}
use Rattle.layout.specs.Layout.{edition, count}
use Rattle.layout.proofs.Layouts.{no-layout, head-of-one}
use Rattle.block.proofs.Marking.{marks-decide}
use Rattle.block.proofs.sound.has_layout_one.Goals as goal

pub returns-then-b-ne-TAG : goal.returns-then-b-ne-TAG
returns-then-b-ne-TAG c =
    let b = c.args.b.now in
    sym (no-layout one b (λ l. c.if-b-ne-TAG.true (eqb-true (edition b) one.tag l.editioned)))

pub returns-then-count-gt-MOST : goal.returns-then-count-gt-MOST
returns-then-count-gt-MOST c =
    let b = c.args.b.now in
    sym (no-layout one b (λ l. omega (arith, c.if-count-gt-MOST.true, leb-true (count b) one.most l.counted)))

pub returns-then-not-all_zero : goal.returns-then-not-all_zero
returns-then-not-all_zero c =
    let b = c.args.b.now in
    sym
    (no-layout one b
    (λ l.
    false≢true
    (sym c.if-not-all_zero.true
    ∙ c.all_zero.ensures
    ∙ sym (head-of-one b)
    ∙ l.headed)))

pub returns-then-not-all_zero-2 : goal.returns-then-not-all_zero-2
returns-then-not-all_zero-2 c =
    let b = c.args.b.now in
    sym
    (no-layout one b
    (λ l.
    false≢true
    (sym c.if-not-all_zero-2.true
    ∙ c.all_zero-2.ensures
    ∙ l.unused_numbers)))

pub returns : goal.returns
returns c =
    let d = c in
    let b = d.args.b.now in
    c.marks_fine.ensures
    ∙ marks-decide one b
    (eq-eqb (edition b) one.tag d.if-b-ne-TAG.false)
    (le-leb (count b) one.most d.if-count-gt-MOST.false)
    (head-of-one b ∙ sym d.all_zero.ensures ∙ d.if-not-all_zero.false)
    (sym c.all_zero-2.ensures
    ∙ c.if-not-all_zero-2.false)
