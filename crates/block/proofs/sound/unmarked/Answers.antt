-- `sound::unmarked` meets its contract.
-- Assumes nothing.
use mathlib.Core.Path.{ap, sym, ◌∙◌}
use mathlib.Core.Bool.{◌&&◌}
use borrow.Author.Tests.{eq-eqb, ne_eqb}
use lib.ListN.{length}
use Rattle.little.specs.Zeros.{zeros}
use Rattle.layout.specs.Editions.{block_length, marks_at, one}
use Rattle.block.specs.Marks.{no_marks}
use Rattle.block.proofs.sound.unmarked.Goals as goal

pub returns-then-block-eq-BLOCK_LENGTH : goal.returns-then-block-eq-BLOCK_LENGTH
unfolding no_marks
returns-then-block-eq-BLOCK_LENGTH c =
    let b = c.args.block.now in
    c.all_zero.ensures
    ∙ sym (ap (λ t. t && zeros marks_at one.past b) (eq-eqb (length b) block_length c.if-block-eq-BLOCK_LENGTH.true))

pub returns-else-block-eq-BLOCK_LENGTH : goal.returns-else-block-eq-BLOCK_LENGTH
unfolding no_marks
returns-else-block-eq-BLOCK_LENGTH c =
    let b = c.args.block.now in
    let n = ne_eqb (length b) block_length c.if-block-eq-BLOCK_LENGTH.false in
    n ∙ sym (ap (λ t. t && zeros marks_at one.past b) n)
