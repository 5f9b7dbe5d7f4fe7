-- `one::lay` meets its contract: it returns early where the list stays, and each step after that lays one part more.
-- Assumes nothing.
use mathlib.Core.Path.{refl, sym, ◌∙◌}
use Rattle.layout.specs.Editions.{one}
use Rattle.lay.proofs.Laid.{no-block-stays, too-many-stays, uneven-stays, steps-put, check-laid}
use Rattle.lay.proofs.one.lay.Goals.{then-block-ne-BLOCK_LENGTH-via-then-block-ne-BLOCK_LENGTH as no-block, then-block-ne-BLOCK_LENGTH-via-else-block-ne-BLOCK_LENGTH+then-count-gt-MOST as too-many, then-block-ne-BLOCK_LENGTH-via-else-block-ne-BLOCK_LENGTH+else-count-gt-MOST+then-marks-count as uneven}
use Rattle.lay.proofs.one.lay.Goals as goal

pub returns-then-block-ne-BLOCK_LENGTH : goal.returns-then-block-ne-BLOCK_LENGTH
returns-then-block-ne-BLOCK_LENGTH c =
    let g = c.args in
    elim c.then-block-ne-BLOCK_LENGTH.branch [
      | no-block w ↦ sym (no-block-stays one g.number g.numbers.now g.marks.now g.block.now w.if-block-ne-BLOCK_LENGTH.true)
      | too-many w ↦ sym (too-many-stays one g.number g.numbers.now g.marks.now g.block.now w.if-count-gt-MOST.true)
      | uneven w ↦ sym (uneven-stays one g.number g.numbers.now g.marks.now g.block.now w.if-marks-count.true)
    ]

pub returns : goal.returns
returns c =
    let g = c.args in
    steps-put one g.number g.numbers.now g.marks.now g.block.now c.put_word.ensures refl c.put_zeros.ensures c.put_longs.ensures
    c.put_zeros-2.ensures c.finish.ensures
    ∙ check-laid one g.number g.numbers.now g.marks.now g.block.now c.if-block-ne-BLOCK_LENGTH.false c.if-count-gt-MOST.false
    c.if-marks-count.false
