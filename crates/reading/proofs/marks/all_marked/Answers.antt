-- `marks::all_marked` meets its contract. The invariant: the largest mark so far says whether those passed are 0 or 1.
-- Assumes nothing.
use mathlib.Core.Path.{ap, sym, ◌∙◌}
use mathlib.Core.Bool.{◌&&◌}
use native.Mathlib.Numerals.{add-one}
use lib.Dec.{leb}
use lib.ListN.{get_or}
use Rattle.places.specs.Places.{every}
use Rattle.places.proofs.Every.{every-none, every-more, larger-within}
use Rattle.reading.specs.Reading.{marked_at}
use Rattle.reading.proofs.marks.all_marked.Goals as goal

pub loop-mark-init : goal.loop-mark-init
loop-mark-init c = sym (every-none (marked_at c.args.grounds.now))

pub loop-mark-preserved : goal.loop-mark-preserved
loop-mark-preserved c =
    let grounds = c.args.grounds.now in
    let l = c.loop-mark in
    let mark = get_or grounds l.mark-index 0 in
    ap (λ m. leb m 1) c.max-most.ensures
    ∙ larger-within l.most mark 1
    ∙ ap (λ t. t && leb mark 1) l.invariant
    ∙ sym (every-more (marked_at grounds) l.mark-index)
    ∙ ap (every (marked_at grounds)) (sym (add-one l.mark-index))
