-- `bad_marks::all_well_marked` meets its contract. The invariant: the largest mark so far and the numbers of the marked places, joined,
-- say whether the places passed are well marked.
-- Assumes nothing.
use mathlib.Core.Path.{ap, ap₂, sym, ◌∙◌}
use Prim.Native.Nat.{max}
use mathlib.Core.Bool.{cond}
use lib.Dec.{eqb}
use lib.Bits.{bit_or}
use lib.ListN.{length, length-append}
use Rattle.std.proofs.Common.{rules}
use Rattle.std.proofs.lemmas.Slice.Zip.{zip_turn}
use Rattle.places.specs.Places.{every}
use Rattle.places.proofs.Every.{every-none}
use Rattle.field.specs.Field.{well_marked_at}
use Rattle.field.proofs.BadMarks.{together-turn}
use Rattle.field.proofs.bad_marks.all_well_marked.Goals as goal

pub loop-number-init : goal.loop-number-init
loop-number-init c =
    let g = c.args in
    sym (every-none (well_marked_at g.numbers.now g.marks.now))

pub loop-number-preserved : goal.loop-number-preserved
loop-number-preserved c =
    let ns = c.args.numbers.now in
    let ms = c.args.marks.now in
    let l = c.loop-number in
    let n = length l.yielded in
    let turn = zip_turn ns ms l.yielded _ l.number-iterator c.next.new.self c.next.result (cc) (cc) l.yielded_by _ c.in-Some.is (search rules) in
    together-turn ns ms n l.most l.any l.invariant
    (c.max-most.ensures ∙ ap (max l.most) (turn.3 0))
    (ap (bit_or l.any) (c.held-any.ensures ∙ ap₂ (λ m k. cond (eqb m 0) 0 k) (turn.3 0) (turn.2 0)))
    ∙ ap (every (well_marked_at ns ms)) (sym (length-append l.yielded _))
