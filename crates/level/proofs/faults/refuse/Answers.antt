-- `faults::refuse` meets its contract. The invariant: the earliest fault isn't before the place looked at.
-- Assumes nothing.
use mathlib.Core.Path.{ap, sym, ◌∙◌}
use borrow.Author.Tests.{eq-eqb}
use lib.Dec.{eqb}
use lib.ListN.{length}
use Rattle.places.proofs.Faults.{not-past-fault, passed, reached}
use Rattle.checked.specs.Paper.{number_of}
use Rattle.checked.proofs.Unique.{not-zero}
use Rattle.reading.specs.Level.{fault_at}
use Rattle.level.specs.Scan.{refused}
use Rattle.level.proofs.faults.refuse.Goals as goal

pub loop-place-init : goal.loop-place-init
loop-place-init c =
    let g = c.args in
    not-past-fault (fault_at g.level.now g.grounds.now) (length g.level.now) g.from c.requires.level_in_bounds
    c.requires.no_fault_before

pub loop-place-preserved : goal.loop-place-preserved
loop-place-preserved c =
    let g = c.args in
    let fault = fault_at g.level.now g.grounds.now in
    passed fault (length g.level.now) c.loop-place.place c.requires.level_in_bounds
    c.loop-place.invariant (eq-eqb (fault c.loop-place.place) 0 c.in_default.ensures)

pub returns-in-Some : goal.returns-in-Some
returns-in-Some c =
    let g = c.args in
    let fault = fault_at g.level.now g.grounds.now in
    let i = c.loop-place.place in
    ap (λ e. refused (number_of e.refusal) e.place) c.at.ensures
    ∙ ap (λ code. refused code i) (sym c.in-Some.ensures)
    ∙ ap (λ place. refused (fault place) place)
    (reached fault (length g.level.now) i c.requires.level_in_bounds c.loop-place.invariant
    (ap (λ n. eqb n 0) c.in-Some.ensures ∙ not-zero c.in-Some.refusal))
