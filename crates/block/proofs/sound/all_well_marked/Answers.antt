-- `sound::all_well_marked` meets its contract.
-- Assumes nothing.
use mathlib.Core.Path.{◌≡◌, refl}
use mathlib.Core.Bool.{true, false}
use native.Mathlib.Omega.{arith}
use borrow.Author.Tests.{tests}
use Rattle.std.proofs.Common.{rules}
use Rattle.std.proofs.lemmas.Iterator.{cases_from_all, YieldsList-from_range}
use Rattle.layout.specs.Layout.{place_well_marked}
use Rattle.block.proofs.Marking.{all-of-range}
use Rattle.block.proofs.sound.all_well_marked.Goals as goal

pub returns : goal.returns
returns c =
    let a = c.args in
    let f = place_well_marked a.first a.b.now in
    all-of-range f a.count c.all.result
    (cases_from_all _ _ c.all.result (λ i. f i ≡ true) (λ i. f i ≡ false) c.all.ensures.ran
    (YieldsList-from_range 0 a.count a.count refl (omega arith))
    (λ x q k. search (rules, tests)) (λ x q k. search (rules, tests)))
