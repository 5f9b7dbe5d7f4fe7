-- `extent::first_zero` meets its contract. The invariant: no place passed has a zero.
-- Assumes nothing.
use mathlib.Core.Path.{ap, sym, ◌∙◌}
use native.Mathlib.Omega.{arith}
use lib.ListN.{get_or}
use lib.Ieee.{nan}
use Rattle.level.proofs.Parts.{place-from, rank-passed, rank-found, zero-told}
use Rattle.level.proofs.extent.first_zero.Goals as goal

pub loop-place-init : goal.loop-place-init
loop-place-init c = let g = c.args in place-from g.level.now g.from g.to 2147483648 c.requires.to_bound

pub loop-place-preserved : goal.loop-place-preserved
loop-place-preserved c =
    let g = c.args in
    let xs = g.level.now in
    let i = c.loop-place.place in
    rank-passed xs g.from g.to 2147483648 c.requires.to_bound i (omega arith) c.loop-place.invariant
    (sym (zero-told (get_or xs i nan) (c.type_inv.level i)) ∙ c.if-level-place.false)

pub returns-then-level-place : goal.returns-then-level-place
returns-then-level-place c =
    let g = c.args in
    let xs = g.level.now in
    let i = c.loop-place.place in
    ap (λ i. get_or xs i nan)
    (rank-found xs g.from g.to 2147483648 c.requires.to_bound i (omega arith) c.loop-place.invariant
    (sym (zero-told (get_or xs i nan) (c.type_inv.level i)) ∙ c.if-level-place.true))
