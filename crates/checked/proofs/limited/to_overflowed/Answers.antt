-- `limited::to_overflowed` meets its contract.
-- Assumes nothing.
use mathlib.Core.Path.{◌∙◌}
use Prim.Native.Nat.{◌≤◌, ◌<◌}
use native.Mathlib.Omega.{arith}
use Rattle.checked.proofs.Known.{small-to-overflowed, large-to-overflowed}
use Rattle.checked.proofs.limited.to_overflowed.Goals as goal

pub returns-then-l-lt2 : goal.returns-then-l-lt2
returns-then-l-lt2 c =
    let g = c.args in
    let small : g.l < 2 = omega (arith, c.if-l-lt2.true) in
    c.checked_of.ensures ∙ small-to-overflowed g.limit g.l small

pub returns : goal.returns
returns c =
    let g = c.args in
    let n = c.if-l-lt2.false in
    let large : 2 ≤ g.l = omega arith in
    large-to-overflowed g.limit g.l large
