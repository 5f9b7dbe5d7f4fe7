-- `bytes::all_zero` meets its contract. The invariant: the bytes passed, joined, are zero where each of them is; and
-- nothing is passed where the end lies before the start.
-- Assumes nothing.
use mathlib.Core.Path.{refl, ap, sym, ◌∙◌}
use native.Mathlib.Omega.{arith}
use Rattle.little.specs.Zeros.{zeros}
use Rattle.little.proofs.Zeros.{zeros-none, zeros-clamped, zeros-walked}
use Rattle.little.proofs.Joined.{zeros-turn}
use Rattle.little.proofs.bytes.all_zero.Goals as goal

pub loop-i-init : goal.loop-i-init
loop-i-init c =
    let g = c.args in (sym (zeros-none g.from g.b.now), λ h. refl)

pub loop-i-preserved : goal.loop-i-preserved
loop-i-preserved c =
    let g = c.args in
    let l = c.loop-i in
    (zeros-turn g.from l.i l.any g.b.now (omega arith) l.invariant.0, λ h. absurd (omega arith))

pub returns : goal.returns
returns c =
    let g = c.args in
    let l = c.loop-i in
    let end = c.min-i-end in
    l.invariant.0
    ∙ zeros-walked g.from end.result l.i g.b.now (omega arith) (omega arith) l.invariant.1
    ∙ ap (λ k. zeros g.from k g.b.now) end.ensures
    ∙ zeros-clamped g.from g.to g.b.now
