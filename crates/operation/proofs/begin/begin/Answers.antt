-- `begin::begin` meets its contract.
-- Assumes nothing.
use mathlib.Core.Path.{◌≡◌, ap, sym, ◌∙◌}
use native.Mathlib.Omega.{arith}
use Rattle.shape.specs.Items.{kind_of}
use Rattle.shape.proofs.Codes.{kind_at}
use Rattle.operation.specs.Work.{begun_as}
use Rattle.operation.proofs.begin.begin.Goals as goal

pub returns-in-1 : goal.returns-in-1
returns-in-1 c =
    let g = c.args in
    c.begin_operation.ensures ∙ ap (λ k. begun_as g.limit k g.left g.right) (sym (ap kind_of c.in-1.is ∙ kind_at 1))

pub returns-in-2 : goal.returns-in-2
returns-in-2 c =
    let g = c.args in
    c.begin_operation-in-2.ensures ∙ ap (λ k. begun_as g.limit k g.left g.right) (sym (ap kind_of c.in-2.is ∙ kind_at 2))

pub returns-in_default : goal.returns-in_default
returns-in_default c =
    let g = c.args in
    let h = c.if-kind-lt3.true in
    let d = c.in_default in
    let e : g.kind ≡ 0 = omega (arith, d) in
    ap (λ k. begun_as g.limit k g.left g.right) (sym (ap kind_of e ∙ kind_at 0))
