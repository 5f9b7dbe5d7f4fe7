-- `begin::begin_operation` meets its contract.
-- Assumes nothing.
use mathlib.Core.Path.{ap, sym, ◌∙◌}
use Rattle.shape.specs.Kinds.{operation_meant}
use Rattle.steps.specs.Steps.{value, begun}
use Rattle.operation.proofs.Outcomes.{told, begun-sum, begun-product, begun-quotient, begun-remainder}
use Rattle.operation.proofs.begin.begin_operation.Goals as goal

pub returns-in-Sum : goal.returns-in-Sum
returns-in-Sum c =
    let g = c.args in
    ap value c.add_checked.ensures ∙ begun-sum g.limit g.left g.right
    ∙ sym (ap (λ o. begun g.limit (operation_meant o) g.left g.right) c.in-Sum.is)

pub returns-in-Product : goal.returns-in-Product
returns-in-Product c =
    let g = c.args in
    ap value c.mul_checked.ensures ∙ begun-product g.limit g.left g.right
    ∙ sym (ap (λ o. begun g.limit (operation_meant o) g.left g.right) c.in-Product.is)

pub returns-in-Quotient : goal.returns-in-Quotient
returns-in-Quotient c =
    let g = c.args in
    c.at_once.ensures ∙ ap told c.quotient.ensures ∙ begun-quotient g.limit g.left g.right
    ∙ sym (ap (λ o. begun g.limit (operation_meant o) g.left g.right) c.in-Quotient.is)

pub returns-in-Remainder : goal.returns-in-Remainder
returns-in-Remainder c =
    let g = c.args in
    c.at_once-in-Remainder.ensures ∙ ap told c.remainder.ensures ∙ begun-remainder g.limit g.left g.right
    ∙ sym (ap (λ o. begun g.limit (operation_meant o) g.left g.right) c.in-Remainder.is)
