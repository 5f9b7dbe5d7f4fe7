-- `machine::enter` meets its contract.
-- Assumes nothing.
use mathlib.Core.Path.{ap, ◌∙◌}
use Rattle.shape.specs.Items.{kind_of}
use Rattle.shape.proofs.Codes.{kind_at}
use Rattle.recipe.proofs.Entering.{good-literal, good-operation, there-is, few, literal-enters, operation-enters}
use Rattle.recipe.proofs.machine.enter.Goals as goal

pub finish-requires : goal.finish-requires
finish-requires c =
    let s = c.requires in ((good-literal s (ap kind_of c.if-kind-eq0.true ∙ kind_at 0)).0, few s)

pub returns-then-kind-eq0 : goal.returns-then-kind-eq0
returns-then-kind-eq0 c = literal-enters c.requires (ap kind_of c.if-kind-eq0.true ∙ kind_at 0) c.finish.ensures

pub operate-requires : goal.operate-requires
operate-requires c =
    let s = c.requires in
    let o = there-is s c.if-kind-eq0.false in ((good-operation s o.0 o.1).0, few s)

pub returns : goal.returns
returns c =
    let o = there-is c.requires c.if-kind-eq0.false in operation-enters c.requires o.0 o.1 c.operate.ensures
