-- `wholes::whole` meets its contract. That x fits its format is handed over with the parameter.
-- Assumes nothing.
use mathlib.Core.Path.{ap, sym, ◌∙◌}
use mathlib.Core.Bool.{false≢true}
use denote.Floats.{passes}
use lib.Ieee.{binary32, of_bits, eq, fits}
use Rattle.turn.proofs.Rounding.{test-is, below-nought, past-limit}
use Rattle.turn.proofs.wholes.whole.Goals.{then-x, else-x}
use Rattle.turn.proofs.wholes.whole.Goals as goal

pub returns-then-x-2 : goal.returns-then-x-2
unfolding of_bits
returns-then-x-2 c =
    let x = c.args.x in
    elim c.if-x.branch [
      | then-x w ↦
          ap (λ r. eq r x) c.rounded.ensures
          ∙ test-is x (passes (fits binary32 x) c.well_formed.0.1) w.if-x.true (sym w.value-is ∙ c.if-x-2.true)
      | else-x w ↦ absurd (false≢true (sym w.if-x.false ∙ sym w.value-is ∙ c.if-x-2.true))
    ]

pub returns-else-x-2 : goal.returns-else-x-2
unfolding of_bits
returns-else-x-2 c =
    let x = c.args.x in
    elim c.if-x.branch [
      | then-x w ↦ c.if-x-2.false ∙ past-limit x (sym w.value-is ∙ c.if-x-2.false)
      | else-x w ↦ c.if-x-2.false ∙ below-nought x w.if-x.false
    ]
