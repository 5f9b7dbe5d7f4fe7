-- `put::number` meets its contract: the digits that were made are the number's, as many as it has.
-- Assumes nothing.
use mathlib.Core.Path.{ap, ◌∙◌}
use Rattle.io.specs.Digits.{last_digits}
use Rattle.lines.specs.Line.{after, written}
use Rattle.lines.proofs.Lengths.{fewest-is}
use Rattle.lines.proofs.put.number.Goals as goal

pub returns : goal.returns
returns c =
    let g = c.args in
    let d = c.decimal-count in
    let w = c.word in
    let text = d.ensures.digits ∙ ap (λ k. last_digits 10 k g.n) (fewest-is g.n d.result d.ensures.len) in record {
      value = w.ensures.value ∙ ap (λ t. after g.at t g.line.now) text;
      line_new = w.ensures.line_new ∙ ap (λ t. written g.at t g.line.now) text;
    }
