-- `bad_marks::walk` meets its contract.
-- Assumes nothing.
use mathlib.Core.Path.{◌≡◌, ◌∙◌}
use mathlib.Core.Bool.{true, false}
use borrow.Author.Tests.{tests}
use Rattle.std.proofs.Common.{rules}
use Rattle.std.proofs.lemmas.Iterator.{IsFirst-from_position, YieldsList-from_slice, YieldsList-from_zip}
use Rattle.field.specs.Field.{well_marked}
use Rattle.field.proofs.BadMarks.{walked-is}
use Rattle.field.proofs.bad_marks.walk.Goals as goal

pub returns : goal.returns
returns c =
    let ns = c.args.numbers.now in
    let ms = c.args.marks.now in
    c.unwrap_or.ensures
    ∙ walked-is ns ms c.position.result
    (IsFirst-from_position c.position.new.self _ _ (λ p. well_marked p.1 p.0 ≡ false) (λ p. well_marked p.1 p.0 ≡ true) c.position.ensures.ran
    (YieldsList-from_zip {s = c.zip-places.result} (YieldsList-from_slice ns (cc)) (YieldsList-from_slice ms (cc)))
    (λ x q k. search (rules, tests)) (λ x q k. search (rules, tests)))
