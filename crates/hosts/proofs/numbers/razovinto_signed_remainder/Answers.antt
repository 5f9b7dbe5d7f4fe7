-- `numbers::razovinto_signed_remainder` meets its contract.
-- Assumes nothing.
use mathlib.Core.Path.{sym, ◌∙◌}
use native.Mathlib.Omega.{arith}
use borrow.Author.Tests.{eqb-true}
use lib.ListN.{length}
use Rattle.signed.specs.Signed.{remainder_of}
use Rattle.hosts.proofs.Signed.{short-signed-gives}
use Rattle.hosts.proofs.numbers.razovinto_signed_remainder.Goals as goal

pub returns-then-is_empty : goal.returns-then-is_empty
returns-then-is_empty c =
    let g = c.args in
    let none = eqb-true (length g.res.now) 0 (sym c.is_empty.ensures ∙ c.if-is_empty.true) in
    let w = short-signed-gives (remainder_of g.left g.right) g.res.now (omega arith) c.too_short.ensures in
    record { value = w.0; res_new = w.1 }
