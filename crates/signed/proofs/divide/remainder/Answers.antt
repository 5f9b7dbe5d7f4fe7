-- `divide::remainder` meets its contract, by the law on every width.
-- Assumes nothing.
use Rattle.std.proofs.Common.{rules, ◌≡◌, ◌∙◌, w64, to_z, of_z}
use Rattle.signed.proofs.Narrowed.{narrowed-remainder}
use Rattle.signed.proofs.divide.remainder.Goals as goal

pub returns : goal.returns
returns g c =
    let l : to_z w64 (of_z w64 c.wide.result) ≡ c.wide.result = search rules in
    let r : to_z w64 (of_z w64 c.wide-2.result) ≡ c.wide-2.result = search rules in
    let at_64 = rw (l, r, c.wide.ensures.same, c.wide-2.ensures.same) at c.remainder64.ensures in
    let within = rw c.wide.ensures.same at c.wide.ensures.within in
    c.narrowed.ensures ∙ narrowed-remainder g.N.SignedWidth.bits _ _ within c.remainder64.result at_64
