-- `result::put_value` meets its contract.
-- Assumes nothing.
use Rattle.checked.specs.Paper.{given}
use Rattle.checked.proofs.Arms.{at}
use Rattle.razovinto.specs.Entry.{afterwards}
use Rattle.razovinto.proofs.Slices.{fitting-written, overflowed-written}
use Rattle.razovinto.proofs.result.put_value.Goals as goal

pub returns-in-Fits : goal.returns-in-Fits
returns-in-Fits c =
    let s = c in
    let r = s.args.res.now in
    let number = c.put_long.ensures in
    at (λ x. afterwards (given x) r)
    (fitting-written c.in-Fits.n r s.requires number c.put_long-in-Fits.ensures) c.in-Fits.is

pub returns-in-Overflowed : goal.returns-in-Overflowed
returns-in-Overflowed c =
    let s = c in
    let r = s.args.res.now in
    let e = c.in-Overflowed.is in
    let mark = c.put_long-in-Overflowed.ensures in
    at (λ x. afterwards (given x) r)
    (overflowed-written r s.requires mark c.put_long-in-Overflowed-2.ensures) e
