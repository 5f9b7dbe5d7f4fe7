-- `fits_by` meets its contract, by the rule of the table.
-- Assumes nothing.
use native.Mathlib.Omega.{arith}
use Rattle.fit.proofs.Fits.{by-table}
use Rattle.fit.proofs.fits_by.Goals as goal

pub returns : goal.returns
returns c =
    let g = c.args in
    by-table g.bases.now g.base g.exponent c.requires.bases_value (omega arith) (omega arith)
