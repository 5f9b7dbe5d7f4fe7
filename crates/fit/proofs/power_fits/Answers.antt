-- `power_fits` meets its contract. The constant that it hands to `fits_by` is the table.
-- Assumes nothing.
use borrow.Author.Rules.{rules}
use Rattle.fit.specs.Fit.{largest_bases}
use Rattle.fit.proofs.Fits.{small-exponent, large-exponent}
use Rattle.fit.proofs.power_fits.Goals as goal

pub returns-then-exponent-lt2 : goal.returns-then-exponent-lt2
returns-then-exponent-lt2 c = small-exponent _ _ c.ranges.base.fits c.if-exponent-lt2.true

pub returns-then-exponent-gt63 : goal.returns-then-exponent-gt63
returns-then-exponent-gt63 c = large-exponent _ _ c.if-exponent-gt63.true

pub fits_by-requires : goal.fits_by-requires
unfolding largest_bases
fits_by-requires c = search rules
