-- `width::packing_width` meets its contract. The leading zeros are at most 64, and what they leave is the packing width.
-- Assumes nothing.
use native.Mathlib.Omega.{arith}
use Rattle.field.proofs.Widths.{width-from-zeros}
use Rattle.field.proofs.width.packing_width.Goals as goal

pub returns : goal.returns
returns c = omega (arith, width-from-zeros 64 c.args.range c.ranges.range.fits)
