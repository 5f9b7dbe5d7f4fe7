-- Worked examples, by computation: the packing widths of small ranges.
-- Assumes nothing.
use mathlib.Core.Path.{◌≡◌, refl}
use Rattle.whole.specs.DivMod.{◌/ℤ◌}
use Rattle.whole.specs.Logarithm.{ends, log_within, log, log_of}
use Rattle.field.specs.Range.{packing_width}

small-widths : (packing_width 0 ≡ 0) × (packing_width 1 ≡ 1) × (packing_width 255 ≡ 8) × (packing_width 256 ≡ 9)
unfolding packing_width log_of log log_within ends ◌/ℤ◌
small-widths = (refl, refl, refl, refl)
