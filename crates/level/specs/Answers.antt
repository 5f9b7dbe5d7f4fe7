-- What the scan answers, in numbers: floats by their bits.
-- Assumes nothing.
use Rattle.std.specs.Prelude.{Result, Ok, Err}
use Rattle.checked.specs.Paper.{number_of}
use Rattle.checked.specs.declared.refusal.RefusedAt.{RefusedAt}
use Rattle.reading.specs.Order.{bits_of}
use Rattle.level.specs.declared.types.Extent.{Extent}
use Rattle.level.specs.Scan.{Scanned, refused, ranged}

abbrev pub scanned : Result Extent RefusedAt → Scanned
scanned (Ok extent) = ranged (bits_of extent.least) (bits_of extent.greatest)
scanned (Err e) = refused (number_of e.refusal) e.place
