-- What the scan answers, in numbers.
-- Assumes nothing.
use Rattle.std.specs.Prelude.{Result, Ok, Err}
use Rattle.checked.specs.Paper.{number_of}
use Rattle.checked.specs.declared.refusal.RefusedAt.{RefusedAt}
use Rattle.field.specs.declared.types.Range.{Range}
use Rattle.field.specs.Range.{Scanned, refused, ranged}

abbrev pub scanned : Result Range RefusedAt → Scanned
scanned (Ok r) = ranged r.least r.greatest r.width
scanned (Err e) = refused (number_of e.refusal) e.place
