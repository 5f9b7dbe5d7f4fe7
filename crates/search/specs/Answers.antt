-- What the search answers, in numbers.
-- Assumes nothing.
use Rattle.std.specs.Prelude.{Option, Some, None, Result, Ok, Err}
use Rattle.checked.specs.Paper.{number_of}
use Rattle.checked.specs.declared.refusal.RefusedAt.{RefusedAt}
use Rattle.search.specs.declared.types.Spot.{Spot}
use Rattle.search.specs.Search.{Searched, refused, none, found_at}

abbrev pub searched : Result (Option Spot) RefusedAt → Searched
searched (Ok (Some spot)) = found_at spot.position spot.place
searched (Ok None) = none
searched (Err e) = refused (number_of e.refusal) e.place
