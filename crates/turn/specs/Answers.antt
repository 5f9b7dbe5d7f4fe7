-- What the turning answers, in numbers.
-- Assumes nothing.
use Rattle.std.specs.Prelude.{◌≡◌, List, ℕ, Float, Result, Ok, Err}
use Rattle.checked.specs.Paper.{number_of}
use Rattle.checked.specs.declared.refusal.RefusedAt.{RefusedAt}
use Rattle.turn.specs.Turning.{Turning, refused, given, turning_of, numbers_after, marks_after}

abbrev pub turned : Result (Unit {0}) RefusedAt → Turning
turned (Ok u) = given
turned (Err e) = refused (number_of e.refusal) e.place

-- the whole contract: an answer, and what the two lent lists hold afterwards
abbrev pub Turns : List Float → List ℕ → List ℕ → List ℕ → Result (Unit {0}) RefusedAt → List ℕ → List ℕ → Type 0
Turns level grounds numbers marks r numbers' marks' =
    (turned r ≡ turning_of level grounds numbers marks)
    × (numbers' ≡ numbers_after level grounds numbers marks)
    × (marks' ≡ marks_after level grounds numbers marks)
