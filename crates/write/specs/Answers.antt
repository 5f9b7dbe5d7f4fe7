-- What the writer answers, in numbers.
-- Assumes nothing.
use Rattle.std.specs.Prelude.{◌≡◌, List, ℕ, Result, Ok, Err}
use Rattle.checked.specs.Paper.{number_of}
use Rattle.checked.specs.declared.refusal.RefusedAt.{RefusedAt}
use Rattle.layout.specs.Editions.{Edition}
use Rattle.written.specs.Writing.{Writing, refused, given, writing_of, run_after}

abbrev pub writing : Result ℕ RefusedAt → Writing
writing (Ok n) = given n
writing (Err e) = refused (number_of e.refusal) e.place

-- the writer's whole contract: an answer, and what the run holds afterwards
abbrev pub Writes : Edition → ℕ → List ℕ → List ℕ → List ℕ → Result ℕ RefusedAt → List ℕ → Type 0
Writes E first numbers marks run r after =
    (writing r ≡ writing_of E first numbers marks run) × (after ≡ run_after E first numbers marks run)
