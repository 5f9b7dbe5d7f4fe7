-- What a row answers, in numbers: 0, or the refusal's number, whose place is 0.
-- Assumes nothing.
use Rattle.std.specs.Prelude.{ℕ, Result, Ok, Err}
use Rattle.checked.specs.declared.refusal.Refusal.{Refusal}
use Rattle.checked.specs.Paper.{number_of}

abbrev pub rowed : Result Unit Refusal → ℕ
rowed (Ok u) = 0
rowed (Err r) = number_of r
