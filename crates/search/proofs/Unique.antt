-- No two answers are the same in numbers: so the contract leaves one possible answer.
-- Assumes nothing.
use mathlib.Core.Path.{◌≡◌, refl}
use mathlib.Core.Bool.{cond}
use lib.Dec.{eqb}
use Rattle.std.specs.Prelude.{Option, Some, None, Result, Ok, Err}
use Rattle.checked.specs.declared.refusal.Refusal.{Refusal}
use Rattle.checked.specs.declared.refusal.RefusedAt.{RefusedAt}
use Rattle.checked.proofs.Unique.{Told, gives, refuses, told-apart}
use Rattle.search.specs.declared.types.Spot.{Spot}
use Rattle.search.specs.Search.{Searched}
use Rattle.search.specs.Answers.{searched}

-- what an answer that is no refusal says
abbrev found_in : Searched → Result (Option Spot) RefusedAt
found_in s = Ok (cond (eqb s.found 0) None (Some (record { position = s.position; place = s.within })))

abbrev refusal_in : Searched → Refusal → Result (Option Spot) RefusedAt
refusal_in s r = Err (record { refusal = r; place = s.place })

each : (x : Result (Option Spot) RefusedAt) → Told (λ s. s.code) found_in refusal_in searched x
each (Ok (Some spot)) = gives refl refl
each (Ok None) = gives refl refl
each (Err e) = refuses e.refusal refl refl

pub found-unique : (a b : Result (Option Spot) RefusedAt) → searched a ≡ searched b → a ≡ b
found-unique = told-apart (λ s. s.code) found_in refusal_in searched each
