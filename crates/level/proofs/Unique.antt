-- No two answers are the same in numbers, floats by their bits: so the contract leaves one possible answer.
-- Assumes nothing.
use mathlib.Core.Path.{◌≡◌, refl, ap₂}
use lib.Dec.{T}
use lib.Ieee.{binary32, fits, of_bits}
use Rattle.std.specs.Prelude.{Result, Ok, Err}
use Rattle.checked.specs.declared.refusal.Refusal.{Refusal}
use Rattle.checked.specs.declared.refusal.RefusedAt.{RefusedAt}
use Rattle.checked.proofs.Unique.{Told, gives, refuses, both-told-apart}
use Rattle.reading.proofs.Order.{back-from-bits}
use Rattle.level.specs.declared.types.Extent.{Extent}
use Rattle.level.specs.Scan.{Scanned}
use Rattle.level.specs.Answers.{scanned}

-- its floats are of 32 bits, as every answer's are
abbrev pub Floats32 : Result Extent RefusedAt → Type 0
Floats32 (Ok extent) = T (fits binary32 extent.least) × T (fits binary32 extent.greatest)
Floats32 (Err e) = Prim.Unit {0}

abbrev extent_in : Scanned → Result Extent RefusedAt
extent_in s = Ok (record { least = of_bits binary32 s.least; greatest = of_bits binary32 s.greatest })

abbrev refusal_in : Scanned → Refusal → Result Extent RefusedAt
refusal_in s r = Err (record { refusal = r; place = s.place })

each : (x : Result Extent RefusedAt) → Floats32 x → Told (λ s. s.code) extent_in refusal_in scanned x
each (Ok extent) f = gives refl (ap₂ (λ l g. Ok (record { least = l; greatest = g })) (back-from-bits extent.least f.0) (back-from-bits extent.greatest f.1))
each (Err e) f = refuses e.refusal refl refl

pub level-scan-unique : (a b : Result Extent RefusedAt) → Floats32 a → Floats32 b → scanned a ≡ scanned b → a ≡ b
level-scan-unique a b f g =
    both-told-apart (λ s. s.code) extent_in refusal_in scanned a b (each a f) (each b g)
