-- No two answers are the same in numbers: so the contract leaves one possible answer.
-- Assumes nothing.
use mathlib.Core.Path.{◌≡◌, refl}
use Rattle.std.specs.Prelude.{Result, Ok, Err}
use Rattle.checked.specs.declared.refusal.RefusedAt.{RefusedAt}
use Rattle.checked.proofs.Unique.{gives, refuses, told-apart}
use Rattle.field.specs.declared.types.Range.{Range}
use Rattle.field.specs.Answers.{scanned}

pub scan-unique : (a b : Result Range RefusedAt) → scanned a ≡ scanned b → a ≡ b
scan-unique =
    told-apart (λ s. s.code) (λ s. Ok (record { least = s.least; greatest = s.greatest; width = s.width }))
    (λ s r. Err (record { refusal = r; place = s.place })) scanned
    (elim [ Ok r ↦ gives refl refl | Err e ↦ refuses e.refusal refl refl ])
