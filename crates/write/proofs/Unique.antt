-- No two answers are the same in numbers: so the contract leaves one possible answer, and one content of the run.
-- Assumes nothing.
use mathlib.Core.Path.{◌≡◌, refl, sym, ◌∙◌}
use mathlib.Core.List.{List}
use Prim.Native.Nat.{ℕ}
use Rattle.std.specs.Prelude.{Result, Ok, Err}
use Rattle.checked.specs.declared.refusal.RefusedAt.{RefusedAt}
use Rattle.checked.proofs.Unique.{gives, refuses, told-apart}
use Rattle.layout.specs.Editions.{Edition}
use Rattle.write.specs.Answers.{writing, Writes}

pub answer-unique : (a b : Result ℕ RefusedAt) → writing a ≡ writing b → a ≡ b
answer-unique =
    told-apart (λ s. s.code) (λ s. Ok s.length) (λ s r. Err (record { refusal = r; place = s.place })) writing
    (elim [
      | Ok n ↦ gives refl refl
      | Err e ↦ refuses e.refusal refl refl
    ])

pub write-unique
    : (E : Edition) (first : ℕ) (numbers marks run : List ℕ) (a b : Result ℕ RefusedAt) (after other : List ℕ) →
    Writes E first numbers marks run a after → Writes E first numbers marks run b other → (a ≡ b) × (after ≡ other)
write-unique E first numbers marks run a b after other g h =
    (answer-unique a b (g.0 ∙ sym h.0), g.1 ∙ sym h.1)
