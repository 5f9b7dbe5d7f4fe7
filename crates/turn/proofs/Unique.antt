-- No two answers are the same in numbers: so the contract leaves one possible answer, and one content of each list.
-- Assumes nothing.
use mathlib.Core.Path.{◌≡◌, refl, sym, ◌∙◌}
use mathlib.Core.List.{List}
use Prim.Native.Nat.{ℕ}
use lib.Ieee.{Float}
use Rattle.checked.proofs.Unique.{gives, refuses, told-apart}
use Rattle.std.specs.Prelude.{Result, Ok, Err}
use Rattle.checked.specs.declared.refusal.RefusedAt.{RefusedAt}
use Rattle.turn.specs.Answers.{turned, Turns}

pub answer-unique : (a b : Result (Unit {0}) RefusedAt) → turned a ≡ turned b → a ≡ b
answer-unique =
    told-apart (λ s. s.code) (λ s. Ok tt) (λ s r. Err (record { refusal = r; place = s.place })) turned
    (elim [
      | Ok u ↦ gives refl refl
      | Err e ↦ refuses e.refusal refl refl
    ])

pub turn-unique
    : (level : List Float) (grounds numbers marks : List ℕ) (a b : Result (Unit {0}) RefusedAt) (ns ms ns' ms' : List ℕ) →
    Turns level grounds numbers marks a ns ms → Turns level grounds numbers marks b ns' ms' →
    (a ≡ b) × (ns ≡ ns') × (ms ≡ ms')
turn-unique level grounds numbers marks a b ns ms ns' ms' g h =
    (answer-unique a b (g.0 ∙ sym h.0), g.1 ∙ sym h.1, g.2 ∙ sym h.2)
