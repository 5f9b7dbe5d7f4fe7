-- No two runs are the same in numbers: so the contract of `run` leaves one possible answer. Each part has a way back from its numbers.
-- Assumes nothing.
use mathlib.Core.Path.{◌≡◌, refl, ap₂, sym, ◌∙◌}
use mathlib.Core.Bool.{true, false}
use mathlib.Core.List.{List}
use Prim.Native.Nat.{ℕ}
use lib.Dec.{eqb}
use lib.ListN.{get_or}
use Rattle.std.specs.Prelude.{Result, Ok, Err}
use Rattle.checked.specs.declared.refusal.RefusedAt.{RefusedAt}
use Rattle.checked.specs.declared.types.Checked.TheVariants.{Fits, Overflowed}
use Rattle.checked.specs.Value.{Value}
use Rattle.checked.specs.Paper.{Paper, value_in}
use Rattle.checked.proofs.Unique.{one, back, gives, refuses, told-back, Told}
use Rattle.steps.specs.declared.types.Phase.{Phase}
use Rattle.steps.specs.declared.types.Phase.TheVariants.{Between, InPower, InLogarithm}
use Rattle.recipe.specs.declared.types.Run.{Run}
use Rattle.recipe.specs.Run.{Shown, phase_numbers, answer_of, paper, run_of}
use Rattle.recipe.specs.Machine.{value_of}
use Rattle.recipe.proofs.Places.{value-back}

abbrev answer_back : Paper → Result Value RefusedAt
answer_back = back (λ p. p.code) (λ p. Ok (value_in p)) (λ p r. Err (record { refusal = r; place = p.place }))

answer-told
    : (a : Result Value RefusedAt) →
    Told (λ p. p.code) (λ p. Ok (value_in p)) (λ p r. Err (record { refusal = r; place = p.place })) answer_of a
answer-told (Ok (Fits n)) = gives refl refl
answer-told (Ok Overflowed) = gives refl refl
answer-told (Err e) = refuses e.refusal refl refl

answer-back : (a : Result Value RefusedAt) → answer_back (answer_of a) ≡ a
answer-back =
    told-back (λ p. p.code) (λ p. Ok (value_in p)) (λ p r. Err (record { refusal = r; place = p.place })) answer_of answer-told

phase_back : List ℕ → Phase
phase_back ns =
    elim (eqb (get_or ns 0 0) 0) [
      | true ↦ Between
      | false ↦
          elim (eqb (get_or ns 0 0) 1) [
            | true ↦ InPower (record { first = value_of (get_or ns 2 0) (get_or ns 1 0); second = value_of (get_or ns 4 0) (get_or ns 3 0); exponent = get_or ns 5 0 })
            | false ↦ InLogarithm (record { base = get_or ns 1 0; left = get_or ns 2 0; count = get_or ns 3 0 })
          ]
    ]

phase-back : (p : Phase) → phase_back (phase_numbers p) ≡ p
unfolding phase_back
phase-back Between = refl
phase-back (InPower p) = ap₂ (λ f s. InPower (record { first = f; second = s; exponent = p.exponent })) (value-back p.first) (value-back p.second)
phase-back (InLogarithm q) = refl

run_back : Shown → Run
run_back s =
    record { answer = answer_back s.answer; steps = s.steps; done = s.done; numbers = s.numbers; marks = s.marks; phase = phase_back s.phase }

run-back : (r : Run) → run_back (paper r) ≡ r
unfolding run_back
run-back r =
    ap₂ (λ a p. record { answer = a; steps = r.steps; done = r.done; numbers = r.numbers; marks = r.marks; phase = p }) (answer-back r.answer) (phase-back r.phase)

-- a run is determined by what it shows
pub shown-once : (r s : Run) → paper r ≡ paper s → r ≡ s
shown-once = one paper run_back run-back

-- so for any width, lists and allowance there is one possible answer
pub run-unique : (W : ℕ) (ks ns : List ℕ) (allowance : ℕ) (r s : Run) → paper r ≡ run_of W ks ns allowance → paper s ≡ run_of W ks ns allowance → r ≡ s
run-unique W ks ns allowance r s e f = shown-once r s (e ∙ sym f)
