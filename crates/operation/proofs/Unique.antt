-- No two answers of `begin` are the same in numbers, and no two of `work`: so each contract leaves one possible
-- answer.
-- Assumes nothing.
use mathlib.Core.Path.{◌≡◌, refl, ap}
use Rattle.std.specs.Prelude.{Result, Ok, Err}
use Rattle.checked.specs.declared.refusal.Refusal.{Refusal}
use Rattle.checked.specs.declared.types.Checked.TheVariants.{Overflowed}
use Rattle.checked.proofs.Unique.{one, refusal_of, refusal-back}
use Rattle.steps.specs.Steps as steps
use Rattle.operation.specs.declared.types.Progress.{Progress}
use Rattle.operation.specs.declared.types.Progress.TheVariants as progress
use Rattle.operation.specs.declared.types.Reached.{Reached}
use Rattle.operation.specs.Work.{Reach, progress_of, outcome, reach_of}

-- ---- the first step

outcome_back : steps.Outcome → Result Progress Refusal
outcome_back (steps.value v) = Ok (progress.Value v)
outcome_back (steps.within p) = Ok (progress.Within p)
outcome_back (steps.fails code) = Err (refusal_of code)

outcome-back : (o : Result Progress Refusal) → outcome_back (outcome o) ≡ o
unfolding outcome_back
outcome-back (Ok (progress.Value v)) = refl
outcome-back (Ok (progress.Within p)) = refl
outcome-back (Err r) = ap Err (refusal-back r)

pub begin-unique : (o p : Result Progress Refusal) → outcome o ≡ outcome p → o ≡ p
begin-unique = one outcome outcome_back outcome-back

-- ---- the further steps

-- a phase on the way never refuses
progress_back : steps.Outcome → Progress
progress_back (steps.value v) = progress.Value v
progress_back (steps.within p) = progress.Within p
progress_back (steps.fails code) = progress.Value Overflowed

reached_back : Reach → Reached
reached_back w = record { progress = progress_back w.outcome; taken = w.taken }

progress-back : (p : Progress) → progress_back (progress_of p) ≡ p
unfolding progress_back
progress-back (progress.Value v) = refl
progress-back (progress.Within p) = refl

reached-back : (r : Reached) → reached_back (reach_of r) ≡ r
unfolding reached_back
reached-back r = ap (λ p. record { progress = p; taken = r.taken }) (progress-back r.progress)

pub work-unique : (r s : Reached) → reach_of r ≡ reach_of s → r ≡ s
work-unique = one reach_of reached_back reached-back
