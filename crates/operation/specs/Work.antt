-- An operation's first step, and its further steps from a phase on, as far as an allowance brings it: what it has come
-- to, and after how many of the run's steps.
-- Assumes nothing.
use Rattle.std.specs.Prelude.{Bool, true, false, cond, ◌&&◌, ℕ, zero, suc, ◌+◌, ◌-◌, ◌^◌, ◌≤◌, ◌<◌, leb, ltb, Result, Ok, Err}
use Rattle.checked.specs.declared.refusal.Refusal.{Refusal}
use Rattle.checked.specs.Value.{Value, limit_of}
use Rattle.checked.specs.Paper.{number_of}
use Rattle.shape.specs.Items.{Kind, literal, operation, unknown}
use Rattle.steps.specs.declared.types.Logarithm.{Logarithm}
use Rattle.steps.specs.declared.types.Phase.{Phase}
use Rattle.steps.specs.declared.types.Phase.TheVariants.{Between, InPower, InLogarithm}
use Rattle.steps.specs.Steps as steps
use Rattle.operation.specs.declared.types.Progress.{Progress}
use Rattle.operation.specs.declared.types.Progress.TheVariants as progress
use Rattle.operation.specs.declared.types.Reached.{Reached}

-- ---- the first step

-- what the operation of a kind begins with; what is no operation is refused with 8
abbrev pub begun_as : ℕ → Kind → Value → Value → steps.Outcome
begun_as M literal a b = steps.fails 8
begun_as M (operation o) a b = steps.begun M o a b
begun_as M unknown a b = steps.fails 8

-- ---- the further steps

pub record Reach : Type 0 where
  pub outcome : steps.Outcome
  pub taken : ℕ

abbrev pub reach : steps.Outcome → ℕ → Reach
reach o t = record { outcome = o; taken = t }

-- at most k further steps of an operation that has come to this after t steps
unfoldable pub gone_on : ℕ → ℕ → ℕ → steps.Outcome → Reach
gone_on M zero t o = reach o t
gone_on M (suc k) t (steps.value v) = reach (steps.value v) t
gone_on M (suc k) t (steps.within Between) = reach (steps.within Between) t
gone_on M (suc k) t (steps.within (InPower p)) =
    gone_on M k (suc t) (steps.power_step M p.first p.second p.exponent)
gone_on M (suc k) t (steps.within (InLogarithm q)) =
    gone_on M k (suc t) (steps.logarithm_step q.base q.left q.count)
gone_on M (suc k) t (steps.fails code) = reach (steps.fails code) t

-- whether an operation may be in this phase: a logarithm never divides by 0 there, and its count never wraps
abbrev pub sound : Phase → Bool
sound Between = false
sound (InPower p) = true
sound (InLogarithm q) = ltb 1 q.base && leb q.base q.left && leb q.count (limit_of 64 - q.left)

-- from a phase on, after t steps and with an allowance of a; in a phase where no operation may be no step is taken
abbrev pub work_of : ℕ → Phase → ℕ → ℕ → Reach
work_of M p t a = cond (sound p) (gone_on M (a - t) t (steps.within p)) (reach (steps.within p) t)

-- ---- the code's answers

abbrev pub progress_of : Progress → steps.Outcome
progress_of (progress.Value v) = steps.value v
progress_of (progress.Within p) = steps.within p

abbrev pub outcome : Result Progress Refusal → steps.Outcome
outcome (Ok p) = progress_of p
outcome (Err r) = steps.fails (number_of r)

abbrev pub reach_of : Reached → Reach
reach_of r = reach (progress_of r.progress) r.taken

-- ---- what the private functions ask of each other

-- a logarithm's numbers never wrap, and it never divides by 0
abbrev pub SoundLogarithm : ℕ → ℕ → ℕ → Type 0
SoundLogarithm base left count = (1 < base) × (count + left < 2 ^ 64)

-- a logarithm with steps to take
abbrev pub Sound : Logarithm → Type 0
Sound q = SoundLogarithm q.base q.left q.count × (q.base ≤ q.left)
