-- An outcome that keeps to a result n: it is the value of n, or numbers at work that stand for n, with so many steps to go.
-- Assumes nothing.
use mathlib.Core.Path.{◌≡◌}
use Prim.Native.Nat.{ℕ}
use Rattle.whole.specs.Logarithm.{log_of}
use Rattle.checked.specs.Value.{checked_of}
use Rattle.meaning.specs.Count.{digits}
use Rattle.steps.specs.declared.types.Phase.TheVariants.{Between, InPower, InLogarithm}
use Rattle.steps.specs.Steps.{Outcome, value, within, fails}
use Rattle.steps.specs.Shown.{AtWork}

abbrev pub Promised : ℕ → ℕ → Outcome → Type 0
Promised M n (value v) = v ≡ checked_of M n
Promised M n (within p) = AtWork M n p
Promised M n (fails code) = ⊥

-- one for each digit of the exponent, or one for each unit of the logarithm
abbrev pub to_go : Outcome → ℕ
to_go (value v) = 0
to_go (within Between) = 0
to_go (within (InPower p)) = digits p.exponent
to_go (within (InLogarithm q)) = log_of q.base q.left
to_go (fails code) = 0

abbrev pub Keeps : ℕ → ℕ → ℕ → Outcome → Type 0
Keeps M n k w = Promised M n w × (to_go w ≡ k)
