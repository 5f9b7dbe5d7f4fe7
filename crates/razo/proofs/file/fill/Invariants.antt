-- The bytes filled lie within the part, and what is left of it gets less.
use Rattle.std.proofs.Common.{◌-◌, ◌≤◌, length}
use Rattle.razo.proofs.file.fill.Given as goal

abbrev pub invariant-loop-have : goal.invariant-loop-have
invariant-loop-have g l = l.have ≤ length l.part

abbrev pub decreases-loop-have : goal.decreases-loop-have
decreases-loop-have g l = length l.initial.part - l.have
