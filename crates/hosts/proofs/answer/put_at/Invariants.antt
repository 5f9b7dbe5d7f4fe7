-- `answer::put_at` meets its contract. The invariant: the first i numbers are stored.
-- Assumes nothing.
use mathlib.Core.Path.{◌≡◌}
use lib.ListN.{get_or}
use lib.Seq.{sets}
use Rattle.places.specs.Places.{table}
use Rattle.hosts.proofs.answer.put_at.Given as goal

abbrev pub invariant-loop-i : goal.invariant-loop-i
invariant-loop-i g l = l.answer ≡ sets l.initial.answer l.at (table (λ j. get_or l.numbers j 0) l.i)
