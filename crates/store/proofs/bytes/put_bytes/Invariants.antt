-- `bytes::put_bytes` meets its contract. The invariant: the first i bytes are stored.
-- Assumes nothing.
use mathlib.Core.Path.{◌≡◌}
use lib.ListN.{get_or}
use lib.Seq.{sets}
use Rattle.places.specs.Places.{table}
use Rattle.store.proofs.bytes.put_bytes.Given as goal

abbrev pub invariant-loop-i : goal.invariant-loop-i
invariant-loop-i l = l.b ≡ sets l.initial.b l.at (table (λ j. get_or l.bytes j 0) l.i)
