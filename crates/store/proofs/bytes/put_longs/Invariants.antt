-- `bytes::put_longs` meets its contract. The invariant: the first i numbers are stored, and the list is as long as it
-- was.
-- Assumes nothing.
use mathlib.Core.Path.{◌≡◌}
use lib.ListN.{take}
use lib.Seq.{sets}
use Rattle.little.specs.Bytes.{longs}
use Rattle.store.proofs.bytes.put_longs.Given as goal

abbrev pub invariant-loop-i : goal.invariant-loop-i
invariant-loop-i l = l.b ≡ sets l.initial.b l.at (longs (take l.i l.numbers))
