-- `bytes::all_zero` meets its contract. The invariant: the bytes passed, joined, are zero where each of them is; and
-- nothing is passed where the end lies before the start.
-- Assumes nothing.
use mathlib.Core.Path.{◌≡◌}
use Prim.Native.Nat.{◌<◌}
use lib.Dec.{eqb}
use Rattle.little.specs.Zeros.{zeros}
use Rattle.little.proofs.bytes.all_zero.Given as goal

abbrev pub invariant-loop-i : goal.invariant-loop-i
invariant-loop-i l = (eqb l.any 0 ≡ zeros l.from l.i l.b) × (l.i-end < l.i → l.i ≡ l.from)
