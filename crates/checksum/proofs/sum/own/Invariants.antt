-- `sum::own` meets its contract. The invariant: `sum` is what is weighed from the check's first byte to before byte i.
-- Assumes nothing.
use mathlib.Core.Path.{◌≡◌}
use Prim.Native.Nat.{◌+◌}
use Rattle.places.specs.Places.{total}
use Rattle.layout.specs.Layout.{weighed, check_sum}
use Rattle.checksum.proofs.sum.own.Given as goal

abbrev pub invariant-loop-i : goal.invariant-loop-i
invariant-loop-i l = check_sum l.b + l.sum ≡ total (weighed l.b) l.i
