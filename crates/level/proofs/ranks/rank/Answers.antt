-- `ranks::rank` meets its contract.
-- Assumes nothing.
use mathlib.Core.Path.{sym}
use Prim.Native.Nat.{◌<◌}
use native.Mathlib.Omega.{arith}
use denote.Floats.{passes}
use lib.Ieee.{binary32, fits}
use Rattle.reading.specs.Order.{bits_of}
use Rattle.reading.proofs.Order.{bits-below, signed-rank, unsigned-rank}
use Rattle.level.proofs.ranks.rank.Goals.{Then-bits-ge2147483648}
use Rattle.level.proofs.ranks.rank.Goals as goal

below : (c : Then-bits-ge2147483648) → bits_of c.args.x < 4294967296
below c = let x = c.args.x in bits-below x (passes (fits binary32 x) c.well_formed.0.1)

pub overflow_sub-result : goal.overflow_sub-result
overflow_sub-result c = omega (arith, below (goal.at.overflow_sub-result c).Then-bits-ge2147483648)

pub returns-then-bits-ge2147483648 : goal.returns-then-bits-ge2147483648
returns-then-bits-ge2147483648 c =
    let e = signed-rank (bits_of c.args.x) c.if-bits-ge2147483648.true in
    omega (arith, below (goal.at.returns-then-bits-ge2147483648 c).Then-bits-ge2147483648)

pub returns-else-bits-ge2147483648 : goal.returns-else-bits-ge2147483648
returns-else-bits-ge2147483648 c = sym (unsigned-rank (bits_of c.args.x) c.if-bits-ge2147483648.false)
