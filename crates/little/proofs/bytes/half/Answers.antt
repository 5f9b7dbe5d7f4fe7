-- `bytes::half` meets its contract: a number from its two bytes.
-- Assumes nothing.
use native.Mathlib.Omega.{arith}
use Rattle.little.specs.Bytes.{little}
use Rattle.little.proofs.bytes.half.Goals as goal

pub returns : goal.returns
unfolding little
returns c = omega arith
