-- `bytes::byte` meets its contract: shifted down by eight bits for each byte before it.
-- Assumes nothing.
use mathlib.Core.Path.{ap, sym}
use Prim.Native.Nat.{◌/◌, ◌%◌}
use native.Mathlib.Omega.{arith}
use Rattle.little.proofs.Little.{shifted, byte-past}
use Rattle.little.proofs.bytes.byte.Goals as goal

pub returns-then-j-gt7 : goal.returns-then-j-gt7
returns-then-j-gt7 c = let g = c.args in sym (byte-past g.number g.j (omega arith) c.if-j-gt7.true)

pub returns : goal.returns
returns c = let g = c.args in ap (λ m. g.number / m % 256) (shifted g.j)
