-- `wholes::value` meets its contract.
-- Assumes nothing.
use native.Mathlib.Omega.{arith}
use lib.Ieee.{of_bits}
use lib.Ieee.Casts.{to_unsigned-lt}
use Rattle.turn.proofs.Casts.{zero-value, cast-defined, cast-is}
use Rattle.turn.proofs.wholes.value.Goals as goal

pub returns-then-x : goal.returns-then-x
unfolding of_bits
returns-then-x c = zero-value c.args.x c.requires c.if-x.true

pub float_to_int-result : goal.float_to_int-result
unfolding of_bits
float_to_int-result c =
    cast-defined c.args.x c.requires c.if-x.false

pub overflow_cast-result : goal.overflow_cast-result
overflow_cast-result c = omega (arith, to_unsigned-lt 32 c.args.x)

pub returns-else-x : goal.returns-else-x
unfolding of_bits
returns-else-x c = cast-is c.args.x c.requires c.if-x.false
