-- `limited::with_digit` meets its contract.
-- Assumes nothing.
use Prim.Native.Nat.{◌%◌}
use native.Mathlib.Omega.{arith}
use Rattle.checked.proofs.Squares.{last-digit-left}
use Rattle.checked.proofs.limited.with_digit.Goals as goal

pub returns : goal.returns
returns c =
    let g = c.args in last-digit-left g.first g.second (g.left % 2) (omega (arith, c.if-left-eq0.false))
