-- The power of a whole number by a natural exponent.
-- Assumes nothing.
use Rattle.std.specs.Prelude.{ℕ, zero, suc, ℤ, pos, ◌*ℤ◌}

-- upstream: if e == 0 { 1 } else { b * pow(b, e - 1) }
unfoldable pub pow : ℤ → ℕ → ℤ
pow b zero = pos 1
pow b (suc e) = b *ℤ pow b e
