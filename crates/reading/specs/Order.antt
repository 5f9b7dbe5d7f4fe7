-- The order of readings is that of sign and bits, the two zeros being equal. A float's bits are a number below 2^32:
-- the sign is worth 2^31, and the rest grows with the float's size.
-- Assumes nothing.
use Rattle.std.specs.Prelude.{Bool, cond, ℕ, ◌+◌, ◌-◌, leb, ltb, Float}
use Rattle.std.specs.Float.{binary32}
use Rattle.std.specs.Float.Ieee.{to_bits}

abbrev pub bits_of : Float → ℕ
bits_of x = to_bits binary32 x

-- where the bits stand in the order: those without the sign upwards from 2^31, those with it downwards
unfoldable pub rank_of : ℕ → ℕ
rank_of bits = cond (leb 2147483648 bits) (4294967296 - bits) (2147483648 + bits)

abbrev pub rank : Float → ℕ
rank x = rank_of (bits_of x)

-- the bits that stand there; of the two zeros' those without the sign
unfoldable pub bits_of_rank : ℕ → ℕ
bits_of_rank r = cond (leb 2147483648 r) (r - 2147483648) (4294967296 - r)

-- x comes before y
abbrev pub before : Float → Float → Bool
before x y = ltb (rank x) (rank y)
