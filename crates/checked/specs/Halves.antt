-- The parts of a product from halves, over any base B. A number's halves are its quotient and its remainder by B.
-- The law on a product is said in these words; no contract needs them.
-- Assumes nothing.
use Rattle.std.specs.Prelude.{ℕ, ◌+◌, ◌*◌, ◌/◌, ◌%◌}

-- the high halves' product
abbrev pub highs : (B a b : ℕ) → ℕ
highs B a b = a / B * (b / B)

-- the two cross products
abbrev pub crosses : (B a b : ℕ) → ℕ
crosses B a b = a / B * (b % B) + a % B * (b / B)

-- the low halves' product
abbrev pub lows : (B a b : ℕ) → ℕ
lows B a b = a % B * (b % B)

-- the middle part: the cross products with what the low halves' product carries
abbrev pub middle : (B a b : ℕ) → ℕ
middle B a b = crosses B a b + lows B a b / B
