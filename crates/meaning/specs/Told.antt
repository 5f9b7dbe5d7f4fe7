-- The table's rows for an operation on l and r, in which the promises say when 3, 1 and 2 are given.
-- Assumes nothing.
use Rattle.std.specs.Prelude.{◌≡◌, ℕ, ◌<◌}
use Rattle.shape.specs.Items.{Operation, sum, product, quotient, remainder, power, logarithm}

-- 3: of the operand that has to fit, the left of a quotient or a remainder and the argument of a logarithm, P holds.
-- On numbers P is to be above M, on checked values to be overflowed
abbrev pub Asked : {A : Type 0} → (A → Type 0) → Operation → A → A → Type 0
Asked P sum l r = ⊥
Asked P product l r = ⊥
Asked P quotient l r = P l
Asked P remainder l r = P l
Asked P power l r = ⊥
Asked P logarithm l r = P r

-- 1: a divisor 0
abbrev pub ByZero : Operation → ℕ → Type 0
ByZero sum r = ⊥
ByZero product r = ⊥
ByZero quotient r = r ≡ 0
ByZero remainder r = r ≡ 0
ByZero power r = ⊥
ByZero logarithm r = ⊥

-- 2: a base below 2
abbrev pub SmallBase : Operation → ℕ → Type 0
SmallBase sum l = ⊥
SmallBase product l = ⊥
SmallBase quotient l = ⊥
SmallBase remainder l = ⊥
SmallBase power l = ⊥
SmallBase logarithm l = l < 2
