-- The six operations that have an entry: the answer of each on plain numbers of 64 bits, and when nothing is refused.
-- What each comes to and what is refused with 1 and 2 is said in the words of a recipe's meaning.
-- Assumes nothing.
use Rattle.std.specs.Prelude.{ℕ}
use Rattle.checked.specs.Value.{limit_of}
use Rattle.checked.specs.Paper.{Paper, sums_of, products_of, divided_by, left_by, powers_of, log_by}
use Rattle.shape.specs.Items.{Operation, sum, product, quotient, remainder, power, logarithm}
use Rattle.meaning.specs.Told.{ByZero, SmallBase}

-- p of an entry's contract
abbrev pub answer_of : Operation → ℕ → ℕ → Paper
answer_of sum l r = sums_of (limit_of 64) l r
answer_of product l r = products_of (limit_of 64) l r
answer_of quotient l r = divided_by l r
answer_of remainder l r = left_by l r
answer_of power l r = powers_of (limit_of 64) l r
answer_of logarithm l r = log_by l r

-- neither a divisor 0 nor a base below 2: so a sum, a product and a power always are
abbrev pub Allowed : Operation → ℕ → ℕ → Type 0
Allowed o l r = (ByZero o r → ⊥) × (SmallBase o l → ⊥)
