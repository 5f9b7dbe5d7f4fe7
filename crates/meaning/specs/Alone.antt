-- What an operation answers on its own at the limit M, on two numbers and on two checked values.
-- Assumes nothing.
use Rattle.std.specs.Prelude.{cond, ℕ, eqb}
use Rattle.checked.specs.Value.{Value, checked_of, sum_of, product_of}
use Rattle.checked.specs.Paper.{Paper, given, refused, quotient_of, remainder_of, power_of, logarithm_of}
use Rattle.shape.specs.Items.{Operation, sum, product, quotient, remainder, power, logarithm}
use Rattle.meaning.specs.Meaning.{worth, refusal_at}

-- a refusal's number, or the value where it is 0
abbrev pub answer : ℕ → Value → Paper
answer code v = cond (eqb code 0) (given v) (refused code)

-- on numbers: what they are worth, over unlimited numbers
abbrev pub alone : ℕ → Operation → ℕ → ℕ → Paper
alone M o l r = answer (refusal_at M o l r) (checked_of M (worth o l r))

-- on checked values: the answer of the checked numbers
abbrev pub answer_on : ℕ → Operation → Value → Value → Paper
answer_on M sum a b = given (sum_of M a b)
answer_on M product a b = given (product_of M a b)
answer_on M quotient a b = quotient_of a b
answer_on M remainder a b = remainder_of a b
answer_on M power a b = power_of M a b
answer_on M logarithm a b = logarithm_of a b
