-- How a value goes from one width to another.
-- Assumes nothing.
use Rattle.std.specs.Prelude.{◌≡◌, Result, Ok, Err, ℕ}
use Rattle.checked.specs.declared.refusal.Refusal.{Refusal}
use Rattle.checked.specs.declared.types.Checked.TheVariants.{Fits, Overflowed}
use Rattle.checked.specs.Value.{Value, Within, checked_of}
use Rattle.checked.specs.Paper.{Paper, given, refused, number_of}

-- r is v at 64 bits, and v is within M
pub record Wide (M : ℕ) (v r : Value) : Type 0 where
  pub same : r ≡ v
  pub within : Within M v

-- a value at the limit M
abbrev pub clamp_of : ℕ → Value → Value
clamp_of M (Fits n) = checked_of M n
clamp_of M Overflowed = Overflowed

-- an answer at the limit M
abbrev pub clamped_of : ℕ → Result Value Refusal → Paper
clamped_of M (Ok c) = given (clamp_of M c)
clamped_of M (Err r) = refused (number_of r)
