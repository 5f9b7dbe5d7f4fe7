-- What `both` answers, in numbers: 0 and 0 with the two numbers; or 3 and 0, as for a plain number that is asked of an
-- overflowed value.
-- Assumes nothing.
use Rattle.std.specs.Prelude.{Option, Some, None, ℕ}
use Rattle.checked.specs.declared.types.Checked.TheVariants.{Fits, Overflowed}
use Rattle.checked.specs.Value.{Value}

pub record Pair : Type 0 where
  pub code : ℕ
  pub place : ℕ
  pub left : ℕ
  pub right : ℕ

abbrev pub pair : Option (ℕ × ℕ) → Pair
pair (Some p) = record { code = 0; place = 0; left = p.0; right = p.1 }
pair None = record { code = 3; place = 0; left = 0; right = 0 }

-- both numbers of two values, where both fit
abbrev pub pair_of : Value → Value → Pair
pair_of Overflowed b = record { code = 3; place = 0; left = 0; right = 0 }
pair_of (Fits l) Overflowed = record { code = 3; place = 0; left = 0; right = 0 }
pair_of (Fits l) (Fits r) = record { code = 0; place = 0; left = l; right = r }
