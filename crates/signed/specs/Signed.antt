-- The truncating quotient and remainder of signed numbers of W bits, and what an answer is in numbers.
-- Assumes nothing.
use Rattle.std.specs.Prelude.{◌≡◌, Option, Some, None, Result, Ok, Err, Bool, true, false, cond, ℕ, zero, suc, ◌-◌, ◌/◌, ◌^◌, ltb, ℤ, pos, negsuc, nat_abs, ◌-ℤ◌, ◌*ℤ◌, ◌≤ℤ◌}
use Rattle.std.specs.Int.Signed.{mag}
use Rattle.whole.specs.DivMod.{rust_div, rust_rem}
use Rattle.checked.specs.declared.refusal.Refusal.{Refusal}
use Rattle.checked.specs.Paper.{number_of}

-- the refusal's number and place, or 0 and 0 with the number
pub record Answer : Type 0 where
  pub code : ℕ
  pub place : ℕ
  pub number : ℤ

abbrev pub refused : ℕ → Answer
refused n = record { code = n; place = 0; number = pos 0 }

abbrev pub number : ℤ → Answer
number z = record { code = 0; place = 0; number = z }

-- an answer of any type, by the whole number that each of its numbers is
abbrev pub answer_by : {N : Type 0} → (N → ℤ) → Result N Refusal → Answer
answer_by whole (Ok n) = number (whole n)
answer_by whole (Err r) = refused (number_of r)

-- an answer of whole numbers
abbrev pub answer : Result ℤ Refusal → Answer
answer = answer_by (λ z. z)

-- what may be nothing, of any type
abbrev pub option_by : {N : Type 0} → (N → ℤ) → Option N → Option ℤ
option_by whole (Some n) = Some (whole n)
option_by whole None = None

abbrev pub is_zero : ℤ → Bool
is_zero (pos zero) = true
is_zero (pos (suc n)) = false
is_zero (negsuc n) = false

-- -2^(W - 1), the smallest number of W bits
abbrev pub smallest : ℕ → ℤ
smallest W = negsuc (2 ^ (W - 1) - 1)

-- -2^(W - 1) <= z <= 2^(W - 1) - 1: `mag` is z itself from 0 up, and -z - 1 below 0
abbrev pub in_range : ℕ → ℤ → Bool
in_range W z = ltb (mag z) (2 ^ (W - 1))

-- z, if it is a number of W bits
abbrev pub at_width : ℕ → ℤ → Option ℤ
at_width W z = cond (in_range W z) (Some z) None

-- an answer of whole numbers at W bits
abbrev pub narrowed_to : ℕ → Result ℤ Refusal → Answer
narrowed_to W (Ok z) = cond (in_range W z) (number z) (refused 4)
narrowed_to W (Err r) = refused (number_of r)

unfoldable pub quotient_of : ℕ → ℤ → ℤ → Answer
quotient_of W a b = cond (is_zero b) (refused 1) (cond (in_range W (rust_div a b)) (number (rust_div a b)) (refused 4))

unfoldable pub remainder_of : ℤ → ℤ → Answer
remainder_of a b = cond (is_zero b) (refused 1) (number (rust_rem a b))

-- ---- in the words of the promises

-- q is the whole part of |a| / |b| with the sign of the exact quotient, which is the sign of a * b
abbrev pub WholePart : ℤ → ℤ → ℤ → Type 0
WholePart a b q =
    (nat_abs q ≡ nat_abs a / nat_abs b) × (pos 0 ≤ℤ (a *ℤ b) → pos 0 ≤ℤ q) × ((a *ℤ b) ≤ℤ pos 0 → q ≤ℤ pos 0)

-- r is a - b * q, where q is that whole part
abbrev pub LeftOver : ℤ → ℤ → ℤ → Type 0
LeftOver a b r = (q : ℤ) × WholePart a b q × (r ≡ a -ℤ b *ℤ q)
