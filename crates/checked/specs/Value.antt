-- Checked values over a limit M: what they stand for, their sum, their product and their power.
-- A checked value of any width is written as one of whole numbers.
-- Assumes nothing.
use Rattle.std.specs.Prelude.{◌≡◌, Option, Some, None, Bool, true, false, cond, ◌⊎◌, ℕ, suc, ◌+◌, ◌*◌, ◌-◌, ◌^◌, ◌≤◌, ◌<◌, leb}
use Rattle.checked.specs.declared.types.Checked.{Checked}
use Rattle.checked.specs.declared.types.Checked.TheVariants.{Fits, Overflowed}

abbrev pub Value : Type 0
Value = Checked ℕ

-- a checked number of any type, by the whole number that each of its numbers is
abbrev pub value_by : {N : Type 0} → (N → ℕ) → Checked N → Value
value_by number (Fits n) = Fits (number n)
value_by number Overflowed = Overflowed

-- M, the largest number of W bits
abbrev pub limit_of : ℕ → ℕ
limit_of W = 2 ^ W - 1

-- a fitting value stands for itself only, an overflowed one for every whole number above M
abbrev pub Stands : ℕ → Value → ℕ → Type 0
Stands M (Fits m) n = (n ≡ m) × (n ≤ M)
Stands M Overflowed n = M < n

abbrev pub is_overflowed : Value → Bool
is_overflowed (Fits n) = false
is_overflowed Overflowed = true

-- the value that stands for n
unfoldable pub checked_of : ℕ → ℕ → Value
checked_of M n = cond (leb n M) (Fits n) Overflowed

-- the least number that a value stands for
abbrev pub least : ℕ → Value → ℕ
least M (Fits n) = n
least M Overflowed = suc M

abbrev pub sum_of : ℕ → Value → Value → Value
sum_of M a b = checked_of M (least M a + least M b)

abbrev pub product_of : ℕ → Value → Value → Value
product_of M a b = checked_of M (least M a * least M b)

-- a to the power of b
abbrev pub raised_of : ℕ → Value → Value → Value
raised_of M a b = checked_of M (least M a ^ least M b)

-- both numbers, where both fit
abbrev pub both_of : Value → Value → Option (ℕ × ℕ)
both_of Overflowed b = None
both_of (Fits m) Overflowed = None
both_of (Fits m) (Fits n) = Some (m, n)

-- both fit, with numbers of which P holds
abbrev pub BothNumbers : Value → Value → (ℕ → ℕ → Type 0) → Type 0
BothNumbers a b P = (l : ℕ) × (r : ℕ) × (a ≡ Fits l) × (b ≡ Fits r) × P l r

-- the first fits and, where the second fits too, P holds of their numbers
abbrev pub FirstFits : Value → Value → (ℕ → ℕ → Type 0) → Type 0
FirstFits a b P = (n : ℕ) × (a ≡ Fits n) × ((m : ℕ) → b ≡ Fits m → P n m)

-- one of the two is overflowed, or both are
abbrev pub OneOverflowed : Value → Value → Type 0
OneOverflowed a b = (a ≡ Overflowed) ⊎ (b ≡ Overflowed)

-- a number from 0 to M
abbrev pub UpTo : ℕ → Type 0
UpTo M = (n : ℕ) × (n ≤ M)

-- a fitting value is at most M
abbrev pub Within : ℕ → Value → Type 0
Within M (Fits n) = n ≤ M
Within M Overflowed = Unit {0}

-- a value of a type C, whose values are seen as values over M: it is a number from 0 to M, or the note that it is
-- larger
abbrev pub Typed : ℕ → {C : Type 0} → (C → Value) → Type 0
Typed M {C} value = (c : C) × Within M (value c)

-- what may be nothing, as a value
abbrev pub option_by : {N : Type 0} → (N → ℕ) → Option N → Value
option_by number (Some n) = Fits (number n)
option_by number None = Overflowed
