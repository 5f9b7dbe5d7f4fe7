-- What an operation answers, in numbers: the refusal's number and place, or 0 and 0 with the value's mark and number.
-- Assumes nothing.
use Rattle.std.specs.Prelude.{Result, Ok, Err, cond, ℕ, ◌+◌, ◌*◌, ◌/◌, ◌%◌, ◌^◌, eqb, ltb}
use Rattle.whole.specs.Logarithm.{log_of}
use Rattle.checked.specs.declared.refusal.Refusal.{Refusal}
use Rattle.checked.specs.declared.refusal.Refusal.TheVariants as refusal
use Rattle.checked.specs.declared.types.Checked.{Checked}
use Rattle.checked.specs.declared.types.Checked.TheVariants.{Fits, Overflowed}
use Rattle.checked.specs.Value.{Value, value_by, checked_of, raised_of}

pub record Paper : Type 0 where
  pub code : ℕ
  pub place : ℕ
  pub mark : ℕ
  pub number : ℕ

-- the number of each refusal
abbrev pub number_of : Refusal → ℕ
number_of refusal.DivisorZero = 1
number_of refusal.BaseBelowTwo = 2
number_of refusal.Overflowed = 3
number_of refusal.QuotientTooLarge = 4
number_of refusal.UnknownWidth = 5
number_of refusal.LengthsDiffer = 6
number_of refusal.ItemCount = 7
number_of refusal.UnknownKind = 8
number_of refusal.LiteralTooLarge = 9
number_of refusal.TooFewOnHand = 10
number_of refusal.HandFull = 11
number_of refusal.SeveralLeft = 12
number_of refusal.NoneLeft = 13
number_of refusal.FieldEmpty = 14
number_of refusal.BadMark = 15
number_of refusal.BlockLength = 16
number_of refusal.WrongCheck = 17
number_of refusal.BadLayout = 18
number_of refusal.ListTooShort = 19
number_of refusal.AllowanceSpent = 20
number_of refusal.BlockNumberTooLarge = 21
number_of refusal.UnusableReading = 22
number_of refusal.NotWhole = 23
number_of refusal.OtherBlockNumber = 24

abbrev pub refused : ℕ → Paper
refused n = record { code = n; place = 0; mark = 0; number = 0 }

abbrev pub given : Value → Paper
given (Fits n) = record { code = 0; place = 0; mark = 0; number = n }
given Overflowed = record { code = 0; place = 0; mark = 1; number = 0 }

-- the value that an answer gives
abbrev pub value_in : Paper → Value
value_in p = cond (eqb p.mark 0) (Fits p.number) Overflowed

-- an answer of whole numbers, and one of any type
abbrev pub paper : Result Value Refusal → Paper
paper (Ok c) = given c
paper (Err r) = refused (number_of r)

abbrev pub paper_by : {N : Type 0} → (N → ℕ) → Result (Checked N) Refusal → Paper
paper_by number (Ok c) = given (value_by number c)
paper_by number (Err r) = refused (number_of r)

-- a plain number of any type
abbrev pub plain_by : {N : Type 0} → (N → ℕ) → Result N Refusal → Paper
plain_by number (Ok n) = given (Fits (number n))
plain_by number (Err r) = refused (number_of r)

-- ---- on numbers

abbrev pub sums_of : ℕ → ℕ → ℕ → Paper
sums_of M l r = given (checked_of M (l + r))

abbrev pub products_of : ℕ → ℕ → ℕ → Paper
products_of M l r = given (checked_of M (l * r))

abbrev pub divided_by : ℕ → ℕ → Paper
divided_by l r = cond (eqb r 0) (refused 1) (given (Fits (l / r)))

abbrev pub left_by : ℕ → ℕ → Paper
left_by l r = cond (eqb r 0) (refused 1) (given (Fits (l % r)))

abbrev pub powers_of : ℕ → ℕ → ℕ → Paper
powers_of M l r = given (checked_of M (l ^ r))

abbrev pub log_by : ℕ → ℕ → Paper
log_by l r = cond (ltb l 2) (refused 2) (given (Fits (log_of l r)))

-- ---- on checked values

-- An operation that asks for an operand n that fits: refused with 3 where it is overflowed, before the other operand m
-- is looked at. Where m alone is overflowed, the answer is known from n.
abbrev pub asking : (known : ℕ → ℕ) (f : ℕ → ℕ → Paper) → Value → Value → Paper
asking known f Overflowed b = refused 3
asking known f (Fits n) Overflowed = given (Fits (known n))
asking known f (Fits n) (Fits m) = f n m

-- a quotient and a remainder ask for the left: by an overflowed right its quotient is 0, and it is left whole
abbrev pub quotient_of : Value → Value → Paper
quotient_of a b = asking (λ l. 0) divided_by a b

abbrev pub remainder_of : Value → Value → Paper
remainder_of a b = asking (λ l. l) left_by a b

-- a power asks for nothing, as a sum and a product don't
abbrev pub power_of : ℕ → Value → Value → Paper
power_of M a b = given (raised_of M a b)

-- a logarithm asks for its argument: in an overflowed base it is 0
abbrev pub logarithm_of : Value → Value → Paper
logarithm_of a b = asking (λ r. 0) (λ r l. log_by l r) b a

-- the plain number of a value
abbrev pub plain_of : Value → Paper
plain_of (Fits n) = given (Fits n)
plain_of Overflowed = refused 3
