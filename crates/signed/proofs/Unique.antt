-- No two answers are the same in numbers, so that a contract leaves one possible answer.
-- Assumes nothing.
use mathlib.Core.Path.{◌≡◌, refl, ap, sym}
use lib.IntN.{ℤ}
use borrow.Author.Tests.{eqb-false}
use Rattle.std.specs.Prelude.{Result, Ok, Err, Option, Some, None, Bool, true, false, pos}
use Rattle.checked.specs.declared.refusal.Refusal.{Refusal}
use Rattle.checked.proofs.Unique.{not-zero, refusal-unique}
use Rattle.checked.specs.Paper.{number_of}
use Rattle.signed.specs.Signed.{answer_by, option_by}
use mathlib.Core.Bool.{true≢false}

abbrev is-there : Option ℤ → Bool
is-there (Some z) = true
is-there None = false

abbrev in-it : Option ℤ → ℤ
in-it (Some z) = z
in-it None = pos 0

-- of any type whose numbers are told apart by the whole numbers that they are
module _ {N : Type 0} (whole : N → ℤ) (apart : (x y : N) → whole x ≡ whole y → x ≡ y) where
  pub answer-unique : (x y : Result N Refusal) → answer_by whole x ≡ answer_by whole y → x ≡ y
  answer-unique (Ok m) (Ok n) e = ap Ok (apart m n (ap (λ a. a.number) e))
  answer-unique (Ok m) (Err r) e = absurd (eqb-false (number_of r) 0 (not-zero r) (sym (ap (λ a. a.code) e)))
  answer-unique (Err r) (Ok n) e = absurd (eqb-false (number_of r) 0 (not-zero r) (ap (λ a. a.code) e))
  answer-unique (Err r) (Err s) e = ap Err (refusal-unique r s (ap (λ a. a.code) e))

  pub narrow-unique : (x y : Option N) → option_by whole x ≡ option_by whole y → x ≡ y
  narrow-unique (Some m) (Some n) e = ap Some (apart m n (ap in-it e))
  narrow-unique (Some m) None e = absurd (true≢false (ap is-there e))
  narrow-unique None (Some n) e = absurd (true≢false (sym (ap is-there e)))
  narrow-unique None None e = refl
