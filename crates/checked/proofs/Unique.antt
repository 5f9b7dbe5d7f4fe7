-- No two answers are the same in numbers: so a contract that gives an answer's numbers leaves one possible answer. Each
-- type has a way back from its numbers.
-- Assumes nothing.
use mathlib.Core.Path.{◌≡◌, refl, ap, sym, ◌∙◌}
use mathlib.Core.Bool.{false, cond}
use mathlib.Core.List.{List, [], ◌∷◌}
use Prim.Native.Nat.{ℕ}
use native.Mathlib.Omega.{arith}
use borrow.Author.Tests.{eqb-false, eq-eqb, ne_eqb}
use lib.Dec.{eqb}
use Rattle.checked.specs.declared.refusal.Refusal.{Refusal}
use Rattle.checked.specs.declared.refusal.Refusal.TheVariants as refusal
use Rattle.std.specs.Prelude.{Option, Some, None, Result, Ok, Err}
use Rattle.checked.specs.declared.types.Checked.{Checked}
use Rattle.checked.specs.declared.types.Checked.TheVariants.{Fits, Overflowed}
use Rattle.checked.specs.Value.{Value, value_by, option_by, both_of}
use Rattle.checked.specs.Paper.{given, refused, paper, paper_by, plain_by, number_of, value_in}
use Rattle.checked.specs.Pair.{pair, pair_of}
use Rattle.checked.proofs.Refused.{given-code, value-given, not-overflowed, same-number, pair-of-both}

-- what has a way back is determined by where it goes
pub one : {A B : Type 0} (f : A → B) (back : B → A) → ((x : A) → back (f x) ≡ x) → (x y : A) → f x ≡ f y → x ≡ y
one f back inverse x y e = sym (inverse x) ∙ ap back e ∙ inverse y

-- ---- refusals

-- every refusal, in any order
refusals : List Refusal
refusals =
    refusal.DivisorZero ∷ refusal.BaseBelowTwo ∷ refusal.Overflowed ∷ refusal.QuotientTooLarge ∷
    refusal.UnknownWidth ∷ refusal.LengthsDiffer ∷ refusal.ItemCount ∷ refusal.UnknownKind ∷
    refusal.LiteralTooLarge ∷ refusal.TooFewOnHand ∷ refusal.HandFull ∷ refusal.SeveralLeft ∷
    refusal.NoneLeft ∷ refusal.FieldEmpty ∷ refusal.BadMark ∷ refusal.BlockLength ∷ refusal.WrongCheck ∷
    refusal.BadLayout ∷ refusal.ListTooShort ∷ refusal.AllowanceSpent ∷ refusal.BlockNumberTooLarge ∷
    refusal.UnusableReading ∷ refusal.NotWhole ∷ refusal.OtherBlockNumber ∷ []

-- the first of a list's refusals with the number n
first_with : ℕ → List Refusal → Refusal
first_with n [] = refusal.DivisorZero
first_with n (r ∷ rs) = cond (eqb (number_of r) n) r (first_with n rs)

pub refusal_of : ℕ → Refusal
refusal_of n = first_with n refusals

pub refusal-back : (r : Refusal) → refusal_of (number_of r) ≡ r
unfolding refusal_of refusals first_with
refusal-back refusal.DivisorZero = refl
refusal-back refusal.BaseBelowTwo = refl
refusal-back refusal.Overflowed = refl
refusal-back refusal.QuotientTooLarge = refl
refusal-back refusal.UnknownWidth = refl
refusal-back refusal.LengthsDiffer = refl
refusal-back refusal.ItemCount = refl
refusal-back refusal.UnknownKind = refl
refusal-back refusal.LiteralTooLarge = refl
refusal-back refusal.TooFewOnHand = refl
refusal-back refusal.HandFull = refl
refusal-back refusal.SeveralLeft = refl
refusal-back refusal.NoneLeft = refl
refusal-back refusal.FieldEmpty = refl
refusal-back refusal.BadMark = refl
refusal-back refusal.BlockLength = refl
refusal-back refusal.WrongCheck = refl
refusal-back refusal.BadLayout = refl
refusal-back refusal.ListTooShort = refl
refusal-back refusal.AllowanceSpent = refl
refusal-back refusal.BlockNumberTooLarge = refl
refusal-back refusal.UnusableReading = refl
refusal-back refusal.NotWhole = refl
refusal-back refusal.OtherBlockNumber = refl

-- no refusal has the number 0: the way back from 0 leads to one with another number
pub not-zero : (r : Refusal) → eqb (number_of r) 0 ≡ false
unfolding refusal_of refusals first_with
not-zero r =
    ne_eqb (number_of r) 0 (λ z.
    let e : number_of r ≡ 1 = ap number_of (sym (refusal-back r) ∙ ap refusal_of z) in omega arith)

pub refusal-unique : (r s : Refusal) → number_of r ≡ number_of s → r ≡ s
refusal-unique = one number_of refusal_of refusal-back

-- ---- answers

-- Of any type of answers A, told in numbers as S: values where the code is 0, a refusal elsewhere.
module _ {A S : Type 0} (code : S → ℕ) (values : S → A) (refused : S → Refusal → A) where
  pub back : S → A
  back s = cond (eqb (code s) 0) (values s) (refused s (refusal_of (code s)))

  -- the answer x is what its numbers say
  pub data Told (told : A → S) (x : A) : Type 0 where
    gives : code (told x) ≡ 0 → values (told x) ≡ x → Told told x
    refuses : (r : Refusal) → code (told x) ≡ number_of r → refused (told x) r ≡ x → Told told x

  module _ (told : A → S) where
    back-here : (x : A) → Told told x → back (told x) ≡ x
    unfolding back
    back-here x here =
        let s = told x in
        elim here [
          | gives z e ↦ ap (λ t. cond t (values s) (refused s (refusal_of (code s)))) (eq-eqb (code s) 0 z) ∙ e
          | refuses r c e ↦
              ap (λ n. cond (eqb n 0) (values s) (refused s (refusal_of n))) c
              ∙ ap (λ t. cond t (values s) (refused s (refusal_of (number_of r)))) (not-zero r)
              ∙ ap (refused s) (refusal-back r)
              ∙ e
        ]

    -- so no two such answers have the same numbers
    pub both-told-apart : (x y : A) → Told told x → Told told y → told x ≡ told y → x ≡ y
    both-told-apart x y p q e = sym (back-here x p) ∙ ap back e ∙ back-here y q

    module _ (each : (x : A) → Told told x) where
      pub told-back : (x : A) → back (told x) ≡ x
      told-back x = back-here x (each x)

      pub told-apart : (x y : A) → told x ≡ told y → x ≡ y
      told-apart x y = both-told-apart x y (each x) (each y)

-- ---- answers of whole numbers

paper-told : (x : Result Value Refusal) → Told (λ p. p.code) (λ p. Ok (value_in p)) (λ p. Err) paper x
paper-told (Ok (Fits n)) = gives refl refl
paper-told (Ok Overflowed) = gives refl refl
paper-told (Err r) = refuses r refl refl

pub paper-unique : (x y : Result Value Refusal) → paper x ≡ paper y → x ≡ y
paper-unique = told-apart (λ p. p.code) (λ p. Ok (value_in p)) (λ p. Err) paper paper-told

pub pair-unique : (x y : Option (ℕ × ℕ)) → pair x ≡ pair y → x ≡ y
pair-unique =
    one pair (λ p. cond (eqb p.code 0) (Some (p.left, p.right)) None)
    (elim [ Some p ↦ refl | None ↦ refl ])

-- so an answer is `both_of` by its numbers
pub both-is : (a b : Value) {x : Option (ℕ × ℕ)} → pair x ≡ pair_of a b → x ≡ both_of a b
both-is a b {x = x} e = pair-unique x (both_of a b) (e ∙ sym (pair-of-both a b))

-- ---- of any type whose numbers are told apart by the whole numbers that they are

-- a value of whole numbers is itself
pub value-same : (c : Value) → value_by (λ n. n) c ≡ c
value-same (Fits n) = refl
value-same Overflowed = refl

-- what is given is told by its numbers, and is never what a refusal is
same-value : (c d : Value) → given c ≡ given d → c ≡ d
same-value c d e = sym (value-given c) ∙ ap value_in e ∙ value-given d

never-refused : (c : Value) (r : Refusal) → given c ≡ refused (number_of r) → ⊥
never-refused c r e = eqb-false (number_of r) 0 (not-zero r) (sym (ap (λ p. p.code) e) ∙ given-code c)

module _ {N : Type 0} (number : N → ℕ) (apart : (x y : N) → number x ≡ number y → x ≡ y) where
  pub value-unique : (x y : Checked N) → value_by number x ≡ value_by number y → x ≡ y
  value-unique (Fits m) (Fits n) e = ap Fits (apart m n (same-number (number m) (number n) e))
  value-unique (Fits m) Overflowed e = absurd (not-overflowed (number m) e)
  value-unique Overflowed (Fits n) e = absurd (not-overflowed (number n) (sym e))
  value-unique Overflowed Overflowed e = refl

  pub option-unique : (x y : Option N) → option_by number x ≡ option_by number y → x ≡ y
  option-unique (Some m) (Some n) e = ap Some (apart m n (same-number (number m) (number n) e))
  option-unique (Some m) None e = absurd (not-overflowed (number m) e)
  option-unique None (Some n) e = absurd (not-overflowed (number n) (sym e))
  option-unique None None e = refl

  pub paper-by-unique : (x y : Result (Checked N) Refusal) → paper_by number x ≡ paper_by number y → x ≡ y
  paper-by-unique (Ok c) (Ok d) e = ap Ok (value-unique c d (same-value (value_by number c) (value_by number d) e))
  paper-by-unique (Ok c) (Err r) e = absurd (never-refused (value_by number c) r e)
  paper-by-unique (Err r) (Ok d) e = absurd (never-refused (value_by number d) r (sym e))
  paper-by-unique (Err r) (Err s) e = ap Err (refusal-unique r s (ap (λ p. p.code) e))

  pub plain-unique : (x y : Result N Refusal) → plain_by number x ≡ plain_by number y → x ≡ y
  plain-unique (Ok m) (Ok n) e = ap Ok (apart m n (ap (λ p. p.number) e))
  plain-unique (Ok m) (Err r) e = absurd (never-refused (Fits (number m)) r e)
  plain-unique (Err r) (Ok n) e = absurd (never-refused (Fits (number n)) r (sym e))
  plain-unique (Err r) (Err s) e = ap Err (refusal-unique r s (ap (λ p. p.code) e))
