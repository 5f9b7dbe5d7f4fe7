-- Each of the six operations by its answer: refused with 1, refused with 2, or the value of the number that it comes
-- to.
-- Assumes nothing.
use mathlib.Core.Path.{◌≡◌, refl, ap, sym, ◌∙◌}
use mathlib.Core.Bool.{cond}
use mathlib.Core.Logic.{◌↔◌}
use Prim.Native.Nat.{ℕ, ◌+◌, ◌*◌, ◌/◌, ◌%◌, ◌^◌, ◌≤◌, ◌<◌}
use native.Mathlib.Nat.{div-le_self, mod-le}
use native.Mathlib.Decide.{dec_le, dec_lt, ℕ_discrete}
use native.Mathlib.Omega.{arith}
use borrow.Author.Tests.{eq-eqb, ne_eqb, lt-ltb, le-ltb}
use Rattle.whole.specs.Logarithm.{log_of}
use Rattle.checked.specs.declared.types.Checked.TheVariants.{Fits, Overflowed}
use Rattle.checked.specs.Value.{Value, limit_of, checked_of}
use Rattle.checked.specs.Paper.{given, refused}
use Rattle.checked.proofs.Refused.{given-code}
use Rattle.checked.proofs.Limit.{fits, over}
use Rattle.checked.proofs.Promises.{log-below-width}
use Rattle.shape.specs.Items.{Operation, sum, product, quotient, remainder, power, logarithm}
use Rattle.meaning.specs.Meaning.{worth}
use Rattle.meaning.specs.Told.{ByZero, SmallBase}
use Rattle.razovinto.specs.Six.{answer_of, Allowed}

-- the value that it gives where it isn't refused
abbrev value_for : Operation → ℕ → ℕ → Value
value_for sum l r = checked_of (limit_of 64) (l + r)
value_for product l r = checked_of (limit_of 64) (l * r)
value_for quotient l r = Fits (l / r)
value_for remainder l r = Fits (l % r)
value_for power l r = checked_of (limit_of 64) (l ^ r)
value_for logarithm l r = Fits (log_of l r)

-- ---- one of the three it is

pub data Stage (o : Operation) (l r : ℕ) : Type 0 where
  by-zero : ByZero o r → answer_of o l r ≡ refused 1 → Stage o l r
  below-two : SmallBase o l → answer_of o l r ≡ refused 2 → Stage o l r
  valued : Allowed o l r → answer_of o l r ≡ given (value_for o l r) → Stage o l r

pub stage : (o : Operation) (l r : ℕ) → Stage o l r
stage sum l r = valued (λ f. f, λ f. f) refl
stage product l r = valued (λ f. f, λ f. f) refl
stage quotient l r =
    elim (ℕ_discrete r 0) [
      | yes z ↦ by-zero z (ap (λ t. cond t (refused 1) (given (Fits (l / r)))) (eq-eqb r 0 z))
      | no n ↦ valued (n, λ f. f) (ap (λ t. cond t (refused 1) (given (Fits (l / r)))) (ne_eqb r 0 n))
    ]
stage remainder l r =
    elim (ℕ_discrete r 0) [
      | yes z ↦ by-zero z (ap (λ t. cond t (refused 1) (given (Fits (l % r)))) (eq-eqb r 0 z))
      | no n ↦ valued (n, λ f. f) (ap (λ t. cond t (refused 1) (given (Fits (l % r)))) (ne_eqb r 0 n))
    ]
stage power l r = valued (λ f. f, λ f. f) refl
stage logarithm l r =
    elim (dec_lt l 2) [
      | yes h ↦ below-two h (ap (λ t. cond t (refused 2) (given (Fits (log_of l r)))) (lt-ltb l 2 h))
      | no n ↦
          let h : 2 ≤ l = omega arith in
          valued (λ f. f, n) (ap (λ t. cond t (refused 2) (given (Fits (log_of l r)))) (le-ltb l 2 h))
    ]

-- ---- its code

not-both : (o : Operation) (l r : ℕ) → ByZero o r → SmallBase o l → ⊥
not-both sum l r d b = b
not-both product l r d b = b
not-both quotient l r d b = b
not-both remainder l r d b = b
not-both power l r d b = b
not-both logarithm l r d b = d

module _ (o : Operation) (l r : ℕ) where
  valued-code : answer_of o l r ≡ given (value_for o l r) → (answer_of o l r).code ≡ 0
  valued-code e = ap (λ p. p.code) e ∙ given-code (value_for o l r)

  pub code-0-exactly : ((answer_of o l r).code ≡ 0) ↔ Allowed o l r
  code-0-exactly = (only, back)
    where
      only : (answer_of o l r).code ≡ 0 → Allowed o l r
      only c =
          elim (stage o l r) [
            | by-zero d e ↦ let f : ⊥ = omega (arith, ap (λ p. p.code) e) in absurd f
            | below-two b e ↦ let f : ⊥ = omega (arith, ap (λ p. p.code) e) in absurd f
            | valued a e ↦ a
          ]

      back : Allowed o l r → (answer_of o l r).code ≡ 0
      back a =
          elim (stage o l r) [
            | by-zero d e ↦ absurd (a.0 d)
            | below-two b e ↦ absurd (a.1 b)
            | valued k e ↦ valued-code e
          ]

  pub code-1-exactly : ((answer_of o l r).code ≡ 1) ↔ ByZero o r
  code-1-exactly = (only, back)
    where
      only : (answer_of o l r).code ≡ 1 → ByZero o r
      only c =
          elim (stage o l r) [
            | by-zero d e ↦ d
            | below-two b e ↦ let f : ⊥ = omega (arith, ap (λ p. p.code) e) in absurd f
            | valued a e ↦ let f : ⊥ = omega (arith, valued-code e) in absurd f
          ]

      back : ByZero o r → (answer_of o l r).code ≡ 1
      back d =
          elim (stage o l r) [
            | by-zero k e ↦ ap (λ p. p.code) e
            | below-two b e ↦ absurd (not-both o l r d b)
            | valued a e ↦ absurd (a.0 d)
          ]

  pub code-2-exactly : ((answer_of o l r).code ≡ 2) ↔ SmallBase o l
  code-2-exactly = (only, back)
    where
      only : (answer_of o l r).code ≡ 2 → SmallBase o l
      only c =
          elim (stage o l r) [
            | by-zero d e ↦ let f : ⊥ = omega (arith, ap (λ p. p.code) e) in absurd f
            | below-two b e ↦ b
            | valued a e ↦ let f : ⊥ = omega (arith, valued-code e) in absurd f
          ]

      back : SmallBase o l → (answer_of o l r).code ≡ 2
      back b =
          elim (stage o l r) [
            | by-zero d e ↦ absurd (not-both o l r d b)
            | below-two k e ↦ ap (λ p. p.code) e
            | valued a e ↦ absurd (a.1 b)
          ]

  pub code-below-3 : (answer_of o l r).code < 3
  code-below-3 =
      elim (stage o l r) [
        | by-zero d e ↦ omega (arith, ap (λ p. p.code) e)
        | below-two b e ↦ omega (arith, ap (λ p. p.code) e)
        | valued a e ↦ omega (arith, valued-code e)
      ]

-- ---- its value

-- of a number of 64 bits, and of a larger one
fitting : (o : Operation) (l r : ℕ) → worth o l r ≤ limit_of 64 → value_for o l r ≡ Fits (worth o l r)
fitting sum l r h = sym (fits (limit_of 64) (l + r) h)
fitting product l r h = sym (fits (limit_of 64) (l * r) h)
fitting quotient l r h = refl
fitting remainder l r h = refl
fitting power l r h = sym (fits (limit_of 64) (l ^ r) h)
fitting logarithm l r h = refl

overflowing
    : (o : Operation) (l r : ℕ) → l ≤ limit_of 64 → r ≤ limit_of 64 → Allowed o l r → limit_of 64 < worth o l r →
    value_for o l r ≡ Overflowed
overflowing sum l r left right a h = sym (over (limit_of 64) (l + r) h)
overflowing product l r left right a h = sym (over (limit_of 64) (l * r) h)
overflowing quotient l r left right a h = let f : ⊥ = omega (arith, div-le_self l r) in absurd f
overflowing remainder l r left right a h = let f : ⊥ = omega (arith, mod-le l r) in absurd f
overflowing power l r left right a h = sym (over (limit_of 64) (l ^ r) h)
overflowing logarithm l r left right a h =
    let n = a.1 in
    let two : 1 < l = omega arith in
    let some : 0 < 64 = omega arith in
    let below : r < 2 ^ 64 = omega arith in
    let f : ⊥ = omega (arith, log-below-width l r 64 two some below) in absurd f

module _ (o : Operation) (l r : ℕ) (allowed : Allowed o l r) where
  value-given : answer_of o l r ≡ given (value_for o l r)
  value-given =
      elim (stage o l r) [
        | by-zero d e ↦ absurd (allowed.0 d)
        | below-two b e ↦ absurd (allowed.1 b)
        | valued a e ↦ e
      ]

  pub fitting-given : worth o l r ≤ limit_of 64 → answer_of o l r ≡ given (Fits (worth o l r))
  fitting-given h = value-given ∙ ap given (fitting o l r h)

  module _ (left : l ≤ limit_of 64) (right : r ≤ limit_of 64) where
    pub overflowed-given : limit_of 64 < worth o l r → answer_of o l r ≡ given Overflowed
    overflowed-given h = value-given ∙ ap given (overflowing o l r left right allowed h)

    -- eight bytes hold its number
    pub number-below : (answer_of o l r).number < 256 ^ 8
    number-below =
        elim (dec_le (worth o l r) (limit_of 64)) [
          | yes h ↦
              let e : (answer_of o l r).number ≡ worth o l r = ap (λ p. p.number) (fitting-given h) in omega arith
          | no n ↦
              let h : limit_of 64 < worth o l r = omega arith in
              let e : (answer_of o l r).number ≡ 0 = ap (λ p. p.number) (overflowed-given h) in omega arith
        ]
