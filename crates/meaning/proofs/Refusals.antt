-- The table of an operation's refusals, and the one view of it: which row applies, what is known there, and which
-- number is given. Every other proof goes by this page, so that another refusal changes `refusal_at` and this page.
-- Assumes nothing.
use mathlib.Core.Path.{◌≡◌, refl, ap, ap₂, sym, ◌∙◌}
use mathlib.Core.Bool.{Bool, true, false, cond, ◌&&◌}
use Prim.Native.Nat.{ℕ, ◌≤◌, ◌<◌}
use native.Mathlib.Decide.{ℕ_discrete, dec_le, dec_lt}
use native.Mathlib.Omega.{arith}
use lib.Dec.{eqb, leb, ltb}
use borrow.Author.Tests.{eq-eqb, ne_eqb, le-leb, lt-leb, lt-ltb, le-ltb}
use Rattle.shape.specs.Items.{Operation, sum, product, quotient, remainder, power, logarithm}
use Rattle.meaning.specs.Meaning.{refusal_at}
pub use Rattle.meaning.specs.Told.{Asked, ByZero, SmallBase}

module _ (M : ℕ) where
  -- ---- what is known in each row

  -- 3
  abbrev pub Above : Operation → ℕ → ℕ → Type 0
  Above o l r = Asked (λ n. M < n) o l r

  -- 1 and 2
  abbrev pub BothFit : ℕ → ℕ → Type 0
  BothFit l r = (l ≤ M) × (r ≤ M)

  -- no refusal
  abbrev pub Passes : Operation → ℕ → ℕ → Type 0
  Passes sum l r = Unit {0}
  Passes product l r = Unit {0}
  Passes quotient l r = (l ≤ M) × (r ≡ 0 → ⊥)
  Passes remainder l r = (l ≤ M) × (r ≡ 0 → ⊥)
  Passes power l r = Unit {0}
  Passes logarithm l r = (r ≤ M) × (l ≤ M → 2 ≤ l)

  -- ---- the number given in each row

  -- where what has to fit does, a test of the numbers decides
  tested : {s u v : Bool} (n : ℕ) → s ≡ true → u ≡ v → cond s (cond u n 0) 3 ≡ cond v n 0
  tested n p e = ap₂ (λ s u. cond s (cond u n 0) 3) p e

  -- a base that fits and is below 2
  not-small : (l : ℕ) → (l ≤ M → 2 ≤ l) → (leb l M && ltb l 2) ≡ false
  not-small l h =
      elim (dec_le l M) [
        | yes p ↦ ap₂ ◌&&◌ (le-leb l M p) (le-ltb l 2 (h p))
        | no n ↦ let p : M < l = omega arith in ap (λ b. b && ltb l 2) (lt-leb l M p)
      ]

  pub passing : (o : Operation) (l r : ℕ) → Passes o l r → refusal_at M o l r ≡ 0
  passing sum l r k = refl
  passing product l r k = refl
  passing quotient l r (p, n) = tested 1 (le-leb l M p) (ne_eqb r 0 n)
  passing remainder l r (p, n) = tested 1 (le-leb l M p) (ne_eqb r 0 n)
  passing power l r k = refl
  passing logarithm l r (p, h) = tested 2 (le-leb r M p) (not-small l h)

  pub overflowing : (o : Operation) (l r : ℕ) → Above o l r → refusal_at M o l r ≡ 3
  overflowing sum l r h = absurd h
  overflowing product l r h = absurd h
  overflowing quotient l r h = ap (λ b. cond b (cond (eqb r 0) 1 0) 3) (lt-leb l M h)
  overflowing remainder l r h = ap (λ b. cond b (cond (eqb r 0) 1 0) 3) (lt-leb l M h)
  overflowing power l r h = absurd h
  overflowing logarithm l r h = ap (λ b. cond b (cond (leb l M && ltb l 2) 2 0) 3) (lt-leb r M h)

  pub zero-divides : (o : Operation) (l r : ℕ) → ByZero o r → BothFit l r → refusal_at M o l r ≡ 1
  zero-divides sum l r z b = absurd z
  zero-divides product l r z b = absurd z
  zero-divides quotient l r z (p, q) = tested 1 (le-leb l M p) (eq-eqb r 0 z)
  zero-divides remainder l r z (p, q) = tested 1 (le-leb l M p) (eq-eqb r 0 z)
  zero-divides power l r z b = absurd z
  zero-divides logarithm l r z b = absurd z

  pub base-too-small : (o : Operation) (l r : ℕ) → SmallBase o l → BothFit l r → refusal_at M o l r ≡ 2
  base-too-small sum l r h b = absurd h
  base-too-small product l r h b = absurd h
  base-too-small quotient l r h b = absurd h
  base-too-small remainder l r h b = absurd h
  base-too-small power l r h b = absurd h
  base-too-small logarithm l r h (p, q) = tested 2 (le-leb r M q) (ap₂ ◌&&◌ (le-leb l M p) (lt-ltb l 2 h))

  -- ---- the view

  pub data Row (o : Operation) (l r : ℕ) : Type 0 where
    passes : Passes o l r → refusal_at M o l r ≡ 0 → Row o l r
    overflowed : Above o l r → refusal_at M o l r ≡ 3 → Row o l r
    by-zero : ByZero o r → BothFit l r → refusal_at M o l r ≡ 1 → Row o l r
    small-base : SmallBase o l → BothFit l r → refusal_at M o l r ≡ 2 → Row o l r

  -- a row by what is known in it
  passes-so : (o : Operation) (l r : ℕ) → Passes o l r → Row o l r
  passes-so o l r k = passes k (passing o l r k)

  overflowed-so : (o : Operation) (l r : ℕ) → Above o l r → Row o l r
  overflowed-so o l r h = overflowed h (overflowing o l r h)

  -- a quotient and a remainder, by whether the left fits and the divisor is 0
  divided
      : (o : Operation) (l r : ℕ) → (M < l → Above o l r) → (r ≡ 0 → ByZero o r) →
      (l ≤ M → (r ≡ 0 → ⊥) → Passes o l r) → Row o l r
  divided o l r above zero other =
      elim (dec_le l M) [
        | yes p ↦
            elim (ℕ_discrete r 0) [
              | yes z ↦
                  let b : BothFit l r = (p, omega arith) in by-zero (zero z) b (zero-divides o l r (zero z) b)
              | no n ↦ passes-so o l r (other p n)
            ]
        | no n ↦ overflowed-so o l r (above (omega arith))
      ]

  pub row : (o : Operation) (l r : ℕ) → Row o l r
  row sum l r = passes tt refl
  row product l r = passes tt refl
  row quotient l r = divided quotient l r (λ h. h) (λ z. z) (λ p n. (p, n))
  row remainder l r = divided remainder l r (λ h. h) (λ z. z) (λ p n. (p, n))
  row power l r = passes tt refl
  row logarithm l r =
      elim (dec_le r M) [
        | yes q ↦
            elim (dec_le l M) [
              | yes p ↦
                  elim (dec_lt l 2) [
                    | yes h ↦ small-base h (p, q) (base-too-small logarithm l r h (p, q))
                    | no n ↦ passes-so logarithm l r (q, λ p. omega arith)
                  ]
              | no n ↦ passes-so logarithm l r (q, λ p. absurd (n p))
            ]
        | no n ↦ overflowed-so logarithm l r (omega arith)
      ]

  -- ---- read off the view

  -- what isn't refused passes
  pub passed : (o : Operation) (l r : ℕ) → refusal_at M o l r ≡ 0 → Passes o l r
  passed o l r z =
      elim (row o l r) [
        | passes k e ↦ k
        | overflowed k e ↦ let f : ⊥ = omega (arith, sym e ∙ z) in absurd f
        | by-zero k b e ↦ let f : ⊥ = omega (arith, sym e ∙ z) in absurd f
        | small-base k b e ↦ let f : ⊥ = omega (arith, sym e ∙ z) in absurd f
      ]

  -- ---- what is counted only where both fit

  pub counted : (l r n : ℕ) → BothFit l r → cond (leb l M && leb r M) n 0 ≡ n
  counted l r n (p, q) = ap (λ b. cond b n 0) (ap₂ ◌&&◌ (le-leb l M p) (le-leb r M q))

  -- one of the two doesn't
  one-above : (l r : ℕ) → (BothFit l r → ⊥) → (leb l M && leb r M) ≡ false
  one-above l r h =
      elim (dec_le l M) [
        | yes p ↦
            let over : M < r = elim (dec_le r M) [ yes q ↦ absurd (h (p, q)) | no n ↦ omega arith ] in
            ap₂ ◌&&◌ (le-leb l M p) (lt-leb r M over)
        | no n ↦ let over : M < l = omega arith in ap (λ t. t && leb r M) (lt-leb l M over)
      ]

  pub not-counted : (l r n : ℕ) → (BothFit l r → ⊥) → cond (leb l M && leb r M) n 0 ≡ 0
  not-counted l r n h = ap (λ b. cond b n 0) (one-above l r h)

  pub both-fit-or-not : {A : Type 0} (l r : ℕ) → (BothFit l r → A) → ((BothFit l r → ⊥) → A) → A
  both-fit-or-not l r both one =
      elim (dec_le l M) [
        | yes p ↦ elim (dec_le r M) [ yes q ↦ both (p, q) | no n ↦ one (λ b. n b.1) ]
        | no n ↦ one (λ b. n b.0)
      ]
