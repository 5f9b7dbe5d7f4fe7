-- From 64 bits to fewer: a quotient or a remainder that was worked out at 64 bits, and refused with 4 where it is outside
-- the width's range, is that of the width.
-- Assumes nothing.
use mathlib.Core.Path.{◌≡◌, refl, ap, sym, ◌∙◌, subst}
use mathlib.Core.Logic.{◌≢◌, ⊎_elim}
use mathlib.Core.Bool.{Bool, true, false, cond}
use Prim.Native.Nat.{ℕ, ◌-◌, ◌^◌, ◌≤◌, ◌<◌}
use native.Mathlib.Nat.{le_trans, lt_of_le_of_lt, pow-le-pow_right}
use native.Mathlib.Omega.{arith}
use borrow.Author.Tests.{eqb-false, ltb-true, ltb-false, lt-ltb, le-ltb}
use lib.IntN.{ℤ, pos}
use lib.Signed.{mag, mag_rem}
use Rattle.std.specs.Prelude.{Option, Some, None, Result, Ok, Err}
use Rattle.std.specs.Option.{ok_or}
use Rattle.whole.specs.DivMod.{rust_div, rust_rem}
use Rattle.whole.proofs.Order.{equal-or-not}
use Rattle.whole.proofs.Truncating.{rust-rem-is}
use Rattle.checked.specs.declared.refusal.Refusal.{Refusal}
use Rattle.checked.specs.declared.refusal.Refusal.TheVariants as refusal
use Rattle.checked.specs.Paper.{number_of}
use Rattle.checked.proofs.Unique.{not-zero}
use Rattle.signed.specs.Signed.{Answer, refused, number, answer, answer_by, option_by, at_width, narrowed_to}
use Rattle.signed.specs.Signed.{in_range, quotient_of, remainder_of}
use Rattle.signed.proofs.Division.{zero-or-not, by-tests}
use Rattle.signed.proofs.Answers.{quotient-by-0, remainder-by-0, remainder-given}

-- ---- one number

given : Option ℤ → Answer
given (Some z) = number z
given None = refused 4

module _ {N : Type 0} (whole : N → ℤ) (W : ℕ) (z : ℤ) where
  or-refused : (y : Option N) → answer_by whole (ok_or y refusal.QuotientTooLarge) ≡ given (option_by whole y)
  unfolding given
  or-refused (Some n) = refl
  or-refused None = refl

  tested : (t : Bool) → given (cond t (Some z) None) ≡ cond t (number z) (refused 4)
  unfolding given
  tested true = refl
  tested false = refl

  -- z as a number of the type, or refusal 4
  pub narrowed-number
      : (y : Option N) → option_by whole y ≡ at_width W z →
      answer_by whole (ok_or y refusal.QuotientTooLarge) ≡ narrowed_to W (Ok z)
  narrowed-number y e = or-refused y ∙ ap given e ∙ tested (in_range W z)

-- ---- a quotient and a remainder

no-number-refused : (r : Refusal) (z : ℤ) → refused (number_of r) ≡ number z → ⊥
no-number-refused r z e = eqb-false (number_of r) 0 (not-zero r) (ap (λ a. a.code) e)

module _ (W : ℕ) (a b : ℤ) where
  outside : W ≤ 64 → (z : ℤ) → in_range 64 z ≡ false → in_range W z ≡ false
  outside w z e =
      let fewer : W - 1 ≤ 63 = omega arith in
      let two : 1 ≤ 2 = omega arith in
      let powers : 2 ^ (W - 1) ≤ 2 ^ 63 = pow-le-pow_right two fewer in
      le-ltb (mag z) (2 ^ (W - 1)) (le_trans powers (ltb-false (mag z) (2 ^ 63) e))

  pub narrowed-quotient
      : W ≤ 64 → (x : Result ℤ Refusal) → answer x ≡ quotient_of 64 a b → narrowed_to W x ≡ quotient_of W a b
  narrowed-quotient w x e =
      ⊎_elim (λ z. by-zero z x e) (λ n. by-range n (in_range 64 (rust_div a b)) refl x e) (equal-or-not b (pos 0))
    where
      by-zero
          : b ≡ pos 0 → (x : Result ℤ Refusal) → answer x ≡ quotient_of 64 a b → narrowed_to W x ≡ quotient_of W a b
      by-zero z (Ok q) e =
          let f : ⊥ = omega (arith, ap (λ s. s.code) (e ∙ quotient-by-0 64 a b z)) in absurd f
      by-zero z (Err r) e = e ∙ quotient-by-0 64 a b z ∙ sym (quotient-by-0 W a b z)

      by-range
          : b ≢ pos 0 → (t : Bool) → in_range 64 (rust_div a b) ≡ t → (x : Result ℤ Refusal) →
          answer x ≡ quotient_of 64 a b → narrowed_to W x ≡ quotient_of W a b
      by-range n true s (Ok q) e =
          let same : q ≡ rust_div a b = ap (λ s. s.number) (e ∙ by-tests 64 a b true (zero-or-not b n) s) in
          ap (λ q. cond (in_range W q) (number q) (refused 4)) same
          ∙ sym (by-tests W a b (in_range W (rust_div a b)) (zero-or-not b n) refl)
      by-range n true s (Err r) e =
          absurd (no-number-refused r (rust_div a b) (e ∙ by-tests 64 a b true (zero-or-not b n) s))
      by-range n false s (Ok q) e =
          let f : ⊥ = omega (arith, ap (λ s. s.code) (e ∙ by-tests 64 a b false (zero-or-not b n) s)) in absurd f
      by-range n false s (Err r) e =
          e ∙ by-tests 64 a b false (zero-or-not b n) s
          ∙ sym (by-tests W a b false (zero-or-not b n) (outside w (rust_div a b) s))

  -- a remainder is in every range that the number which is divided is in
  pub narrowed-remainder
      : in_range W a ≡ true → (x : Result ℤ Refusal) → answer x ≡ remainder_of a b → narrowed_to W x ≡ remainder_of a b
  narrowed-remainder f (Err r) e = e
  narrowed-remainder f (Ok m) e = ⊎_elim by-zero leaving (equal-or-not b (pos 0))
    where
      by-zero : b ≡ pos 0 → narrowed_to W (Ok m) ≡ remainder_of a b
      by-zero z = let f : ⊥ = omega (arith, ap (λ s. s.code) (e ∙ remainder-by-0 a b z)) in absurd f

      leaving : b ≢ pos 0 → narrowed_to W (Ok m) ≡ remainder_of a b
      leaving n =
          let H = 2 ^ (W - 1) in
          let same : m ≡ rust_rem a b = ap (λ s. s.number) (e ∙ remainder-given a b n) in
          let within = lt-ltb (mag (rust_rem a b)) H
          (subst (λ r. mag r < H) (sym (rust-rem-is a b)) (lt_of_le_of_lt (mag_rem a b) (ltb-true (mag a) H f))) in
          ap (λ t. cond t (number m) (refused 4)) (ap (in_range W) same ∙ within) ∙ e
