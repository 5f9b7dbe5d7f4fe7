-- What signed division promises, one named theorem for each promise, once for every width W. The functions' contracts
-- say that their answers are those of `quotient_of` and `remainder_of`; `Unique` says that no other answer is.
-- Assumes nothing.
use mathlib.Core.Path.{◌≡◌, ap, sym, ◌∙◌, subst}
use mathlib.Core.Logic.{◌≢◌, ◌↔◌, ◌⊎◌, inl, inr, ⊎_elim}
use mathlib.Core.Bool.{true, false, true≢false}
use Prim.Native.Nat.{ℕ, ◌-◌, ◌^◌}
use native.Mathlib.Omega.{arith}
use borrow.Author.Tests.{ltb-true, lt-ltb}
use lib.IntN.{ℤ, pos, negsuc, neg_ℤ}
use lib.Signed.{◌≤ℤ◌, ◌<ℤ◌}
use mir.Syntax.{Width}
use mir.Val.{bits, SFits}
use Rattle.whole.specs.DivMod.{rust_div, rust_rem}
use Rattle.whole.proofs.Difference.{⟨◌⟩, #, ⊖◌, leℤ, ltℤ, leℤ⁻¹, ltℤ⁻¹}
use Rattle.whole.proofs.Order.{equal-or-not}
use Rattle.signed.specs.Signed.{refused, number, is_zero, smallest, in_range, quotient_of, remainder_of}
use Rattle.signed.specs.Signed.{WholePart, LeftOver}
use Rattle.signed.proofs.Division.{zero-or-not, by-tests, quotient-out-of-range, quotient-in-range}
use Rattle.signed.proofs.Division.{fits-range, by-minus-one-leaves-0}
use Rattle.signed.proofs.WholeParts.{is-whole-part, one-whole-part, is-left-over, one-left-over}
use Rattle.signed.proofs.Answers.{quotient-by-0, remainder-by-0, remainder-given, quotient, remainder}
use Rattle.signed.proofs.Answers.{by-0, too-large, fitting, left-by-0, leaving}

-- ---- the range of a width

-- the range of W bits is from -2^(W - 1) to 2^(W - 1) - 1
pub range : (W : ℕ) (z : ℤ) → (in_range W z ≡ true) ↔ ((neg_ℤ (pos (2 ^ (W - 1))) ≤ℤ z) × (z <ℤ pos (2 ^ (W - 1))))
range W (pos n) =
    let H = 2 ^ (W - 1) in (
      λ e. let h = ltb-true n H e in (leℤ (⊖ # H) (# n) (omega arith), ltℤ (# n) (# H) (omega arith)),
      λ r. lt-ltb n H (omega (arith, ltℤ⁻¹ (# n) (# H) r.1)),
    )
range W (negsuc n) =
    let H = 2 ^ (W - 1) in (
      λ e. let h = ltb-true n H e in (leℤ (⊖ # H) ⟨ negsuc n ⟩ (omega arith), ltℤ ⟨ negsuc n ⟩ (# H) (omega arith)),
      λ r. lt-ltb n H (omega (arith, leℤ⁻¹ (⊖ # H) ⟨ negsuc n ⟩ r.0)),
    )

-- a number of the width w, as the machine has it, is in the range of its bits
pub in-its-range : (w : Width) (z : ℤ) → SFits w z → in_range (bits w) z ≡ true
in-its-range = fits-range

-- ---- the quotient

module _ (W : ℕ) (a b : ℤ) where
  -- q is given exactly when the divisor isn't 0, q is of W bits, and it is the whole part of |a| / |b| with the sign
  -- of the exact quotient
  pub quotient-exactly
      : (q : ℤ) → (quotient_of W a b ≡ number q) ↔ ((b ≢ pos 0) × (in_range W q ≡ true) × WholePart a b q)
  quotient-exactly q = (only, back)
    where
      only : quotient_of W a b ≡ number q → (b ≢ pos 0) × (in_range W q ≡ true) × WholePart a b q
      only e =
          elim (quotient W a b) [
            | by-0 z s ↦ let f : ⊥ = omega (arith, ap (λ s. s.code) (sym s ∙ e)) in absurd f
            | too-large r s ↦ let f : ⊥ = omega (arith, ap (λ s. s.code) (sym s ∙ e)) in absurd f
            | fitting n r s ↦
                let same : rust_div a b ≡ q = ap (λ s. s.number) (sym s ∙ e) in (
                  n,
                  subst (λ q. in_range W q ≡ true) same r,
                  subst (WholePart a b) same (is-whole-part a b n),
                )
          ]

      back : (b ≢ pos 0) × (in_range W q ≡ true) × WholePart a b q → quotient_of W a b ≡ number q
      back (n, r, w) =
          let same : q ≡ rust_div a b = one-whole-part a b q (rust_div a b) w (is-whole-part a b n) in
          by-tests W a b true (zero-or-not b n) (subst (λ q. in_range W q ≡ true) same r) ∙ ap number (sym same)

  -- 1 exactly when the divisor is 0
  pub one-exactly : (quotient_of W a b ≡ refused 1) ↔ (b ≡ pos 0)
  one-exactly = (only, quotient-by-0 W a b)
    where
      only : quotient_of W a b ≡ refused 1 → b ≡ pos 0
      only e =
          elim (quotient W a b) [
            | by-0 z s ↦ z
            | too-large r s ↦ let f : ⊥ = omega (arith, ap (λ s. s.code) (sym s ∙ e)) in absurd f
            | fitting n r s ↦ let f : ⊥ = omega (arith, ap (λ s. s.code) (sym s ∙ e)) in absurd f
          ]

  -- 4 exactly for the smallest number by -1, of all the numbers of W bits
  pub four-exactly : in_range W a ≡ true → (quotient_of W a b ≡ refused 4) ↔ ((a ≡ smallest W) × (b ≡ negsuc 0))
  four-exactly f = (only, back)
    where
      outside : in_range W (rust_div a b) ≡ false → (a ≡ smallest W) × (b ≡ negsuc 0)
      outside r =
          ⊎_elim
          (λ p.
          ⊎_elim (λ q. (p, q)) (λ n. absurd (true≢false (sym (quotient-in-range W a b f (inl n)) ∙ r)))
          (equal-or-not b (negsuc 0)))
          (λ n. absurd (true≢false (sym (quotient-in-range W a b f (inr n)) ∙ r)))
          (equal-or-not a (smallest W))

      only : quotient_of W a b ≡ refused 4 → (a ≡ smallest W) × (b ≡ negsuc 0)
      only e =
          elim (quotient W a b) [
            | by-0 z s ↦ let g : ⊥ = omega (arith, ap (λ s. s.code) (sym s ∙ e)) in absurd g
            | too-large r s ↦ outside r
            | fitting n r s ↦ let g : ⊥ = omega (arith, ap (λ s. s.code) (sym s ∙ e)) in absurd g
          ]

      back : (a ≡ smallest W) × (b ≡ negsuc 0) → quotient_of W a b ≡ refused 4
      back (p, q) = by-tests W a b false (ap is_zero q) (quotient-out-of-range W a b p q)

  -- no other number is given
  pub quotient-only-codes
      : ((quotient_of W a b).code ≡ 0) ⊎ (((quotient_of W a b).code ≡ 1) ⊎ ((quotient_of W a b).code ≡ 4))
  quotient-only-codes =
      elim (quotient W a b) [
        | by-0 z s ↦ inr (inl (ap (λ s. s.code) s))
        | too-large r s ↦ inr (inr (ap (λ s. s.code) s))
        | fitting n r s ↦ inl (ap (λ s. s.code) s)
      ]

-- ---- the remainder

module _ (a b : ℤ) where
  -- r is given exactly when the divisor isn't 0 and r is a - b * q, where q is the whole part of |a| / |b| with the
  -- sign of the exact quotient
  pub remainder-exactly : (r : ℤ) → (remainder_of a b ≡ number r) ↔ ((b ≢ pos 0) × LeftOver a b r)
  remainder-exactly r = (only, back)
    where
      only : remainder_of a b ≡ number r → (b ≢ pos 0) × LeftOver a b r
      only e =
          elim (remainder a b) [
            | left-by-0 z s ↦ let f : ⊥ = omega (arith, ap (λ s. s.code) (sym s ∙ e)) in absurd f
            | leaving n s ↦
                let same : rust_rem a b ≡ r = ap (λ s. s.number) (sym s ∙ e) in
                (n, subst (LeftOver a b) same (is-left-over a b n))
          ]

      back : (b ≢ pos 0) × LeftOver a b r → remainder_of a b ≡ number r
      back (n, l) = remainder-given a b n ∙ ap number (sym (one-left-over a b r n l))

  -- 1 exactly when the divisor is 0
  pub remainder-one-exactly : (remainder_of a b ≡ refused 1) ↔ (b ≡ pos 0)
  remainder-one-exactly = (only, remainder-by-0 a b)
    where
      only : remainder_of a b ≡ refused 1 → b ≡ pos 0
      only e =
          elim (remainder a b) [
            | left-by-0 z s ↦ z
            | leaving n s ↦ let f : ⊥ = omega (arith, ap (λ s. s.code) (sym s ∙ e)) in absurd f
          ]

  -- no other number is given
  pub remainder-only-codes : ((remainder_of a b).code ≡ 0) ⊎ ((remainder_of a b).code ≡ 1)
  remainder-only-codes =
      elim (remainder a b) [ left-by-0 z s ↦ inr (ap (λ s. s.code) s) | leaving n s ↦ inl (ap (λ s. s.code) s) ]

-- the smallest number by -1, whose quotient is refused, leaves 0
pub smallest-by-minus-one-leaves-0 : (W : ℕ) → remainder_of (smallest W) (negsuc 0) ≡ number (pos 0)
smallest-by-minus-one-leaves-0 W = by-minus-one-leaves-0 (smallest W)
