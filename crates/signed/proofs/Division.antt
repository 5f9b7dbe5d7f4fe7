-- Signed division, once for every width w: what a test of the bits says of the number, that the machine's quotient
-- fits, and that the machine's quotient and remainder are `rust_div` and `rust_rem`.
-- Assumes nothing.
use mathlib.Core.Path.{◌≡◌, refl, ap, ap₂, sym, ◌∙◌, subst}
use mathlib.Core.Logic.{◌≢◌, ◌⊎◌, inl, inr, ⊎_elim}
use mathlib.Core.Bool.{Bool, true, false, cond}
use Prim.Native.Nat.{ℕ, zero, suc, ◌+◌, ◌-◌, ◌/◌, ◌^◌, ◌≤◌, ◌<◌}
use native.Mathlib.Nat.{div-le_self, div-lt_self, div-one, mod-one, le_refl, lt_of_le_of_lt}
use native.Mathlib.Omega.{arith}
use borrow.Author.Tests.{ltb-true, lt-ltb, le-ltb}
use lib.Pow.{pow_pos}
use lib.IntN.{ℤ, pos, negsuc, neg_ℤ}
use lib.Signed.{mag, quot_z, rem_z, mag_rem}
use mir.Syntax.{Width, w8, w16, w32, w64, w128}
use mir.Val.{bits, hbits, SFits, to_z, of_z}
use mir.Facts.{to_z-of_z}
use Rattle.whole.specs.DivMod.{rust_div, rust_rem}
use Rattle.whole.proofs.Truncating.{rust-div-is, rust-rem-is}
use Rattle.signed.specs.Signed.{refused, number, is_zero, smallest, in_range, quotient_of, remainder_of}

-- ---- the width's two halves

halves : (w : Width) → 2 ^ bits w ≡ 2 ^ hbits w + 2 ^ hbits w
halves w8 = refl
halves w16 = refl
halves w32 = refl
halves w64 = refl
halves w128 = refl

half : (w : Width) → hbits w ≡ bits w - 1
half w8 = refl
half w16 = refl
half w32 = refl
half w64 = refl
half w128 = refl

-- the smallest number of the width, by the width's lower half
abbrev lowest : Width → ℤ
lowest w = negsuc (2 ^ hbits w - 1)

lowest-is : (w : Width) → lowest w ≡ smallest (bits w)
lowest-is w = ap (λ k. negsuc (2 ^ k - 1)) (half w)

-- ---- what the bits say

bits-of-zero : (w : Width) (z : ℤ) → SFits w z → of_z w z ≡ 0 → z ≡ pos 0
bits-of-zero w (pos n) f e = ap pos e
bits-of-zero w (negsuc n) f e = let g : ⊥ = omega (arith, f.sfits, halves w) in absurd g

bits-of-minus-one : (w : Width) (z : ℤ) → SFits w z → of_z w z ≡ 2 ^ bits w - 1 → z ≡ negsuc 0
bits-of-minus-one w (pos n) f e = let g : ⊥ = omega (arith, f.sfits, halves w) in absurd g
bits-of-minus-one w (negsuc n) f e = let g : n ≡ 0 = omega (arith, f.sfits, halves w) in ap negsuc g

bits-of-lowest : (w : Width) (z : ℤ) → SFits w z → of_z w z ≡ 2 ^ hbits w → z ≡ lowest w
bits-of-lowest w (pos n) f e = let g : ⊥ = omega (arith, f.sfits) in absurd g
bits-of-lowest w (negsuc n) f e = let g : n ≡ 2 ^ hbits w - 1 = omega (arith, f.sfits, halves w) in ap negsuc g

not-zero : (w : Width) (z : ℤ) → (of_z w z ≡ 0 → ⊥) → z ≢ pos 0
not-zero w z n e = n (ap (of_z w) e)

not-minus-one : (w : Width) (z : ℤ) → (of_z w z ≡ 2 ^ bits w - 1 → ⊥) → z ≢ negsuc 0
not-minus-one w z n e = n (ap (of_z w) e)

not-lowest : (w : Width) (z : ℤ) → (of_z w z ≡ 2 ^ hbits w → ⊥) → z ≢ lowest w
not-lowest w z n e = n (ap (of_z w) e ∙ omega (arith, halves w, pow_pos (hbits w)))

-- ---- the quotient fits, but for the smallest number by -1

mag-neg : (k m : ℕ) → k ≤ suc m → mag (neg_ℤ (pos k)) ≤ m
mag-neg zero m h = omega arith
mag-neg (suc k) m h = omega arith

quotient-fits : (H : ℕ) (a b : ℤ) → mag a < H → (b ≢ negsuc 0) ⊎ (a ≢ negsuc (H - 1)) → mag (quot_z a b) < H
quotient-fits H (pos a) (pos b) h o = lt_of_le_of_lt (div-le_self a b) h
quotient-fits H (pos a) (negsuc b) h o = omega (arith, mag-neg (a / suc b) a (omega (arith, div-le_self a (suc b))))
quotient-fits H (negsuc a) (pos b) h o = omega (arith, mag-neg (suc a / b) a (div-le_self (suc a) b))
quotient-fits H (negsuc a) (negsuc zero) h (inl n) = absurd (n refl)
quotient-fits H (negsuc a) (negsuc zero) h (inr n) = let m : a ≢ H - 1 = λ e. n (ap negsuc e) in omega (arith, div-one (suc a))
quotient-fits H (negsuc a) (negsuc (suc b)) h o = omega (arith, div-lt_self {n = suc a} {k = suc (suc b)} (omega arith) (omega arith))

-- ---- the machine's division is the definition's

pub zero-or-not : (b : ℤ) → b ≢ pos 0 → is_zero b ≡ false
zero-or-not (pos zero) n = absurd (n refl)
zero-or-not (pos (suc m)) n = refl
zero-or-not (negsuc m) n = refl

pub quotient-by-zero : (w : Width) (W : ℕ) (a b : ℤ) → SFits w b → of_z w b ≡ 0 → refused 1 ≡ quotient_of W a b
unfolding quotient_of
quotient-by-zero w W a b f e = sym (ap (quotient_of W a) (bits-of-zero w b f e))

pub remainder-by-zero : (w : Width) (a b : ℤ) → SFits w b → of_z w b ≡ 0 → refused 1 ≡ remainder_of a b
unfolding remainder_of
remainder-by-zero w a b f e = sym (ap (remainder_of a) (bits-of-zero w b f e))

pub by-tests
    : (W : ℕ) (a b : ℤ) (t : Bool) → is_zero b ≡ false → in_range W (rust_div a b) ≡ t →
    quotient_of W a b ≡ cond t (number (rust_div a b)) (refused 4)
unfolding quotient_of
by-tests W a b t z r = ap₂ (λ x y. cond x (refused 1) (cond y (number (rust_div a b)) (refused 4))) z r

-- the quotient's range, as the definition tests it
pub quotient-in-range
    : (W : ℕ) (a b : ℤ) → in_range W a ≡ true → (b ≢ negsuc 0) ⊎ (a ≢ smallest W) → in_range W (rust_div a b) ≡ true
quotient-in-range W a b f o =
    let H = 2 ^ (W - 1) in
    ap (in_range W) (rust-div-is a b) ∙ lt-ltb (mag (quot_z a b)) H (quotient-fits H a b (ltb-true (mag a) H f) o)

pub quotient-out-of-range
    : (W : ℕ) (a b : ℤ) → a ≡ smallest W → b ≡ negsuc 0 → in_range W (rust_div a b) ≡ false
quotient-out-of-range W a b ea eb =
    let H = 2 ^ (W - 1) in
    ap (in_range W)
    (ap₂ rust_div ea eb
    ∙ rust-div-is (smallest W) (negsuc 0)
    ∙ ap pos (omega (arith, div-one (suc (H - 1)), pow_pos (W - 1))))
    ∙ le-ltb H H (le_refl H)

-- a number of the width w is in its range
pub fits-range : (w : Width) (a : ℤ) → SFits w a → in_range (bits w) a ≡ true
fits-range w a f = lt-ltb (mag a) (2 ^ (bits w - 1)) (subst (λ k. mag a < 2 ^ k) (half w) f.sfits)

module _ (w : Width) (a b : ℤ) where
  -- the smallest number by -1 is refused: the quotient is one too large
  pub quotient-too-large : SFits w a → SFits w b → of_z w a ≡ 2 ^ hbits w → of_z w b ≡ 2 ^ bits w - 1 → refused 4 ≡ quotient_of (bits w) a b
  quotient-too-large fa fb ta tb =
      let ea = bits-of-lowest w a fa ta in
      let eb = bits-of-minus-one w b fb tb in
      sym (by-tests (bits w) a b false (ap is_zero eb) (quotient-out-of-range (bits w) a b (ea ∙ lowest-is w) eb))

  -- b is not 0, and it is not the smallest number by -1: as tests of the bits have it
  module _ (fa : SFits w a) (fb : SFits w b) (n : of_z w b ≡ 0 → ⊥) (o : (of_z w b ≡ 2 ^ bits w - 1 → ⊥) ⊎ (of_z w a ≡ 2 ^ hbits w → ⊥)) where
    read : quot_z (to_z w (of_z w a)) (to_z w (of_z w b)) ≡ quot_z a b
    read = ap₂ quot_z (to_z-of_z fa) (to_z-of_z fb)

    apart : (b ≢ negsuc 0) ⊎ (a ≢ lowest w)
    apart = ⊎_elim (λ m. inl (not-minus-one w b m)) (λ m. inr (not-lowest w a m)) o

    fits : SFits w (quot_z a b)
    fits = record { sfits = quotient-fits (2 ^ hbits w) a b fa.sfits apart }

    pub division-allowed : (0 < of_z w b) × SFits w (quot_z (to_z w (of_z w a)) (to_z w (of_z w b)))
    division-allowed = (omega arith, subst (SFits w) (sym read) fits)

    pub quotient-is : number (to_z w (of_z w (quot_z (to_z w (of_z w a)) (to_z w (of_z w b))))) ≡ quotient_of (bits w) a b
    quotient-is =
        let o = subst (λ z. (b ≢ negsuc 0) ⊎ (a ≢ z)) (lowest-is w) apart in
        let r = quotient-in-range (bits w) a b (fits-range w a fa) o in
        ap number (ap (λ q. to_z w (of_z w q)) read ∙ to_z-of_z fits ∙ sym (rust-div-is a b))
        ∙ sym (by-tests (bits w) a b true (zero-or-not b (not-zero w b n)) r)

  pub remainder-is : SFits w a → SFits w b → (of_z w b ≡ 0 → ⊥) → number (to_z w (of_z w (rem_z (to_z w (of_z w a)) (to_z w (of_z w b))))) ≡ remainder_of a b
  unfolding remainder_of
  remainder-is fa fb n =
      let fits : SFits w (rem_z a b) = record { sfits = lt_of_le_of_lt (mag_rem a b) fa.sfits } in
      ap number (ap (λ r. to_z w (of_z w r)) (ap₂ rem_z (to_z-of_z fa) (to_z-of_z fb)) ∙ to_z-of_z fits ∙ sym (rust-rem-is a b))
      ∙ sym (ap (λ z. cond z (refused 1) (number (rust_rem a b))) (zero-or-not b (not-zero w b n)))

-- by -1 nothing is left, also of the smallest number
rem-minus-one : (a : ℤ) → rem_z a (negsuc 0) ≡ pos 0
rem-minus-one (pos a) = ap pos (mod-one a)
rem-minus-one (negsuc a) = ap (λ r. neg_ℤ (pos r)) (mod-one (suc a))

pub by-minus-one-leaves-0 : (a : ℤ) → remainder_of a (negsuc 0) ≡ number (pos 0)
unfolding remainder_of
by-minus-one-leaves-0 a = ap number (rust-rem-is a (negsuc 0) ∙ rem-minus-one a)

pub remainder-by-minus-one
    : (w : Width) (a b : ℤ) → SFits w b → of_z w b ≡ 2 ^ bits w - 1 → number (pos 0) ≡ remainder_of a b
remainder-by-minus-one w a b f t =
    sym (ap (remainder_of a) (bits-of-minus-one w b f t) ∙ by-minus-one-leaves-0 a)
