-- The order of sign and bits: where each float stands in it, and the way back from there.
-- Assumes nothing.
use mathlib.Core.Path.{◌≡◌, refl, ap, sym, ◌∙◌, subst}
use mathlib.Core.Bool.{Bool, true, false, not, cond, false≢true}
use Prim.Native.Nat.{ℕ, ◌+◌, ◌-◌, ◌%◌, ◌^◌, ◌≤◌, ◌<◌}
use native.Mathlib.Decide.{dec_lt, ℕ_discrete}
use native.Mathlib.Omega.{arith}
use borrow.Author.Tests.{le-ltb, ltb-false, le-leb, lt-leb}
use lib.Dec.{T, leb, ltb}
use lib.Ieee.{Float, nan, inf, fin, binary32, fits, is_nan, nan_bits, of_bits}
use lib.Ieee.Bits.{of_bits-to_bits, to_bits-of_bits, to_bits-lt, nan_bits_is, nan_bits_above}
use lib.Ieee.Exact.{HasValue}
use Rattle.reading.specs.Reading.{usable}
use Rattle.reading.specs.Order.{bits_of, rank_of, rank, bits_of_rank}
use Rattle.reading.proofs.Sizes.{size_of, finite-size, infinite-bits}

-- ---- ranks and bits

module _ (b : ℕ) where
  pub unsigned-rank : b < 2147483648 → rank_of b ≡ 2147483648 + b
  unfolding rank_of
  unsigned-rank h = ap (λ t. cond t (4294967296 - b) (2147483648 + b)) (lt-leb 2147483648 b h)

  pub signed-rank : 2147483648 ≤ b → rank_of b ≡ 4294967296 - b
  unfolding rank_of
  signed-rank h = ap (λ t. cond t (4294967296 - b) (2147483648 + b)) (le-leb 2147483648 b h)

module _ (r : ℕ) where
  pub upper-bits : 2147483648 ≤ r → bits_of_rank r ≡ r - 2147483648
  unfolding bits_of_rank
  upper-bits h = ap (λ t. cond t (r - 2147483648) (4294967296 - r)) (le-leb 2147483648 r h)

  pub lower-bits : r < 2147483648 → bits_of_rank r ≡ 4294967296 - r
  unfolding bits_of_rank
  lower-bits h = ap (λ t. cond t (r - 2147483648) (4294967296 - r)) (lt-leb 2147483648 r h)

-- the bits of a rank that isn't the zeros' are the ones with it
pub bits-back : (b : ℕ) → b < 4294967296 → (rank_of b ≡ 2147483648 → ⊥) → bits_of_rank (rank_of b) ≡ b
bits-back b h n =
    elim (dec_lt b 2147483648) [
      | yes l ↦
          let e = unsigned-rank b l in
          let u = upper-bits (rank_of b) (omega arith) in omega arith
      | no l ↦
          let g : 2147483648 ≤ b = omega arith in
          let e = signed-rank b g in
          let d : rank_of b < 2147483648 = elim (ℕ_discrete (rank_of b) 2147483648) [ yes p ↦ absurd (n p) | no q ↦ omega arith ] in
          let u = lower-bits (rank_of b) d in omega arith
    ]

-- ---- a float's standing

-- bits with this sign and this rest
abbrev signed : Bool → ℕ → ℕ
signed s body = cond s (2147483648 + body) body

-- where they stand
abbrev pub placed : Bool → ℕ → ℕ
placed s body = cond s (2147483648 - body) (2147483648 + body)

placed-is : (s : Bool) (body : ℕ) → body < 2147483648 → rank_of (signed s body) ≡ placed s body
placed-is true body h = let b = 2147483648 + body in signed-rank b (omega arith) ∙ omega arith
placed-is false body h = unsigned-rank body h

pub data Standing (x : Float) : Type 0 where
  finite
      : (s : Bool) (body : ℕ) → body < 2139095040 → HasValue x s (size_of body) (2 ^ 149) → rank x ≡ placed s body →
      Standing x
  infinite : (s : Bool) → x ≡ inf s → rank x ≡ placed s 2139095040 → Standing x

split : (b : ℕ) → b < 4294967296 → b ≡ signed (leb 2147483648 b) (b % 2147483648)
split b h =
    elim (dec_lt b 2147483648) [
      | yes l ↦ let e : b ≡ b % 2147483648 = omega arith in e ∙ sym (ap (λ t. signed t (b % 2147483648)) (lt-leb 2147483648 b l))
      | no l ↦
          let g : 2147483648 ≤ b = omega arith in
          let e : b ≡ 2147483648 + b % 2147483648 = omega arith in
          e ∙ sym (ap (λ t. signed t (b % 2147483648)) (le-leb 2147483648 b g))
    ]

module _ (x : Float) (fitting : T (fits binary32 x)) where
  pub bits-below : bits_of x < 4294967296
  bits-below = to_bits-lt binary32 x fitting

  pub back-from-bits : of_bits binary32 (bits_of x) ≡ x
  back-from-bits = of_bits-to_bits binary32 x fitting

  module _ (number : is_nan x ≡ false) where
    within : bits_of x % 2147483648 ≤ 2139095040
    within =
        let b = bits_of x in
        let n : ltb 2139095040 (b % 2147483648) ≡ false =
        sym (nan_bits_above binary32 b) ∙ nan_bits_is binary32 b ∙ ap is_nan back-from-bits ∙ number in
        ltb-false 2139095040 (b % 2147483648) n

    placed-rank : rank x ≡ placed (leb 2147483648 (bits_of x)) (bits_of x % 2147483648)
    placed-rank =
        let b = bits_of x in
        let h : b % 2147483648 < 2147483648 = omega arith in
        ap rank_of (split b bits-below) ∙ placed-is (leb 2147483648 b) (b % 2147483648) h

    pub standing : Standing x
    standing =
        let b = bits_of x in
        let s = leb 2147483648 b in
        elim (ℕ_discrete (b % 2147483648) 2139095040) [
          | yes e ↦
              infinite s (sym back-from-bits ∙ infinite-bits b e) (placed-rank ∙ ap (placed s) e)
          | no n ↦
              let h : b % 2147483648 < 2139095040 = omega (arith, within) in
              finite s (b % 2147483648) h
              (subst (λ y. HasValue y s (size_of (b % 2147483648)) (2 ^ 149)) back-from-bits (finite-size b h)) placed-rank
        ]

-- ---- usable readings

-- the float that bits make has these bits, unless it is NaN
pub bits-of-made : (b : ℕ) → b < 4294967296 → nan_bits binary32 b ≡ false → bits_of (of_bits binary32 b) ≡ b
bits-of-made b h n = to_bits-of_bits binary32 b h (subst (λ t. T (not t)) (sym (sym (nan_bits_is binary32 b) ∙ n)) tt)

pub no-nan : (x : Float) → usable x ≡ true → is_nan x ≡ false
unfolding usable is_nan
no-nan (fin s m e) u = refl
no-nan (inf s) u = refl
no-nan nan u = absurd (false≢true u)

-- a usable reading lies between the infinities, so 0 is no usable reading's rank
pub usable-rank
    : (x : Float) → T (fits binary32 x) → usable x ≡ true → (8388609 ≤ rank x) × (rank x ≤ 4286578687)
usable-rank x fitting u =
    elim (standing x fitting (no-nan x u)) [
      | finite s body h v p ↦ bounds s body h p
      | infinite s e p ↦ absurd (not-usable s (sym (ap usable e) ∙ u))
    ]
  where
    bounds
        : (s : Bool) (body : ℕ) → body < 2139095040 → rank x ≡ placed s body →
        (8388609 ≤ rank x) × (rank x ≤ 4286578687)
    bounds true body h p = (omega arith, omega arith)
    bounds false body h p = (omega arith, omega arith)

    not-usable : (s : Bool) → usable (inf s) ≡ true → ⊥
    not-usable s e = unfold usable in false≢true e

-- ---- from a rank back to the float

-- one that isn't a zero is the float that its rank's bits make
pub float-of-rank
    : (x : Float) (r : ℕ) → T (fits binary32 x) → rank x ≡ r → (r ≡ 2147483648 → ⊥) → of_bits binary32 (bits_of_rank r) ≡ x
float-of-rank x r fitting e n =
    ap (of_bits binary32) (ap bits_of_rank (sym e) ∙ bits-back (bits_of x) (bits-below x fitting) (λ z. n (sym e ∙ z)))
    ∙ back-from-bits x fitting

-- so bits of one rank are the same, but for the zeros'
pub same-bits
    : (a b : ℕ) → a < 4294967296 → b < 4294967296 → rank_of a ≡ rank_of b → (rank_of a ≡ 2147483648 → ⊥) → a ≡ b
same-bits a b h k e n = sym (bits-back a h n) ∙ ap bits_of_rank e ∙ bits-back b k (λ z. n (e ∙ z))

-- from one infinity's rank to the other's there is no NaN
pub rank-not-nan : (r : ℕ) → 8388608 ≤ r → r ≤ 4286578688 → nan_bits binary32 (bits_of_rank r) ≡ false
rank-not-nan r h k =
    nan_bits_above binary32 (bits_of_rank r)
    ∙ le-ltb 2139095040 (bits_of_rank r % 2147483648)
    (elim (dec_lt r 2147483648) [
      | yes l ↦ let e = lower-bits r l in omega arith
      | no l ↦ let g : 2147483648 ≤ r = omega arith in let e = upper-bits r g in omega arith
    ])
