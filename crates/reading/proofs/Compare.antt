-- The order of sign and bits is the machine's comparison for floats that aren't NaN.
-- Assumes nothing.
use mathlib.Core.Path.{◌≡◌, refl, ap, ap₂, sym, ◌∙◌}
use mathlib.Core.Bool.{Bool, true, false, beq, ◌&&◌, ◌||◌, and-true, and-false, or-false}
use Prim.Native.Nat.{ℕ, ◌+◌, ◌-◌, ◌*◌, ◌^◌, ◌≤◌, ◌<◌}
use native.Mathlib.Nat.{mul-pos, mul_comm, mul_assoc, mul_right_comm}
use native.Mathlib.Nat.{mul-lt-mul_of_pos_right, lt_of_mul-lt-mul_right, eq_of_mul-eq-mul_right}
use lib.IntN.{ℤ}
use native.Mathlib.Decide.{dec_lt, ℕ_discrete}
use native.Mathlib.Omega.{arith}
use borrow.Author.Tests.{lt-ltb, le-ltb, eq-eqb, ne_eqb}
use lib.Dec.{T, ltb, eqb}
use lib.Pow.{pow_pos}
use lib.Ieee.{Float, inf, fin, binary32, up, down, below, level, lt, eq, fits, is_nan, nan_bits, of_bits}
use lib.Ieee.Bits.{of_bits-fits, nan_bits_is}
use lib.Ieee.Exact.{HasValue}
use lib.Ieee.Fits.{down_pos}
use Rattle.reading.specs.Order.{rank_of, rank, before}
use Rattle.reading.proofs.Sizes.{size_of, larger-size, no-size}
use Rattle.reading.proofs.Order.{finite, infinite, standing, placed, unsigned-rank, bits-of-made}

-- ---- numbers that stand to each other as two others do

record Alike (x y a b : ℕ) : Type 0 where
  rises : x < y → a < b
  falls : y < x → b < a
  stays : x ≡ y → a ≡ b

module _ {x y a b : ℕ} (alike : Alike x y a b) where
  same-below : ltb x y ≡ ltb a b
  same-below =
      elim (dec_lt x y) [
        | yes h ↦ lt-ltb x y h ∙ sym (lt-ltb a b (alike.rises h))
        | no h ↦
            let l : b ≤ a =
            elim (ℕ_discrete x y) [
              | yes e ↦ let f = alike.stays e in omega arith
              | no n ↦ let f = alike.falls (omega arith) in omega arith
            ] in
            le-ltb x y (omega arith) ∙ sym (le-ltb a b l)
      ]

  same-level : eqb x y ≡ eqb a b
  same-level =
      elim (ℕ_discrete x y) [
        | yes e ↦ eq-eqb x y e ∙ sym (eq-eqb a b (alike.stays e))
        | no n ↦
            elim (dec_lt x y) [
              | yes h ↦ let f = alike.rises h in ne_eqb x y n ∙ sym (ne_eqb a b (λ e. omega arith))
              | no h ↦ let f = alike.falls (omega arith) in ne_eqb x y n ∙ sym (ne_eqb a b (λ e. omega arith))
            ]
      ]

turned-round : {x y a b : ℕ} → Alike x y a b → Alike y x b a
turned-round alike = record { rises = alike.falls; falls = alike.rises; stays = λ e. sym (alike.stays (sym e)) }

swapped-level : (x y : ℕ) → eqb x y ≡ eqb y x
swapped-level x y =
    elim (ℕ_discrete x y) [
      | yes e ↦ eq-eqb x y e ∙ sym (eq-eqb y x (sym e))
      | no n ↦ ne_eqb x y n ∙ sym (ne_eqb y x (λ e. n (sym e)))
    ]

-- in proportion
smaller-part : (c k x y a b : ℕ) → 0 < c → x * c ≡ a * k → y * c ≡ b * k → x < y → a < b
smaller-part c k x y a b some p q h =
    let l : x * c < y * c = mul-lt-mul_of_pos_right h some in
    let m : a * k < b * k = omega arith in
    lt_of_mul-lt-mul_right k m

proportion : (c k x y a b : ℕ) → 0 < c → 0 < k → x * c ≡ a * k → y * c ≡ b * k → Alike x y a b
proportion c k x y a b some more p q =
    record {
      rises = smaller-part c k x y a b some p q;
      falls = smaller-part c k y x b a some q p;
      stays = λ e. eq_of_mul-eq-mul_right k more a b (sym p ∙ ap (λ z. z * c) e ∙ q);
    }

-- two bodies by their sizes
sizes : (a b : ℕ) → Alike a b (size_of a) (size_of b)
sizes a b = record { rises = larger-size a b; falls = larger-size b a; stays = ap size_of }

some-size : (a : ℕ) → 0 < a → 0 < size_of a
some-size a h = let l = larger-size 0 a h in omega (arith, no-size)

-- ---- the machine's comparison by sign and size

module _ (c : ℕ) (some : 0 < c) where
  module _ (m : ℕ) (e : ℤ) (n : ℕ) (d : ℤ) (a b : ℕ) (p : m * up e * c ≡ a * down e) (q : n * up d * c ≡ b * down d) where
    crossed-left : m * up e * down d * c ≡ a * (down e * down d)
    crossed-left = mul_right_comm (m * up e) (down d) c ∙ ap (λ z. z * down d) p ∙ mul_assoc a (down e) (down d)

    crossed-right : n * up d * down e * c ≡ b * (down e * down d)
    crossed-right =
        mul_right_comm (n * up d) (down e) c
        ∙ ap (λ z. z * down e) q
        ∙ mul_assoc b (down d) (down e)
        ∙ ap (λ z. b * z) (mul_comm (down d) (down e))

    crossed : Alike (m * up e * down d) (n * up d * down e) a b
    crossed =
        proportion c (down e * down d) (m * up e * down d) (n * up d * down e) a b some
        (mul-pos (down_pos e) (down_pos d)) crossed-left crossed-right

    crossed-sum : Alike 0 (m * up e * down d + n * up d * down e) 0 (a + b)
    crossed-sum =
        let k = down e * down d in
        let x = m * up e * down d in
        let y = n * up d * down e in
        let f : x * c ≡ a * k = crossed-left in
        let g : y * c ≡ b * k = crossed-right in
        proportion c k 0 (x + y) 0 (a + b) some (mul-pos (down_pos e) (down_pos d)) (omega arith) (omega arith)

    signs-below : (s t : Bool) → below s (m * up e * down d) t (n * up d * down e) ≡ below s a t b
    signs-below false false = same-below crossed
    signs-below false true = refl
    signs-below true false = same-below crossed-sum
    signs-below true true = same-below (turned-round crossed)

    signs-level : (s t : Bool) → level s (m * up e * down d) t (n * up d * down e) ≡ level s a t b
    signs-level s t =
        ap₂ (λ u v. u && (beq s t || v)) (same-level crossed)
        (same-level
        (proportion c (down e * down d) (m * up e * down d) 0 a 0 some (mul-pos (down_pos e) (down_pos d)) crossed-left (omega arith)))

  lt-finite : (x y : Float) (s t : Bool) (a b : ℕ) → HasValue x s a c → HasValue y t b c → lt x y ≡ below s a t b
  unfolding lt
  lt-finite (fin u m e) (fin v n d) s t a b (p, f) (q, g) =
      signs-below m e n d a b f g u v ∙ ap₂ (λ u v. below u a v b) p q
  lt-finite lib.Ieee.nan y s t a b x3 _ = elim x3 [ ]
  lt-finite (inf _) y s t a b x5 _ = elim x5 [ ]
  lt-finite (fin u m e) lib.Ieee.nan s t a b _ x8 = elim x8 [ ]
  lt-finite (fin u m e) (inf _) s t a b _ x10 = elim x10 [ ]

  eq-finite : (x y : Float) (s t : Bool) (a b : ℕ) → HasValue x s a c → HasValue y t b c → eq x y ≡ level s a t b
  unfolding eq
  eq-finite (fin u m e) (fin v n d) s t a b (p, f) (q, g) =
      signs-level m e n d a b f g u v ∙ ap₂ (λ u v. level u a v b) p q
  eq-finite lib.Ieee.nan y s t a b x3 _ = elim x3 [ ]
  eq-finite (inf _) y s t a b x5 _ = elim x5 [ ]
  eq-finite (fin u m e) lib.Ieee.nan s t a b _ x8 = elim x8 [ ]
  eq-finite (fin u m e) (inf _) s t a b _ x10 = elim x10 [ ]

-- an infinity is larger than every finite float
module _ (a m : ℕ) (h : a < m) where
  lt-infinite : (s t : Bool) (x : Float) (c : ℕ) → HasValue x s a c → lt x (inf t) ≡ below s a t m
  unfolding lt
  lt-infinite false false (fin u n e) c v = sym (lt-ltb a m h)
  lt-infinite false true (fin u n e) c v = refl
  lt-infinite true false (fin u n e) c v = sym (lt-ltb 0 (a + m) (omega arith))
  lt-infinite true true (fin u n e) c v = sym (le-ltb m a (omega arith))
  lt-infinite false false lib.Ieee.nan c v = elim v [ ]
  lt-infinite false false (inf _) c v = elim v [ ]
  lt-infinite false true lib.Ieee.nan c v = elim v [ ]
  lt-infinite false true (inf _) c v = elim v [ ]
  lt-infinite true false lib.Ieee.nan c v = elim v [ ]
  lt-infinite true false (inf _) c v = elim v [ ]
  lt-infinite true true lib.Ieee.nan c v = elim v [ ]
  lt-infinite true true (inf _) c v = elim v [ ]

  infinite-lt : (s t : Bool) (x : Float) (c : ℕ) → HasValue x t a c → lt (inf s) x ≡ below s m t a
  unfolding lt
  infinite-lt false false (fin u n e) c v = sym (le-ltb m a (omega arith))
  infinite-lt false true (fin u n e) c v = refl
  infinite-lt true false (fin u n e) c v = sym (lt-ltb 0 (m + a) (omega arith))
  infinite-lt true true (fin u n e) c v = sym (lt-ltb a m h)
  infinite-lt false false lib.Ieee.nan c v = elim v [ ]
  infinite-lt false false (inf _) c v = elim v [ ]
  infinite-lt false true lib.Ieee.nan c v = elim v [ ]
  infinite-lt false true (inf _) c v = elim v [ ]
  infinite-lt true false lib.Ieee.nan c v = elim v [ ]
  infinite-lt true false (inf _) c v = elim v [ ]
  infinite-lt true true lib.Ieee.nan c v = elim v [ ]
  infinite-lt true true (inf _) c v = elim v [ ]

  eq-infinite : (s t : Bool) (x : Float) (c : ℕ) → HasValue x s a c → eq x (inf t) ≡ level s a t m
  unfolding eq
  eq-infinite s t (fin u n e) c v = sym (ap (λ r. r && (beq s t || eqb a 0)) (ne_eqb a m (λ e. omega arith)))
  eq-infinite s t lib.Ieee.nan c v = elim v [ ]
  eq-infinite s t (inf _) c v = elim v [ ]

  infinite-eq : (s t : Bool) (x : Float) (c : ℕ) → HasValue x t a c → eq (inf s) x ≡ level s m t a
  unfolding eq
  infinite-eq s t (fin u n e) c v = sym (ap (λ r. r && (beq s t || eqb m 0)) (ne_eqb m a (λ e. omega arith)))
  infinite-eq s t lib.Ieee.nan c v = elim v [ ]
  infinite-eq s t (inf _) c v = elim v [ ]

module _ (m : ℕ) (h : 0 < m) where
  infinities-lt : (s t : Bool) → lt (inf s) (inf t) ≡ below s m t m
  unfolding lt
  infinities-lt false false = sym (le-ltb m m (omega arith))
  infinities-lt false true = refl
  infinities-lt true false = sym (lt-ltb 0 (m + m) (omega arith))
  infinities-lt true true = sym (le-ltb m m (omega arith))

  infinities-eq : (s t : Bool) → eq (inf s) (inf t) ≡ level s m t m
  unfolding eq
  infinities-eq s t =
      sym (ap₂ (λ u v. u && (beq s t || v)) (eq-eqb m m refl) (ne_eqb m 0 (λ e. omega arith)) ∙ or-false (beq s t))

-- ---- and by rank

module _ (a b : ℕ) (h : a ≤ 2139095040) (k : b ≤ 2139095040) where
  upwards : Alike a b (2147483648 + a) (2147483648 + b)
  upwards = record { rises = λ l. omega arith; falls = λ l. omega arith; stays = λ l. omega arith }

  downwards : Alike b a (2147483648 - a) (2147483648 - b)
  downwards = record { rises = λ l. omega arith; falls = λ l. omega arith; stays = λ l. omega arith }

  apart : Alike 0 (a + b) (2147483648 - a) (2147483648 + b)
  apart = record { rises = λ l. omega arith; falls = λ l. omega arith; stays = λ l. omega arith }

  sizes-apart : Alike 0 (a + b) 0 (size_of a + size_of b)
  sizes-apart = record {
    rises = λ l.
        elim (dec_lt 0 a) [
          | yes m ↦ omega (arith, some-size a m)
          | no n ↦ let m : 0 < b = omega arith in omega (arith, some-size b m)
        ];
    falls = λ l. omega arith;
    stays = λ l.
        let e : a ≡ 0 = omega arith in
        let f : b ≡ 0 = omega arith in
        let g = ap size_of e ∙ no-size in
        let i = ap size_of f ∙ no-size in omega arith;
  }

  below-is : (s t : Bool) → below s (size_of a) t (size_of b) ≡ ltb (placed s a) (placed t b)
  below-is false false = sym (same-below (sizes a b)) ∙ same-below upwards
  below-is false true = sym (le-ltb (2147483648 + a) (2147483648 - b) (omega arith))
  below-is true false = sym (same-below sizes-apart) ∙ same-below apart
  below-is true true = sym (same-below (sizes b a)) ∙ same-below downwards

  -- of two with different signs, which are level only where both are zero
  zeros-level : {x y : ℕ} → Alike 0 (a + b) x y → (eqb (size_of a) (size_of b) && eqb (size_of a) 0) ≡ eqb x y
  zeros-level {x} {y} alike =
      elim (ℕ_discrete a 0) [
        | yes e ↦
            let z = ap size_of e ∙ no-size in
            let f : a + b ≡ b = omega arith in
            ap₂ ◌&&◌ (ap (λ z. eqb z (size_of b)) (z ∙ sym no-size)) (eq-eqb (size_of a) 0 z)
            ∙ and-true (eqb (size_of 0) (size_of b))
            ∙ sym (same-level (sizes 0 b))
            ∙ ap (eqb 0) (sym f)
            ∙ same-level alike
        | no n ↦
            let z = some-size a (omega arith) in
            ap (λ r. eqb (size_of a) (size_of b) && r) (ne_eqb (size_of a) 0 (λ e. omega arith))
            ∙ and-false (eqb (size_of a) (size_of b))
            ∙ sym (ne_eqb 0 (a + b) (λ e. omega arith))
            ∙ same-level alike
      ]

  level-is : (s t : Bool) → level s (size_of a) t (size_of b) ≡ eqb (placed s a) (placed t b)
  level-is false false = and-true (eqb (size_of a) (size_of b)) ∙ sym (same-level (sizes a b)) ∙ same-level upwards
  level-is false true =
      let rest : Alike 0 (a + b) (2147483648 - b) (2147483648 + a) =
      record { rises = λ l. omega arith; falls = λ l. omega arith; stays = λ l. omega arith } in
      zeros-level rest ∙ swapped-level (2147483648 - b) (2147483648 + a)
  level-is true false = zeros-level apart
  level-is true true =
      and-true (eqb (size_of a) (size_of b))
      ∙ swapped-level (size_of a) (size_of b)
      ∙ sym (same-level (sizes b a))
      ∙ same-level downwards

-- ---- of two floats that aren't NaN

module _
    (x y : Float)
    (fitting : T (fits binary32 x))
    (number : is_nan x ≡ false)
    (fitting' : T (fits binary32 y))
    (number' : is_nan y ≡ false)
  where
    abbrev most : ℕ
    most = size_of 2139095040

    -- a comparison that goes by sign and size goes by rank
    module _
        (compared : Bool)
        (by-size : Bool → ℕ → Bool → ℕ → Bool)
        (byRank : ℕ → ℕ → Bool)
        (ranked : (a b : ℕ) → a ≤ 2139095040 → b ≤ 2139095040 → (s t : Bool) → by-size s (size_of a) t (size_of b) ≡ byRank (placed s a) (placed t b))
        (two-finite : (s t : Bool) (a b : ℕ) → HasValue x s a (2 ^ 149) → HasValue y t b (2 ^ 149) → compared ≡ by-size s a t b)
        (first-finite : (s t : Bool) (a : ℕ) → a < most → HasValue x s a (2 ^ 149) → y ≡ inf t → compared ≡ by-size s a t most)
        (second-finite : (s t : Bool) (b : ℕ) → b < most → x ≡ inf s → HasValue y t b (2 ^ 149) → compared ≡ by-size s most t b)
        (two-infinite : (s t : Bool) → x ≡ inf s → y ≡ inf t → compared ≡ by-size s most t most)
      where
        by-rank : compared ≡ byRank (rank x) (rank y)
        by-rank =
            elim (standing x fitting number) [
              | finite s a h v p ↦
                  elim (standing y fitting' number') [
                    | finite t b k w q ↦
                        two-finite s t (size_of a) (size_of b) v w ∙ ranked a b (omega arith) (omega arith) s t ∙ sym (ap₂ byRank p q)
                    | infinite t e q ↦
                        first-finite s t (size_of a) (larger-size a 2139095040 h) v e ∙ ranked a 2139095040 (omega arith) (omega arith) s t ∙ sym (ap₂ byRank p q)
                  ]
              | infinite s e p ↦
                  elim (standing y fitting' number') [
                    | finite t b k w q ↦
                        second-finite s t (size_of b) (larger-size b 2139095040 k) e w ∙ ranked 2139095040 b (omega arith) (omega arith) s t ∙ sym (ap₂ byRank p q)
                    | infinite t f q ↦
                        two-infinite s t e f ∙ ranked 2139095040 2139095040 (omega arith) (omega arith) s t ∙ sym (ap₂ byRank p q)
                  ]
            ]

    -- the machine's `<` is the order of sign and bits
    pub before-is : lt x y ≡ before x y
    before-is =
        by-rank (lt x y) below ltb below-is (λ s t a b v w. lt-finite (2 ^ 149) (pow_pos 149) x y s t a b v w)
        (λ s t a h v e. ap (lt x) e ∙ lt-infinite a most h s t x (2 ^ 149) v)
        (λ s t b h e w. ap (λ z. lt z y) e ∙ infinite-lt b most h s t y (2 ^ 149) w)
        (λ s t e f. ap₂ lt e f ∙ infinities-lt most (some-size 2139095040 (omega arith)) s t)

    -- and its `==` is equality in it
    pub level-with-is : eq x y ≡ eqb (rank x) (rank y)
    level-with-is =
        by-rank (eq x y) level eqb level-is (λ s t a b v w. eq-finite (2 ^ 149) (pow_pos 149) x y s t a b v w)
        (λ s t a h v e. ap (eq x) e ∙ eq-infinite a most h s t x (2 ^ 149) v)
        (λ s t b h e w. ap (λ z. eq z y) e ∙ infinite-eq b most h s t y (2 ^ 149) w)
        (λ s t e f. ap₂ eq e f ∙ infinities-eq most (some-size 2139095040 (omega arith)) s t)

-- ---- zeros

-- a reading with the rank of the zeros is one
pub zero-is
    : (x : Float) → T (fits binary32 x) → is_nan x ≡ false → eq x (of_bits binary32 0) ≡ eqb (rank x) 2147483648
zero-is x fitting number =
    level-with-is x (of_bits binary32 0) fitting number (of_bits-fits binary32 0) (sym (nan_bits_is binary32 0) ∙ zero-number)
    ∙ ap (eqb (rank x)) zero-rank
  where
    zero-number : nan_bits binary32 0 ≡ false
    zero-number = unfold nan_bits in refl

    zero-rank : rank (of_bits binary32 0) ≡ 2147483648
    zero-rank =
        ap rank_of (bits-of-made 0 (omega arith) zero-number) ∙ unsigned-rank 0 (omega arith)
