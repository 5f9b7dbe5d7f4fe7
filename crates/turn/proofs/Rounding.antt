-- A float from 0 on and below 16,777,216 is whole exactly when it is what a sum with 8,388,608 keeps of it: from
-- 8,388,608 on a float that fits has no fraction, so such a sum is a whole number, and taking 8,388,608 away again is
-- exact.
-- Assumes nothing.
use mathlib.Core.Path.{◌≡◌, refl, ap, ap₂, sym, ◌∙◌, subst}
use mathlib.Core.Logic.{inl}
use mathlib.Core.Bool.{Bool, true, false, cond, ◌&&◌, ◌||◌, true≢false, false≢true}
use Prim.Native.Nat.{ℕ, zero, suc, ◌+◌, ◌-◌, ◌*◌, ◌%◌, ◌^◌, ◌≤◌, ◌<◌}
use native.Mathlib.Nat.{eq_of_mul-eq-mul_right, lt_of_mul-lt-mul_right, mul-pos, zero-lt-suc, pow-succ'}
use native.Mathlib.Decide.{ℕ_discrete, dec_lt}
use native.Mathlib.Omega.{arith}
use borrow.Author.Tests.{eq-eqb, ne_eqb, lt-ltb, le-ltb, le-leb, lt-leb, eqb-true, ltb-true}
use lib.Dec.{T, eqb, ltb, leb, ltb→lt, lit≤, lit<}
use lib.IntN.{ℤ, pos, negsuc}
use lib.Pow.{pow_pos}
use lib.Ieee.{Float, nan, inf, fin, binary32, up, down, round, sum, add, sub, lt, eq, le, fits}
use lib.Ieee.Fits.{up_pos, down_pos, round-fits, and_l, and_r}
use lib.Ieee.Exact.{HasValue}
use lib.Ieee.Order.{round_mono}
use lib.Ieee.Scale.{round_same}
use lib.Ieee.Positive.{num, den, positive, between, positive_of_value, own_value, values_of_le}
use lib.Ieee.Back.{round_whole}
use Rattle.places.proofs.Every.{both-hold, same-truth}
use Rattle.turn.specs.Wholes.{is_whole, value_of, room, rounded_of}
use Rattle.turn.proofs.Values.{and-true, nought, one-zero, equal-whole, whole-equal, numbers-lt, numbers-eq}

-- ---- comparisons of floats without a sign

at-most : (a b : ℕ) → (ltb a b || (eqb a b && true)) ≡ leb a b
at-most a b =
    elim (dec_lt b a) [
      | yes h ↦
          ap₂ (λ s t. s || (t && true)) (le-ltb a b (omega arith)) (ne_eqb a b (λ e. omega arith)) ∙ sym (lt-leb a b h)
      | no h ↦
          elim (ℕ_discrete a b) [
            | yes e ↦
                ap₂ (λ s t. s || (t && true)) (le-ltb a b (omega arith)) (eq-eqb a b e)
                ∙ sym (le-leb a b (omega arith))
            | no n ↦ ap (λ s. s || (eqb a b && true)) (lt-ltb a b (omega arith)) ∙ sym (le-leb a b (omega arith))
          ]
    ]

module _ (m n : ℕ) (e d : ℤ) where
  le-is : le (fin false m e) (fin false n d) ≡ leb (m * up e * down d) (n * up d * down e)
  unfolding le
  le-is = at-most (m * up e * down d) (n * up d * down e)

  lt-is : lt (fin false m e) (fin false n d) ≡ ltb (m * up e * down d) (n * up d * down e)
  unfolding lt
  lt-is = refl

  eq-is : eq (fin false m e) (fin false n d) ≡ eqb (m * up e * down d) (n * up d * down e)
  unfolding eq
  eq-is = and-true (eqb (m * up e * down d) (n * up d * down e))

-- ---- from 8,388,608 on there is no fraction

short : (s : Bool) (m : ℕ) (e : ℤ) → T (fits binary32 (fin s m e)) → m < 16777216
unfolding fits
short s zero e t = omega arith
short s (suc m) e t =
    let a = eqb (suc m % 2) 1 in
    let b = ltb (suc m) 16777216 in
    let c = leb (down e) (2 ^ 149) in
    let d = ltb (suc m * up e) (2 ^ 128 * down e) in
    ltb→lt (suc m) 16777216 (and_r a b (and_l (a && b) c (and_l (a && b && c) d t)))

no-fraction
    : (s : Bool) (m : ℕ) (e : ℤ) → T (fits binary32 (fin s m e)) → 8388608 * down e ≤ m * up e → down e ≡ 1
no-fraction s m (pos k) t h = refl
no-fraction s m (negsuc k) t h = absurd (omega (arith, short s m (negsuc k) t, pow-succ' 2 k, pow_pos k))

-- ---- a sum with 8,388,608

landed
    : (y : Float) → T (fits binary32 y) → T (positive y) → 8388608 * den y ≤ num y * 1 → num y * 1 ≤ 16777216 * den y →
    (w : ℕ) × HasValue y false w 1 × (8388608 ≤ w) × (w ≤ 16777216)
landed nan t p l h = absurd p
landed (inf s) t p l h = absurd p
landed (fin true n d) t p l h = absurd p
landed (fin false n d) t p l h =
    let o = no-fraction false n d t (omega arith) in
    let v : n * up d * 1 ≡ n * up d * down d = ap (λ k. n * up d * k) (sym o) in
    let g : n * up d ≤ 16777216 * 1 = subst (λ k. n * up d ≤ 16777216 * k) o (omega arith) in
    let f : 8388608 * 1 ≤ n * up d = subst (λ k. 8388608 * k ≤ n * up d) o (omega arith) in
    (n * up d, (refl, v), omega arith, omega arith)

module _ (m : ℕ) (e : ℤ) where
  abbrev a : ℕ
  a = m * up e

  abbrev c : ℕ
  c = down e

  sum-is : add binary32 (fin false m e) room ≡ round binary32 false (a + 8388608 * c) c
  unfolding add sum
  sum-is =
      let p = down_pos e in
      round_same binary32 false (a * 1 + 1 * 8388608 * c) (c * 1) (a + 8388608 * c) c (omega arith) p (omega arith)

  -- below 8,388,608 it is a whole number from there to twice it
  sum-whole
      : a < 8388608 * c →
      (w : ℕ) × HasValue (add binary32 (fin false m e) room) false w 1 × (8388608 ≤ w) × (w ≤ 16777216)
  sum-whole h =
      let p = down_pos e in
      let lo = round binary32 false 8388608 1 in
      let hi = round binary32 false 16777216 1 in
      let y = round binary32 false (a + 8388608 * c) c in
      let lov : HasValue lo false 8388608 1 = round_whole binary32 false 8388608 (lit≤ tt) in
      let hiv : HasValue hi false 16777216 1 = round_whole binary32 false 16777216 (lit≤ tt) in
      let lop = positive_of_value lo 8388608 1 lov (lit< tt) in
      let hip = positive_of_value hi 16777216 1 hiv (lit< tt) in
      let l = round_mono binary32 8388608 1 (a + 8388608 * c) c (lit< tt) p (omega arith) in
      let g = round_mono binary32 (a + 8388608 * c) c 16777216 1 p (lit< tt) (omega arith) in
      let yp = between lo y hi lop hip l g in
      let yv = own_value y yp in
      let r = landed y (round-fits binary32 false (a + 8388608 * c) c) yp
      (values_of_le lo y 8388608 1 (num y) (den y) lop yp lov yv l)
      (values_of_le y hi (num y) (den y) 16777216 1 yp hip yv hiv g) in
      (r.0, subst (λ z. HasValue z false r.0 1) (sym sum-is) r.1, r.2, r.3)

  -- and exact for a whole number
  sum-exact
      : (k : ℕ) → a ≡ k * c → k ≤ 8388608 → HasValue (add binary32 (fin false m e) room) false (k + 8388608) 1
  sum-exact k v h =
      let p = down_pos e in
      subst (λ z. HasValue z false (k + 8388608) 1)
      (sym (sum-is ∙ round_same binary32 false (a + 8388608 * c) c (k + 8388608) 1 p (lit< tt) (omega arith)))
      (round_whole binary32 false (k + 8388608) (omega arith))

-- ---- 8,388,608 taken away again

rest-is
    : (n : ℕ) (d : ℤ) (w : ℕ) → n * up d * 1 ≡ w * down d → 8388608 ≤ w →
    sub binary32 (fin false n d) room ≡ round binary32 false (w - 8388608) 1
unfolding sub sum
rest-is n d w v l =
    let p = down_pos d in
    let x = n * up d * 1 in
    let y = 1 * 8388608 * down d in
    let rest : w ≡ w - 8388608 + 8388608 = omega arith in
    let e : x ≡ (w - 8388608 + 8388608) * down d = v ∙ ap (λ w. w * down d) rest in
    ap (λ t. cond t (round binary32 true (y - x) (down d * 1)) (round binary32 false (x - y) (down d * 1)))
    (le-ltb x y (omega arith))
    ∙ round_same binary32 false (x - y) (down d * 1) (w - 8388608) 1 (omega arith) (lit< tt) (omega arith)

rest-exact
    : (y : Float) (w : ℕ) → HasValue y false w 1 → 8388608 ≤ w → w ≤ 16777216 →
    HasValue (sub binary32 y room) false (w - 8388608) 1
rest-exact nan w v l h = absurd v
rest-exact (inf s) w v l h = absurd v
rest-exact (fin true n d) w v l h = absurd (true≢false v.0)
rest-exact (fin false n d) w v l h =
    subst (λ z. HasValue z false (w - 8388608) 1) (sym (rest-is n d w v.1 l))
    (round_whole binary32 false (w - 8388608) (omega arith))

-- ---- what is kept, compared with the float

same-number
    : (r : Float) (v m : ℕ) (e : ℤ) → HasValue r false v 1 → eq r (fin false m e) ≡ eqb (m * up e) (v * down e)
same-number nan v m e q = absurd q
same-number (inf s) v m e q = absurd q
same-number (fin true n d) v m e q = absurd (true≢false q.0)
same-number (fin false n d) v m e q =
    let p = down_pos d in
    let h = ap (λ k. k * down e) q.1 in
    eq-is n m d e
    ∙ elim (ℕ_discrete (m * up e) (v * down e)) [
      | yes o ↦
          let g = ap (λ k. k * down d) o in
          eq-eqb (n * up d * down e) (m * up e * down d) (omega arith) ∙ sym (eq-eqb (m * up e) (v * down e) o)
      | no o ↦
          ne_eqb (n * up d * down e) (m * up e * down d)
          (λ f. o (eq_of_mul-eq-mul_right (down d) p (m * up e) (v * down e) (omega arith)))
          ∙ sym (ne_eqb (m * up e) (v * down e) o)
    ]

-- ---- the test

module _ (m : ℕ) (e : ℤ) where
  abbrev x : Float
  x = fin false m e

  abbrev kept : Float
  kept = sub binary32 (add binary32 x room) room

  module _ (h : m * up e < 8388608 * down e) where
    kept-whole : eq kept x ≡ true → is_whole x ≡ true
    kept-whole k =
        let s = sum-whole m e h in
        let v = s.0 - 8388608 in
        let r = rest-exact (add binary32 x room) s.0 s.1 s.2 s.3 in
        equal-whole x v
        (eqb-true (m * up e) (v * down e) (sym (same-number kept v m e r) ∙ k), inl refl)
        (omega (arith, s.3))

    whole-kept : is_whole x ≡ true → eq kept x ≡ true
    whole-kept w =
        let k = value_of x in
        let v = (whole-equal x w).0.0 in
        let b = lt_of_mul-lt-mul_right (down e) (subst (λ a. a < 8388608 * down e) v h) in
        let s = sum-exact m e k v (omega arith) in
        let r = rest-exact (add binary32 x room) (k + 8388608) s (omega arith) (omega arith) in
        let o : k ≡ k + 8388608 - 8388608 = omega arith in
        same-number kept (k + 8388608 - 8388608) m e r
        ∙ eq-eqb (m * up e) ((k + 8388608 - 8388608) * down e) (v ∙ ap (λ k. k * down e) o)

  -- from 8,388,608 on it is whole
  large-whole
      : T (fits binary32 x) → m * up e < 16777216 * down e → 8388608 * down e ≤ m * up e → is_whole x ≡ true
  large-whole t h l =
      let o = no-fraction false m e t l in
      let a : m * up e ≡ m * up e * down e = omega (arith, ap (λ k. m * up e * k) o) in
      let b = subst (λ k. m * up e < 16777216 * k) o h in equal-whole x (m * up e) (a, inl refl) (omega arith)

  rounded-test
      : T (fits binary32 x) → m * up e < 16777216 * down e → eq (rounded_of x) x ≡ is_whole x
  rounded-test t h =
      elim (dec_lt (m * up e) (8388608 * down e)) [
        | yes b ↦
            ap (λ t. eq (cond t x kept) x)
            (le-is 1 m (pos 23) e ∙ lt-leb (1 * 8388608 * down e) (m * up e * 1) (omega arith))
            ∙ same-truth (eq kept x) (is_whole x) (kept-whole b) (whole-kept b)
        | no b ↦
            let l : 8388608 * down e ≤ m * up e = omega arith in
            ap (λ t. eq (cond t x kept) x)
            (le-is 1 m (pos 23) e ∙ le-leb (1 * 8388608 * down e) (m * up e * 1) (omega arith))
            ∙ eq-is m m e e
            ∙ eq-eqb (m * up e * down e) (m * up e * down e) refl
            ∙ sym (large-whole t h l)
      ]

-- 16,777,216
abbrev pub limit : Float
limit = fin false 1 (pos 24)

negative-zero : eq (rounded_of (fin true 0 (pos 0))) (fin true 0 (pos 0)) ≡ is_whole (fin true 0 (pos 0))
unfolding le sub sum round is_whole
negative-zero = refl

pub test-is
    : (x : Float) → T (fits binary32 x) → le nought x ≡ true → lt x limit ≡ true → eq (rounded_of x) x ≡ is_whole x
unfolding le lt
test-is nan t l h = absurd (false≢true l)
test-is (inf true) t l h = absurd (false≢true l)
test-is (inf false) t l h = absurd (false≢true h)
test-is (fin true zero e) t l h =
    subst (λ e. eq (rounded_of (fin true 0 e)) (fin true 0 e) ≡ is_whole (fin true 0 e)) (sym (one-zero true e t))
    negative-zero
test-is (fin true (suc m) e) t l h =
    let a = suc m * up e * 1 in
    let z = eqb-true (0 * down e) a (both-hold (eqb (0 * down e) a) (eqb (0 * down e) 0) l).0 in
    absurd (omega (arith, mul-pos (zero-lt-suc m) (up_pos e)))
test-is (fin false m e) t l h =
    let b = ltb-true (m * up e * 1) (1 * 16777216 * down e) h in
    rounded-test m e t (omega arith)

-- ---- where the test isn't reached

pub below-nought : (x : Float) → le nought x ≡ false → false ≡ is_whole x
unfolding le
below-nought x l = same-truth false (is_whole x) (λ f. absurd (false≢true f)) only
  where
    only : is_whole x ≡ true → false ≡ true
    only w =
        let q = (whole-equal x w).0 in
        let n = value_of x in
        sym l
        ∙ ap₂ ◌||◌ (numbers-lt nought x 0 n (refl, inl refl) q) (numbers-eq nought x 0 n (refl, inl refl) q)
        ∙ elim (ℕ_discrete n 0) [
          | yes z ↦ ap₂ ◌||◌ (le-ltb 0 n (omega arith)) (eq-eqb 0 n (sym z))
          | no z ↦ ap (λ t. t || eqb 0 n) (lt-ltb 0 n (omega arith))
        ]

pub past-limit : (x : Float) → lt x limit ≡ false → false ≡ is_whole x
past-limit x l = same-truth false (is_whole x) (λ f. absurd (false≢true f)) only
  where
    only : is_whole x ≡ true → false ≡ true
    only w =
        let q = whole-equal x w in
        sym l
        ∙ numbers-lt x limit (value_of x) 16777216 q.0 (refl, inl refl)
        ∙ lt-ltb (value_of x) 16777216 q.1
