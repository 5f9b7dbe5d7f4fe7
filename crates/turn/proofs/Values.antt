-- Which floats are whole numbers, in words: `Equals x n`, that x is the whole number n. The order of such floats is
-- that of their numbers.
-- Assumes nothing.
use mathlib.Core.Path.{◌≡◌, refl, ap, ap₂, sym, ◌∙◌}
use mathlib.Core.Logic.{◌⊎◌, inl, inr}
use mathlib.Core.Bool.{Bool, true, false, not, ◌&&◌, ◌||◌, true≢false, false≢true}
use Prim.Native.Nat.{ℕ, zero, suc, ◌+◌, ◌*◌, ◌/◌, ◌%◌, ◌^◌, ◌≤◌, ◌<◌}
use native.Mathlib.Nat.{mul-div_cancel, mul-mod_left, div-add-mod', eq_of_mul-eq-mul_right, zero-mul}
use native.Mathlib.Nat.{mul-lt-mul_of_pos_right, mul-le-mul_right, mul-pos, pow-succ'}
use native.Mathlib.Decide.{ℕ_discrete, dec_lt}
use native.Mathlib.Omega.{arith}
use borrow.Author.Tests.{eq-eqb, ne_eqb, lt-ltb, le-ltb, eqb-true, ltb-true}
use lib.Dec.{T, eqb, ltb, eqb→eq}
use lib.IntN.{ℤ, pos, negsuc}
use lib.Pow.{pow_pos}
use lib.Ieee.{Float, nan, inf, fin, binary32, up, down, below, level, lt, eq, fits}
use lib.Ieee.Fits.{up_pos, down_pos}
use Rattle.places.proofs.Every.{both-hold}
use Rattle.turn.specs.Wholes.{is_whole, value_of, Equals}

pub and-true : (t : Bool) → (t && true) ≡ t
and-true true = refl
and-true false = refl

-- ---- a number of parts of a size

module _ (a n : ℕ) (e : ℤ) (v : a ≡ n * down e) where
  pub parts-over : a % down e ≡ 0
  parts-over = ap (λ a. a % down e) v ∙ mul-mod_left n (down e)

  parts-in : a / down e ≡ n
  parts-in = ap (λ a. a / down e) v ∙ mul-div_cancel n (down_pos e)

pub no-parts : (m u : ℕ) → 0 < u → m * u ≡ 0 → m ≡ 0
no-parts m u p e = eq_of_mul-eq-mul_right u p m 0 (e ∙ sym (zero-mul u))

-- ---- the value in words

abbrev pub nought : Float
nought = fin false 0 (pos 0)

-- a float has one value
pub value-is : (x : Float) (n : ℕ) → Equals x n → value_of x ≡ n
unfolding value_of
value-is nan n q = absurd q
value-is (inf s) n q = absurd q
value-is (fin s m e) n (v, z) = parts-in (m * up e) n e v

-- a sign only where the number is 0
unsigned : (s : Bool) (m n : ℕ) (e : ℤ) → m * up e ≡ n * down e → (s ≡ false) ⊎ (n ≡ 0) → (not s || eqb m 0) ≡ true
unsigned false m n e v z = refl
unsigned true m n e v (inl f) = absurd (true≢false f)
unsigned true m n e v (inr z) =
    eq-eqb m 0 (no-parts m (up e) (up_pos e) (v ∙ ap (λ n. n * down e) z ∙ zero-mul (down e)))

signed : (s : Bool) (m n : ℕ) (e : ℤ) → m * up e ≡ n * down e → (not s || eqb m 0) ≡ true → (s ≡ false) ⊎ (n ≡ 0)
signed false m n e v t = inl refl
signed true m n e v t =
    inr
    (no-parts n (down e) (down_pos e) (sym v ∙ ap (λ m. m * up e) (eqb-true m 0 t) ∙ zero-mul (up e)))

pub equal-whole : (x : Float) (n : ℕ) → Equals x n → n < 16777216 → is_whole x ≡ true
unfolding is_whole
equal-whole nan n q h = absurd q
equal-whole (inf s) n q h = absurd q
equal-whole (fin s m e) n (v, z) h =
    let a = m * up e in
    let over = eq-eqb (a % down e) 0 (parts-over a n e v) in
    let below = ap (λ q. ltb q 16777216) (parts-in a n e v) ∙ lt-ltb n 16777216 h in
    ap₂ (λ s t. s && t) (ap₂ (λ s t. s && t) over below) (unsigned s m n e v z)

pub whole-equal : (x : Float) → is_whole x ≡ true → Equals x (value_of x) × (value_of x < 16777216)
unfolding is_whole value_of
whole-equal nan w = absurd (false≢true w)
whole-equal (inf s) w = absurd (false≢true w)
whole-equal (fin s m e) w =
    let a = m * up e in
    let q = a / down e in
    let p = both-hold (eqb (a % down e) 0 && ltb q 16777216) (not s || eqb m 0) w in
    let o = both-hold (eqb (a % down e) 0) (ltb q 16777216) p.0 in
    let v : a ≡ q * down e = omega (arith, div-add-mod' a (down e), eqb-true (a % down e) 0 o.0) in
    ((v, signed s m q e v p.1), ltb-true q 16777216 o.1)

-- zero has one exponent
pub one-zero : (s : Bool) (e : ℤ) → T (fits binary32 (fin s 0 e)) → e ≡ pos 0
unfolding fits
one-zero s (pos zero) t = refl
one-zero s (pos (suc k)) t = absurd (omega (arith, eqb→eq (2 ^ suc k * 1) 1 t, pow-succ' 2 k, pow_pos k))
one-zero s (negsuc k) t = absurd (omega (arith, eqb→eq (1 * 2 ^ suc k) 1 t, pow-succ' 2 k, pow_pos k))

-- ---- the order of whole numbers as floats

-- n and k in parts of c * d, each with a sign only where it is 0
module _ (n k c d : ℕ) (p : 0 < c) (q : 0 < d) where
  abbrev left : ℕ
  left = n * c * d

  abbrev right : ℕ
  right = k * d * c

  parts-lt : ltb left right ≡ ltb n k
  parts-lt =
      elim (dec_lt n k) [
        | yes h ↦
            let l = mul-lt-mul_of_pos_right h (mul-pos p q) in lt-ltb left right (omega arith) ∙ sym (lt-ltb n k h)
        | no h ↦
            let g : k ≤ n = omega arith in
            let l = mul-le-mul_right (c * d) g in le-ltb left right (omega arith) ∙ sym (le-ltb n k g)
      ]

  parts-eq : eqb left right ≡ eqb n k
  parts-eq =
      elim (ℕ_discrete n k) [
        | yes e ↦ let l = ap (λ n. n * (c * d)) e in eq-eqb left right (omega arith) ∙ sym (eq-eqb n k e)
        | no e ↦
            ne_eqb left right (λ f. e (eq_of_mul-eq-mul_right (c * d) (mul-pos p q) n k (omega arith)))
            ∙ sym (ne_eqb n k e)
      ]

  left-none : n ≡ 0 → left ≡ 0
  left-none z = let l = ap (λ n. n * (c * d)) z in omega arith

  right-none : k ≡ 0 → right ≡ 0
  right-none z = let l = ap (λ k. k * (c * d)) z in omega arith

  signed-lt : (s t : Bool) → (s ≡ false) ⊎ (n ≡ 0) → (t ≡ false) ⊎ (k ≡ 0) → below s left t right ≡ ltb n k
  signed-lt false false y z = parts-lt
  signed-lt false true y (inl f) = absurd (true≢false f)
  signed-lt false true y (inr z) = sym (le-ltb n k (omega arith))
  signed-lt true t (inl f) z = absurd (true≢false f)
  signed-lt true false (inr y) z =
      let l = left-none y in ap (λ i. ltb i (left + right)) (sym l) ∙ ap (ltb left) (omega arith) ∙ parts-lt
  signed-lt true true (inr y) (inl f) = absurd (true≢false f)
  signed-lt true true (inr y) (inr z) =
      le-ltb right left (omega (arith, left-none y)) ∙ sym (le-ltb n k (omega arith))

  signed-eq : (s t : Bool) → (s ≡ false) ⊎ (n ≡ 0) → (t ≡ false) ⊎ (k ≡ 0) → level s left t right ≡ eqb n k
  signed-eq false false y z = and-true (eqb left right) ∙ parts-eq
  signed-eq true true y z = and-true (eqb left right) ∙ parts-eq
  signed-eq true false (inl f) z = absurd (true≢false f)
  signed-eq true false (inr y) z =
      ap (λ t. eqb left right && t) (eq-eqb left 0 (left-none y)) ∙ and-true (eqb left right) ∙ parts-eq
  signed-eq false true y (inl f) = absurd (true≢false f)
  signed-eq false true y (inr z) =
      elim (ℕ_discrete left right) [
        | yes e ↦
            ap (λ t. eqb left right && t) (eq-eqb left 0 (e ∙ right-none z)) ∙ and-true (eqb left right) ∙ parts-eq
        | no e ↦
            let u = ne_eqb left right e in ap (λ t. t && eqb left 0) u ∙ sym u ∙ parts-eq
      ]

pub numbers-lt : (x y : Float) (n k : ℕ) → Equals x n → Equals y k → lt x y ≡ ltb n k
unfolding lt
numbers-lt nan y n k p q = absurd p
numbers-lt (inf s) y n k p q = absurd p
numbers-lt (fin s m e) nan n k p q = absurd q
numbers-lt (fin s m e) (inf t) n k p q = absurd q
numbers-lt (fin s m e) (fin t l d) n k (v, y) (w, z) =
    ap₂ (λ a b. below s (a * down d) t (b * down e)) v w
    ∙ signed-lt n k (down e) (down d) (down_pos e) (down_pos d) s t y z

pub numbers-eq : (x y : Float) (n k : ℕ) → Equals x n → Equals y k → eq x y ≡ eqb n k
unfolding eq
numbers-eq nan y n k p q = absurd p
numbers-eq (inf s) y n k p q = absurd p
numbers-eq (fin s m e) nan n k p q = absurd q
numbers-eq (fin s m e) (inf t) n k p q = absurd q
numbers-eq (fin s m e) (fin t l d) n k (v, y) (w, z) =
    ap₂ (λ a b. level s (a * down d) t (b * down e)) v w
    ∙ signed-eq n k (down e) (down d) (down_pos e) (down_pos d) s t y z

module _ (x y : Float) (w : is_whole x ≡ true) (v : is_whole y ≡ true) where
  -- of two whole numbers the machine's comparisons are those of the values
  pub whole-orders : lt x y ≡ ltb (value_of x) (value_of y)
  whole-orders = numbers-lt x y (value_of x) (value_of y) (whole-equal x w).0 (whole-equal y v).0

  pub whole-same : eq x y ≡ eqb (value_of x) (value_of y)
  whole-same = numbers-eq x y (value_of x) (value_of y) (whole-equal x w).0 (whole-equal y v).0
