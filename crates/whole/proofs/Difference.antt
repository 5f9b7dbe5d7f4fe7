-- How `omega`, which reads natural numbers only, proves a fact of ℤ: each whole number is the difference of two naturals.
-- A term of ℤ is written once more over `⟨ x ⟩`, `#`, ⊕, ⊝, ⊗ and ⊖, and an equation or an order of two such terms is one of naturals,
-- in which `omega` multiplies products out.
-- Assumes nothing.
use mathlib.Core.Path.{◌≡◌, refl, ap}
use mathlib.Core.Bool.{Bool, true, false, cond, not}
use Prim.Native.Nat.{ℕ, zero, suc, ◌+◌, ◌*◌, ◌-◌, ◌≤◌, ◌<◌}
use native.Mathlib.Omega.{arith}
use lib.Dec.{T, ltb, ltb→lt, lt→ltb, leb→le, le→leb, nltb→le}
use lib.IntN.{ℤ, pos, negsuc, neg_ℤ, sub_ℕ, ◌+ℤ◌, ◌-ℤ◌, ◌*ℤ◌}
use lib.Signed.{◌≤ℤ◌, ◌<ℤ◌, le_z, lt_z}

-- ---- z is plus z less minus z, and one of the two is 0

abbrev pub plus : ℤ → ℕ
plus (pos n) = n
plus (negsuc n) = 0

abbrev pub minus : ℤ → ℕ
minus (pos n) = 0
minus (negsuc n) = suc n

pub plus-neg : (n : ℕ) → plus (neg_ℤ (pos n)) ≡ 0
plus-neg zero = refl
plus-neg (suc n) = refl

pub minus-neg : (n : ℕ) → minus (neg_ℤ (pos n)) ≡ n
minus-neg zero = refl
minus-neg (suc n) = refl

neg-same : (z : ℤ) → plus (neg_ℤ z) + plus z ≡ minus z + minus (neg_ℤ z)
neg-same (pos zero) = refl
neg-same (pos (suc a)) = omega arith
neg-same (negsuc a) = omega arith

subℕ-at : (a b : ℕ) (t : Bool) → (T t → a < b) → (T (not t) → b ≤ a) → plus (cond t (negsuc (b - suc a)) (pos (a - b))) + b ≡ a + minus (cond t (negsuc (b - suc a)) (pos (a - b)))
subℕ-at a b true f g = let h : a < b = f tt in omega arith
subℕ-at a b false f g = let h : b ≤ a = g tt in omega arith

subℕ-same : (a b : ℕ) → plus (sub_ℕ a b) + b ≡ a + minus (sub_ℕ a b)
subℕ-same a b = subℕ-at a b (ltb a b) (ltb→lt a b) (nltb→le a b)

sum-same : (y z : ℤ) → plus (y +ℤ z) + (minus y + minus z) ≡ (plus y + plus z) + minus (y +ℤ z)
sum-same (pos a) (pos b) = omega arith
sum-same (pos a) (negsuc b) = omega (arith, subℕ-same a (suc b))
sum-same (negsuc a) (pos b) = omega (arith, subℕ-same b (suc a))
sum-same (negsuc a) (negsuc b) = omega arith

product-same : (y z : ℤ) → plus (y *ℤ z) + (plus y * minus z + minus y * plus z) ≡ (plus y * plus z + minus y * minus z) + minus (y *ℤ z)
product-same (pos a) (pos b) = omega arith
product-same (pos a) (negsuc b) = omega (arith, neg-same (pos (a * suc b)))
product-same (negsuc a) (pos b) = omega (arith, neg-same (pos (suc a * b)))
product-same (negsuc a) (negsuc b) = omega arith

-- ---- any two naturals with the same difference

pub record Difference (z : ℤ) : Type 0 where
  pub more : ℕ
  pub less : ℕ
  pub same : plus z + less ≡ more + minus z

pub negations : (z : ℤ) (p n : ℕ) → plus z + n ≡ p + minus z → plus (neg_ℤ z) + p ≡ n + minus (neg_ℤ z)
negations z p n e = omega (arith, neg-same z)

pub sums : (y z : ℤ) (p n q m : ℕ) → plus y + n ≡ p + minus y → plus z + m ≡ q + minus z → plus (y +ℤ z) + (n + m) ≡ (p + q) + minus (y +ℤ z)
sums y z p n q m e f = omega (arith, sum-same y z)

scaled : (k : ℕ) {a b : ℕ} → a ≡ b → k * a ≡ k * b
scaled k e = ap (λ (x : ℕ). k * x) e

pub products : (y z : ℤ) (p n q m : ℕ) → plus y + n ≡ p + minus y → plus z + m ≡ q + minus z → plus (y *ℤ z) + (p * m + n * q) ≡ (p * q + n * m) + minus (y *ℤ z)
products y z p n q m e f = omega (arith, product-same y z, scaled (plus z) e, scaled (minus z) e, scaled p f, scaled n f)

infixl 6 ◌⊕◌ ◌⊝◌
infixl 7 ◌⊗◌
infix 8 ⊖◌
-- a number as it stands
abbrev pub ⟨◌⟩ : (z : ℤ) → Difference z
⟨ z ⟩ = record { more = plus z; less = minus z; same = refl }

-- a natural number
abbrev pub # : (k : ℕ) → Difference (pos k)
# k = record { more = k; less = 0; same = refl }

abbrev pub ⊖◌ : {z : ℤ} → Difference z → Difference (neg_ℤ z)
⊖◌ {z} r = record { more = r.less; less = r.more; same = negations z r.more r.less r.same }

abbrev pub ◌⊕◌ : {y z : ℤ} → Difference y → Difference z → Difference (y +ℤ z)
◌⊕◌ {y} {z} r s = record { more = r.more + s.more; less = r.less + s.less; same = sums y z r.more r.less s.more s.less r.same s.same }

abbrev pub ◌⊝◌ : {y z : ℤ} → Difference y → Difference z → Difference (y -ℤ z)
r ⊝ s = r ⊕ ⊖ s

abbrev pub ◌⊗◌ : {y z : ℤ} → Difference y → Difference z → Difference (y *ℤ z)
◌⊗◌ {y} {z} r s =
    record { more = r.more * s.more + r.less * s.less; less = r.more * s.less + r.less * s.more; same = products y z r.more r.less s.more s.less r.same s.same }

-- ---- from naturals to ℤ

same-number : (x y : ℤ) → plus x + minus y ≡ plus y + minus x → x ≡ y
same-number (pos a) (pos b) e = let f : a ≡ b = omega arith in ap pos f
same-number (pos a) (negsuc b) e = let f : ⊥ = omega arith in absurd f
same-number (negsuc a) (pos b) e = let f : ⊥ = omega arith in absurd f
same-number (negsuc a) (negsuc b) e = let f : a ≡ b = omega arith in ap negsuc f

le-number : (x y : ℤ) → plus x + minus y ≤ plus y + minus x → T (le_z x y)
le-number (pos a) (pos b) e = le→leb a b (omega arith)
le-number (pos a) (negsuc b) e = let f : ⊥ = omega arith in absurd f
le-number (negsuc a) (pos b) e = tt
le-number (negsuc a) (negsuc b) e = le→leb b a (omega arith)

lt-number : (x y : ℤ) → plus x + minus y < plus y + minus x → T (lt_z x y)
lt-number (pos a) (pos b) e = lt→ltb a b (omega arith)
lt-number (pos a) (negsuc b) e = let f : ⊥ = omega arith in absurd f
lt-number (negsuc a) (pos b) e = tt
lt-number (negsuc a) (negsuc b) e = lt→ltb b a (omega arith)

pub equalℤ : {x y : ℤ} (r : Difference x) (s : Difference y) → r.more + s.less ≡ s.more + r.less → x ≡ y
equalℤ {x} {y} r s e = same-number x y (omega (arith, r.same, s.same))

pub leℤ : {x y : ℤ} (r : Difference x) (s : Difference y) → r.more + s.less ≤ s.more + r.less → x ≤ℤ y
leℤ {x} {y} r s e = record { le = le-number x y (omega (arith, r.same, s.same)) }

pub ltℤ : {x y : ℤ} (r : Difference x) (s : Difference y) → r.more + s.less < s.more + r.less → x <ℤ y
ltℤ {x} {y} r s e = record { lt = lt-number x y (omega (arith, r.same, s.same)) }

-- ---- from ℤ to naturals

pub same-of : (x y : ℤ) → x ≡ y → plus x + minus y ≡ plus y + minus x
same-of x y e = let p : plus x ≡ plus y = ap plus e in let n : minus x ≡ minus y = ap minus e in omega arith

le-of : (x y : ℤ) → T (le_z x y) → plus x + minus y ≤ plus y + minus x
le-of (pos a) (pos b) t = omega (arith, leb→le a b t)
le-of (pos a) (negsuc b) t = absurd t
le-of (negsuc a) (pos b) t = omega arith
le-of (negsuc a) (negsuc b) t = omega (arith, leb→le b a t)

lt-of : (x y : ℤ) → T (lt_z x y) → plus x + minus y < plus y + minus x
lt-of (pos a) (pos b) t = omega (arith, ltb→lt a b t)
lt-of (pos a) (negsuc b) t = absurd t
lt-of (negsuc a) (pos b) t = omega arith
lt-of (negsuc a) (negsuc b) t = omega (arith, ltb→lt b a t)

pub atmost-of : (x y : ℤ) → x ≤ℤ y → plus x + minus y ≤ plus y + minus x
atmost-of x y h = le-of x y h.le

pub less-of : (x y : ℤ) → x <ℤ y → plus x + minus y < plus y + minus x
less-of x y h = lt-of x y h.lt

-- `omega (arith, whole)` reads the hypotheses x ≡ y, x ≤ℤ y and x <ℤ y, each of the two sides as one number
pub ruleset whole = (same-of, atmost-of, less-of)

-- the same for a hypothesis whose sides are written over ⊕, ⊝, ⊗ and ⊖
pub equalℤ⁻¹ : {x y : ℤ} (r : Difference x) (s : Difference y) → x ≡ y → r.more + s.less ≡ s.more + r.less
equalℤ⁻¹ {x} {y} r s e = omega (arith, r.same, s.same, same-of x y e)

pub leℤ⁻¹ : {x y : ℤ} (r : Difference x) (s : Difference y) → x ≤ℤ y → r.more + s.less ≤ s.more + r.less
leℤ⁻¹ {x} {y} r s h = omega (arith, r.same, s.same, atmost-of x y h)

pub ltℤ⁻¹ : {x y : ℤ} (r : Difference x) (s : Difference y) → x <ℤ y → r.more + s.less < s.more + r.less
ltℤ⁻¹ {x} {y} r s h = omega (arith, r.same, s.same, less-of x y h)

-- ---- a product of two differences that aren't negative, as a hint for `omega`: (b - a) * (d - c) is at least 0, or above it

grown : (a e c f : ℕ) {b d : ℕ} → a + e ≡ b → c + f ≡ d → a * d + b * c + e * f ≡ a * c + b * d
grown a e c f p q = rw (← p, ← q) (omega arith)

pub cross : {a b c d : ℕ} → a ≤ b → c ≤ d → a * d + b * c ≤ a * c + b * d
cross {a} {b} {c} {d} h k = omega (arith, grown a (b - a) c (d - c) {b = b} {d = d} (omega arith) (omega arith))

pub cross-strict : {a b c d : ℕ} → a < b → c < d → a * d + b * c < a * c + b * d
cross-strict {a} {b} {c} {d} h k = omega (arith, grown a (suc (b - suc a)) c (suc (d - suc c)) {b = b} {d = d} (omega arith) (omega arith))
