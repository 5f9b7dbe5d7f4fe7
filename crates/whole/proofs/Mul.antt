-- Products of whole numbers: the laws of upstream's `mul.rs`, under its names.
-- Assumes nothing.
use mathlib.Core.Path.{◌≡◌, ap, ◌∙◌, subst}
use mathlib.Core.Logic.{◌≢◌, ◌↔◌, ◌⊎◌, inl, inr, ⊎_elim}
use native.Mathlib.Omega.{arith}
use lib.IntN.{ℤ, pos, neg_ℤ, ◌+ℤ◌, ◌-ℤ◌, ◌*ℤ◌}
use lib.Signed.{◌≤ℤ◌, ◌<ℤ◌, clash_ℤ}
use Rattle.whole.proofs.Difference.{⟨◌⟩, #, ◌⊕◌, ◌⊝◌, ◌⊗◌, ⊖◌, equalℤ, leℤ, ltℤ, equalℤ⁻¹, leℤ⁻¹, atmost-of, less-of, whole, cross, cross-strict}
use Rattle.whole.proofs.Order.{≤ℤ-trans, <ℤ→≤ℤ, ≮ℤ→≤ℤ, ≰ℤ→<ℤ, ≢→<ℤ, equal-or-not, positive→≢0}

-- ---- by 0 and by 1

-- 0 * x == 0
pub lemma-mul-basics-1 : (x : ℤ) → pos 0 *ℤ x ≡ pos 0
lemma-mul-basics-1 x = equalℤ (# 0 ⊗ ⟨ x ⟩) (# 0) (omega arith)

-- x * 0 == 0
pub lemma-mul-basics-2 : (x : ℤ) → x *ℤ pos 0 ≡ pos 0
lemma-mul-basics-2 x = equalℤ (⟨ x ⟩ ⊗ # 0) (# 0) (omega arith)

-- x * 1 == x
pub lemma-mul-basics-3 : (x : ℤ) → x *ℤ pos 1 ≡ x
lemma-mul-basics-3 x = equalℤ (⟨ x ⟩ ⊗ # 1) ⟨ x ⟩ (omega arith)

-- 1 * x == x
pub lemma-mul-basics-4 : (x : ℤ) → pos 1 *ℤ x ≡ x
lemma-mul-basics-4 x = equalℤ (# 1 ⊗ ⟨ x ⟩) ⟨ x ⟩ (omega arith)

-- the four together
pub lemma-mul-basics : (x : ℤ) → (pos 0 *ℤ x ≡ pos 0) × (x *ℤ pos 0 ≡ pos 0) × (x *ℤ pos 1 ≡ x) × (pos 1 *ℤ x ≡ x)
lemma-mul-basics x = (lemma-mul-basics-1 x, lemma-mul-basics-2 x, lemma-mul-basics-3 x, lemma-mul-basics-4 x)

-- either order of a product by 0
pub lemma-mul-by-zero-is-zero : (x : ℤ) → (x *ℤ pos 0 ≡ pos 0) × (pos 0 *ℤ x ≡ pos 0)
lemma-mul-by-zero-is-zero x = (lemma-mul-basics-2 x, lemma-mul-basics-1 x)

-- ---- the ring

-- x * (y * z) == (x * y) * z
pub lemma-mul-is-associative : (x y z : ℤ) → x *ℤ (y *ℤ z) ≡ x *ℤ y *ℤ z
lemma-mul-is-associative x y z = equalℤ (⟨ x ⟩ ⊗ (⟨ y ⟩ ⊗ ⟨ z ⟩)) (⟨ x ⟩ ⊗ ⟨ y ⟩ ⊗ ⟨ z ⟩) (omega arith)

-- x * y == y * x
pub lemma-mul-is-commutative : (x y : ℤ) → x *ℤ y ≡ y *ℤ x
lemma-mul-is-commutative x y = equalℤ (⟨ x ⟩ ⊗ ⟨ y ⟩) (⟨ y ⟩ ⊗ ⟨ x ⟩) (omega arith)

-- x * (y + z) == x * y + x * z
pub lemma-mul-is-distributive-add : (x y z : ℤ) → x *ℤ (y +ℤ z) ≡ x *ℤ y +ℤ x *ℤ z
lemma-mul-is-distributive-add x y z = equalℤ (⟨ x ⟩ ⊗ (⟨ y ⟩ ⊕ ⟨ z ⟩)) (⟨ x ⟩ ⊗ ⟨ y ⟩ ⊕ ⟨ x ⟩ ⊗ ⟨ z ⟩) (omega arith)

-- (y + z) * x == y * x + z * x
pub lemma-mul-is-distributive-add-other-way : (x y z : ℤ) → (y +ℤ z) *ℤ x ≡ y *ℤ x +ℤ z *ℤ x
lemma-mul-is-distributive-add-other-way x y z = equalℤ ((⟨ y ⟩ ⊕ ⟨ z ⟩) ⊗ ⟨ x ⟩) (⟨ y ⟩ ⊗ ⟨ x ⟩ ⊕ ⟨ z ⟩ ⊗ ⟨ x ⟩) (omega arith)

-- x * (y - z) == x * y - x * z
pub lemma-mul-is-distributive-sub : (x y z : ℤ) → x *ℤ (y -ℤ z) ≡ x *ℤ y -ℤ x *ℤ z
lemma-mul-is-distributive-sub x y z = equalℤ (⟨ x ⟩ ⊗ (⟨ y ⟩ ⊝ ⟨ z ⟩)) (⟨ x ⟩ ⊗ ⟨ y ⟩ ⊝ ⟨ x ⟩ ⊗ ⟨ z ⟩) (omega arith)

-- (y - z) * x == y * x - z * x
pub lemma-mul-is-distributive-sub-other-way : (x y z : ℤ) → (y -ℤ z) *ℤ x ≡ y *ℤ x -ℤ z *ℤ x
lemma-mul-is-distributive-sub-other-way x y z = equalℤ ((⟨ y ⟩ ⊝ ⟨ z ⟩) ⊗ ⟨ x ⟩) (⟨ y ⟩ ⊗ ⟨ x ⟩ ⊝ ⟨ z ⟩ ⊗ ⟨ x ⟩) (omega arith)

-- the four ways to distribute, and the orders of the products in them
pub lemma-mul-is-distributive
    : (x y z : ℤ) →
    (x *ℤ (y +ℤ z) ≡ x *ℤ y +ℤ x *ℤ z) × (x *ℤ (y -ℤ z) ≡ x *ℤ y -ℤ x *ℤ z) × ((y +ℤ z) *ℤ x ≡ y *ℤ x +ℤ z *ℤ x) × ((y -ℤ z) *ℤ x ≡ y *ℤ x -ℤ z *ℤ x)
    × (x *ℤ (y +ℤ z) ≡ (y +ℤ z) *ℤ x) × (x *ℤ (y -ℤ z) ≡ (y -ℤ z) *ℤ x) × (x *ℤ y ≡ y *ℤ x) × (x *ℤ z ≡ z *ℤ x)
lemma-mul-is-distributive x y z = (
  lemma-mul-is-distributive-add x y z,
  lemma-mul-is-distributive-sub x y z,
  lemma-mul-is-distributive-add-other-way x y z,
  lemma-mul-is-distributive-sub-other-way x y z,
  lemma-mul-is-commutative x (y +ℤ z),
  lemma-mul-is-commutative x (y -ℤ z),
  lemma-mul-is-commutative x y,
  lemma-mul-is-commutative x z,
)

-- (-x) * y == -(x * y) == x * (-y)
pub lemma-mul-unary-negation : (x y : ℤ) → (neg_ℤ x *ℤ y ≡ neg_ℤ (x *ℤ y)) × (neg_ℤ (x *ℤ y) ≡ x *ℤ neg_ℤ y)
lemma-mul-unary-negation x y =
    (equalℤ (⊖ ⟨ x ⟩ ⊗ ⟨ y ⟩) (⊖ (⟨ x ⟩ ⊗ ⟨ y ⟩)) (omega arith), equalℤ (⊖ (⟨ x ⟩ ⊗ ⟨ y ⟩)) (⟨ x ⟩ ⊗ ⊖ ⟨ y ⟩) (omega arith))

-- x * y == (-x) * (-y)
pub lemma-mul-cancels-negatives : (x y : ℤ) → x *ℤ y ≡ neg_ℤ x *ℤ neg_ℤ y
lemma-mul-cancels-negatives x y = equalℤ (⟨ x ⟩ ⊗ ⟨ y ⟩) (⊖ ⟨ x ⟩ ⊗ ⊖ ⟨ y ⟩) (omega arith)

-- ---- order

-- x <= y and z >= 0 give x * z <= y * z
pub lemma-mul-inequality : (x y z : ℤ) → x ≤ℤ y → pos 0 ≤ℤ z → (x *ℤ z) ≤ℤ (y *ℤ z)
lemma-mul-inequality x y z h k =
    leℤ (⟨ x ⟩ ⊗ ⟨ z ⟩) (⟨ y ⟩ ⊗ ⟨ z ⟩) (omega (arith, cross (atmost-of x y h) (atmost-of (pos 0) z k)))

-- x < y and z > 0 give x * z < y * z
pub lemma-mul-strict-inequality : (x y z : ℤ) → x <ℤ y → pos 0 <ℤ z → (x *ℤ z) <ℤ (y *ℤ z)
lemma-mul-strict-inequality x y z h k =
    ltℤ (⟨ x ⟩ ⊗ ⟨ z ⟩) (⟨ y ⟩ ⊗ ⟨ z ⟩) (omega (arith, cross-strict (less-of x y h) (less-of (pos 0) z k)))

-- x > 0 keeps the order of y and z in x * y and x * z
pub lemma-mul-left-inequality : (x y z : ℤ) → pos 0 <ℤ x → (y ≤ℤ z → (x *ℤ y) ≤ℤ (x *ℤ z)) × (y <ℤ z → (x *ℤ y) <ℤ (x *ℤ z))
lemma-mul-left-inequality x y z h = (
  λ (k : y ≤ℤ z). leℤ (⟨ x ⟩ ⊗ ⟨ y ⟩) (⟨ x ⟩ ⊗ ⟨ z ⟩) (omega (arith, cross (atmost-of y z k) (atmost-of (pos 0) x (<ℤ→≤ℤ h)))),
  λ (k : y <ℤ z). ltℤ (⟨ x ⟩ ⊗ ⟨ y ⟩) (⟨ x ⟩ ⊗ ⟨ z ⟩) (omega (arith, cross-strict (less-of y z k) (less-of (pos 0) x h))),
)

-- factors from 0 up to their bounds: the product is at most the product of the bounds
pub lemma-mul-upper-bound : (x xbound y ybound : ℤ) → x ≤ℤ xbound → y ≤ℤ ybound → pos 0 ≤ℤ x → pos 0 ≤ℤ y → (x *ℤ y) ≤ℤ (xbound *ℤ ybound)
lemma-mul-upper-bound x xbound y ybound h k i j =
    leℤ (⟨ x ⟩ ⊗ ⟨ y ⟩) (⟨ xbound ⟩ ⊗ ⟨ ybound ⟩)
    (omega (arith, cross (atmost-of x xbound h) (atmost-of (pos 0) y j), cross (atmost-of y ybound k) (atmost-of (pos 0) xbound (≤ℤ-trans i h))))

-- the same below bounds that are not reached: x * y <= (xbound - 1) * (ybound - 1)
pub lemma-mul-strict-upper-bound
    : (x xbound y ybound : ℤ) → x <ℤ xbound → y <ℤ ybound → pos 0 ≤ℤ x → pos 0 ≤ℤ y → (x *ℤ y) ≤ℤ ((xbound -ℤ pos 1) *ℤ (ybound -ℤ pos 1))
lemma-mul-strict-upper-bound x xbound y ybound h k i j =
    lemma-mul-upper-bound x (xbound -ℤ pos 1) y (ybound -ℤ pos 1) (leℤ ⟨ x ⟩ (⟨ xbound ⟩ ⊝ # 1) (omega (arith, whole)))
    (leℤ ⟨ y ⟩ (⟨ ybound ⟩ ⊝ # 1) (omega (arith, whole))) i j

-- x > 0 and y > 0 give x * y > 0
pub lemma-mul-strictly-positive : (x y : ℤ) → pos 0 <ℤ x → pos 0 <ℤ y → pos 0 <ℤ (x *ℤ y)
lemma-mul-strictly-positive x y h k = ltℤ (# 0) (⟨ x ⟩ ⊗ ⟨ y ⟩) (omega (arith, cross-strict (less-of (pos 0) x h) (less-of (pos 0) y k)))

-- x >= 0 and y >= 0 give x * y >= 0
pub lemma-mul-nonnegative : (x y : ℤ) → pos 0 ≤ℤ x → pos 0 ≤ℤ y → pos 0 ≤ℤ (x *ℤ y)
lemma-mul-nonnegative x y h k = leℤ (# 0) (⟨ x ⟩ ⊗ ⟨ y ⟩) (omega (arith, cross (atmost-of (pos 0) x h) (atmost-of (pos 0) y k)))

-- x > 1 and y > 0 give y < x * y
pub lemma-mul-strictly-increases : (x y : ℤ) → pos 1 <ℤ x → pos 0 <ℤ y → y <ℤ (x *ℤ y)
lemma-mul-strictly-increases x y h k = ltℤ ⟨ y ⟩ (⟨ x ⟩ ⊗ ⟨ y ⟩) (omega (arith, cross-strict (less-of (pos 1) x h) (less-of (pos 0) y k)))

-- x > 0 and y >= 0 give y <= x * y
pub lemma-mul-increases : (x y : ℤ) → pos 0 <ℤ x → pos 0 ≤ℤ y → y ≤ℤ (x *ℤ y)
lemma-mul-increases x y h k = leℤ ⟨ y ⟩ (⟨ x ⟩ ⊗ ⟨ y ⟩) (omega (arith, cross (less-of (pos 0) x h) (atmost-of (pos 0) y k)))

-- ---- factors that are not 0

-- such a factor lies below 0 or above it, and so does the product of two
sided : (x y : ℤ) → (x <ℤ pos 0) ⊎ (pos 0 <ℤ x) → (y <ℤ pos 0) ⊎ (pos 0 <ℤ y) → x *ℤ y ≢ pos 0
sided x y (inl h) (inl k) e = omega (arith, equalℤ⁻¹ (⟨ x ⟩ ⊗ ⟨ y ⟩) (# 0) e, cross-strict (less-of x (pos 0) h) (less-of y (pos 0) k))
sided x y (inl h) (inr k) e = omega (arith, equalℤ⁻¹ (⟨ x ⟩ ⊗ ⟨ y ⟩) (# 0) e, cross-strict (less-of x (pos 0) h) (less-of (pos 0) y k))
sided x y (inr h) (inl k) e = omega (arith, equalℤ⁻¹ (⟨ x ⟩ ⊗ ⟨ y ⟩) (# 0) e, cross-strict (less-of (pos 0) x h) (less-of y (pos 0) k))
sided x y (inr h) (inr k) e = omega (arith, equalℤ⁻¹ (⟨ x ⟩ ⊗ ⟨ y ⟩) (# 0) e, cross-strict (less-of (pos 0) x h) (less-of (pos 0) y k))

-- x * y != 0 exactly when x != 0 and y != 0
pub lemma-mul-nonzero : (x y : ℤ) → (x *ℤ y ≢ pos 0) ↔ ((x ≢ pos 0) × (y ≢ pos 0))
lemma-mul-nonzero x y =
    (λ n. (λ e. n (ap (λ z. z *ℤ y) e ∙ lemma-mul-basics-1 y), λ e. n (ap (λ z. x *ℤ z) e ∙ lemma-mul-basics-2 x)), λ n. sided x y (≢→<ℤ n.0) (≢→<ℤ n.1))

-- m != 0 and m * x == m * y give x == y
pub lemma-mul-equality-converse : (m x y : ℤ) → m ≢ pos 0 → m *ℤ x ≡ m *ℤ y → x ≡ y
lemma-mul-equality-converse m x y n e = ⊎_elim (λ h. h) (λ h. absurd ((lemma-mul-nonzero m (x -ℤ y)).1 (n, apart h) none)) (equal-or-not x y)
  where
    none : m *ℤ (x -ℤ y) ≡ pos 0
    none = equalℤ (⟨ m ⟩ ⊗ (⟨ x ⟩ ⊝ ⟨ y ⟩)) (# 0) (omega (arith, equalℤ⁻¹ (⟨ m ⟩ ⊗ ⟨ x ⟩) (⟨ m ⟩ ⊗ ⟨ y ⟩) e))

    apart : x ≢ y → x -ℤ y ≢ pos 0
    apart h f = h (equalℤ ⟨ x ⟩ ⟨ y ⟩ (omega (arith, equalℤ⁻¹ (⟨ x ⟩ ⊝ ⟨ y ⟩) (# 0) f)))

-- x * z <= y * z and z > 0 give x <= y
pub lemma-mul-inequality-converse : (x y z : ℤ) → (x *ℤ z) ≤ℤ (y *ℤ z) → pos 0 <ℤ z → x ≤ℤ y
lemma-mul-inequality-converse x y z e k = ≮ℤ→≤ℤ λ h. clash_ℤ (lemma-mul-strict-inequality y x z h k) e

-- x * z < y * z and z >= 0 give x < y
pub lemma-mul-strict-inequality-converse : (x y z : ℤ) → (x *ℤ z) <ℤ (y *ℤ z) → pos 0 ≤ℤ z → x <ℤ y
lemma-mul-strict-inequality-converse x y z e k = ≰ℤ→<ℤ λ h. clash_ℤ e (lemma-mul-inequality y x z h k)

ordered : (x y : ℤ) → (x <ℤ pos 0) ⊎ (pos 0 <ℤ x) → (y <ℤ pos 0) ⊎ (pos 0 <ℤ y) → pos 0 ≤ℤ (x *ℤ y) → (x ≤ℤ (x *ℤ y)) × (y ≤ℤ (x *ℤ y))
ordered x y (inl h) (inl k) e = (≤ℤ-trans (<ℤ→≤ℤ h) e, ≤ℤ-trans (<ℤ→≤ℤ k) e)
ordered x y (inl h) (inr k) e =
    let f : ⊥ = omega (arith, leℤ⁻¹ (# 0) (⟨ x ⟩ ⊗ ⟨ y ⟩) e, cross-strict (less-of x (pos 0) h) (less-of (pos 0) y k)) in absurd f
ordered x y (inr h) (inl k) e =
    let f : ⊥ = omega (arith, leℤ⁻¹ (# 0) (⟨ x ⟩ ⊗ ⟨ y ⟩) e, cross-strict (less-of (pos 0) x h) (less-of y (pos 0) k)) in absurd f
ordered x y (inr h) (inr k) e =
    (subst (λ z. x ≤ℤ z) (lemma-mul-is-commutative y x) (lemma-mul-increases y x k (<ℤ→≤ℤ h)), lemma-mul-increases x y h (<ℤ→≤ℤ k))

-- factors that are not 0 with a product that isn't negative: the product is at least each factor
pub lemma-mul-ordering : (x y : ℤ) → x ≢ pos 0 → y ≢ pos 0 → pos 0 ≤ℤ (x *ℤ y) → (x ≤ℤ (x *ℤ y)) × (y ≤ℤ (x *ℤ y))
lemma-mul-ordering x y m n e = ordered x y (≢→<ℤ m) (≢→<ℤ n) e

-- ---- the list that upstream's group of broadcast lemmas stands for

pub lemma-mul-properties-prove-mul-properties-auto
    : ((x y : ℤ) → x *ℤ y ≡ y *ℤ x)
    × ((x : ℤ) → (x *ℤ pos 1 ≡ pos 1 *ℤ x) × (pos 1 *ℤ x ≡ x))
    × ((x y z : ℤ) → x <ℤ y → pos 0 <ℤ z → (x *ℤ z) <ℤ (y *ℤ z))
    × ((x y z : ℤ) → x ≤ℤ y → pos 0 ≤ℤ z → (x *ℤ z) ≤ℤ (y *ℤ z))
    × ((x y z : ℤ) → x *ℤ (y +ℤ z) ≡ x *ℤ y +ℤ x *ℤ z)
    × ((x y z : ℤ) → x *ℤ (y -ℤ z) ≡ x *ℤ y -ℤ x *ℤ z)
    × ((x y z : ℤ) → (y +ℤ z) *ℤ x ≡ y *ℤ x +ℤ z *ℤ x)
    × ((x y z : ℤ) → (y -ℤ z) *ℤ x ≡ y *ℤ x -ℤ z *ℤ x)
    × ((x y z : ℤ) → x *ℤ (y *ℤ z) ≡ x *ℤ y *ℤ z)
    × ((x y : ℤ) → (x *ℤ y ≢ pos 0) ↔ ((x ≢ pos 0) × (y ≢ pos 0)))
    × ((x y : ℤ) → pos 0 ≤ℤ x → pos 0 ≤ℤ y → pos 0 ≤ℤ (x *ℤ y))
    × ((x y : ℤ) → pos 0 <ℤ x → pos 0 <ℤ y → pos 0 ≤ℤ (x *ℤ y) → (x ≤ℤ (x *ℤ y)) × (y ≤ℤ (x *ℤ y)))
    × ((x y : ℤ) → pos 1 <ℤ x → pos 0 <ℤ y → y <ℤ (x *ℤ y))
    × ((x y : ℤ) → pos 0 <ℤ x → pos 0 <ℤ y → y ≤ℤ (x *ℤ y))
    × ((x y : ℤ) → pos 0 <ℤ x → pos 0 <ℤ y → pos 0 <ℤ (x *ℤ y))
lemma-mul-properties-prove-mul-properties-auto = (
  lemma-mul-is-commutative,
  λ x. (lemma-mul-is-commutative x (pos 1), lemma-mul-basics-4 x),
  lemma-mul-strict-inequality,
  lemma-mul-inequality,
  lemma-mul-is-distributive-add,
  lemma-mul-is-distributive-sub,
  lemma-mul-is-distributive-add-other-way,
  lemma-mul-is-distributive-sub-other-way,
  lemma-mul-is-associative,
  lemma-mul-nonzero,
  lemma-mul-nonnegative,
  λ x y h k. lemma-mul-ordering x y (positive→≢0 h) (positive→≢0 k),
  lemma-mul-strictly-increases,
  λ x y h k. lemma-mul-increases x y h (<ℤ→≤ℤ k),
  lemma-mul-strictly-positive,
)
