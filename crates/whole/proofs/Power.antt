-- Powers of whole numbers: the laws of upstream's `power.rs`, under its names.
-- Assumes nothing.
use mathlib.Core.Path.{◌≡◌, refl, ap, ap₂, sym, ◌∙◌, subst}
use Prim.Native.Nat.{ℕ, zero, suc, ◌+◌, ◌-◌, ◌*◌, ◌≤◌, ◌<◌}
use native.Mathlib.Nat.{zero-add, suc-add, mul-zero, mul-suc, mul_assoc, sub-add_cancel}
use native.Mathlib.Decide.{dec_le, dec_lt}
use native.Mathlib.Omega.{arith}
use lib.IntN.{ℤ, pos, ◌*ℤ◌}
use lib.Signed.{◌≤ℤ◌, ◌<ℤ◌, <ℤ-≤ℤ_trans, clash_ℤ}
use Rattle.whole.specs.DivMod.{◌/ℤ◌, ◌%ℤ◌}
use Rattle.whole.specs.Power.{pow}
use Rattle.whole.proofs.Difference.{⟨◌⟩, #, ◌⊗◌, equalℤ, ltℤ, whole}
use Rattle.whole.proofs.Order.{<ℤ→≤ℤ, positive→≢0}
use Rattle.whole.proofs.Mul.{lemma-mul-basics-1, lemma-mul-basics-3, lemma-mul-basics-4, lemma-mul-is-associative, lemma-mul-is-commutative, lemma-mul-increases, lemma-mul-strictly-increases, lemma-mul-strictly-positive}
use Rattle.whole.proofs.Euclid.{less-than-times}
use Rattle.whole.proofs.DivMod.{lemma-div-by-multiple, lemma-mod-multiples-basic, lemma-mul-mod-noop, lemma-mul-mod-noop-right}

-- ---- small exponents, and the bases 0 and 1

-- pow(b, 0) == 1
pub lemma-pow0 : (b : ℤ) → pow b 0 ≡ pos 1
unfolding pow
lemma-pow0 b = refl

-- pow(b, e + 1) == b * pow(b, e)
pub pow-suc : (b : ℤ) (e : ℕ) → pow b (suc e) ≡ b *ℤ pow b e
unfolding pow
pow-suc b e = refl

-- pow(b, 1) == b
pub lemma-pow1 : (b : ℤ) → pow b 1 ≡ b
lemma-pow1 b = pow-suc b 0 ∙ ap (λ x. b *ℤ x) (lemma-pow0 b) ∙ lemma-mul-basics-3 b

-- pow(0, e) == 0 for e > 0
pub lemma0-pow : (e : ℕ) → 0 < e → pow (pos 0) e ≡ pos 0
lemma0-pow zero h = let f : ⊥ = omega arith in absurd f
lemma0-pow (suc e) h = pow-suc (pos 0) e ∙ lemma-mul-basics-1 (pow (pos 0) e)

-- pow(1, e) == 1
pub lemma1-pow : (e : ℕ) → pow (pos 1) e ≡ pos 1
lemma1-pow zero = lemma-pow0 (pos 1)
lemma1-pow (suc e) = pow-suc (pos 1) e ∙ lemma-mul-basics-4 (pow (pos 1) e) ∙ lemma1-pow e

-- pow(x, 2) == x * x
pub lemma-square-is-pow2 : (x : ℤ) → pow x 2 ≡ x *ℤ x
lemma-square-is-pow2 x = pow-suc x 1 ∙ ap (λ y. x *ℤ y) (lemma-pow1 x)

-- b > 0 gives pow(b, e) > 0
pub lemma-pow-positive : (b : ℤ) (e : ℕ) → pos 0 <ℤ b → pos 0 <ℤ pow b e
lemma-pow-positive b zero h = rw (lemma-pow0 b) (ltℤ (# 0) (# 1) (omega arith))
lemma-pow-positive b (suc e) h = rw (pow-suc b e) (lemma-mul-strictly-positive b (pow b e) h (lemma-pow-positive b e h))

-- ---- sums and products of exponents, products of bases

-- pow(b, e1 + e2) == pow(b, e1) * pow(b, e2)
pub lemma-pow-adds : (b : ℤ) (e1 e2 : ℕ) → pow b (e1 + e2) ≡ pow b e1 *ℤ pow b e2
lemma-pow-adds b zero e2 = ap (pow b) (zero-add e2) ∙ sym (lemma-mul-basics-4 (pow b e2)) ∙ ap (λ x. x *ℤ pow b e2) (sym (lemma-pow0 b))
lemma-pow-adds b (suc e1) e2 =
    ap (pow b) (suc-add e1 e2) ∙ pow-suc b (e1 + e2) ∙ ap (λ x. b *ℤ x) (lemma-pow-adds b e1 e2) ∙ lemma-mul-is-associative b (pow b e1) (pow b e2)
    ∙ ap (λ x. x *ℤ pow b e2) (sym (pow-suc b e1))

-- e1 >= e2 gives pow(b, e1 - e2) * pow(b, e2) == pow(b, e1)
pub lemma-pow-sub-add-cancel : (b : ℤ) (e1 e2 : ℕ) → e2 ≤ e1 → pow b (e1 - e2) *ℤ pow b e2 ≡ pow b e1
lemma-pow-sub-add-cancel b e1 e2 h = sym (lemma-pow-adds b (e1 - e2) e2) ∙ ap (pow b) (sub-add_cancel h)

-- e1 <= e2 gives pow(b, e2 - e1) == pow(b, e2) / pow(b, e1) > 0
pub lemma-pow-subtracts
    : (b : ℤ) (e1 e2 : ℕ) → pos 0 <ℤ b → e1 ≤ e2 →
    (pos 0 <ℤ pow b e1) × (pow b (e2 - e1) ≡ pow b e2 /ℤ pow b e1) × (pos 0 <ℤ (pow b e2 /ℤ pow b e1))
lemma-pow-subtracts b e1 e2 h k =
    let p = lemma-pow-positive b e1 h in
    let e : pow b (e2 - e1) ≡ pow b e2 /ℤ pow b e1 =
    sym (lemma-div-by-multiple (pow b (e2 - e1)) (pow b e1) (positive→≢0 p)) ∙ ap (λ x. x /ℤ pow b e1) (lemma-pow-sub-add-cancel b e2 e1 k) in
    (p, e, subst (λ x. pos 0 <ℤ x) e (lemma-pow-positive b (e2 - e1) h))

-- pow(pow(a, b), c) == pow(a, b * c)
pub lemma-pow-multiplies : (a : ℤ) (b c : ℕ) → (0 ≤ b * c) × (pow (pow a b) c ≡ pow a (b * c))
lemma-pow-multiplies a b c = (omega arith, times c)
  where
    times : (c : ℕ) → pow (pow a b) c ≡ pow a (b * c)
    times zero = lemma-pow0 (pow a b) ∙ sym (ap (pow a) (mul-zero b) ∙ lemma-pow0 a)
    times (suc c) =
        pow-suc (pow a b) c ∙ ap (λ x. pow a b *ℤ x) (times c) ∙ lemma-mul-is-commutative (pow a b) (pow a (b * c)) ∙ sym (lemma-pow-adds a (b * c) b)
        ∙ ap (pow a) (sym (mul-suc b c))

-- pow(a * b, e) == pow(a, e) * pow(b, e)
pub lemma-pow-distributes : (a b : ℤ) (e : ℕ) → pow (a *ℤ b) e ≡ pow a e *ℤ pow b e
lemma-pow-distributes a b zero = lemma-pow0 (a *ℤ b) ∙ sym (ap₂ ◌*ℤ◌ (lemma-pow0 a) (lemma-pow0 b))
lemma-pow-distributes a b (suc e) =
    pow-suc (a *ℤ b) e ∙ ap (λ x. a *ℤ b *ℤ x) (lemma-pow-distributes a b e)
    ∙ equalℤ (⟨ a ⟩ ⊗ ⟨ b ⟩ ⊗ (⟨ pow a e ⟩ ⊗ ⟨ pow b e ⟩)) (⟨ a ⟩ ⊗ ⟨ pow a e ⟩ ⊗ (⟨ b ⟩ ⊗ ⟨ pow b e ⟩)) (omega arith)
    ∙ sym (ap₂ ◌*ℤ◌ (pow-suc a e) (pow-suc b e))

-- (b^(x * y))^z == (b^x)^(y * z)
pub lemma-pull-out-pows : (b : ℤ) (x y z : ℕ) → (0 ≤ x * y) × (0 ≤ y * z) × (pow (pow b (x * y)) z ≡ pow (pow b x) (y * z))
lemma-pull-out-pows b x y z =
    (omega arith, omega arith, (lemma-pow-multiplies b (x * y) z).1 ∙ ap (pow b) (mul_assoc x y z) ∙ sym (lemma-pow-multiplies b x (y * z)).1)

-- ---- the list that upstream's group of broadcast lemmas stands for

pub lemma-pow-properties-prove-pow-auto
    : ((x : ℤ) → pow x 0 ≡ pos 1)
    × ((x : ℤ) → pow x 1 ≡ x)
    × ((x : ℤ) (y : ℕ) → y ≡ 0 → pow x y ≡ pos 1)
    × ((x : ℤ) (y : ℕ) → y ≡ 1 → pow x y ≡ x)
    × ((x y : ℤ) → pos 0 <ℤ x → pos 0 <ℤ y → x ≤ℤ (x *ℤ y))
    × ((x y : ℤ) → pos 0 <ℤ x → pos 1 <ℤ y → x <ℤ (x *ℤ y))
    × ((x : ℤ) (y z : ℕ) → pow x (y + z) ≡ pow x y *ℤ pow x z)
    × ((x : ℤ) (y z : ℕ) → z ≤ y → pow x (y - z) *ℤ pow x z ≡ pow x y)
    × ((x y : ℤ) (z : ℕ) → pow (x *ℤ y) z ≡ pow x z *ℤ pow y z)
lemma-pow-properties-prove-pow-auto = (
  lemma-pow0,
  lemma-pow1,
  λ x y e. ap (pow x) e ∙ lemma-pow0 x,
  λ x y e. ap (pow x) e ∙ lemma-pow1 x,
  λ x y h k. subst (λ z. x ≤ℤ z) (lemma-mul-is-commutative y x) (lemma-mul-increases y x k (<ℤ→≤ℤ h)),
  λ x y h k. subst (λ z. x <ℤ z) (lemma-mul-is-commutative y x) (lemma-mul-strictly-increases y x k h),
  lemma-pow-adds,
  lemma-pow-sub-add-cancel,
  lemma-pow-distributes,
)

-- ---- order

-- b > 0 and e1 <= e2 give pow(b, e1) <= pow(b, e2)
pub lemma-pow-increases : (b : ℤ) (e1 e2 : ℕ) → pos 0 <ℤ b → e1 ≤ e2 → pow b e1 ≤ℤ pow b e2
lemma-pow-increases b e1 e2 h k =
    subst (λ x. pow b e1 ≤ℤ x) (lemma-pow-sub-add-cancel b e2 e1 k)
    (lemma-mul-increases (pow b (e2 - e1)) (pow b e1) (lemma-pow-positive b (e2 - e1) h) (<ℤ→≤ℤ (lemma-pow-positive b e1 h)))

-- b > 1 and e > 0 give pow(b, e) > 1
above-one : (b : ℤ) (e : ℕ) → pos 1 <ℤ b → 0 < e → pos 1 <ℤ pow b e
above-one b e h k =
    <ℤ-≤ℤ_trans h (subst (λ x. x ≤ℤ pow b e) (lemma-pow1 b) (lemma-pow-increases b 1 e (ltℤ (# 0) ⟨ b ⟩ (omega (arith, whole))) k))

-- b > 1 and e1 < e2 give pow(b, e1) < pow(b, e2)
pub lemma-pow-strictly-increases : (b : ℤ) (e1 e2 : ℕ) → pos 1 <ℤ b → e1 < e2 → pow b e1 <ℤ pow b e2
lemma-pow-strictly-increases b e1 e2 h k =
    subst (λ x. pow b e1 <ℤ x) (lemma-pow-sub-add-cancel b e2 e1 (omega arith))
    (lemma-mul-strictly-increases (pow b (e2 - e1)) (pow b e1) (above-one b (e2 - e1) h (omega arith)) (lemma-pow-positive b e1 (ltℤ (# 0) ⟨ b ⟩ (omega (arith, whole)))))

-- b > 0 and pow(b, e1) < pow(b, e2) give e1 < e2
pub lemma-pow-strictly-increases-converse : (b : ℤ) (e1 e2 : ℕ) → pos 0 <ℤ b → pow b e1 <ℤ pow b e2 → e1 < e2
lemma-pow-strictly-increases-converse b e1 e2 h k =
    elim (dec_lt e1 e2) [ yes l ↦ l | no n ↦ clash_ℤ k (lemma-pow-increases b e2 e1 h (omega arith)) ]

-- b > 1 and pow(b, e1) <= pow(b, e2) give e1 <= e2
pub lemma-pow-increases-converse : (b : ℤ) (e1 e2 : ℕ) → pos 1 <ℤ b → pow b e1 ≤ℤ pow b e2 → e1 ≤ e2
lemma-pow-increases-converse b e1 e2 h k =
    elim (dec_le e1 e2) [ yes l ↦ l | no n ↦ clash_ℤ (lemma-pow-strictly-increases b e2 e1 h (omega arith)) k ]

-- ---- quotients and remainders of powers

-- e2 <= e1 and x < pow(b, e1) give x / pow(b, e2) < pow(b, e1 - e2)
pub lemma-pow-division-inequality
    : (x b : ℤ) (e1 e2 : ℕ) → pos 0 <ℤ b → e2 ≤ e1 → x <ℤ pow b e1 → (pos 0 <ℤ pow b e2) × ((x /ℤ pow b e2) <ℤ pow b (e1 - e2))
lemma-pow-division-inequality x b e1 e2 h k l =
    let p = lemma-pow-positive b e2 h in (
      p,
      less-than-times x (pow b e2) (pow b (e1 - e2)) p
          (subst (λ y. x <ℤ y) (sym (lemma-mul-is-commutative (pow b e2) (pow b (e1 - e2)) ∙ lemma-pow-sub-add-cancel b e1 e2 k)) l),
    )

-- pow(b, e) % b == 0 for e > 0
pub lemma-pow-mod : (b : ℤ) (e : ℕ) → 0 < e → pow b e %ℤ b ≡ pos 0
lemma-pow-mod b zero h = let f : ⊥ = omega arith in absurd f
lemma-pow-mod b (suc e) h =
    ap (λ x. x %ℤ b) (pow-suc b e ∙ lemma-mul-is-commutative b (pow b e)) ∙ lemma-mod-multiples-basic (pow b e) b

-- ((b % m)^e) % m == b^e % m
pub lemma-pow-mod-noop : (b : ℤ) (e : ℕ) (m : ℤ) → pow (b %ℤ m) e %ℤ m ≡ pow b e %ℤ m
lemma-pow-mod-noop b zero m = ap (λ x. x %ℤ m) (lemma-pow0 (b %ℤ m) ∙ sym (lemma-pow0 b))
lemma-pow-mod-noop b (suc e) m =
    ap (λ x. x %ℤ m) (pow-suc (b %ℤ m) e)
    ∙ sym (lemma-mul-mod-noop-right (b %ℤ m) (pow (b %ℤ m) e) m)
    ∙ ap (λ x. b %ℤ m *ℤ x %ℤ m) (lemma-pow-mod-noop b e m)
    ∙ lemma-mul-mod-noop b (pow b e) m
    ∙ ap (λ x. x %ℤ m) (sym (pow-suc b e))
