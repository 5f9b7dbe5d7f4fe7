-- Euclid's division for divisors of both signs: the two facts that specify it, that they determine it, and what follows at once.
-- Every law of `div-mod` stands on these and not on the definitions of /ℤ and %ℤ.
-- Assumes nothing.
use mathlib.Core.Path.{◌≡◌, refl, ap, sym, ◌∙◌, subst}
use mathlib.Core.Logic.{◌≢◌, ⊎_elim}
use Prim.Native.Nat.{ℕ, zero, suc, ◌+◌, ◌*◌, ◌/◌, ◌%◌, ◌≤◌, ◌<◌}
use native.Mathlib.Nat.{div-add-mod, mod-lt, zero-lt-suc}
use native.Mathlib.Omega.{arith}
use lib.IntN.{ℤ, pos, negsuc, neg_ℤ, ◌+ℤ◌, ◌*ℤ◌}
use lib.Signed.{◌≤ℤ◌, ◌<ℤ◌, clash_ℤ}
use Rattle.whole.specs.DivMod.{◌/ℤ◌, ◌%ℤ◌, ◌below◌, ∣◌∣}
use Rattle.whole.proofs.Difference.{Difference, plus, minus, plus-neg, minus-neg, ⟨◌⟩, #, ◌⊕◌, ◌⊝◌, ◌⊗◌, ⊖◌, equalℤ, leℤ, ltℤ, equalℤ⁻¹, leℤ⁻¹, ltℤ⁻¹, same-of, atmost-of, less-of, whole, cross}
use Rattle.whole.proofs.Order.{≤ℤ-antisym, ≤ℤ-<ℤ-trans, <ℤ→≤ℤ, ≮ℤ→≤ℤ, ≰ℤ→<ℤ, equal-or-not}

-- ---- the specification: x is d times the quotient and the remainder, and that is from 0 to |d| - 1

pub rem-same : {x d : ℤ} (r : Difference x) (s : Difference d) → plus (x %ℤ d) + (r ⊝ s ⊗ ⟨ x /ℤ d ⟩).less ≡ (r ⊝ s ⊗ ⟨ x /ℤ d ⟩).more + minus (x %ℤ d)
unfolding ◌%ℤ◌
rem-same {x} {d} r s = (r ⊝ s ⊗ ⟨ x /ℤ d ⟩).same

-- the remainder as a term of x, d and the quotient, for `omega`
infixl 7 ◌%%◌
abbrev pub ◌%%◌ : {x d : ℤ} → Difference x → Difference d → Difference (x %ℤ d)
◌%%◌ {x} {d} r s = record { more = (r ⊝ s ⊗ ⟨ x /ℤ d ⟩).more; less = (r ⊝ s ⊗ ⟨ x /ℤ d ⟩).less; same = rem-same r s }

pub fundamental : (x d : ℤ) → x ≡ d *ℤ (x /ℤ d) +ℤ (x %ℤ d)
fundamental x d = equalℤ ⟨ x ⟩ (⟨ d ⟩ ⊗ ⟨ x /ℤ d ⟩ ⊕ ⟨ x ⟩ %% ⟨ d ⟩) (omega arith)

-- a remainder lies in the range where the naturals' division of a by m + 1 says so
in-range
    : (a m : ℕ) {r : ℤ} (s : Difference r) →
    (suc m * (a / suc m) + a % suc m ≡ a → a % suc m < suc m → (s.less ≤ s.more) × (s.more < suc m + s.less)) → r below (pos (suc m))
in-range a m s f =
    let k = f (div-add-mod a (suc m)) (mod-lt a (zero-lt-suc m)) in (leℤ (# 0) s (omega arith), ltℤ s (# (suc m)) (omega arith))

pub bound : (x d : ℤ) → d ≢ pos 0 → (x %ℤ d) below ∣ d ∣
unfolding ◌/ℤ◌
bound x (pos zero) n = absurd (n refl)
bound (pos a) (pos (suc m)) n = in-range a m (⟨ pos a ⟩ %% ⟨ pos (suc m) ⟩) (omega arith)
bound (negsuc a) (pos (suc m)) n = in-range a m (⟨ negsuc a ⟩ %% ⟨ pos (suc m) ⟩) (omega arith)
bound (pos a) (negsuc m) n = in-range a m (⟨ pos a ⟩ %% ⟨ negsuc m ⟩) (simp (plus-neg, minus-neg) (omega arith))
bound (negsuc a) (negsuc m) n = in-range a m (⟨ negsuc a ⟩ %% ⟨ negsuc m ⟩) (omega arith)

-- the same for a divisor above 0
pub bound-positive : (x d : ℤ) → pos 0 <ℤ d → (x %ℤ d) below d
bound-positive x (pos zero) h = absurd h.lt
bound-positive x (pos (suc m)) h = bound x (pos (suc m)) (λ e. omega (arith, whole))
bound-positive x (negsuc m) h = absurd h.lt

-- ---- it determines quotient and remainder

-- where two quotients and remainders below d give one number, the first quotient is not the larger
not-larger : {d q r p s : ℤ} → r below d → s below d → d *ℤ q +ℤ r ≡ d *ℤ p +ℤ s → q ≤ℤ p
not-larger {d} {q} {r} {p} {s} h k e =
    ≮ℤ→≤ℤ λ (l : p <ℤ q).
    omega (arith, whole, equalℤ⁻¹ (⟨ d ⟩ ⊗ ⟨ q ⟩ ⊕ ⟨ r ⟩) (⟨ d ⟩ ⊗ ⟨ p ⟩ ⊕ ⟨ s ⟩) e, cross (less-of p q l) (atmost-of (pos 0) d (<ℤ→≤ℤ (≤ℤ-<ℤ-trans h.0 h.1))))

unique-positive : {d q r p s : ℤ} → r below d → s below d → d *ℤ q +ℤ r ≡ d *ℤ p +ℤ s → (q ≡ p) × (r ≡ s)
unique-positive {d} {q} {r} {p} {s} h k e =
    let f : q ≡ p = ≤ℤ-antisym (not-larger h k e) (not-larger k h (sym e)) in
    (f, equalℤ ⟨ r ⟩ ⟨ s ⟩ (omega (arith, equalℤ⁻¹ (⟨ d ⟩ ⊗ ⟨ q ⟩ ⊕ ⟨ r ⟩) (⟨ d ⟩ ⊗ ⟨ q ⟩ ⊕ ⟨ s ⟩) (subst (λ z. d *ℤ q +ℤ r ≡ d *ℤ z +ℤ s) (sym f) e))))

pub unique : (d : ℤ) {q r p s : ℤ} → r below ∣ d ∣ → s below ∣ d ∣ → d *ℤ q +ℤ r ≡ d *ℤ p +ℤ s → (q ≡ p) × (r ≡ s)
unique (pos n) h k e = unique-positive h k e
unique (negsuc m) {q} {r} {p} {s} h k e =
    let f = unique-positive {q = neg_ℤ q} {p = neg_ℤ p} h k
    (equalℤ (# (suc m) ⊗ ⊖ ⟨ q ⟩ ⊕ ⟨ r ⟩) (# (suc m) ⊗ ⊖ ⟨ p ⟩ ⊕ ⟨ s ⟩)
    (omega (arith, equalℤ⁻¹ (⟨ negsuc m ⟩ ⊗ ⟨ q ⟩ ⊕ ⟨ r ⟩) (⟨ negsuc m ⟩ ⊗ ⟨ p ⟩ ⊕ ⟨ s ⟩) e))) in
    (equalℤ ⟨ q ⟩ ⟨ p ⟩ (omega (arith, equalℤ⁻¹ (⊖ ⟨ q ⟩) (⊖ ⟨ p ⟩) f.0)), f.1)

below→≢0 : (d : ℤ) {r : ℤ} → r below ∣ d ∣ → d ≢ pos 0
below→≢0 d {r} h e = omega (arith, whole, same-of ∣ d ∣ (pos 0) (ap ∣◌∣ e))

-- whatever quotient and remainder meet the specification are /ℤ and %ℤ
pub determined : (x d q r : ℤ) → r below ∣ d ∣ → x ≡ d *ℤ q +ℤ r → (q ≡ x /ℤ d) × (r ≡ x %ℤ d)
determined x d q r h e = unique d h (bound x d (below→≢0 d h)) (sym e ∙ fundamental x d)

-- ---- a multiple of the divisor moves out

pub shifted : (x y a d : ℤ) → d ≢ pos 0 → x ≡ d *ℤ a +ℤ y → (x /ℤ d ≡ a +ℤ y /ℤ d) × (x %ℤ d ≡ y %ℤ d)
shifted x y a d n e =
    let f = determined x d (a +ℤ y /ℤ d) (y %ℤ d) (bound y d n)
    (equalℤ ⟨ x ⟩ (⟨ d ⟩ ⊗ (⟨ a ⟩ ⊕ ⟨ y /ℤ d ⟩) ⊕ ⟨ y ⟩ %% ⟨ d ⟩) (omega (arith, equalℤ⁻¹ ⟨ x ⟩ (⟨ d ⟩ ⊗ ⟨ a ⟩ ⊕ ⟨ y ⟩) e))) in
    (sym f.0, sym f.1)

same-at-zero : (x y a d : ℤ) → d ≡ pos 0 → x ≡ d *ℤ a +ℤ y → x ≡ y
same-at-zero x y a d z e =
    equalℤ ⟨ x ⟩ ⟨ y ⟩ (omega (arith, equalℤ⁻¹ ⟨ x ⟩ (# 0 ⊗ ⟨ a ⟩ ⊕ ⟨ y ⟩) (subst (λ b. x ≡ b *ℤ a +ℤ y) z e)))

-- the remainder does not change, for any divisor
pub same-remainder : (x y a d : ℤ) → x ≡ d *ℤ a +ℤ y → x %ℤ d ≡ y %ℤ d
same-remainder x y a d e = ⊎_elim (λ z. ap (λ b. b %ℤ d) (same-at-zero x y a d z e)) (λ n. (shifted x y a d n e).1) (equal-or-not d (pos 0))

-- ---- for a divisor above 0 the quotient is the largest c with d * c at most x

pub times-quotient : (x d : ℤ) → pos 0 <ℤ d → (d *ℤ (x /ℤ d)) ≤ℤ x
times-quotient x d h = leℤ (⟨ d ⟩ ⊗ ⟨ x /ℤ d ⟩) ⟨ x ⟩ (omega (arith, leℤ⁻¹ (# 0) (⟨ x ⟩ %% ⟨ d ⟩) (bound-positive x d h).0))

pub times-at-most : (x d c : ℤ) → pos 0 <ℤ d → (d *ℤ c) ≤ℤ x → c ≤ℤ (x /ℤ d)
times-at-most x d c h k =
    ≮ℤ→≤ℤ λ (l : (x /ℤ d) <ℤ c).
    omega (arith, leℤ⁻¹ (⟨ d ⟩ ⊗ ⟨ c ⟩) ⟨ x ⟩ k, cross (less-of (x /ℤ d) c l) (atmost-of (pos 0) d (<ℤ→≤ℤ h)), ltℤ⁻¹ (⟨ x ⟩ %% ⟨ d ⟩) ⟨ d ⟩ (bound-positive x d h).1)

pub less-than-times : (x d c : ℤ) → pos 0 <ℤ d → x <ℤ (d *ℤ c) → (x /ℤ d) <ℤ c
less-than-times x d c h k =
    ≰ℤ→<ℤ λ (l : c ≤ℤ (x /ℤ d)).
    omega (arith, ltℤ⁻¹ ⟨ x ⟩ (⟨ d ⟩ ⊗ ⟨ c ⟩) k, cross (atmost-of c (x /ℤ d) l) (atmost-of (pos 0) d (<ℤ→≤ℤ h)), leℤ⁻¹ (# 0) (⟨ x ⟩ %% ⟨ d ⟩) (bound-positive x d h).0)

-- and back
pub quotient-less : (x d c : ℤ) → pos 0 <ℤ d → (x /ℤ d) <ℤ c → x <ℤ (d *ℤ c)
quotient-less x d c h k = ≰ℤ→<ℤ λ (l : (d *ℤ c) ≤ℤ x). clash_ℤ k (times-at-most x d c h l)
