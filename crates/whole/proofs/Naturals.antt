-- Where the operands are natural numbers, /ℤ, %ℤ, `pow` and `log` are the native /, %, ^ and the largest exponent.
-- A crate whose numbers are the machine's comes to the laws on ℤ through these.
-- Assumes nothing.
use mathlib.Core.Path.{◌≡◌, refl, ap, sym, ◌∙◌, subst}
use Prim.Native.Nat.{ℕ, zero, suc, ◌/◌, ◌%◌, ◌^◌, ◌≤◌, ◌<◌}
use native.Mathlib.Nat.{div-add-mod, pow-zero, pow-succ'}
use native.Mathlib.Numerals.{one-add}
use native.Mathlib.Omega.{arith}
use lib.IntN.{ℤ, pos, negsuc, nat_abs, ◌+ℤ◌, ◌*ℤ◌}
use lib.Signed.{◌≤ℤ◌, ◌<ℤ◌}
use Rattle.whole.specs.DivMod.{◌/ℤ◌, ◌%ℤ◌}
use Rattle.whole.specs.Power.{pow}
use Rattle.whole.specs.Logarithm.{log, log_of}
use Rattle.whole.proofs.Difference.{⟨◌⟩, #, ◌⊝◌, ◌⊗◌, ⊖◌, equalℤ, leℤ, ltℤ, atmost-of, less-of}
use Rattle.whole.proofs.Power.{pow-suc, lemma-pow0}
use Rattle.whole.proofs.Logarithm.{lemma-log0, lemma-log-s, log-natural, log-floor, log-largest, log-unique, log-of-0}

-- ---- order

pub pos-≤ : {a b : ℕ} → a ≤ b → pos a ≤ℤ pos b
pos-≤ {a} {b} h = leℤ (# a) (# b) (omega arith)

pub pos-< : {a b : ℕ} → a < b → pos a <ℤ pos b
pos-< {a} {b} h = ltℤ (# a) (# b) (omega arith)

pub ≤-of-pos : {a b : ℕ} → pos a ≤ℤ pos b → a ≤ b
≤-of-pos {a} {b} h = omega (arith, atmost-of (pos a) (pos b) h)

pub <-of-pos : {a b : ℕ} → pos a <ℤ pos b → a < b
<-of-pos {a} {b} h = omega (arith, less-of (pos a) (pos b) h)

-- ---- quotient and remainder

pub natural-div : (a d : ℕ) → pos a /ℤ pos d ≡ pos (a / d)
unfolding ◌/ℤ◌
natural-div a d = refl

-- the remainder for divisors of both signs
pub natural-mod : (a : ℕ) (d : ℤ) → pos a %ℤ d ≡ pos (a % nat_abs d)
unfolding ◌/ℤ◌ ◌%ℤ◌
natural-mod a (pos n) = equalℤ (# a ⊝ # n ⊗ # (a / n)) (# (a % n)) (omega (arith, div-add-mod a n))
natural-mod a (negsuc m) = equalℤ (# a ⊝ ⟨ negsuc m ⟩ ⊗ ⊖ # (a / suc m)) (# (a % suc m)) (omega (arith, div-add-mod a (suc m)))

-- ---- power

pub natural-pow : (b e : ℕ) → pow (pos b) e ≡ pos (b ^ e)
natural-pow b zero = lemma-pow0 (pos b) ∙ ap pos (sym (pow-zero b))
natural-pow b (suc e) = pow-suc (pos b) e ∙ ap (λ x. pos b *ℤ x) (natural-pow b e) ∙ ap pos (sym (pow-succ' b e))

-- ---- logarithm

pub natural-log : (l r : ℕ) → log (pos l) (pos r) ≡ pos (log_of l r)
unfolding log_of
natural-log l r = sym (log-natural (pos l) (pos r))

pub log-of-zero : (l : ℕ) → log_of l 0 ≡ 0
unfolding log_of
log-of-zero l = ap nat_abs (log-of-0 (pos l))

-- below the base it is 0
pub log-of-small : (l r : ℕ) → r < l → log_of l r ≡ 0
unfolding log_of
log-of-small l r h = ap nat_abs (lemma-log0 (pos l) (pos r) (pos-< h))

-- from the base up it is one more than the quotient's
pub log-of-more : (l r : ℕ) → 1 < l → l ≤ r → log_of l r ≡ suc (log_of l (r / l))
log-of-more l r h k =
    ap nat_abs
    (sym (natural-log l r) ∙ (lemma-log-s (pos l) (pos r) (pos-< h) (pos-≤ k)).1 ∙ ap (λ q. pos 1 +ℤ log (pos l) q) (natural-div r l)
    ∙ ap (λ x. pos 1 +ℤ x) (natural-log l (r / l)) ∙ ap pos (one-add (log_of l (r / l))))

-- l ^ log <= r < l ^ (log + 1)
pub log-of-floor : (l r : ℕ) → 1 < l → 0 < r → (l ^ log_of l r ≤ r) × (r < l ^ suc (log_of l r))
unfolding log_of
log-of-floor l r h k =
    let f = log-floor (pos l) (pos r) (pos-< h) (pos-≤ k) in
    (≤-of-pos (subst (λ x. x ≤ℤ pos r) (natural-pow l (log_of l r)) f.0), <-of-pos (subst (λ x. pos r <ℤ x) (natural-pow l (suc (log_of l r))) f.1))

-- it is the largest exponent whose power is at most r
pub log-of-largest : (l r e : ℕ) → 1 < l → l ^ e ≤ r → e ≤ log_of l r
log-of-largest l r e h k =
    ≤-of-pos (subst (λ x. pos e ≤ℤ x) (natural-log l r) (log-largest (pos l) (pos r) e (pos-< h) (rw (natural-pow l e) (pos-≤ k))))

-- and the only one with r below the next power
pub log-of-unique : (l r e : ℕ) → 1 < l → l ^ e ≤ r → r < l ^ suc e → log_of l r ≡ e
log-of-unique l r e h low high =
    ap nat_abs (sym (natural-log l r) ∙ log-unique (pos l) (pos r) e (pos-< h) (rw (natural-pow l e) (pos-≤ low), rw (natural-pow l (suc e)) (pos-< high)))
