-- How many binary digits a number has: what `digits` means, and the two ways to it, from the half and from the power of 2 above.
-- Assumes nothing.
use mathlib.Core.Path.{◌≡◌, refl, ap, sym, ◌∙◌, subst}
use mathlib.Core.Bool.{cond}
use Prim.Native.Nat.{ℕ, zero, suc, ◌-◌, ◌/◌, ◌^◌, ◌≤◌, ◌<◌}
use native.Mathlib.Nat.{pow-zero}
use native.Mathlib.Decide.{dec_lt}
use native.Mathlib.Omega.{arith}
use lib.Pow.{pow_pos}
use borrow.Author.Tests.{ne_eqb}
use Rattle.whole.specs.Logarithm.{log_of}
use Rattle.whole.proofs.Naturals.{log-of-small, log-of-more, log-of-floor, log-of-unique}
use Rattle.checked.specs.Value.{limit_of}
use Rattle.checked.proofs.Logarithms.{log-below-width}
use Rattle.meaning.specs.Count.{digits}

pub digits-of-zero : digits 0 ≡ 0
unfolding digits
digits-of-zero = refl

-- one more than the logarithm to the base 2
pub digits-of-more : (n : ℕ) → 0 < n → digits n ≡ suc (log_of 2 n)
unfolding digits
digits-of-more n h = ap (λ t. cond t 0 (suc (log_of 2 n))) (ne_eqb n 0 (omega arith))

-- d digits: 2 ^ (d - 1) <= n < 2 ^ d
pub digits-floor : (n : ℕ) → 0 < n → (2 ^ (digits n - 1) ≤ n) × (n < 2 ^ digits n)
digits-floor n h =
    let d = digits-of-more n h in
    let f = log-of-floor 2 n (omega arith) h in
    (subst (λ e. 2 ^ e ≤ n) (omega arith) f.0, subst (λ e. n < 2 ^ e) (sym d) f.1)

-- one more than the half's
pub digits-of-half : (e : ℕ) → 0 < e → digits e ≡ suc (digits (e / 2))
digits-of-half e h =
    digits-of-more e h
    ∙ elim (dec_lt e 2) [
      | yes k ↦ ap suc (log-of-small 2 e k ∙ sym digits-of-zero ∙ ap digits (omega arith))
      | no n ↦ ap suc (log-of-more 2 e (omega arith) (omega arith) ∙ sym (digits-of-more (e / 2) (omega arith)))
    ]

-- a number of W bits has at most W
pub digits-at-most : (W n : ℕ) → n < 2 ^ W → digits n ≤ W
digits-at-most W zero h = omega (arith, digits-of-zero)
digits-at-most zero (suc n) h = let f : ⊥ = omega (arith, pow-zero 2) in absurd f
digits-at-most (suc W) (suc n) h = omega (arith, digits-of-more (suc n) (omega arith), log-below-width 2 (suc n) (suc W) (omega arith) (omega arith) h)

-- and the largest of them has W
pub digits-of-limit : (W : ℕ) → 0 < W → digits (limit_of W) ≡ W
digits-of-limit zero h = absurd (omega arith)
digits-of-limit (suc k) h =
    let p : 0 < 2 ^ k = pow_pos k in
    digits-of-more (limit_of (suc k)) (omega arith) ∙ ap suc (log-of-unique 2 (limit_of (suc k)) k (omega arith) (omega arith) (omega arith))
