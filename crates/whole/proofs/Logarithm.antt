-- The whole part of the logarithm: upstream's equation for it, the laws of its `logarithm.rs` under its names,
-- and that the logarithm is the largest exponent whose power is at most the argument.
-- Assumes nothing.
use mathlib.Core.Path.{◌≡◌, refl, ap, sym, ◌∙◌, subst}
use mathlib.Core.Logic.{⊎_elim}
use mathlib.Core.Bool.{Bool, true, false, ◌||◌, true≢false}
use Prim.Native.Nat.{ℕ, zero, suc, ◌≤◌, ◌<◌}
use native.Mathlib.Numerals.{one-add}
use native.Mathlib.Omega.{arith}
use lib.Dec.{T}
use lib.IntN.{ℤ, pos, negsuc, nat_abs, ◌+ℤ◌}
use lib.Signed.{◌≤ℤ◌, ◌<ℤ◌, ≤ℤ_refl, <ℤ-≤ℤ_trans, lt_z, le_z, lt_z_yes, le_z_yes, clash_ℤ, yes_non_neg, pos-nat_abs}
use Rattle.whole.specs.DivMod.{◌/ℤ◌, ◌below◌}
use Rattle.whole.specs.Power.{pow}
use Rattle.whole.specs.Logarithm.{ends, log_within, log}
use Rattle.whole.proofs.Difference.{⟨◌⟩, #, ◌⊕◌, leℤ, ltℤ, whole}
use Rattle.whole.proofs.Order.{≤ℤ-antisym, ≤ℤ-trans, ≤ℤ-<ℤ-trans, <ℤ→≤ℤ, ≮ℤ→≤ℤ, ≰ℤ→<ℤ, ≤ℤ-or-<ℤ}
use Rattle.whole.proofs.DivMod.{lemma-div-pos-is-pos, lemma-div-decreases, lemma-div-non-zero}
use Rattle.whole.proofs.Euclid.{times-quotient, quotient-less}
use Rattle.whole.proofs.Mul.{lemma-mul-left-inequality}
use Rattle.whole.proofs.Power.{pow-suc, lemma-pow0, lemma-pow1, lemma-pow-positive, lemma-pow-strictly-increases, lemma-pow-strictly-increases-converse}

-- ---- the test for the end

none-of : (a b c : Bool) → (a || b || c) ≡ false → (T a → ⊥) × (T b → ⊥) × (T c → ⊥)
none-of true b c e = absurd (true≢false e)
none-of false true c e = absurd (true≢false e)
none-of false false true e = absurd (true≢false e)
none-of false false false e = (λ t. t, λ t. t, λ t. t)

all-fail : (a b c : Bool) → (T a → ⊥) → (T b → ⊥) → (T c → ⊥) → (a || b || c) ≡ false
all-fail true b c f g h = absurd (f tt)
all-fail false true c f g h = absurd (g tt)
all-fail false false true f g h = absurd (h tt)
all-fail false false false f g h = refl

first : (a b c : Bool) → T a → (a || b || c) ≡ true
first true b c t = refl
first false b c t = absurd t

-- where the test fails, pow is at least base, and the quotient is from 0 to below pow
goes : (base pow : ℤ) → ends base pow ≡ false → (base ≤ℤ pow) × ((pow /ℤ base) below pow)
unfolding ends
goes base pow e =
    let f = none-of (lt_z pow base) (le_z pow (pow /ℤ base)) (lt_z (pow /ℤ base) (pos 0)) e in
    (≮ℤ→≤ℤ (λ h. f.0 h.lt), (≮ℤ→≤ℤ (λ h. f.2 h.lt), ≰ℤ→<ℤ (λ h. f.1 h.le)))

-- and it fails there
went : (base pow : ℤ) → base ≤ℤ pow → (pow /ℤ base) below pow → ends base pow ≡ false
unfolding ends
went base pow h k =
    all-fail (lt_z pow base) (le_z pow (pow /ℤ base)) (lt_z (pow /ℤ base) (pos 0)) (λ t. clash_ℤ (lt_z_yes t) h) (λ t. clash_ℤ k.1 (le_z_yes t)) (λ t. clash_ℤ (lt_z_yes t) k.0)

-- pow below base passes it
ended : (base pow : ℤ) → pow <ℤ base → ends base pow ≡ true
unfolding ends
ended base pow h = first (lt_z pow base) (le_z pow (pow /ℤ base)) (lt_z (pow /ℤ base) (pos 0)) h.lt

-- ---- any number of calls that is at least |pow| gives the same, so that upstream's equation holds

smaller : (x y : ℤ) → x below y → nat_abs x < nat_abs y
smaller (pos a) (pos b) h = omega (arith, whole)
smaller (pos a) (negsuc b) h = let f : ⊥ = omega (arith, whole) in absurd f
smaller (negsuc a) y h = absurd h.0.le

-- one call: what the test decides, given what the next call gives
abbrev step : Bool → ℤ → ℤ
step true next = pos 0
step false next = pos 1 +ℤ next

within-suc : (n : ℕ) (base pow : ℤ) → log_within (suc n) base pow ≡ step (ends base pow) (log_within n base (pow /ℤ base))
unfolding log_within
within-suc n base pow = cases (ends base pow)
  where
    cases : (b : Bool) → elim b as (λ _. ℤ) [ true ↦ pos 0 | false ↦ pos 1 +ℤ log_within n base (pow /ℤ base) ] ≡ step b (log_within n base (pow /ℤ base))
    cases true = refl
    cases false = refl

within-zero : (base pow : ℤ) → log_within zero base pow ≡ pos 0
unfolding log_within
within-zero base pow = refl

step-same : (b : Bool) {x y : ℤ} → (b ≡ false → x ≡ y) → step b x ≡ step b y
step-same true f = refl
step-same false f = ap (λ z. pos 1 +ℤ z) (f refl)

step-ends : (b : Bool) (x : ℤ) → (b ≡ false → ⊥) → step b x ≡ pos 0
step-ends true x f = refl
step-ends false x f = absurd (f refl)

fewer : (base pow : ℤ) → ends base pow ≡ false → nat_abs (pow /ℤ base) < nat_abs pow
fewer base pow e = smaller (pow /ℤ base) pow (goes base pow e).1

none-left : (m : ℕ) (base pow : ℤ) → nat_abs pow ≤ 0 → log_within m base pow ≡ pos 0
none-left zero base pow h = within-zero base pow
none-left (suc m) base pow h =
    within-suc m base pow ∙ step-ends (ends base pow) (log_within m base (pow /ℤ base)) (λ e. omega (arith, fewer base pow e))

enough : (n m : ℕ) (base pow : ℤ) → nat_abs pow ≤ n → nat_abs pow ≤ m → log_within n base pow ≡ log_within m base pow
enough zero m base pow h k = within-zero base pow ∙ sym (none-left m base pow h)
enough (suc n) zero base pow h k = none-left (suc n) base pow k ∙ sym (within-zero base pow)
enough (suc n) (suc m) base pow h k =
    within-suc n base pow
    ∙ step-same (ends base pow) (λ e. enough n m base (pow /ℤ base) (omega (arith, fewer base pow e)) (omega (arith, fewer base pow e)))
    ∙ sym (within-suc m base pow)

unfold-step : (base pow : ℤ) → log base pow ≡ step (ends base pow) (log base (pow /ℤ base))
unfolding log
unfold-step base pow =
    enough (nat_abs pow) (suc (nat_abs pow)) base pow (omega arith) (omega arith)
    ∙ within-suc (nat_abs pow) base pow
    ∙ step-same (ends base pow) (λ e. enough (nat_abs pow) (nat_abs (pow /ℤ base)) base (pow /ℤ base) (omega (arith, fewer base pow e)) (omega arith))

-- log(base, pow) == if ends { 0 } else { 1 + log(base, pow / base) }, for every base and pow
pub log-unfold
    : (base pow : ℤ) → (ends base pow ≡ true → log base pow ≡ pos 0) × (ends base pow ≡ false → log base pow ≡ pos 1 +ℤ log base (pow /ℤ base))
log-unfold base pow = (by-test, by-test)
  where
    by-test : {b : Bool} → ends base pow ≡ b → log base pow ≡ step b (log base (pow /ℤ base))
    by-test e = unfold-step base pow ∙ ap (λ b. step b (log base (pow /ℤ base))) e

-- ---- upstream's laws

-- pow < base gives log(base, pow) == 0
pub lemma-log0 : (base pow : ℤ) → pow <ℤ base → log base pow ≡ pos 0
lemma-log0 base pow h = (log-unfold base pow).0 (ended base pow h)

-- a base above 1 and a pow from base up: the quotient is from 0 to below pow
quotient-below : (base pow : ℤ) → pos 1 <ℤ base → base ≤ℤ pow → (pow /ℤ base) below pow
quotient-below base pow h k =
    let p : pos 0 <ℤ base = ltℤ (# 0) ⟨ base ⟩ (omega (arith, whole)) in
    let l : pos 0 <ℤ pow = <ℤ-≤ℤ_trans p k in
    (lemma-div-pos-is-pos pow base (<ℤ→≤ℤ l) p, lemma-div-decreases pow base l h)

-- pow >= base > 1 gives log(base, pow) == 1 + log(base, pow / base)
pub lemma-log-s : (base pow : ℤ) → pos 1 <ℤ base → base ≤ℤ pow → (pos 0 ≤ℤ (pow /ℤ base)) × (log base pow ≡ pos 1 +ℤ log base (pow /ℤ base))
lemma-log-s base pow h k =
    let q = quotient-below base pow h k in
    (q.0, (log-unfold base pow).1 (went base pow k q))

-- log(base, pow) >= 0
pub lemma-log-nonnegative : (base pow : ℤ) → pos 0 ≤ℤ log base pow
unfolding log
lemma-log-nonnegative base pow = within (nat_abs pow) pow
  where
    stepped : (b : Bool) (x : ℤ) → pos 0 ≤ℤ x → pos 0 ≤ℤ step b x
    stepped true x h = ≤ℤ_refl (pos 0)
    stepped false x h = leℤ (# 0) (# 1 ⊕ ⟨ x ⟩) (omega (arith, whole))

    within : (n : ℕ) (pow : ℤ) → pos 0 ≤ℤ log_within n base pow
    within zero pow = rw (within-zero base pow) (≤ℤ_refl (pos 0))
    within (suc n) pow = rw (within-suc n base pow) (stepped (ends base pow) (log_within n base (pow /ℤ base)) (within n (pow /ℤ base)))

-- ---- the specification: l^e <= r < l^(e + 1)

abbrev pub Floor : ℤ → ℤ → ℕ → Type 0
Floor l r e = (pow l e ≤ℤ r) × (r <ℤ pow l (suc e))

Found : ℤ → ℤ → Type 0
Found l r = (e : ℕ) × (log l r ≡ pos e) × Floor l r e

positive : {l : ℤ} → pos 1 <ℤ l → pos 0 <ℤ l
positive {l} h = ltℤ (# 0) ⟨ l ⟩ (omega (arith, whole))

-- below the base the exponent is 0
found-small : (l r : ℤ) → pos 1 ≤ℤ r → r <ℤ l → Found l r
unfolding Found
found-small l r k h = (0, lemma-log0 l r h, (rw (lemma-pow0 l) k, rw (lemma-pow1 l) h))

-- from the base up it is one more than the quotient's
found-more : (l r : ℤ) → pos 1 <ℤ l → l ≤ℤ r → Found l (r /ℤ l) → Found l r
unfolding Found
found-more l r h k (e, p, (low, high)) = (
  suc e,
  (lemma-log-s l r h k).1 ∙ ap (λ x. pos 1 +ℤ x) p ∙ ap pos (one-add e),
  (
    rw (pow-suc l e) (≤ℤ-trans ((lemma-mul-left-inequality l (pow l e) (r /ℤ l) (positive h)).0 low) (times-quotient r l (positive h))),
    rw (pow-suc l (suc e)) (quotient-less r l (pow l (suc e)) (positive h) high),
  ),
)

-- by as many calls as r needs
found : (n : ℕ) (l r : ℤ) → nat_abs r ≤ n → pos 1 <ℤ l → pos 1 ≤ℤ r → Found l r
found zero l (pos a) b h k = let f : ⊥ = omega (arith, whole) in absurd f
found zero l (negsuc a) b h k = absurd k.le
found (suc n) l r b h k =
    ⊎_elim
    (λ (m : l ≤ℤ r).
    let q = quotient-below l r h m in
    let c : nat_abs (r /ℤ l) ≤ n = omega (arith, smaller (r /ℤ l) r q) in
    found-more l r h m (found n l (r /ℤ l) c h (one-at-least (lemma-div-non-zero r l m (positive h)))))
    (λ m. found-small l r k m)
    (≤ℤ-or-<ℤ l r)
  where
    one-at-least : {x : ℤ} → pos 0 <ℤ x → pos 1 ≤ℤ x
    one-at-least {x} h = leℤ (# 1) ⟨ x ⟩ (omega (arith, whole))

-- ---- it holds of the logarithm, and of no other number

-- l^log <= r < l^(log + 1)
pub log-floor : (l r : ℤ) → pos 1 <ℤ l → pos 1 ≤ℤ r → Floor l r (nat_abs (log l r))
unfolding Found
log-floor l r h k = let f = found (nat_abs r) l r (omega arith) h k in subst (Floor l r) (sym (ap nat_abs f.1)) f.2

-- log(l, r) is a natural number
pub log-natural : (l r : ℤ) → pos (nat_abs (log l r)) ≡ log l r
log-natural l r = pos-nat_abs (log l r) (yes_non_neg (lemma-log-nonnegative l r))

-- whatever exponent has a power of at most r is at most the logarithm
pub log-largest : (l r : ℤ) (e : ℕ) → pos 1 <ℤ l → pow l e ≤ℤ r → pos e ≤ℤ log l r
log-largest l r e h k =
    let p = lemma-pow-positive l e (positive h) in
    let m : pos 1 ≤ℤ r = leℤ (# 1) ⟨ r ⟩ (omega (arith, whole)) in
    let c = lemma-pow-strictly-increases-converse l e (suc (nat_abs (log l r))) (positive h) (≤ℤ-<ℤ-trans k (log-floor l r h m).1) in
    subst (λ x. pos e ≤ℤ x) (log-natural l r) (leℤ (# e) (# (nat_abs (log l r))) (omega arith))

-- l^e <= r < l^(e + 1) holds of the logarithm only
pub log-unique : (l r : ℤ) (e : ℕ) → pos 1 <ℤ l → Floor l r e → log l r ≡ pos e
log-unique l r e h (low, high) =
    let p = lemma-pow-positive l e (positive h) in
    let m : pos 1 ≤ℤ r = leℤ (# 1) ⟨ r ⟩ (omega (arith, whole)) in
    let c = lemma-pow-strictly-increases-converse l (nat_abs (log l r)) (suc e) (positive h) (≤ℤ-<ℤ-trans (log-floor l r h m).0 high) in
    ≤ℤ-antisym (subst (λ x. x ≤ℤ pos e) (log-natural l r) (leℤ (# (nat_abs (log l r))) (# e) (omega arith))) (log-largest l r e h low)

-- ---- what follows

-- log(base, 0) == 0
pub log-of-0 : (base : ℤ) → log base (pos 0) ≡ pos 0
unfolding log
log-of-0 base = within-zero base (pos 0)

-- log(base, pow(base, n)) == n
pub lemma-log-pow : (base : ℤ) (n : ℕ) → pos 1 <ℤ base → log base (pow base n) ≡ pos n
lemma-log-pow base n h = log-unique base (pow base n) n h (≤ℤ_refl (pow base n), lemma-pow-strictly-increases base n (suc n) h (omega arith))

-- pow1 <= pow2 gives log(base, pow1) <= log(base, pow2)
pub lemma-log-is-ordered : (base pow1 pow2 : ℤ) → pos 1 <ℤ base → pow1 ≤ℤ pow2 → log base pow1 ≤ℤ log base pow2
lemma-log-is-ordered base pow1 pow2 h k =
    ⊎_elim
    (λ (m : pos 1 ≤ℤ pow1). subst (λ x. x ≤ℤ log base pow2) (log-natural base pow1) (log-largest base pow2 (nat_abs (log base pow1)) h (≤ℤ-trans (log-floor base pow1 h m).0 k)))
    (λ (m : pow1 <ℤ pos 1). rw (lemma-log0 base pow1 (ltℤ ⟨ pow1 ⟩ ⟨ base ⟩ (omega (arith, whole)))) (lemma-log-nonnegative base pow2))
    (≤ℤ-or-<ℤ (pos 1) pow1)
