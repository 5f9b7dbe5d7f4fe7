-- What upstream's text leaves open on quotients, remainders and logarithms, closed: one named theorem for each gap.
-- Where its files state a theorem in part, or state it and it follows here from another, the line above it says so.
-- Assumes nothing.
use mathlib.Core.Path.{◌≡◌}
use mathlib.Core.Bool.{true, false}
use mathlib.Core.Logic.{◌≢◌}
use Prim.Native.Nat.{ℕ, zero, suc, ◌/◌, ◌<◌}
use native.Mathlib.Nat.{not-suc-le-zero, zero-div}
use native.Mathlib.Omega.{arith}
use lib.IntN.{ℤ, pos, negsuc, neg_ℤ, nat_abs, ◌+ℤ◌, ◌*ℤ◌}
use lib.Signed.{◌≤ℤ◌, ◌<ℤ◌}
use Rattle.whole.specs.DivMod.{◌/ℤ◌, ◌%ℤ◌, ◌below◌, ∣◌∣, is_mod_equivalent, rust_div, rust_rem}
use Rattle.whole.specs.Power.{pow}
use Rattle.whole.specs.Logarithm.{log, ends}
use Rattle.whole.proofs.Difference.{⟨◌⟩, ◌⊕◌, ◌⊗◌, equalℤ}
use Rattle.whole.proofs.Euclid.{◌%%◌, bound, unique, determined, shifted}
use Rattle.whole.proofs.DivMod.{lemma-div-is-ordered, lemma-div-by-multiple, by-zero, part-exact}
use Rattle.whole.proofs.DivMod.{lemma-mod-equivalence, lemma-mod-mul-equivalent}
use Rattle.whole.proofs.Power.{lemma-pow0}
use Rattle.whole.proofs.Logarithm.{log-unfold, log-floor, log-natural, log-largest, log-unique, log-of-0, lemma-log-pow, lemma-log-is-ordered}
use Rattle.whole.proofs.Truncating.{rust-fundamental, rust-rem-size, rust-rem-sign-positive, rust-rem-sign-negative, rust-div-of-0, rust-div-is}

-- ---- the truncating quotient and remainder

-- they belong together
pub truncating-together : (a b : ℤ) → a ≡ b *ℤ rust_div a b +ℤ rust_rem a b
truncating-together = rust-fundamental

-- the remainder is smaller than the divisor
pub truncating-remainder-size : (a b : ℤ) → b ≢ pos 0 → ∣ rust_rem a b ∣ <ℤ ∣ b ∣
truncating-remainder-size = rust-rem-size

-- the remainder has the dividend's sign
pub truncating-remainder-sign : (a b : ℤ) → (pos 0 ≤ℤ a → pos 0 ≤ℤ rust_rem a b) × (a ≤ℤ pos 0 → rust_rem a b ≤ℤ pos 0)
truncating-remainder-sign a b = (rust-rem-sign-positive a b, rust-rem-sign-negative a b)

-- the quotient is the whole part of |a| / |b| with the exact quotient's sign: a and b are the sizes
pub truncating-quotient
    : (a b : ℕ) → 0 < b →
    (rust_div (pos a) (pos b) ≡ pos (a / b))
    × (rust_div (pos a) (neg_ℤ (pos b)) ≡ neg_ℤ (pos (a / b)))
    × (rust_div (neg_ℤ (pos a)) (pos b) ≡ neg_ℤ (pos (a / b)))
    × (rust_div (neg_ℤ (pos a)) (neg_ℤ (pos b)) ≡ pos (a / b))
truncating-quotient a zero h = absurd (not-suc-le-zero h)
truncating-quotient zero (suc b) h =
    rw (zero-div (suc b)) (rust-div-of-0 (pos (suc b)), rust-div-of-0 (negsuc b), rust-div-of-0 (pos (suc b)), rust-div-of-0 (negsuc b))
truncating-quotient (suc a) (suc b) h =
    (rust-div-is (pos (suc a)) (pos (suc b)), rust-div-is (pos (suc a)) (negsuc b), rust-div-is (negsuc a) (pos (suc b)), rust-div-is (negsuc a) (negsuc b))

-- ---- Euclid's, for divisors of both signs

-- the remainder is from 0 to |d| - 1
pub remainder-bound : (x d : ℤ) → d ≢ pos 0 → (x %ℤ d) below ∣ d ∣
remainder-bound = bound

-- by 0 it is the dividend
pub remainder-by-zero : (x : ℤ) → x %ℤ pos 0 ≡ x
remainder-by-zero = by-zero

-- two quotients and remainders that give one number are the same
pub division-unique : (d q r p s : ℤ) → r below ∣ d ∣ → s below ∣ d ∣ → d *ℤ q +ℤ r ≡ d *ℤ p +ℤ s → (q ≡ p) × (r ≡ s)
division-unique d q r p s = unique d

-- so what meets the specification is the quotient and the remainder
pub division-determined : (x d q r : ℤ) → r below ∣ d ∣ → x ≡ d *ℤ q +ℤ r → (q ≡ x /ℤ d) × (r ≡ x %ℤ d)
division-determined = determined

-- ---- the logarithm

-- upstream's recursive equation, which is its definition, for every base and argument
pub log-equation
    : (base pow : ℤ) → (ends base pow ≡ true → log base pow ≡ pos 0) × (ends base pow ≡ false → log base pow ≡ pos 1 +ℤ log base (pow /ℤ base))
log-equation = log-unfold

-- l^log <= r < l^(log + 1)
pub log-specification : (l r : ℤ) → pos 1 <ℤ l → pos 1 ≤ℤ r → (pow l (nat_abs (log l r)) ≤ℤ r) × (r <ℤ pow l (suc (nat_abs (log l r))))
log-specification = log-floor

-- the exponent there is the logarithm itself, which is never negative
pub log-is-natural : (l r : ℤ) → pos (nat_abs (log l r)) ≡ log l r
log-is-natural = log-natural

-- it is the largest exponent whose power is at most r
pub log-is-largest : (l r : ℤ) (e : ℕ) → pos 1 <ℤ l → pow l e ≤ℤ r → pos e ≤ℤ log l r
log-is-largest = log-largest

-- and the only one with r below the next power
pub log-is-unique : (l r : ℤ) (e : ℕ) → pos 1 <ℤ l → pow l e ≤ℤ r → r <ℤ pow l (suc e) → log l r ≡ pos e
log-is-unique l r e h low high = log-unique l r e h (low, high)

-- for 0 there is no such exponent: its logarithm is 0 by definition, for every base (upstream's `lemma_log0` states it
-- for a base above 1)
pub log-of-nothing : (l : ℤ) → log l (pos 0) ≡ pos 0
log-of-nothing = log-of-0

-- upstream states this and the next; here they follow from the specification
pub log-of-power : (l : ℤ) (n : ℕ) → pos 1 <ℤ l → log l (pow l n) ≡ pos n
log-of-power = lemma-log-pow

pub log-keeps-order : (l r s : ℤ) → pos 1 <ℤ l → r ≤ℤ s → log l r ≤ℤ log l s
log-keeps-order = lemma-log-is-ordered

-- ---- remainders of products

-- `is_mod_equivalent` holds of any two numbers and every divisor, so that a lemma which asks it and gives it says
-- nothing (upstream's `lemma_mod_equivalence` states it for a divisor above 0)
pub mod-equivalent-always : (x y m : ℤ) → is_mod_equivalent x y m
mod-equivalent-always = lemma-mod-equivalence

-- what it was to say: equal remainders before give equal remainders after multiplying
pub equal-remainders-multiplied : (x y z m : ℤ) → x %ℤ m ≡ y %ℤ m → x *ℤ z %ℤ m ≡ y *ℤ z %ℤ m
equal-remainders-multiplied = lemma-mod-mul-equivalent

-- ---- the two functions that the text leaves out, with their comments

pub quotient-keeps-order : (x y z : ℤ) → x ≤ℤ y → pos 0 <ℤ z → (x /ℤ z) ≤ℤ (y /ℤ z)
quotient-keeps-order = lemma-div-is-ordered

pub quotient-of-multiple : (b d : ℤ) → d ≢ pos 0 → b *ℤ d /ℤ d ≡ b
quotient-of-multiple = lemma-div-by-multiple

-- ---- bounds whose exact value the text does not give

-- lemma_mul_hoist_inequality states <= where its comment says ==. What stands between the two sides is (x * (y % z)) / z
pub hoist-exactly : (x y z : ℤ) → z ≢ pos 0 → x *ℤ y /ℤ z ≡ x *ℤ (y /ℤ z) +ℤ x *ℤ (y %ℤ z) /ℤ z
hoist-exactly x y z n =
    (shifted (x *ℤ y) (x *ℤ (y %ℤ z)) (x *ℤ (y /ℤ z)) z n
    (equalℤ (⟨ x ⟩ ⊗ ⟨ y ⟩) (⟨ z ⟩ ⊗ (⟨ x ⟩ ⊗ ⟨ y /ℤ z ⟩) ⊕ ⟨ x ⟩ ⊗ (⟨ y ⟩ %% ⟨ z ⟩)) (omega arith))).0

-- lemma_part_bound2 only bounds (x % y) % (y * z): it is x % y
pub part-exactly : (x y z : ℤ) → pos 0 <ℤ y → pos 0 <ℤ z → x %ℤ y %ℤ (y *ℤ z) ≡ x %ℤ y
part-exactly = part-exact

-- lemma0_pow asks for a positive exponent: at exponent 0 the power of 0 is 1, as every number's
pub power-of-zero-by-zero : pow (pos 0) 0 ≡ pos 1
power-of-zero-by-zero = lemma-pow0 (pos 0)
