-- Which answer a quotient and a remainder get: by the divisor 0, by a quotient outside the range, or the number.
-- Assumes nothing.
use mathlib.Core.Path.{◌≡◌, refl, ap}
use mathlib.Core.Logic.{◌≢◌, ⊎_elim}
use mathlib.Core.Bool.{Bool, true, false, cond}
use Prim.Native.Nat.{ℕ}
use lib.IntN.{ℤ, pos}
use Rattle.whole.specs.DivMod.{rust_div, rust_rem}
use Rattle.whole.proofs.Order.{equal-or-not}
use Rattle.signed.specs.Signed.{refused, number, in_range, quotient_of, remainder_of}
use Rattle.signed.proofs.Division.{zero-or-not, by-tests}

-- ---- the quotient

pub quotient-by-0 : (W : ℕ) (a b : ℤ) → b ≡ pos 0 → quotient_of W a b ≡ refused 1
unfolding quotient_of
quotient-by-0 W a b z = ap (quotient_of W a) z

pub data Quotient (W : ℕ) (a b : ℤ) : Type 0 where
  by-0 : b ≡ pos 0 → quotient_of W a b ≡ refused 1 → Quotient W a b
  too-large : in_range W (rust_div a b) ≡ false → quotient_of W a b ≡ refused 4 → Quotient W a b
  fitting
      : b ≢ pos 0 → in_range W (rust_div a b) ≡ true → quotient_of W a b ≡ number (rust_div a b) → Quotient W a b

pub quotient : (W : ℕ) (a b : ℤ) → Quotient W a b
quotient W a b =
    ⊎_elim (λ z. by-0 z (quotient-by-0 W a b z)) (λ n. by-range n (in_range W (rust_div a b)) refl)
    (equal-or-not b (pos 0))
  where
    by-range : b ≢ pos 0 → (t : Bool) → in_range W (rust_div a b) ≡ t → Quotient W a b
    by-range n true r = fitting n r (by-tests W a b true (zero-or-not b n) r)
    by-range n false r = too-large r (by-tests W a b false (zero-or-not b n) r)

-- ---- the remainder

pub remainder-by-0 : (a b : ℤ) → b ≡ pos 0 → remainder_of a b ≡ refused 1
unfolding remainder_of
remainder-by-0 a b z = ap (remainder_of a) z

pub remainder-given : (a b : ℤ) → b ≢ pos 0 → remainder_of a b ≡ number (rust_rem a b)
unfolding remainder_of
remainder-given a b n = ap (λ t. cond t (refused 1) (number (rust_rem a b))) (zero-or-not b n)

pub data Remainder (a b : ℤ) : Type 0 where
  left-by-0 : b ≡ pos 0 → remainder_of a b ≡ refused 1 → Remainder a b
  leaving : b ≢ pos 0 → remainder_of a b ≡ number (rust_rem a b) → Remainder a b

pub remainder : (a b : ℤ) → Remainder a b
remainder a b =
    ⊎_elim (λ z. left-by-0 z (remainder-by-0 a b z)) (λ n. leaving n (remainder-given a b n)) (equal-or-not b (pos 0))
