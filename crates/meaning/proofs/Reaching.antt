-- The bound on the count of steps is reached: 1, then m times the limit M and a power. The power is 1 ^ M, its exponent has W digits, and the hand is 1
-- again after it.
-- Assumes nothing.
use mathlib.Core.Path.{◌≡◌, refl, ap, ap₂, ◌∙◌}
use mathlib.Core.Bool.{cond}
use mathlib.Core.List.{List, [], ◌∷◌}
use Prim.Native.Nat.{ℕ, zero, suc, ◌+◌, ◌-◌, ◌*◌, ◌/◌, ◌^◌, ◌≤◌, ◌<◌}
use native.Mathlib.Nat.{le_refl}
use native.Mathlib.Omega.{arith}
use lib.ListN.{length}
use lib.Pow.{pow_mono}
use borrow.Author.Tests.{le-ltb}
use Rattle.checked.specs.Value.{limit_of}
use Rattle.checked.proofs.Known.{one-pow}
use Rattle.shape.specs.Items.{power, kind_of, Item, items}
use Rattle.shape.specs.Shape.{Good}
use Rattle.meaning.specs.Meaning.{number, meaning_from}
use Rattle.meaning.specs.Count.{digits, further_at, count_from}
use Rattle.meaning.specs.Reaching.{powers_kinds, powers_numbers, reaching_kinds, reaching_numbers, Reaches}
use Rattle.meaning.proofs.Refusals.{counted}
use Rattle.meaning.proofs.Digits.{digits-of-limit}
use Rattle.meaning.proofs.Bound.{halved}

-- ---- a power of 1 by the limit, over any limit M of at least 1

powers : ℕ → ℕ → List Item
powers M m = items (powers_kinds m) (powers_numbers M m)

module _ (M : ℕ) (h : 1 ≤ M) where
  -- 1 and M fit, so each digit of M is counted
  digits-counted : further_at M power 1 M ≡ digits M
  digits-counted = counted M 1 M (digits M) (h, le_refl M)

  powers-good : (m : ℕ) → Good M 1 (powers M m)
  unfolding kind_of powers
  powers-good zero = refl
  powers-good (suc m) = (ap (λ t. cond t 9 0) (le-ltb M M (le_refl M)), (refl, powers-good m))

  powers-meaning : (m i : ℕ) → meaning_from M i (1 ∷ []) (powers M m) ≡ number 1
  unfolding kind_of meaning_from powers
  powers-meaning zero i = refl
  powers-meaning (suc m) i =
      ap (λ p. meaning_from M (suc (suc i)) (p ∷ []) (powers M m)) (one-pow M)
      ∙ powers-meaning m (suc (suc i))

  powers-count : (m : ℕ) → count_from M (1 ∷ []) (powers M m) ≡ m + m + digits M * m
  unfolding kind_of count_from powers
  powers-count zero = omega arith
  powers-count (suc m) =
      ap₂ (λ f p. suc (0 + suc (f + count_from M (p ∷ []) (powers M m)))) digits-counted (one-pow M)
      ∙ ap (λ c. suc (0 + suc (digits M + c))) (powers-count m)
      ∙ omega arith

-- ---- the recipes at the limit of W bits

kinds-length : (m : ℕ) → length (powers_kinds m) ≡ m + m
kinds-length zero = refl
kinds-length (suc m) = ap (λ n. suc (suc n)) (kinds-length m) ∙ omega arith

numbers-length : (M m : ℕ) → length (powers_numbers M m) ≡ m + m
numbers-length M zero = refl
numbers-length M (suc m) = ap (λ n. suc (suc n)) (numbers-length M m) ∙ omega arith

pub reached : (W m : ℕ) → 0 < W → Reaches W (suc (m + m)) (reaching_kinds m) (reaching_numbers W m)
unfolding kind_of powers meaning_from count_from
reached W m w =
    (ap suc (kinds-length m), ap suc (numbers-length M m), (ap (λ t. cond t 9 0) (le-ltb M 1 some), powers-good M some m), counted, powers-meaning M some m 1)
  where
    M : ℕ
    M = limit_of W

    some : 1 ≤ M
    some = let p : 2 ^ 1 ≤ 2 ^ W = pow_mono w in omega arith

    counted : suc (0 + count_from M (1 ∷ []) (powers M m)) ≡ suc (m + m) + W * (suc (m + m) - 1) / 2
    counted =
        ap (λ c. suc (0 + c)) (powers-count M some m ∙ ap (λ d. m + m + d * m) (digits-of-limit W w)) ∙ omega (arith, halved W (suc (m + m)) m refl)
