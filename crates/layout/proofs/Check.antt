-- The check's sum: below 2^32, and with one byte changed.
-- Assumes nothing.
use mathlib.Core.Path.{◌≡◌, ap, ◌∙◌}
use mathlib.Core.List.{List}
use Prim.Native.Nat.{ℕ, suc, ◌+◌, ◌*◌, ◌^◌, ◌≤◌, ◌<◌}
use native.Mathlib.Nat.{mul-le-mul, mul-le-mul_right}
use native.Mathlib.Omega.{arith}
use lib.ListN.{length, set}
use lib.Seq.{get_or-set_same, get_or-set_other}
use Rattle.places.specs.Places.{total}
use Rattle.places.proofs.Totals.{total-same, total-at-most, total-changed}
use Rattle.little.specs.Bytes.{byte_at, Bytes}
use Rattle.layout.specs.Editions.{block_length, check_at}
use Rattle.layout.specs.Layout.{weighed, check_sum}

-- ---- nothing wraps

pub weighed-at-most : (b : List ℕ) (i : ℕ) → Bytes b → i < block_length → weighed b i ≤ 130560
weighed-at-most b i bytes h =
    let small = bytes i in
    let within : suc i ≤ block_length = omega arith in
    let byte : byte_at b i ≤ 255 = omega arith in mul-le-mul within byte

-- the sum over the first n places of a block
pub sums-at-most : (b : List ℕ) (n : ℕ) → Bytes b → n ≤ block_length → total (weighed b) n ≤ 66846720
sums-at-most b n bytes h =
    omega (
      arith,
      total-at-most (weighed b) 130560 n (λ j l. weighed-at-most b j bytes (omega arith)),
      mul-le-mul_right 130560 h,
    )

pub check-below : (b : List ℕ) → Bytes b → check_sum b < 2 ^ 32
unfolding check_sum
check-below b bytes = omega (arith, sums-at-most b check_at bytes (omega arith))

-- ---- one byte changed

-- a byte before the check counts with its place
pub check-changed
    : (b : List ℕ) (i y : ℕ) → i < check_at → i < length b →
    check_sum (set b i y) + suc i * byte_at b i ≡ check_sum b + suc i * y
unfolding check_sum
check-changed b i y h l =
    total-changed (weighed (set b i y)) (weighed b) i check_at h
    (λ j n. ap (λ x. suc j * x) (get_or-set_other b i j y 0 n))
    ∙ ap (λ x. total (weighed b) check_at + suc i * x) (get_or-set_same b i y 0 l)

-- the check's own bytes do not count
pub check-not-changed : (b : List ℕ) (i y : ℕ) → check_at ≤ i → check_sum (set b i y) ≡ check_sum b
unfolding check_sum
check-not-changed b i y h =
    total-same (weighed (set b i y)) (weighed b) check_at
    (λ j l. ap (λ x. suc j * x) (get_or-set_other b i j y 0 (λ e. omega arith)))
