-- When a power fits 64 bits: the small and the large exponents, and those of the table, whose every entry is the
-- largest base that fits.
-- Assumes nothing.
use mathlib.Core.Path.{◌≡◌, refl, ap, sym, ◌∙◌, subst}
use mathlib.Core.Bool.{true, false}
use mathlib.Core.List.{List}
use Prim.Native.Nat.{ℕ, zero, suc, ◌+◌, ◌-◌, ◌*◌, ◌^◌, ◌≤◌, ◌<◌}
use native.Mathlib.Nat.{pow-zero, pow-suc, one-mul, pow-le-pow_left, pow-le-pow_right, le_trans, lt_of_lt_of_le}
use native.Mathlib.Decide.{dec_le, dec_lt}
use native.Mathlib.Omega.{arith}
use borrow.Author.Tests.{le-leb, lt-leb, lt-ltb, le-ltb}
use lib.Dec.{T, leb, ltb, leb→le, ltb→lt}
use lib.ListN.{length, get_or}
use Rattle.checked.specs.Value.{limit_of}
use Rattle.fit.specs.Fit.{power_fits, largest, every, largest_bases, entry_for}
use Rattle.fit.proofs.Table.{each, left, right}

fits : (b e : ℕ) → b ^ e ≤ limit_of 64 → power_fits b e ≡ true
unfolding power_fits
fits b e h = le-leb (b ^ e) (limit_of 64) h

exceeds : (b e : ℕ) → limit_of 64 < b ^ e → power_fits b e ≡ false
unfolding power_fits
exceeds b e h = lt-leb (b ^ e) (limit_of 64) h

-- ---- the exponents 0 and 1

pub small-exponent : (b e : ℕ) → b < 2 ^ 64 → e < 2 → true ≡ power_fits b e
small-exponent b zero h k = sym (fits b 0 (omega (arith, pow-zero b)))
small-exponent b (suc zero) h k = sym (fits b 1 (omega (arith, pow-suc b 0 ∙ ap (λ x. x * b) (pow-zero b) ∙ one-mul b)))
small-exponent b (suc (suc e)) h k = let f : ⊥ = omega arith in absurd f

-- ---- the exponents from 64 up

-- a base below 2 has powers of at most 1
below-two : (b e : ℕ) → b < 2 → b ^ e ≤ 1
below-two b zero h = omega (arith, pow-zero b)
below-two b (suc e) h = le_trans (pow-le-pow_left (le-of-lt-succ h) (suc e)) (one-power (suc e))
  where
    le-of-lt-succ : b < 2 → b ≤ 1
    le-of-lt-succ h = omega arith

    one-power : (n : ℕ) → 1 ^ n ≤ 1
    one-power zero = omega (arith, pow-zero 1)
    one-power (suc n) = omega (arith, pow-suc 1 n, one-power n)

pub large-exponent : (b e : ℕ) → 63 < e → ltb b 2 ≡ power_fits b e
large-exponent b e h =
    elim (dec_lt b 2) [
      | yes k ↦ lt-ltb b 2 k ∙ sym (fits b e (omega (arith, below-two b e k)))
      | no n ↦
          let k : 2 ≤ b = omega arith in
          le-ltb b 2 k ∙ sym (exceeds b e (lt_of_lt_of_le two-to-64 (le_trans (pow-le-pow_right {n = 2} (omega arith) h) (pow-le-pow_left k e))))
    ]
  where
    two-to-64 : limit_of 64 < 2 ^ 64
    two-to-64 = omega arith

-- ---- the exponents of the table

-- an entry with the rule decides every base
entry-decides : (b e t : ℕ) → T (largest e t) → leb b t ≡ power_fits b e
entry-decides b e t h =
    elim (dec_le b t) [
      | yes k ↦ le-leb b t k ∙ sym (fits b e (le_trans (pow-le-pow_left k e) (leb→le _ _ (left (leb (t ^ e) (limit_of 64)) _ h))))
      | no n ↦
          let k : suc t ≤ b = omega arith in
          lt-leb b t k ∙ sym (exceeds b e (lt_of_lt_of_le (ltb→lt _ _ (right (leb (t ^ e) (limit_of 64)) (ltb (limit_of 64) (suc t ^ e)) h)) (pow-le-pow_left k e)))
    ]

-- the rule, computed once over the whole table
pub rule-computed : every largest 2 largest_bases ≡ true
unfolding largest_bases
rule-computed = refl

pub table-length : length largest_bases ≡ 62
unfolding largest_bases
table-length = refl

-- carried to each entry
rule-at : (e : ℕ) → 1 < e → e < 64 → T (largest e (entry_for e))
rule-at e h k =
    let same : 2 + (e - 2) ≡ e = omega arith in
    let there : e - 2 < length largest_bases = omega (arith, table-length) in
    subst (λ n. T (largest n (entry_for e))) same
    (each largest largest_bases 2 (subst T (sym rule-computed) tt) (e - 2) there)

pub entry-fits : (e : ℕ) → 1 < e → e < 64 → entry_for e ^ e ≤ limit_of 64
entry-fits e h k = leb→le _ _ (left (leb (entry_for e ^ e) (limit_of 64)) _ (rule-at e h k))

pub next-exceeds : (e : ℕ) → 1 < e → e < 64 → limit_of 64 < suc (entry_for e) ^ e
next-exceeds e h k =
    ltb→lt _ _ (right (leb (entry_for e ^ e) (limit_of 64)) (ltb (limit_of 64) (suc (entry_for e) ^ e)) (rule-at e h k))

-- so it decides every base
pub by-entry : (b e : ℕ) → 1 < e → e < 64 → leb b (entry_for e) ≡ power_fits b e
by-entry b e h k = entry-decides b e (entry_for e) (rule-at e h k)

pub by-table
    : (xs : List ℕ) (b e : ℕ) → xs ≡ largest_bases → 1 < e → e < 64 → leb b (get_or xs (e - 2) 0) ≡ power_fits b e
by-table xs b e same h k = ap (λ ys. leb b (get_or ys (e - 2) 0)) same ∙ by-entry b e h k
