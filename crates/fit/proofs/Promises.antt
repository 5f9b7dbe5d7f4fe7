-- What the power-fit promises, one named theorem for each promise. The function's contract says that its answer is the
-- one of `power_fits`. `largest_bases` is the table, which the code's constant is shown to be where it is handed on.
-- Assumes nothing.
use mathlib.Core.Path.{◌≡◌, refl, sym, ◌∙◌}
use mathlib.Core.Logic.{◌↔◌, ◌⊎◌, inl, inr, ⊎_elim}
use mathlib.Core.Bool.{Bool, true}
use Prim.Native.Nat.{ℕ, suc, ◌^◌, ◌≤◌, ◌<◌}
use native.Mathlib.Decide.{ℕ_discrete}
use native.Mathlib.Omega.{arith}
use borrow.Author.Tests.{leb-true, le-leb, ltb-true, lt-ltb}
use lib.ListN.{length}
use Rattle.checked.specs.Value.{limit_of}
use Rattle.fit.specs.Fit.{power_fits, largest, every, largest_bases, entry_for}
use Rattle.fit.proofs.Fits.{small-exponent, large-exponent, rule-computed, table-length, entry-fits}
use Rattle.fit.proofs.Fits.{next-exceeds, by-entry}

-- yes is the answer exactly when b^e is at most 2^64 - 1
pub power-fits-exactly : (b e : ℕ) → (power_fits b e ≡ true) ↔ (b ^ e ≤ limit_of 64)
unfolding power_fits
power-fits-exactly b e = (leb-true (b ^ e) (limit_of 64), le-leb (b ^ e) (limit_of 64))

-- the contract leaves one answer
pub power-fits-unique : (b e : ℕ) (r s : Bool) → r ≡ power_fits b e → s ≡ power_fits b e → r ≡ s
power-fits-unique b e r s p q = p ∙ sym q

-- ---- by the exponent

-- for the exponents 0 and 1 always yes, whatever the base of 64 bits is
pub exponents-0-and-1-always : (b e : ℕ) → b ≤ limit_of 64 → e < 2 → power_fits b e ≡ true
exponents-0-and-1-always b e h k = let below : b < 2 ^ 64 = omega arith in sym (small-exponent b e below k)

-- for the exponents from 64 on only for the bases 0 and 1
pub exponents-from-64-exactly : (b e : ℕ) → 64 ≤ e → (power_fits b e ≡ true) ↔ ((b ≡ 0) ⊎ (b ≡ 1))
exponents-from-64-exactly b e h = (only, back)
  where
    only : power_fits b e ≡ true → (b ≡ 0) ⊎ (b ≡ 1)
    only y =
        let k = ltb-true b 2 (large-exponent b e (omega arith) ∙ y) in
        elim (ℕ_discrete b 0) [ yes z ↦ inl z | no n ↦ inr (omega arith) ]

    back : (b ≡ 0) ⊎ (b ≡ 1) → power_fits b e ≡ true
    back s =
        let k : b < 2 = ⊎_elim (λ z. omega arith) (λ z. omega arith) s in
        sym (large-exponent b e (omega arith)) ∙ lt-ltb b 2 k

-- for the exponents between, exactly for the bases up to the table's entry
pub exponents-between-exactly : (b e : ℕ) → 2 ≤ e → e < 64 → (power_fits b e ≡ true) ↔ (b ≤ entry_for e)
exponents-between-exactly b e h k =
    let by = by-entry b e h k in
    (λ y. leb-true b (entry_for e) (by ∙ y), λ l. sym by ∙ le-leb b (entry_for e) l)

-- ---- the table

-- it has an entry for each exponent from 2 to 63
pub table-of-62 : length largest_bases ≡ 62
table-of-62 = table-length

-- each entry t for its exponent e obeys t^e <= 2^64 - 1 < (t + 1)^e, computed once over the whole table
pub table-obeys-rule : every largest 2 largest_bases ≡ true
table-obeys-rule = rule-computed

-- and so carried to the entry for any one of them
pub entry-obeys-rule
    : (e : ℕ) → 2 ≤ e → e < 64 → (entry_for e ^ e ≤ limit_of 64) × (limit_of 64 < suc (entry_for e) ^ e)
entry-obeys-rule e h k = (entry-fits e h k, next-exceeds e h k)

-- e = 2 has 4294967295, e = 40 has 3, e = 41 and e = 63 have 2
pub four-entries : (entry_for 2 ≡ 4294967295) × (entry_for 40 ≡ 3) × (entry_for 41 ≡ 2) × (entry_for 63 ≡ 2)
unfolding largest_bases
four-entries = (refl, refl, refl, refl)
