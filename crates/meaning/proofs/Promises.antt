-- What the meaning and the count of steps promise, one named theorem for each promise, once for every limit M or every
-- width W. `Single` has what a single operation is worth and exactly when it is refused, `SameAsChecked` that checked
-- values answer the same, `Examples` the table of small runs.
-- Assumes nothing.
use mathlib.Core.Path.{◌≡◌, ap, ◌∙◌, subst}
use mathlib.Core.Logic.{◌↔◌}
use mathlib.Core.List.{List, [], ◌∷◌}
use Prim.Native.Nat.{ℕ, suc, ◌+◌, ◌-◌, ◌*◌, ◌/◌, ◌%◌, ◌^◌, ◌≤◌, ◌<◌}
use native.Mathlib.Omega.{arith}
use lib.ListN.{length}
use Rattle.whole.specs.Logarithm.{log_of}
use Rattle.checked.specs.Value.{limit_of}
use Rattle.shape.specs.Items.{Operation, power, logarithm, Item}
use Rattle.shape.specs.Shape.{Good}
use Rattle.shape.specs.Faults.{held_before}
use Rattle.meaning.specs.Meaning.{number, failed, top, refusal_at, meaning}
use Rattle.meaning.specs.Faults.{hand_after, FirstRefusal, NoRefusal, LeftAtEnd}
use Rattle.meaning.specs.Count.{digits, further_at, count}
use Rattle.meaning.specs.Reaching.{reaching_kinds, reaching_numbers, Reaches}
pub use Rattle.meaning.proofs.Single.{sum-and-product, quotient-and-remainder, powers, logarithms}
pub use Rattle.meaning.proofs.Single.{never-refused, left-above-refused, argument-above-refused}
pub use Rattle.meaning.proofs.Single.{divisor-zero-refused, divisor-not-refused}
pub use Rattle.meaning.proofs.Single.{base-below-two-refused, base-not-refused}
pub use Rattle.meaning.proofs.Single.{refusal-3-exactly, refusal-1-exactly, refusal-2-exactly}
pub use Rattle.meaning.proofs.SameAsChecked.{same-as-checked, refused-as, given-as}
pub use Rattle.meaning.proofs.Examples.{small-meanings}
use Rattle.meaning.proofs.Digits as written
use Rattle.meaning.proofs.Bound as bound
use Rattle.meaning.proofs.Refusals as refusals
use Rattle.meaning.proofs.Reaching.{reached}
use Rattle.meaning.proofs.Hands.{hand-held, one-left}
use Rattle.meaning.proofs.Failing as failing

-- ---- the meaning

-- the first failing item in list order is the answer: c at p exactly when item p, on the hand after the items before
-- it, has the refusal c, and no item before it has one
pub meaning-fails-exactly : (M : ℕ) (xs : List Item) (c p : ℕ) → (meaning M xs ≡ failed c p) ↔ FirstRefusal M xs c p
meaning-fails-exactly = failing.fails-exactly

-- of a well-formed recipe the number is n exactly when no item has a refusal and n alone is on the hand at the end
pub meaning-gives-exactly
    : (M : ℕ) (xs : List Item) → Good M 0 xs → (n : ℕ) →
    (meaning M xs ≡ number n) ↔ (NoRefusal M xs × LeftAtEnd xs n)
meaning-gives-exactly M xs g n =
    let exactly = failing.gives-exactly M xs n in
    let one = one-left M xs g in (
      λ e. let p = exactly.0 e in (p.0, one ∙ ap (λ n. n ∷ []) p.1),
      λ p. exactly.1 (p.0, ap top p.1),
    )

-- the meaning's refusals are 1, 2 and 3, at one of the items
pub meaning-fails-only
    : (M : ℕ) (xs : List Item) (code place : ℕ) → meaning M xs ≡ failed code place →
    (0 < code) × (code ≤ 3) × (place < length xs)
meaning-fails-only = failing.meaning-fails-only

-- before every item of a well-formed recipe the hand has as many values as its shape counts
pub hand-as-counted : (M : ℕ) (xs : List Item) (j : ℕ) → Good M 0 xs → length (hand_after j [] xs) ≡ held_before 0 xs j
hand-as-counted M xs j g = hand-held M [] xs j g

-- ---- the count of steps

-- 0 has no binary digit; a number of d digits is from 2 ^ (d - 1) to below 2 ^ d
pub zero-has-no-digit : digits 0 ≡ 0
zero-has-no-digit = written.digits-of-zero

pub digits-mean : (n : ℕ) → 0 < n → (2 ^ (digits n - 1) ≤ n) × (n < 2 ^ digits n)
digits-mean = written.digits-floor

-- so each halving takes one away
pub half-has-one-less : (e : ℕ) → 0 < e → digits e ≡ suc (digits (e / 2))
half-has-one-less = written.digits-of-half

-- a power counts the exponent's digits, and a logarithm the units of its answer, where both operands fit; with one
-- above M each counts nothing but the step in which it is begun
pub further-counted
    : (M l r : ℕ) → l ≤ M → r ≤ M → (further_at M power l r ≡ digits r) × (further_at M logarithm l r ≡ log_of l r)
further-counted M l r p q = (refusals.counted M l r (digits r) (p, q), refusals.counted M l r (log_of l r) (p, q))

pub one-step-with-one-above
    : (M : ℕ) (o : Operation) (l r : ℕ) → ((l ≤ M) × (r ≤ M) → ⊥) → further_at M o l r ≡ 0
one-step-with-one-above = bound.nothing-further

-- an operation of W bits takes at most W further steps
pub further-at-most
    : (W : ℕ) (o : Operation) (l r : ℕ) → 0 < W →
    refusal_at (limit_of W) o l r ≡ 0 → further_at (limit_of W) o l r ≤ W
further-at-most = bound.further-at-most

-- a well-formed recipe of n items takes at most n + W (n - 1) / 2 steps
pub count-bound : (W : ℕ) (xs : List Item) → 0 < W → Good (limit_of W) 0 xs → count (limit_of W) xs ≤ length xs + W * (length xs - 1) / 2
count-bound = bound.count-bound

-- and for every odd n some recipe of n items reaches that
pub bound-reached : (W n : ℕ) → 0 < W → n % 2 ≡ 1 → (ks : List ℕ) × (ns : List ℕ) × Reaches W n ks ns
bound-reached W n w h =
    let m = n / 2 in
    let e : suc (m + m) ≡ n = omega arith in
    (reaching_kinds m, reaching_numbers W m, subst (λ k. Reaches W k (reaching_kinds m) (reaching_numbers W m)) e (reached W m w))
