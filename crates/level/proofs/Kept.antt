-- What is kept of readings one after the other, where the later of two is kept only if its rank is beyond the other's:
-- below it for the least, above it for the greatest.
-- Assumes nothing.
use mathlib.Core.Path.{◌≡◌, refl, ap, sym, ◌∙◌, subst}
use mathlib.Core.Logic.{◌⊎◌, inl, inr}
use mathlib.Core.Bool.{Bool, true, false, cond, false≢true}
use Prim.Native.Nat.{ℕ, zero, suc, ◌+◌, ◌-◌, ◌≤◌, ◌<◌, min, max}
use native.Mathlib.Decide.{ℕ_discrete, dec_lt}
use native.Mathlib.Omega.{arith}
use borrow.Author.Tests.{eq-eqb, ne_eqb, lt-ltb, le-ltb, ltb-true}
use lib.Dec.{eqb, ltb}
use Rattle.places.specs.Places.{first_from}
use Rattle.places.proofs.First.{holds-or-fails, first-is}
use Rattle.reading.specs.Order.{rank_of}
use Rattle.level.specs.Extent.{kept_of, lower, higher}

-- ---- one place

module _ (keep : ℕ → ℕ → ℕ) (m : ℕ) (f : ℕ → ℕ) where
  pub kept-none : kept_of keep m f 0 ≡ m
  unfolding kept_of
  kept-none = refl

  pub kept-more : (n : ℕ) → kept_of keep m f (suc n) ≡ keep (kept_of keep m f n) (f n)
  unfolding kept_of
  kept-more n = refl

-- the ranks of what is kept of two
pub lower-rank : (a b : ℕ) → rank_of (lower a b) ≡ min (rank_of a) (rank_of b)
lower-rank a b =
    elim (dec_lt (rank_of b) (rank_of a)) [
      | yes h ↦ ap (λ t. rank_of (cond t b a)) (lt-ltb (rank_of b) (rank_of a) h) ∙ omega arith
      | no h ↦ ap (λ t. rank_of (cond t b a)) (le-ltb (rank_of b) (rank_of a) (omega arith)) ∙ omega arith
    ]

pub higher-rank : (a b : ℕ) → rank_of (higher a b) ≡ max (rank_of a) (rank_of b)
higher-rank a b =
    elim (dec_lt (rank_of a) (rank_of b)) [
      | yes h ↦ ap (λ t. rank_of (cond t b a)) (lt-ltb (rank_of a) (rank_of b) h) ∙ omega arith
      | no h ↦ ap (λ t. rank_of (cond t b a)) (le-ltb (rank_of a) (rank_of b) (omega arith)) ∙ omega arith
    ]

-- ---- over places

-- ranks in one direction
pub record Direction (beyond : ℕ → ℕ → Bool) : Type 0 where
  pub further : (r s t : ℕ) → beyond r s ≡ true → beyond s t ≡ true → beyond r t ≡ true
  pub not-itself : (r : ℕ) → beyond r r ≡ false

pub downwards : Direction ltb
downwards =
    record {
      further = λ r s t p q. lt-ltb r t (let a = ltb-true r s p in let b = ltb-true s t q in omega arith);
      not-itself = λ r. le-ltb r r (omega arith);
    }

pub upwards : Direction (λ r s. ltb s r)
upwards =
    record {
      further = λ r s t p q. lt-ltb t r (let a = ltb-true s r p in let b = ltb-true t s q in omega arith);
      not-itself = λ r. le-ltb r r (omega arith);
    }

-- `lower` and `higher`
abbrev pub keep : (ℕ → ℕ → Bool) → ℕ → ℕ → ℕ
keep beyond a b = cond (beyond (rank_of b) (rank_of a)) b a

module _ (beyond : ℕ → ℕ → Bool) (direction : Direction beyond) (m : ℕ) (f : ℕ → ℕ) where
  abbrev ahead : ℕ → ℕ → Bool
  ahead a b = beyond (rank_of a) (rank_of b)

  abbrev kept : ℕ → ℕ
  kept n = kept_of (keep beyond) m f n

  same-or-beyond : (a b c : ℕ) → ahead a b ≡ true → (b ≡ c) ⊎ (ahead b c ≡ true) → ahead a c ≡ true
  same-or-beyond a b c h (inl e) = subst (λ c. ahead a c ≡ true) e h
  same-or-beyond a b c h (inr g) = direction.further (rank_of a) (rank_of b) (rank_of c) h g

  -- the next one is beyond what is kept and kept, or it isn't
  next-kept : (n : ℕ) → ahead (f n) (kept n) ≡ true → kept (suc n) ≡ f n
  next-kept n e = kept-more (keep beyond) m f n ∙ ap (λ t. cond t (f n) (kept n)) e

  next-passed : (n : ℕ) → ahead (f n) (kept n) ≡ false → kept (suc n) ≡ kept n
  next-passed n e = kept-more (keep beyond) m f n ∙ ap (λ t. cond t (f n) (kept n)) e

  -- none is beyond what is kept
  pub none-beyond : (n j : ℕ) → j < n → ahead (f j) (kept n) ≡ false
  none-beyond zero j h = absurd (omega arith)
  none-beyond (suc n) j h =
      elim (holds-or-fails (ahead (f n) (kept n))) [
        | inl e ↦
            ap (ahead (f j)) (next-kept n e)
            ∙ elim (ℕ_discrete n j) [
              | yes p ↦ ap (λ i. ahead (f j) (f i)) p ∙ direction.not-itself (rank_of (f j))
              | no q ↦
                  elim (holds-or-fails (ahead (f j) (f n))) [
                    | inr g ↦ g
                    | inl g ↦
                        absurd
                        (false≢true
                        (sym (none-beyond n j (omega arith))
                        ∙ direction.further (rank_of (f j)) (rank_of (f n)) (rank_of (kept n)) g e))
                  ]
            ]
        | inr e ↦
            ap (ahead (f j)) (next-passed n e)
            ∙ elim (ℕ_discrete n j) [
              | yes p ↦ ap (λ i. ahead (f i) (kept n)) (sym p) ∙ e
              | no q ↦ none-beyond n j (omega arith)
            ]
      ]

  -- from one place to another: what was kept stays, or the first with the rank of what is kept takes its place
  pub data Since (from to : ℕ) : Type 0 where
    stays : kept to ≡ kept from → Since from to
    replaced
        : (j : ℕ) → from ≤ j → j < to → kept to ≡ f j → ahead (f j) (kept from) ≡ true →
        ((l : ℕ) → l < j → rank_of (f l) ≡ rank_of (f j) → ⊥) → Since from to

  pub since : (from k : ℕ) → Since from (from + k)
  since from zero = let e : from + 0 ≡ from = omega arith in stays (ap kept e)
  since from (suc k) =
      let n = from + k in
      let s : from + suc k ≡ suc n = omega arith in
      subst (Since from) (sym s)
      (elim (holds-or-fails (ahead (f n) (kept n))) [
        | inl e ↦
            replaced n (omega arith) (omega arith) (next-kept n e)
            (same-or-beyond (f n) (kept n) (kept from) e (moved (since from k)))
            (λ l h same. false≢true (sym (none-beyond n l h) ∙ ap (λ r. beyond r (rank_of (kept n))) same ∙ e))
        | inr e ↦ onwards e (since from k)
      ])
    where
      moved : Since from (from + k) → (kept (from + k) ≡ kept from) ⊎ (ahead (kept (from + k)) (kept from) ≡ true)
      moved (stays e) = inl e
      moved (replaced j a b e g h) = inr (ap (λ x. ahead x (kept from)) e ∙ g)

      onwards
          : ahead (f (from + k)) (kept (from + k)) ≡ false → Since from (from + k) → Since from (suc (from + k))
      onwards e (stays s) = stays (next-passed (from + k) e ∙ s)
      onwards e (replaced j a b s g h) = replaced j a (omega arith) (next-passed (from + k) e ∙ s) g h

  module _ (from to : ℕ) (l : from ≤ to) where
    pub kept-since : Since from to
    kept-since = let e : from + (to - from) ≡ to = omega arith in subst (Since from) e (since from (to - from))

    abbrev placed : ℕ
    placed = first_from (λ i. eqb (rank_of (f i)) (rank_of (kept to))) from (to - from)

    -- what was kept stays, or it is what stands at the first place with its rank
    pub stays-or-placed
        : (kept to ≡ kept from)
        ⊎ ((rank_of (kept to) ≡ rank_of (kept from) → ⊥) × (placed < to) × (f placed ≡ kept to))
    stays-or-placed = which kept-since
      where
        which
            : Since from to →
            (kept to ≡ kept from)
            ⊎ ((rank_of (kept to) ≡ rank_of (kept from) → ⊥) × (placed < to) × (f placed ≡ kept to))
        which (stays s) = inl s
        which (replaced j a b s g h) =
            let within : j < from + (to - from) = omega arith in
            let r = ap rank_of s in
            let p =
            first-is (λ i. eqb (rank_of (f i)) (rank_of (kept to))) from (to - from) j a within
            (eq-eqb (rank_of (f j)) (rank_of (kept to)) (sym r))
            (λ i c d. ne_eqb (rank_of (f i)) (rank_of (kept to)) (λ q. h i d (q ∙ r))) in
            inr (
              λ q. false≢true
                  (sym (direction.not-itself (rank_of (kept from)))
                  ∙ ap (λ k. beyond k (rank_of (kept from))) (sym q ∙ r)
                  ∙ g),
              omega arith,
              ap f p ∙ sym s,
            )
