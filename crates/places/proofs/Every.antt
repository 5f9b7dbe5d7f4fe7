-- What holds at every place.
-- Assumes nothing.
use mathlib.Core.Path.{◌≡◌, refl, ap, ap₂, sym, ◌∙◌, subst}
use mathlib.Core.Bool.{Bool, true, false, ◌&&◌, false≢true, and-false}
use Prim.Native.Nat.{ℕ, zero, suc, ◌<◌, max}
use native.Mathlib.Decide.{ℕ_discrete, dec_lt}
use native.Mathlib.Omega.{arith}
use borrow.Author.Tests.{le-leb, lt-leb}
use lib.Dec.{leb}
use Rattle.places.specs.Places.{every}

-- ---- tests

pub both-hold : (a b : Bool) → (a && b) ≡ true → (a ≡ true) × (b ≡ true)
both-hold true b e = (refl, e)
both-hold false b e = absurd (false≢true e)

-- two tests that say the same are the same
pub same-truth : (s t : Bool) → (s ≡ true → t ≡ true) → (t ≡ true → s ≡ true) → s ≡ t
same-truth true t f g = sym (f refl)
same-truth false true f g = g refl
same-truth false false f g = refl

-- the larger of two is within a limit exactly when both are
pub larger-within : (a b limit : ℕ) → leb (max a b) limit ≡ (leb a limit && leb b limit)
larger-within a b limit =
    elim (dec_lt limit a) [
      | yes h ↦ lt-leb (max a b) limit (omega arith) ∙ ap (λ t. t && leb b limit) (sym (lt-leb a limit h))
      | no h ↦
          let e = le-leb a limit (omega arith) in
          elim (dec_lt limit b) [
            | yes k ↦ lt-leb (max a b) limit (omega arith) ∙ sym (ap₂ ◌&&◌ e (lt-leb b limit k))
            | no k ↦ le-leb (max a b) limit (omega arith) ∙ sym (ap₂ ◌&&◌ e (le-leb b limit (omega arith)))
          ]
    ]

-- ---- every place

module _ (f : ℕ → Bool) where
  pub every-at : (n j : ℕ) → every f n ≡ true → j < n → f j ≡ true
  unfolding every
  every-at zero j e h = absurd (omega arith)
  every-at (suc n) j e h =
      let b = both-hold (every f n) (f n) e in
      elim (ℕ_discrete n j) [
        | yes p ↦ subst (λ m. f m ≡ true) p b.1
        | no q ↦ every-at n j b.0 (omega arith)
      ]

  pub every-of : (n : ℕ) → ((j : ℕ) → j < n → f j ≡ true) → every f n ≡ true
  unfolding every
  every-of zero a = refl
  every-of (suc n) a = ap₂ ◌&&◌ (every-of n (λ j h. a j (omega arith))) (a n (omega arith))

  -- one place fails
  pub every-fails : (n j : ℕ) → j < n → f j ≡ false → every f n ≡ false
  unfolding every
  every-fails zero j h e = absurd (omega arith)
  every-fails (suc n) j h e =
      elim (ℕ_discrete n j) [
        | yes p ↦ ap (λ t. every f n && t) (ap f p ∙ e) ∙ and-false (every f n)
        | no q ↦ ap (λ t. t && f n) (every-fails n j (omega arith) e)
      ]

  -- no place, and one place more
  pub every-none : every f 0 ≡ true
  unfolding every
  every-none = refl

  pub every-more : (n : ℕ) → every f (suc n) ≡ (every f n && f n)
  unfolding every
  every-more n = refl

pub every-same : (f g : ℕ → Bool) (n : ℕ) → ((j : ℕ) → j < n → f j ≡ g j) → every f n ≡ every g n
unfolding every
every-same f g zero e = refl
every-same f g (suc n) e = ap₂ ◌&&◌ (every-same f g n (λ j h. e j (omega arith))) (e n (omega arith))
