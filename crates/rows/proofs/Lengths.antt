-- What a row answers by the lengths of its lists: each stage exactly.
-- Assumes nothing.
use mathlib.Core.Path.{◌≡◌, refl, ap, ap₂, sym, ◌∙◌}
use mathlib.Core.Logic.{◌↔◌, ◌⊎◌, inl, inr}
use mathlib.Core.Bool.{Bool, true, false, cond, ◌&&◌, and-false, true≢false}
use Prim.Native.Nat.{ℕ, ◌≤◌, ◌<◌}
use native.Mathlib.Decide.{dec_lt, ℕ_discrete}
use native.Mathlib.Omega.{arith}
use borrow.Author.Tests.{eq-eqb, ne_eqb, eqb-true, le-leb, lt-leb, leb-true}
use lib.Dec.{eqb, leb}
use Rattle.places.proofs.Every.{both-hold}
use Rattle.rows.specs.Rows.{even, counted, roomy, code_of}

-- ---- of any three tests

abbrev staged : Bool → Bool → Bool → ℕ
staged e k r = cond e (cond k (cond r 0 19) 7) 6

staged-6 : (e k r : Bool) → (staged e k r ≡ 6) ↔ (e ≡ false)
staged-6 false k r = (λ x. refl, λ x. refl)
staged-6 true false r = (λ x. let f : ⊥ = omega arith in absurd f, λ x. absurd (true≢false x))
staged-6 true true false = (λ x. let f : ⊥ = omega arith in absurd f, λ x. absurd (true≢false x))
staged-6 true true true = (λ x. let f : ⊥ = omega arith in absurd f, λ x. absurd (true≢false x))

staged-7 : (e k r : Bool) → (staged e k r ≡ 7) ↔ ((e ≡ true) × (k ≡ false))
staged-7 false k r = (λ x. let f : ⊥ = omega arith in absurd f, λ x. absurd (true≢false (sym x.0)))
staged-7 true false r = (λ x. (refl, refl), λ x. refl)
staged-7 true true false = (λ x. let f : ⊥ = omega arith in absurd f, λ x. absurd (true≢false x.1))
staged-7 true true true = (λ x. let f : ⊥ = omega arith in absurd f, λ x. absurd (true≢false x.1))

staged-19 : (e k r : Bool) → (staged e k r ≡ 19) ↔ ((e ≡ true) × (k ≡ true) × (r ≡ false))
staged-19 false k r = (λ x. let f : ⊥ = omega arith in absurd f, λ x. absurd (true≢false (sym x.0)))
staged-19 true false r = (λ x. let f : ⊥ = omega arith in absurd f, λ x. absurd (true≢false (sym x.1)))
staged-19 true true false = (λ x. (refl, refl, refl), λ x. refl)
staged-19 true true true = (λ x. let f : ⊥ = omega arith in absurd f, λ x. absurd (true≢false x.2))

staged-0 : (e k r : Bool) → (staged e k r ≡ 0) ↔ ((e ≡ true) × (k ≡ true) × (r ≡ true))
staged-0 false k r = (λ x. let f : ⊥ = omega arith in absurd f, λ x. absurd (true≢false (sym x.0)))
staged-0 true false r = (λ x. let f : ⊥ = omega arith in absurd f, λ x. absurd (true≢false (sym x.1)))
staged-0 true true false = (λ x. let f : ⊥ = omega arith in absurd f, λ x. absurd (true≢false (sym x.2)))
staged-0 true true true = (λ x. (refl, refl, refl), λ x. refl)

-- ---- each test by its words

module _ (n k j : ℕ) where
  pub is-even : (n ≡ k) × (n ≡ j) → even n k j ≡ true
  is-even (g, h) = ap₂ ◌&&◌ (eq-eqb n k g) (eq-eqb n j h)

  pub even-so : even n k j ≡ true → (n ≡ k) × (n ≡ j)
  even-so e = let b = both-hold (eqb n k) (eqb n j) e in (eqb-true n k b.0, eqb-true n j b.1)

  pub is-uneven : (n ≡ k → ⊥) ⊎ (n ≡ j → ⊥) → even n k j ≡ false
  is-uneven (inl h) = ap (λ t. t && eqb n j) (ne_eqb n k h)
  is-uneven (inr h) = ap (λ t. eqb n k && t) (ne_eqb n j h) ∙ and-false (eqb n k)

module _ (n : ℕ) where
  pub is-counted : (1 ≤ n) × (n ≤ 4096) → counted n ≡ true
  is-counted (g, h) = ap₂ ◌&&◌ (le-leb 1 n g) (le-leb n 4096 h)

  pub counted-so : counted n ≡ true → (1 ≤ n) × (n ≤ 4096)
  counted-so e = let b = both-hold (leb 1 n) (leb n 4096) e in (leb-true 1 n b.0, leb-true n 4096 b.1)

  pub is-uncounted : (n ≡ 0) ⊎ (4096 < n) → counted n ≡ false
  is-uncounted (inl h) = ap (λ t. t && leb n 4096) (lt-leb 1 n (omega arith))
  is-uncounted (inr h) = ap (λ t. leb 1 n && t) (lt-leb n 4096 h) ∙ and-false (leb 1 n)

  pub uncounted-so : counted n ≡ false → (n ≡ 0) ⊎ (4096 < n)
  uncounted-so f =
      elim (ℕ_discrete n 0) [
        | yes z ↦ inl z
        | no m ↦
            elim (dec_lt 4096 n) [
              | yes h ↦ inr h
              | no g ↦ absurd (true≢false (sym (is-counted (omega arith, omega arith)) ∙ f))
            ]
      ]

module _ (n a b c : ℕ) where
  pub is-roomy : (n ≤ a) × (n ≤ b) × (n ≤ c) → roomy n a b c ≡ true
  is-roomy (f, g, h) = ap₂ ◌&&◌ (le-leb n a f) (ap₂ ◌&&◌ (le-leb n b g) (le-leb n c h))

  pub roomy-so : roomy n a b c ≡ true → (n ≤ a) × (n ≤ b) × (n ≤ c)
  roomy-so e =
      let f = both-hold (leb n a) (leb n b && leb n c) e in
      let g = both-hold (leb n b) (leb n c) f.1 in
      (leb-true n a f.0, leb-true n b g.0, leb-true n c g.1)

  pub is-short : (a < n) ⊎ ((b < n) ⊎ (c < n)) → roomy n a b c ≡ false
  is-short (inl h) = ap (λ t. t && (leb n b && leb n c)) (lt-leb n a h)
  is-short (inr (inl h)) = ap (λ t. leb n a && (t && leb n c)) (lt-leb n b h) ∙ and-false (leb n a)
  is-short (inr (inr h)) =
      ap (λ t. leb n a && (leb n b && t)) (lt-leb n c h)
      ∙ ap (λ t. leb n a && t) (and-false (leb n b))
      ∙ and-false (leb n a)

  pub short-so : roomy n a b c ≡ false → (a < n) ⊎ ((b < n) ⊎ (c < n))
  short-so f =
      elim (dec_lt a n) [
        | yes h ↦ inl h
        | no x ↦
            elim (dec_lt b n) [
              | yes h ↦ inr (inl h)
              | no y ↦
                  elim (dec_lt c n) [
                    | yes h ↦ inr (inr h)
                    | no z ↦ absurd (true≢false (sym (is-roomy (omega arith, omega arith, omega arith)) ∙ f))
                  ]
            ]
      ]

-- ---- the answer

module _ (n k j a b c : ℕ) where
  code-staged : code_of n k j a b c ≡ staged (even n k j) (counted n) (roomy n a b c)
  unfolding code_of
  code-staged = refl

  -- 6 exactly when kinds, lefts and rights aren't as many
  pub six : (code_of n k j a b c ≡ 6) ↔ ((n ≡ k) × (n ≡ j) → ⊥)
  six =
      let s = staged-6 (even n k j) (counted n) (roomy n a b c) in (
        λ e p. true≢false (sym (is-even n k j p) ∙ s.0 (sym code-staged ∙ e)),
        λ m. code-staged ∙ s.1 (no-even m),
      )
    where
      no-even : ((n ≡ k) × (n ≡ j) → ⊥) → even n k j ≡ false
      no-even m =
          elim (ℕ_discrete n k) [
            | yes g ↦ is-uneven n k j (inr (λ h. m (g, h)))
            | no g ↦ is-uneven n k j (inl g)
          ]

  -- 7 exactly when they are, and there are 0 or above 4,096
  pub seven : (code_of n k j a b c ≡ 7) ↔ (((n ≡ k) × (n ≡ j)) × ((n ≡ 0) ⊎ (4096 < n)))
  seven =
      let s = staged-7 (even n k j) (counted n) (roomy n a b c) in (
        λ e. let w = s.0 (sym code-staged ∙ e) in (even-so n k j w.0, uncounted-so n w.1),
        λ p. code-staged ∙ s.1 (is-even n k j p.0, is-uncounted n p.1),
      )

  -- 19 exactly when there are so many, and a result list is shorter
  pub nineteen
      : (code_of n k j a b c ≡ 19)
      ↔ (((n ≡ k) × (n ≡ j)) × ((1 ≤ n) × (n ≤ 4096)) × ((a < n) ⊎ ((b < n) ⊎ (c < n))))
  nineteen =
      let s = staged-19 (even n k j) (counted n) (roomy n a b c) in (
        λ e. let w = s.0 (sym code-staged ∙ e) in
            (even-so n k j w.0, counted-so n w.1, short-so n a b c w.2),
        λ p. code-staged ∙ s.1 (is-even n k j p.0, is-counted n p.1, is-short n a b c p.2),
      )

  -- 0 exactly otherwise
  pub naught
      : (code_of n k j a b c ≡ 0)
      ↔ (((n ≡ k) × (n ≡ j)) × ((1 ≤ n) × (n ≤ 4096)) × ((n ≤ a) × (n ≤ b) × (n ≤ c)))
  naught =
      let s = staged-0 (even n k j) (counted n) (roomy n a b c) in (
        λ e. let w = s.0 (sym code-staged ∙ e) in
            (even-so n k j w.0, counted-so n w.1, roomy-so n a b c w.2),
        λ p. code-staged ∙ s.1 (is-even n k j p.0, is-counted n p.1, is-roomy n a b c p.2),
      )

  pub only-these
      : (code_of n k j a b c ≡ 0)
      ⊎ ((code_of n k j a b c ≡ 6) ⊎ ((code_of n k j a b c ≡ 7) ⊎ (code_of n k j a b c ≡ 19)))
  unfolding code_of
  only-these = of-three (even n k j) (counted n) (roomy n a b c)
    where
      of-three : (e t r : Bool) → let s = staged e t r in (s ≡ 0) ⊎ ((s ≡ 6) ⊎ ((s ≡ 7) ⊎ (s ≡ 19)))
      of-three false t r = inr (inl refl)
      of-three true false r = inr (inr (inl refl))
      of-three true true false = inr (inr (inr refl))
      of-three true true true = inl refl
