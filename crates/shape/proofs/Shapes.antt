-- When a recipe is well formed: what a good item tells, one item after the other, and the whole with its width and its lists.
-- Assumes nothing.
use mathlib.Core.Path.{◌≡◌, refl, ap, sym, ◌∙◌}
use mathlib.Core.Logic.{◌⊎◌, inl, inr}
use mathlib.Core.Bool.{Bool, true, false, cond, ◌||◌}
use mathlib.Core.List.{List, [], ◌∷◌}
use Prim.Native.Nat.{ℕ, suc, ◌≤◌, ◌<◌}
use native.Mathlib.Decide.{ℕ_discrete, dec_lt}
use native.Mathlib.Omega.{arith}
use borrow.Author.Tests.{eq-eqb, ne_eqb, lt-ltb, le-ltb, eqb-true, ltb-true, ltb-false}
use lib.Dec.{eqb, ltb}
use lib.ListN.{length}
use Rattle.checked.specs.Value.{limit_of}
use Rattle.shape.specs.Items.{unknown, Item, items}
use Rattle.shape.specs.Shape.{refused, well_formed, most_on_hand, literal_fault, operation_fault, fault_of, held_after, end_fault, shape_from, Good, known_width, shape_at, shape_of}

-- ---- an item

-- a number that a test picks is 0, and one of the two isn't: so the test picks the other
first-not : (t : Bool) (a b : ℕ) → (a ≡ 0 → ⊥) → cond t a b ≡ 0 → (t ≡ false) × (b ≡ 0)
first-not true a b n e = absurd (n e)
first-not false a b n e = (refl, e)

second-not : (t : Bool) (a b : ℕ) → (b ≡ 0 → ⊥) → cond t a b ≡ 0 → (t ≡ true) × (a ≡ 0)
second-not true a b n e = (refl, e)
second-not false a b n e = absurd (n e)

-- a good literal is at most M, and there is room for it
pub literal-good : (M held n : ℕ) → literal_fault M held n ≡ 0 → (n ≤ M) × (held < 32)
literal-good M held n e =
    let p = first-not (ltb M n) 9 (cond (ltb held most_on_hand) 0 11) (λ z. omega arith) e in
    (ltb-false M n p.0, ltb-true held 32 (second-not (ltb held most_on_hand) 0 11 (λ z. omega arith) p.1).0)

-- a good operation has the number 0, and two values on hand
pub operation-good : (held n : ℕ) → operation_fault held n ≡ 0 → (n ≡ 0) × (2 ≤ held)
operation-good held n e =
    let p = second-not (eqb n 0) (cond (ltb held 2) 10 0) 8 (λ z. omega arith) e in
    (eqb-true n 0 p.0, ltb-false held 2 (first-not (ltb held 2) 10 0 (λ z. omega arith) p.1).0)

-- the converses, fault by fault
pub literal-above : (M held n : ℕ) → M < n → literal_fault M held n ≡ 9
literal-above M held n h = simp (lt-ltb M n h)

pub literal-beyond-hand : (M held n : ℕ) → n ≤ M → 32 ≤ held → literal_fault M held n ≡ 11
literal-beyond-hand M held n h k = simp (le-ltb M n h, le-ltb held 32 k)

pub literal-passes : (M held n : ℕ) → n ≤ M → held < 32 → literal_fault M held n ≡ 0
literal-passes M held n h k = simp (le-ltb M n h, lt-ltb held 32 k)

pub operation-numbered : (held n : ℕ) → (n ≡ 0 → ⊥) → operation_fault held n ≡ 8
operation-numbered held n h = simp (ne_eqb n 0 h)

pub operation-lacking : (held n : ℕ) → n ≡ 0 → held < 2 → operation_fault held n ≡ 10
operation-lacking held n h k = simp (eq-eqb n 0 h, lt-ltb held 2 k)

pub operation-passes : (held n : ℕ) → n ≡ 0 → 2 ≤ held → operation_fault held n ≡ 0
operation-passes held n h k = simp (eq-eqb n 0 h, le-ltb held 2 k)

-- an unknown kind is never good
pub unknown-not-good : (M held n : ℕ) → fault_of M held unknown n ≡ 0 → ⊥
unknown-not-good M held n e = omega arith

-- a good end has one value on hand
pub end-good : (held : ℕ) → end_fault held ≡ 0 → held ≡ 1
end-good held e = eqb-true held 1 (second-not (eqb held 1) 0 (cond (eqb held 0) 13 12) more e).0
  where
    more : ◌≡◌ {A = ℕ} (cond (eqb held 0) 13 12) 0 → ⊥
    more z = let p = first-not (eqb held 0) 13 12 (λ z. omega arith) z in omega arith

-- ---- one item after the other

module _ (M i held : ℕ) where
  pub item-passes
      : (x : Item) (xs : List Item) → fault_of M held x.kind x.number ≡ 0 → shape_from M i held (x ∷ xs) ≡ shape_from M (suc i) (held_after held x.kind) xs
  unfolding shape_from
  item-passes x xs e =
      ap (λ t. elim t [ true ↦ shape_from M (suc i) (held_after held x.kind) xs | false ↦ refused (fault_of M held x.kind x.number) i ])
      (eq-eqb (fault_of M held x.kind x.number) 0 e)

  pub item-refused
      : (x : Item) (xs : List Item) → (fault_of M held x.kind x.number ≡ 0 → ⊥) → shape_from M i held (x ∷ xs) ≡ refused (fault_of M held x.kind x.number) i
  unfolding shape_from
  item-refused x xs n =
      ap (λ t. elim t [ true ↦ shape_from M (suc i) (held_after held x.kind) xs | false ↦ refused (fault_of M held x.kind x.number) i ])
      (ne_eqb (fault_of M held x.kind x.number) 0 n)

  pub end-passes : held ≡ 1 → shape_from M i held [] ≡ well_formed M
  unfolding shape_from
  end-passes e = ap (λ h. shape_from M i h []) e

  pub end-refused : (end_fault held ≡ 0 → ⊥) → shape_from M i held [] ≡ refused (end_fault held) i
  unfolding shape_from
  end-refused n = ap (λ t. cond t (well_formed M) (refused (end_fault held) i)) (ne_eqb (end_fault held) 0 n)

pub good-from : (M i held : ℕ) (xs : List Item) → Good M held xs → shape_from M i held xs ≡ well_formed M
good-from M i held [] g = end-passes M i held g
good-from M i held (x ∷ xs) g = item-passes M i held x xs g.0 ∙ good-from M (suc i) (held_after held x.kind) xs g.1

pub from-good : (M i held : ℕ) (xs : List Item) → (shape_from M i held xs).code ≡ 0 → Good M held xs
from-good M i held [] e =
    elim (ℕ_discrete (end_fault held) 0) [ yes h ↦ end-good held h | no n ↦ absurd (n (sym (ap (λ v. v.code) (end-refused M i held n)) ∙ e)) ]
from-good M i held (x ∷ xs) e =
    elim (ℕ_discrete (fault_of M held x.kind x.number) 0) [
      | yes h ↦ (h, from-good M (suc i) (held_after held x.kind) xs (sym (ap (λ v. v.code) (item-passes M i held x xs h)) ∙ e))
      | no n ↦ absurd (n (sym (ap (λ v. v.code) (item-refused M i held x xs n)) ∙ e))
    ]

-- ---- the whole, with its width and its lists

pub known-widths : (W : ℕ) → known_width W ≡ true → (W ≡ 8) ⊎ ((W ≡ 16) ⊎ ((W ≡ 32) ⊎ (W ≡ 64)))
known-widths W e =
    elim (ℕ_discrete W 8) [
      | yes h ↦ inl h
      | no n ↦
          inr
          (elim (ℕ_discrete W 16) [
            | yes h ↦ inl h
            | no m ↦ inr (elim (ℕ_discrete W 32) [ yes h ↦ inl h | no l ↦ inr (eqb-true W 64 (last n m l)) ])
          ])
    ]
  where
    last : (W ≡ 8 → ⊥) → (W ≡ 16 → ⊥) → (W ≡ 32 → ⊥) → eqb W 64 ≡ true
    last n m l =
        sym (ap (λ t. t || eqb W 16 || eqb W 32 || eqb W 64) (ne_eqb W 8 n) ∙ ap (λ t. t || eqb W 32 || eqb W 64) (ne_eqb W 16 m) ∙ ap (λ t. t || eqb W 64) (ne_eqb W 32 l)) ∙ e

pub no-other-width : (W : ℕ) → (W ≡ 8 → ⊥) → (W ≡ 16 → ⊥) → (W ≡ 32 → ⊥) → (W ≡ 64 → ⊥) → known_width W ≡ false
no-other-width W a b c d = simp (ne_eqb W 8 a, ne_eqb W 16 b, ne_eqb W 32 c, ne_eqb W 64 d)

-- how far a recipe comes: refused for its width, for its lists' lengths, for its count of items, or looked at item by item
pub data Stage (W : ℕ) (ks ns : List ℕ) : Type 0 where
  no-width : known_width W ≡ false → shape_of W ks ns ≡ refused 5 0 → Stage W ks ns
  lengths-differ : known_width W ≡ true → (length ks ≡ length ns → ⊥) → shape_of W ks ns ≡ refused 6 0 → Stage W ks ns
  miscounted : known_width W ≡ true → length ks ≡ length ns → (length ks ≡ 0) ⊎ (256 < length ks) → shape_of W ks ns ≡ refused 7 0 → Stage W ks ns
  looked-at
      : known_width W ≡ true → length ks ≡ length ns → 0 < length ks → length ks ≤ 256 → shape_of W ks ns ≡ shape_from (limit_of W) 0 0 (items ks ns) → Stage W ks ns

module _ (M : ℕ) (ks ns : List ℕ) where
  pub at-unequal : (length ks ≡ length ns → ⊥) → shape_at M ks ns ≡ refused 6 0
  unfolding shape_at
  at-unequal n = simp (ne_eqb (length ks) (length ns) n)

  pub at-none : length ks ≡ length ns → length ks ≡ 0 → shape_at M ks ns ≡ refused 7 0
  unfolding shape_at
  at-none e z = simp (eq-eqb (length ks) (length ns) e, eq-eqb (length ks) 0 z)

  pub at-many : length ks ≡ length ns → 256 < length ks → shape_at M ks ns ≡ refused 7 0
  unfolding shape_at
  at-many e h = simp (eq-eqb (length ks) (length ns) e, ne_eqb (length ks) 0 (λ z. omega arith), lt-ltb 256 (length ks) h)

  pub at-items : length ks ≡ length ns → 0 < length ks → length ks ≤ 256 → shape_at M ks ns ≡ shape_from M 0 0 (items ks ns)
  unfolding shape_at
  at-items e h k = simp (eq-eqb (length ks) (length ns) e, ne_eqb (length ks) 0 (λ z. omega arith), le-ltb 256 (length ks) k)

module _ (W : ℕ) (ks ns : List ℕ) where
  pub at-unknown-width : known_width W ≡ false → shape_of W ks ns ≡ refused 5 0
  unfolding shape_of
  at-unknown-width e = ap (λ t. cond t (shape_at (limit_of W) ks ns) (refused 5 0)) e

  pub at-known-width : known_width W ≡ true → shape_of W ks ns ≡ shape_at (limit_of W) ks ns
  unfolding shape_of
  at-known-width e = ap (λ t. cond t (shape_at (limit_of W) ks ns) (refused 5 0)) e

  pub stage : Stage W ks ns
  stage = by-width (known_width W) refl
    where
      by-count : known_width W ≡ true → length ks ≡ length ns → Stage W ks ns
      by-count w e =
          elim (ℕ_discrete (length ks) 0) [
            | yes z ↦ miscounted w e (inl z) (at-known-width w ∙ at-none (limit_of W) ks ns e z)
            | no n ↦ elim (dec_lt 256 (length ks)) [
              | yes h ↦ miscounted w e (inr h) (at-known-width w ∙ at-many (limit_of W) ks ns e h)
              | no m ↦ looked-at w e (omega arith) (omega arith) (at-known-width w ∙ at-items (limit_of W) ks ns e (omega arith) (omega arith))
            ]
          ]

      by-lengths : known_width W ≡ true → Stage W ks ns
      by-lengths w =
          elim (ℕ_discrete (length ks) (length ns)) [ yes e ↦ by-count w e | no n ↦ lengths-differ w n (at-known-width w ∙ at-unequal (limit_of W) ks ns n) ]

      by-width : (t : Bool) → known_width W ≡ t → Stage W ks ns
      by-width true w = by-lengths w
      by-width false w = no-width w (at-unknown-width w)

  pub good-shape
      : known_width W ≡ true → length ks ≡ length ns → 0 < length ks → length ks ≤ 256 → Good (limit_of W) 0 (items ks ns) → shape_of W ks ns ≡ well_formed (limit_of W)
  good-shape w e h k g = at-known-width w ∙ at-items (limit_of W) ks ns e h k ∙ good-from (limit_of W) 0 0 (items ks ns) g

  pub shape-good
      : (shape_of W ks ns).code ≡ 0 →
      (known_width W ≡ true)
      × (length ks ≡ length ns)
      × (0 < length ks)
      × (length ks ≤ 256)
      × Good (limit_of W) 0 (items ks ns)
      × (shape_of W ks ns ≡ well_formed (limit_of W))
  shape-good z =
      elim stage [
        | no-width w s ↦ let f : ⊥ = omega (arith, ap (λ v. v.code) s) in absurd f
        | lengths-differ w n s ↦ let f : ⊥ = omega (arith, ap (λ v. v.code) s) in absurd f
        | miscounted w e o s ↦ let f : ⊥ = omega (arith, ap (λ v. v.code) s) in absurd f
        | looked-at w e h k s ↦
            let g = from-good (limit_of W) 0 0 (items ks ns) (sym (ap (λ v. v.code) s) ∙ z) in (w, e, h, k, g, good-shape w e h k g)
      ]
