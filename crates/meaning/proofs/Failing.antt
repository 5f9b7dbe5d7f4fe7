-- The first failing item is a recipe's answer, and a number where none fails; and which refusals there can be.
-- Assumes nothing.
use mathlib.Core.Path.{◌≡◌, refl, ap, sym, ◌∙◌, subst}
use mathlib.Core.Logic.{◌↔◌}
use mathlib.Core.Bool.{Bool, true, false}
use mathlib.Core.List.{List, [], ◌∷◌}
use Prim.Native.Nat.{ℕ, zero, suc, ◌+◌, ◌≤◌, ◌<◌, zero-le, suc-le-suc}
use native.Mathlib.Nat.{not-suc-le-zero, le_of_suc-le-suc, add-zero, zero-add, add-suc, suc-add}
use native.Mathlib.Omega.{arith}
use lib.ListN.{length, drop}
use borrow.Author.Tests.{eq-eqb, ne_eqb}
use Rattle.places.specs.Faults.{FirstFault, NoFaultBefore}
use Rattle.places.proofs.Faults.{walk, faulty-at, faultless}
use Rattle.shape.specs.Items.{Operation, Kind, literal, operation, unknown, Item}
use Rattle.meaning.specs.Meaning.{refusal_at, top, under, refusal_on, hand_on}
use Rattle.meaning.specs.Meaning.{Meant, number, failed, meaning_from, meaning}
use Rattle.meaning.specs.Faults.{hand_after, refusal_here, refusal_of, FirstRefusal, NoRefusal}
use Rattle.meaning.proofs.Refusals.{row, passes, overflowed, by-zero, small-base}

-- ---- one item after the other

module _ (M i : ℕ) (hand : List ℕ) (x : Item) (xs : List Item) where
  by-test : Bool → Meant
  by-test t = elim t [ true ↦ meaning_from M (suc i) (hand_on hand x) xs | false ↦ failed (refusal_on M hand x.kind) i ]

  item-passes
      : refusal_on M hand x.kind ≡ 0 → meaning_from M i hand (x ∷ xs) ≡ meaning_from M (suc i) (hand_on hand x) xs
  unfolding meaning_from by-test
  item-passes e = ap by-test (eq-eqb (refusal_on M hand x.kind) 0 e)

  item-fails
      : (refusal_on M hand x.kind ≡ 0 → ⊥) →
      meaning_from M i hand (x ∷ xs) ≡ failed (refusal_on M hand x.kind) i
  unfolding meaning_from by-test
  item-fails n = ap by-test (ne_eqb (refusal_on M hand x.kind) 0 n)

at-end : (M i : ℕ) (hand : List ℕ) → meaning_from M i hand [] ≡ number (top hand)
unfolding meaning_from
at-end M i hand = refl

-- the first refusal is the answer
fails-first
    : (M i : ℕ) (hand : List ℕ) (xs : List Item) (c p : ℕ) → (c ≡ 0 → ⊥) →
    FirstFault (refusal_of M hand xs) (length xs) c p →
    meaning_from M i hand xs ≡ failed c (i + p)
fails-first M i hand [] c p n f = absurd (not-suc-le-zero f.0)
fails-first M i hand (x ∷ xs) c zero n f =
    item-fails M i hand x xs (λ z. n (sym f.1 ∙ z)) ∙ ap (λ c. failed c i) f.1 ∙ ap (failed c) (sym (add-zero i))
fails-first M i hand (x ∷ xs) c (suc p) n f =
    let later : FirstFault (refusal_of M (hand_on hand x) xs) (length xs) c p =
    (le_of_suc-le-suc f.0, f.1, λ k h. f.2 (suc k) (suc-le-suc h)) in
    item-passes M i hand x xs (f.2 0 (suc-le-suc zero-le))
    ∙ fails-first M (suc i) (hand_on hand x) xs c p n later
    ∙ ap (failed c) (suc-add i p ∙ sym (add-suc i p))

-- and where there is none, what is on the hand at the end
gives-end
    : (M i : ℕ) (hand : List ℕ) (xs : List Item) → NoFaultBefore (refusal_of M hand xs) (length xs) →
    meaning_from M i hand xs ≡ number (top (hand_after (length xs) hand xs))
gives-end M i hand [] b = at-end M i hand
gives-end M i hand (x ∷ xs) b =
    item-passes M i hand x xs (b 0 (suc-le-suc zero-le))
    ∙ gives-end M (suc i) (hand_on hand x) xs (λ k h. b (suc k) (suc-le-suc h))

-- ---- exactly

-- a meaning's number, code and place
abbrev told : Meant → ℕ
told (number n) = n
told (failed c p) = c

abbrev placed : Meant → ℕ
placed (number n) = 0
placed (failed c p) = p

not-both : {A : Type 0} (n c p : ℕ) → number n ≡ failed c p → A
not-both n c p e = let z : ◌≡◌ {A = ℕ} 0 1 = cc in let f : ⊥ = omega arith in absurd f

module _ (M : ℕ) (xs : List Item) where
  pub first-fails : (c p : ℕ) → FirstRefusal M xs c p → meaning M xs ≡ failed c p
  first-fails c p (h, f) =
      fails-first M 0 [] xs c p (λ z. omega arith) f ∙ ap (failed c) (zero-add p)

  pub none-fails : NoRefusal M xs → meaning M xs ≡ number (top (hand_after (length xs) [] xs))
  none-fails b = gives-end M 0 [] xs b

  pub fails-exactly : (c p : ℕ) → (meaning M xs ≡ failed c p) ↔ FirstRefusal M xs c p
  fails-exactly c p = (only, first-fails c p)
    where
      only : meaning M xs ≡ failed c p → FirstRefusal M xs c p
      only e =
          elim (walk (refusal_of M [] xs) (length xs)) [
            | faultless b ↦ not-both (top (hand_after (length xs) [] xs)) c p (sym (none-fails b) ∙ e)
            | faulty-at j m f ↦
                let h : 0 < refusal_of M [] xs j = omega arith in
                let r = sym (first-fails (refusal_of M [] xs j) j (h, f)) ∙ e in
                let q : refusal_of M [] xs j ≡ c = ap told r in
                let s : j ≡ p = ap placed r in
                (omega arith, subst (FirstFault (refusal_of M [] xs) (length xs) c) s (f.0, q, f.2))
          ]

  pub gives-exactly : (n : ℕ) → (meaning M xs ≡ number n) ↔ (NoRefusal M xs × (top (hand_after (length xs) [] xs) ≡ n))
  gives-exactly n = (only, λ p. none-fails p.0 ∙ ap number p.1)
    where
      only : meaning M xs ≡ number n → NoRefusal M xs × (top (hand_after (length xs) [] xs) ≡ n)
      only e =
          elim (walk (refusal_of M [] xs) (length xs)) [
            | faultless b ↦ (b, ap told (sym (none-fails b) ∙ e))
            | faulty-at j m f ↦
                let h : 0 < refusal_of M [] xs j = omega arith in
                not-both n (refusal_of M [] xs j) j (sym e ∙ first-fails (refusal_of M [] xs j) j (h, f))
          ]

-- ---- which refusals there can be

refusal-at-most : (M : ℕ) (o : Operation) (l r : ℕ) → refusal_at M o l r ≤ 3
refusal-at-most M o l r =
    elim (row M o l r) [
      | passes k e ↦ subst (λ c. c ≤ 3) (sym e) zero-le
      | overflowed k e ↦ subst (λ c. c ≤ 3) (sym e) (omega arith)
      | by-zero k b e ↦ subst (λ c. c ≤ 3) (sym e) (omega arith)
      | small-base k b e ↦ subst (λ c. c ≤ 3) (sym e) (omega arith)
    ]

item-refusal-at-most : (M : ℕ) (hand : List ℕ) (k : Kind) → refusal_on M hand k ≤ 3
item-refusal-at-most M hand literal = zero-le
item-refusal-at-most M hand (operation o) = refusal-at-most M o (top (under hand)) (top hand)
item-refusal-at-most M hand unknown = zero-le

here-at-most : (M : ℕ) (hand : List ℕ) (xs : List Item) → refusal_here M hand xs ≤ 3
here-at-most M hand [] = zero-le
here-at-most M hand (x ∷ xs) = item-refusal-at-most M hand x.kind

pub meaning-fails-only
    : (M : ℕ) (xs : List Item) (code place : ℕ) → meaning M xs ≡ failed code place →
    (0 < code) × (code ≤ 3) × (place < length xs)
meaning-fails-only M xs code place e =
    let (h, f) = (fails-exactly M xs code place).0 e in
    (h, subst (λ c. c ≤ 3) f.1 (here-at-most M (hand_after place [] xs) (drop place xs)), f.0)
