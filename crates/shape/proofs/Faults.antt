-- A recipe is refused at its first fault, and nowhere else; and which numbers there can be.
-- Assumes nothing.
use mathlib.Core.Path.{◌≡◌, refl, ap, sym, ◌∙◌, subst}
use mathlib.Core.Logic.{◌↔◌, inl, inr, ⊎_elim}
use mathlib.Core.Bool.{Bool, true, false, cond}
use mathlib.Core.List.{List, [], ◌∷◌}
use Prim.Native.Nat.{ℕ, zero, suc, ◌+◌, ◌≤◌, ◌<◌, zero-le, suc-le-suc}
use native.Mathlib.Nat.{not-suc-le-zero, le_of_suc-le-suc, add-zero, zero-add, add-suc, suc-add}
use native.Mathlib.Decide.{ℕ_discrete}
use native.Mathlib.Omega.{arith}
use borrow.Author.Tests.{ne_eqb}
use lib.Dec.{eqb, ltb}
use lib.ListN.{length, get_or}
use lib.Seq.{drop-cons, drop-length}
use Rattle.places.specs.Faults.{at_first_fault, NoFaultBefore}
use Rattle.places.proofs.Faults.{walk, faulty-at, faultless, answer-at, answer-none, refused-exactly}
use Rattle.shape.specs.Items.{Kind, literal, operation, unknown, Item, item_of}
use Rattle.shape.specs.Shape.{refused, well_formed, most_on_hand, fault_of, held_after, end_fault, shape_from, Good}
use Rattle.shape.specs.Faults.{held_before, fault_here, fault_at, FirstFault, NoneOrFrom}
use Rattle.shape.proofs.Shapes.{operation-good, unknown-not-good, end-good}
use Rattle.shape.proofs.Shapes.{item-passes, item-refused, end-passes, end-refused, good-from}

-- a range within another
wider : (a b c : ℕ) → 8 ≤ a → b ≤ 13 → NoneOrFrom a b c → NoneOrFrom 8 13 c
wider a b c h k (inl z) = inl z
wider a b c h k (inr p) = inr (omega arith, omega arith)

-- ---- the first fault

first-fault-refused
    : (M i held : ℕ) (xs : List Item) (c j : ℕ) → (c ≡ 0 → ⊥) → FirstFault M held xs c j → shape_from M i held xs ≡ refused c (i + j)
first-fault-refused M i held [] c zero n f =
    end-refused M i held (λ z. n (sym f.1 ∙ z)) ∙ ap (λ c. refused c i) f.1 ∙ ap (refused c) (sym (add-zero i))
first-fault-refused M i held [] c (suc j) n f = absurd (not-suc-le-zero (le_of_suc-le-suc f.0))
first-fault-refused M i held (x ∷ xs) c zero n f =
    item-refused M i held x xs (λ z. n (sym f.1 ∙ z)) ∙ ap (λ c. refused c i) f.1 ∙ ap (refused c) (sym (add-zero i))
first-fault-refused M i held (x ∷ xs) c (suc j) n f =
    let later : FirstFault M (held_after held x.kind) xs c j =
    (le_of_suc-le-suc f.0, f.1, λ k h. f.2 (suc k) (suc-le-suc h)) in
    item-passes M i held x xs (f.2 0 (suc-le-suc zero-le))
    ∙ first-fault-refused M (suc i) (held_after held x.kind) xs c j n later
    ∙ ap (refused c) (suc-add i j ∙ sym (add-suc i j))

-- where no place has a fault, nothing is wrong
faultless-good : (M held : ℕ) (xs : List Item) → NoFaultBefore (fault_at M held xs) (suc (length xs)) → Good M held xs
faultless-good M held [] b = end-good held (b 0 (suc-le-suc zero-le))
faultless-good M held (x ∷ xs) b =
    (b 0 (suc-le-suc zero-le), faultless-good M (held_after held x.kind) xs (λ k h. b (suc k) (suc-le-suc h)))

module _ (M : ℕ) (xs : List Item) where
  -- so what is answered is what the earliest fault of all places gives
  by-first-fault : shape_from M 0 0 xs ≡ at_first_fault (fault_at M 0 xs) (suc (length xs)) refused (well_formed M)
  by-first-fault =
      let fault = fault_at M 0 xs in
      let n = suc (length xs) in
      elim (walk fault n) [
        | faulty-at j m f ↦
            first-fault-refused M 0 0 xs (fault j) j m f ∙ ap (refused (fault j)) (zero-add j)
            ∙ sym (answer-at fault n refused (well_formed M) (fault j) j m f)
        | faultless b ↦
            good-from M 0 0 xs (faultless-good M 0 xs b) ∙ sym (answer-none fault n refused (well_formed M) b)
      ]

  -- a refusal is the first fault's, with its number at its place
  pub refused-at-first-fault : (c j : ℕ) → (c ≡ 0 → ⊥) → (shape_from M 0 0 xs ≡ refused c j) ↔ FirstFault M 0 xs c j
  refused-at-first-fault c j z =
      let exactly =
      refused-exactly (fault_at M 0 xs) (suc (length xs)) refused (well_formed M) (λ v. v.code) (λ v. v.place)
      (λ c i. refl) (λ c i. refl) refl c j z in
      (λ e. exactly.0 (sym by-first-fault ∙ e), λ f. by-first-fault ∙ exactly.1 f)

  -- what isn't well formed is refused at some place
  pub refused-somewhere : ((shape_from M 0 0 xs).code ≡ 0 → ⊥) → (c : ℕ) × (j : ℕ) × (shape_from M 0 0 xs ≡ refused c j)
  refused-somewhere n =
      elim (walk (fault_at M 0 xs) (suc (length xs))) [
        | faulty-at j m f ↦ (fault_at M 0 xs j, j, (refused-at-first-fault (fault_at M 0 xs j) j m).1 f)
        | faultless b ↦ absurd (n (ap (λ v. v.code) (good-from M 0 0 xs (faultless-good M 0 xs b))))
      ]

-- ---- the numbers

-- an item has no fault or one from 8 to 11
pub item-numbers : (M held : ℕ) (k : Kind) (n : ℕ) → NoneOrFrom 8 11 (fault_of M held k n)
item-numbers M held literal n = of-literal (ltb M n) (ltb held most_on_hand)
  where
    of-literal : (s t : Bool) → NoneOrFrom 8 11 (cond s 9 (cond t 0 11))
    of-literal true t = inr (omega arith, omega arith)
    of-literal false true = inl refl
    of-literal false false = inr (omega arith, omega arith)
item-numbers M held (operation o) n = of-operation (eqb n 0) (ltb held 2)
  where
    of-operation : (s t : Bool) → NoneOrFrom 8 11 (cond s (cond t 10 0) 8)
    of-operation true true = inr (omega arith, omega arith)
    of-operation true false = inl refl
    of-operation false t = inr (omega arith, omega arith)
item-numbers M held unknown n = inr (omega arith, omega arith)

-- the end has none, 12 or 13
pub end-numbers : (held : ℕ) → NoneOrFrom 12 13 (end_fault held)
end-numbers held = of-end (eqb held 1) (eqb held 0)
  where
    of-end : (s t : Bool) → NoneOrFrom 12 13 (cond s 0 (cond t 13 12))
    of-end true t = inl refl
    of-end false true = inr (omega arith, omega arith)
    of-end false false = inr (omega arith, omega arith)

-- so a place that is an item has none or one from 8 to 11, and the place after the last item has the end's
pub numbers-at-item : (M held : ℕ) (xs : List Item) (j : ℕ) → j < length xs → NoneOrFrom 8 11 (fault_at M held xs j)
numbers-at-item M held xs j h =
    let x = get_or xs j (item_of 0 0) in
    subst (λ ys. NoneOrFrom 8 11 (fault_here M (held_before held xs j) ys)) (sym (drop-cons xs j (item_of 0 0) h)) (item-numbers M (held_before held xs j) x.kind x.number)

pub fault-at-end : (M held : ℕ) (xs : List Item) → fault_at M held xs (length xs) ≡ end_fault (held_before held xs (length xs))
fault-at-end M held xs = ap (fault_here M (held_before held xs (length xs))) (drop-length xs)

code-at-end : (M i held : ℕ) → (shape_from M i held []).code ≡ end_fault held
code-at-end M i held =
    elim (ℕ_discrete (end_fault held) 0) [
      | yes h ↦ ap (λ v. v.code) (end-passes M i held (end-good held h)) ∙ sym h
      | no n ↦ ap (λ v. v.code) (end-refused M i held n)
    ]

pub numbers-from : (M i held : ℕ) (xs : List Item) → NoneOrFrom 8 13 (shape_from M i held xs).code
numbers-from M i held [] =
    subst (NoneOrFrom 8 13) (sym (code-at-end M i held)) (wider 12 13 (end_fault held) (omega arith) (omega arith) (end-numbers held))
numbers-from M i held (x ∷ xs) =
    elim (ℕ_discrete (fault_of M held x.kind x.number) 0) [
      | yes h ↦ subst (NoneOrFrom 8 13) (sym (ap (λ v. v.code) (item-passes M i held x xs h))) (numbers-from M (suc i) (held_after held x.kind) xs)
      | no n ↦
          subst (NoneOrFrom 8 13) (sym (ap (λ v. v.code) (item-refused M i held x xs n))) (wider 8 11 (fault_of M held x.kind x.number) (omega arith) (omega arith) (item-numbers M held x.kind x.number))
    ]

-- ---- a value is left

-- an item that passes leaves one on hand
left-on-hand : (M held : ℕ) (k : Kind) (n : ℕ) → fault_of M held k n ≡ 0 → 0 < held_after held k
left-on-hand M held literal n e = suc-le-suc zero-le
left-on-hand M held (operation o) n e = omega (arith, operation-good held n e)
left-on-hand M held unknown n e = absurd (unknown-not-good M held n e)

-- with one on hand, or an item to come, 13 is never given
pub some-left : (M i held : ℕ) (xs : List Item) → 0 < held + length xs → (shape_from M i held xs).code ≡ 13 → ⊥
some-left M i held [] p e = not-none (eqb held 1) (sym (ap (λ t. cond (eqb held 1) 0 (cond t 13 12)) (ne_eqb held 0 (λ z. omega arith))) ∙ sym (code-at-end M i held) ∙ e)
  where
    not-none : (s : Bool) → ◌≡◌ {A = ℕ} (cond s 0 12) 13 → ⊥
    not-none true e = omega arith
    not-none false e = omega arith
some-left M i held (x ∷ xs) p e =
    elim (ℕ_discrete (fault_of M held x.kind x.number) 0) [
      | yes h ↦
          let q : 0 < held_after held x.kind + length xs = omega (arith, left-on-hand M held x.kind x.number h) in
          some-left M (suc i) (held_after held x.kind) xs q (sym (ap (λ v. v.code) (item-passes M i held x xs h)) ∙ e)
      | no n ↦
          let c : fault_of M held x.kind x.number ≡ 13 = sym (ap (λ v. v.code) (item-refused M i held x xs n)) ∙ e in
          ⊎_elim n (λ b. omega arith) (item-numbers M held x.kind x.number)
    ]
