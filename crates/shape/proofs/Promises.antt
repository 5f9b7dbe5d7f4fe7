-- What looking at a recipe's shape promises, one named theorem for each promise. The function's contract says that its
-- answer is the one of `shape_of`; `Unique` says that no other answer is.
-- Assumes nothing.
use mathlib.Core.Path.{◌≡◌, refl, ap, sym, ◌∙◌, subst}
use mathlib.Core.Logic.{◌↔◌, ◌⊎◌, inl, inr, ⊎_elim}
use mathlib.Core.Bool.{true, false}
use mathlib.Core.List.{List}
use Prim.Native.Nat.{ℕ, ◌+◌, ◌≤◌, ◌<◌}
use native.Mathlib.Decide.{dec_lt}
use native.Mathlib.Omega.{arith}
use lib.ListN.{length}
use Rattle.checked.specs.Value.{limit_of}
use Rattle.places.specs.Faults.{NoFaultBefore}
use Rattle.shape.specs.Items.{Kind, items}
use Rattle.shape.specs.Shape.{refused, well_formed, most_on_hand, fault_of, end_fault, shape_from, Good}
use Rattle.shape.specs.Shape.{known_width, shape_of}
use Rattle.shape.specs.Faults.{UnknownOrNumbered, AboveLimit, TooFewOnHand, HandFull, Faultless}
use Rattle.shape.specs.Faults.{held_before, fault_here, fault_at, FirstFault, OnlyEndFault, NoneOrFrom, Countable}
use Rattle.shape.specs.Faults.{LookedAt, kind_at, number_at, held_at, SeveralLeft, literals, operations, count_before}
use Rattle.shape.proofs.Items.{length-items, items-at}
use Rattle.shape.proofs.Told.{unknown-or-numbered-8, above-limit-9, too-few-10, hand-full-11, faultless-0}
use Rattle.shape.proofs.Told.{sentences, end-more, end-more-only}
use Rattle.shape.proofs.Held.{held-counted, held-at-most}
pub use Rattle.shape.proofs.Told.{code-of-literal, code-of-operation, code-of-unknown}
use Rattle.shape.proofs.Shapes.{known-widths, at-unequal, at-none, at-many, at-items, no-width, lengths-differ, miscounted, looked-at, at-unknown-width, at-known-width, stage, good-shape, shape-good}
use Rattle.shape.proofs.Faults.{refused-at-first-fault, refused-somewhere}
use Rattle.shape.proofs.Faults.{numbers-at-item, fault-at-end, end-numbers, numbers-from, some-left}

-- the widths there are
pub width-known-exactly : (W : ℕ) → (known_width W ≡ true) ↔ ((W ≡ 8) ⊎ ((W ≡ 16) ⊎ ((W ≡ 32) ⊎ (W ≡ 64))))
width-known-exactly W = (known-widths W, ⊎_elim (ap known_width) (⊎_elim (ap known_width) (⊎_elim (ap known_width) (ap known_width))))

-- ---- an item's fault, by its kind, its number, the limit and the values on hand before it

module _ (M held : ℕ) (kind : Kind) (number : ℕ) where
  -- 8 exactly for an unknown kind, or an operation with a number that isn't 0
  pub fault-8-exactly : (fault_of M held kind number ≡ 8) ↔ UnknownOrNumbered kind number
  fault-8-exactly = ((sentences M held kind number).0, unknown-or-numbered-8 M held kind number)

  -- 9 exactly for a literal above M
  pub fault-9-exactly : (fault_of M held kind number ≡ 9) ↔ AboveLimit M kind number
  fault-9-exactly = ((sentences M held kind number).1, above-limit-9 M held kind number)

  -- 10 exactly for an operation with the number 0 and fewer than two values on hand
  pub fault-10-exactly : (fault_of M held kind number ≡ 10) ↔ TooFewOnHand held kind number
  fault-10-exactly = ((sentences M held kind number).2, too-few-10 M held kind number)

  -- 11 exactly for a literal at most M that would be the 33rd on hand
  pub fault-11-exactly : (fault_of M held kind number ≡ 11) ↔ HandFull M held kind number
  fault-11-exactly = ((sentences M held kind number).3, hand-full-11 M held kind number)

  -- and none exactly for a literal at most M with room for it, or an operation with the number 0 and its two operands
  pub fault-0-exactly : (fault_of M held kind number ≡ 0) ↔ Faultless M held kind number
  fault-0-exactly = ((sentences M held kind number).4, faultless-0 M held kind number)

-- the end has 12 exactly with more than one value on hand
pub end-12-exactly : (held : ℕ) → (end_fault held ≡ 12) ↔ (1 < held)
end-12-exactly held = (end-more-only held, end-more held)

module _ (W : ℕ) (ks ns : List ℕ) where
  -- where the items are looked at, no number below 8 but 0 is given
  not-below-8 : (c : ℕ) → shape_of W ks ns ≡ shape_from (limit_of W) 0 0 (items ks ns) → (shape_of W ks ns).code ≡ c → 0 < c → c < 8 → ⊥
  not-below-8 c s e h k =
      let p = sym (ap (λ v. v.code) s) ∙ e in ⊎_elim (λ z. omega arith) (λ b. omega arith) (numbers-from (limit_of W) 0 0 (items ks ns))

  -- ---- the whole: its width, its lists' lengths, its count of items

  -- 5 exactly when the width isn't known
  pub width-refused-exactly : ((shape_of W ks ns).code ≡ 5) ↔ (known_width W ≡ false)
  width-refused-exactly = (only, λ w. ap (λ v. v.code) (at-unknown-width W ks ns w))
    where
      only : (shape_of W ks ns).code ≡ 5 → known_width W ≡ false
      only e =
          elim (stage W ks ns) [
            | no-width w s ↦ w
            | lengths-differ w n s ↦ let f : ⊥ = omega (arith, ap (λ v. v.code) s) in absurd f
            | miscounted w q o s ↦ let f : ⊥ = omega (arith, ap (λ v. v.code) s) in absurd f
            | looked-at w q h k s ↦ absurd (not-below-8 5 s e (omega arith) (omega arith))
          ]

  -- 6 exactly when it is known and the lengths differ
  pub lengths-refused-exactly : ((shape_of W ks ns).code ≡ 6) ↔ ((known_width W ≡ true) × (length ks ≡ length ns → ⊥))
  lengths-refused-exactly = (only, λ p. ap (λ v. v.code) (at-known-width W ks ns p.0 ∙ at-unequal (limit_of W) ks ns p.1))
    where
      only : (shape_of W ks ns).code ≡ 6 → (known_width W ≡ true) × (length ks ≡ length ns → ⊥)
      only e =
          elim (stage W ks ns) [
            | no-width w s ↦ let f : ⊥ = omega (arith, ap (λ v. v.code) s) in absurd f
            | lengths-differ w n s ↦ (w, n)
            | miscounted w q o s ↦ let f : ⊥ = omega (arith, ap (λ v. v.code) s) in absurd f
            | looked-at w q h k s ↦ absurd (not-below-8 6 s e (omega arith) (omega arith))
          ]

  -- 7 exactly when it is known, the lengths are equal, and there is no item or more than 256
  pub count-refused-exactly
      : ((shape_of W ks ns).code ≡ 7) ↔ ((known_width W ≡ true) × (length ks ≡ length ns) × ((length ks ≡ 0) ⊎ (256 < length ks)))
  count-refused-exactly = (only, λ p. ap (λ v. v.code) (at-known-width W ks ns p.0 ∙ ⊎_elim (at-none (limit_of W) ks ns p.1) (at-many (limit_of W) ks ns p.1) p.2))
    where
      only : (shape_of W ks ns).code ≡ 7 → (known_width W ≡ true) × (length ks ≡ length ns) × ((length ks ≡ 0) ⊎ (256 < length ks))
      only e =
          elim (stage W ks ns) [
            | no-width w s ↦ let f : ⊥ = omega (arith, ap (λ v. v.code) s) in absurd f
            | lengths-differ w n s ↦ let f : ⊥ = omega (arith, ap (λ v. v.code) s) in absurd f
            | miscounted w q o s ↦ (w, q, o)
            | looked-at w q h k s ↦ absurd (not-below-8 7 s e (omega arith) (omega arith))
          ]

  -- ---- the items and the end

  looked : Countable W ks ns → shape_of W ks ns ≡ shape_from (limit_of W) 0 0 (items ks ns)
  looked p = at-known-width W ks ns p.0 ∙ at-items (limit_of W) ks ns p.1 p.2 p.3

  -- 8 to 13, with number c at place j, exactly when the items are looked at, place j has the fault c, and no place
  -- before it has one
  pub fault-refused-exactly
      : (c j : ℕ) → 8 ≤ c → (shape_of W ks ns ≡ refused c j) ↔ (Countable W ks ns × FirstFault (limit_of W) 0 (items ks ns) c j)
  fault-refused-exactly c j b = (only, λ p. looked p.0 ∙ at-first-fault.1 p.1)
    where
      at-first-fault
          : (shape_from (limit_of W) 0 0 (items ks ns) ≡ refused c j) ↔ FirstFault (limit_of W) 0 (items ks ns) c j
      at-first-fault = refused-at-first-fault (limit_of W) (items ks ns) c j (λ z. omega arith)

      only : shape_of W ks ns ≡ refused c j → Countable W ks ns × FirstFault (limit_of W) 0 (items ks ns) c j
      only e =
          elim (stage W ks ns) [
            | no-width w s ↦ let f : ⊥ = omega (arith, ap (λ v. v.code) (sym s ∙ e)) in absurd f
            | lengths-differ w n s ↦ let f : ⊥ = omega (arith, ap (λ v. v.code) (sym s ∙ e)) in absurd f
            | miscounted w q o s ↦ let f : ⊥ = omega (arith, ap (λ v. v.code) (sym s ∙ e)) in absurd f
            | looked-at w q h k s ↦ ((w, q, h, k), at-first-fault.0 (sym s ∙ e))
          ]

  -- 8 to 11 at an item's place; 12 and 13 at n, where no item has a fault and the end has this one
  pub item-refused-at-item : (c j : ℕ) → 8 ≤ c → c ≤ 11 → shape_of W ks ns ≡ refused c j → j < length ks
  item-refused-at-item c j b t e =
      let p = (fault-refused-exactly c j b).0 e in
      let n = length-items ks ns p.0.1 in
      elim (dec_lt j (length ks)) [
        | yes h ↦ h
        | no m ↦
            let q : j ≡ length (items ks ns) = omega (arith, p.1.0) in
            let f = sym (fault-at-end (limit_of W) 0 (items ks ns)) ∙ ap (fault_at (limit_of W) 0 (items ks ns)) (sym q) ∙ p.1.1 in
            absurd (⊎_elim (λ z. omega arith) (λ d. omega arith) (end-numbers (held_before 0 (items ks ns) (length (items ks ns)))))
      ]

  pub end-refused-exactly
      : (c j : ℕ) →
      12 ≤ c →
      (shape_of W ks ns ≡ refused c j) ↔ (Countable W ks ns × (j ≡ length ks) × OnlyEndFault (limit_of W) (items ks ns) (length ks) c)
  end-refused-exactly c j b = (only, λ p. (fault-refused-exactly c j (omega arith)).1 (p.0, first p))
    where
      at-end : Countable W ks ns → fault_at (limit_of W) 0 (items ks ns) (length ks) ≡ end_fault (held_before 0 (items ks ns) (length ks))
      at-end p =
          subst
          (λ n. fault_at (limit_of W) 0 (items ks ns) n ≡ end_fault (held_before 0 (items ks ns) n))
          (length-items ks ns p.1)
          (fault-at-end (limit_of W) 0 (items ks ns))

      only
          : shape_of W ks ns ≡ refused c j →
          Countable W ks ns × (j ≡ length ks) × OnlyEndFault (limit_of W) (items ks ns) (length ks) c
      only e =
          let p = (fault-refused-exactly c j (omega arith)).0 e in
          let n = length-items ks ns p.0.1 in
          let q : j ≡ length ks =
          elim (dec_lt j (length (items ks ns))) [
            | yes h ↦ absurd (⊎_elim (λ z. omega (arith, p.1.1)) (λ d. omega (arith, p.1.1)) (numbers-at-item (limit_of W) 0 (items ks ns) j h))
            | no m ↦ omega (arith, p.1.0)
          ] in
          (p.0, q, (sym (at-end p.0) ∙ ap (fault_at (limit_of W) 0 (items ks ns)) (sym q) ∙ p.1.1, λ k h. p.1.2 k (omega arith)))

      first
          : Countable W ks ns × (j ≡ length ks) × OnlyEndFault (limit_of W) (items ks ns) (length ks) c →
          FirstFault (limit_of W) 0 (items ks ns) c j
      first p =
          (omega (arith, length-items ks ns p.0.1), ap (fault_at (limit_of W) 0 (items ks ns)) p.1 ∙ at-end p.0 ∙ p.2.0, λ k h. p.2.1 k (omega arith))

  -- ---- 8 to 12, one by one

  fault-at-item
      : (j : ℕ) → length ks ≡ length ns → j < length ks →
      fault_at (limit_of W) 0 (items ks ns) j ≡ fault_of (limit_of W) (held_at ks ns j) (kind_at ks j) (number_at ns j)
  fault-at-item j e h = ap (fault_here (limit_of W) (held_at ks ns j)) (items-at ks ns j h (omega arith))

  -- what a fault says of an item, said of the item at which the recipe is refused
  by-fault
      : (c j : ℕ) → 8 ≤ c → c ≤ 11 → {P : Type 0} →
      (fault_of (limit_of W) (held_at ks ns j) (kind_at ks j) (number_at ns j) ≡ c) ↔ P →
      (shape_of W ks ns ≡ refused c j) ↔ (LookedAt W ks ns j × P)
  by-fault c j b t {P = P} exactly = (only, given)
    where
      only : shape_of W ks ns ≡ refused c j → LookedAt W ks ns j × P
      only e =
          let p = (fault-refused-exactly c j b).0 e in
          let h = item-refused-at-item c j b t e in
          ((p.0, h, p.1.2), exactly.0 (sym (fault-at-item j p.0.1 h) ∙ p.1.1))

      given : LookedAt W ks ns j × P → shape_of W ks ns ≡ refused c j
      given ((n, h, before), p) =
          let there : j < length (items ks ns) + 1 = omega (arith, length-items ks ns n.1) in
          (fault-refused-exactly c j b).1 (n, (omega arith, fault-at-item j n.1 h ∙ exactly.1 p, before))

  -- 8 at j exactly when item j is looked at, and its kind is unknown or it is an operation with a number not 0
  pub refused-8-exactly
      : (j : ℕ) →
      (shape_of W ks ns ≡ refused 8 j) ↔ (LookedAt W ks ns j × UnknownOrNumbered (kind_at ks j) (number_at ns j))
  refused-8-exactly j =
      by-fault 8 j (omega arith) (omega arith)
      (fault-8-exactly (limit_of W) (held_at ks ns j) (kind_at ks j) (number_at ns j))

  -- 9 at j exactly when item j is looked at, and it is a literal above M
  pub refused-9-exactly
      : (j : ℕ) →
      (shape_of W ks ns ≡ refused 9 j) ↔ (LookedAt W ks ns j × AboveLimit (limit_of W) (kind_at ks j) (number_at ns j))
  refused-9-exactly j =
      by-fault 9 j (omega arith) (omega arith)
      (fault-9-exactly (limit_of W) (held_at ks ns j) (kind_at ks j) (number_at ns j))

  -- 10 at j exactly when item j is looked at, and it is an operation with fewer than two values on hand
  pub refused-10-exactly
      : (j : ℕ) →
      (shape_of W ks ns ≡ refused 10 j)
      ↔ (LookedAt W ks ns j × TooFewOnHand (held_at ks ns j) (kind_at ks j) (number_at ns j))
  refused-10-exactly j =
      by-fault 10 j (omega arith) (omega arith)
      (fault-10-exactly (limit_of W) (held_at ks ns j) (kind_at ks j) (number_at ns j))

  -- 11 at j exactly when item j is looked at, and it is a literal that would be the 33rd on hand
  pub refused-11-exactly
      : (j : ℕ) →
      (shape_of W ks ns ≡ refused 11 j)
      ↔ (LookedAt W ks ns j × HandFull (limit_of W) (held_at ks ns j) (kind_at ks j) (number_at ns j))
  refused-11-exactly j =
      by-fault 11 j (omega arith) (omega arith)
      (fault-11-exactly (limit_of W) (held_at ks ns j) (kind_at ks j) (number_at ns j))

  -- 12 exactly at n, when no item has a fault and more than one value is on hand at the end
  pub refused-12-exactly : (j : ℕ) → (shape_of W ks ns ≡ refused 12 j) ↔ ((j ≡ length ks) × SeveralLeft W ks ns)
  refused-12-exactly j = (only, given)
    where
      only : shape_of W ks ns ≡ refused 12 j → (j ≡ length ks) × SeveralLeft W ks ns
      only e =
          let p = (end-refused-exactly 12 j (omega arith)).0 e in
          (p.1, (p.0, end-more-only (held_at ks ns (length ks)) p.2.0, p.2.1))

      given : (j ≡ length ks) × SeveralLeft W ks ns → shape_of W ks ns ≡ refused 12 j
      given (e, (n, h, before)) =
          (end-refused-exactly 12 j (omega arith)).1 (n, e, (end-more (held_at ks ns (length ks)) h, before))

  -- ---- the values on hand

  -- up to the first fault, they are the literals less the operations before the place
  pub on-hand-counted
      : (j : ℕ) → NoFaultBefore (fault_at (limit_of W) 0 (items ks ns)) j →
      held_at ks ns j + count_before operations (items ks ns) j ≡ count_before literals (items ks ns) j
  on-hand-counted j before = let e = held-counted (limit_of W) 0 (items ks ns) j before in omega arith

  -- and in a well-formed recipe at most 32 before every place
  pub on-hand-at-most : (j : ℕ) → Good (limit_of W) 0 (items ks ns) → held_at ks ns j ≤ most_on_hand
  on-hand-at-most j g = held-at-most (limit_of W) 0 (items ks ns) j g (omega arith)

  -- ---- every answer

  -- well formed, with the limit of its width, exactly when no item has a fault and one value is left
  pub well-formed-exactly : (shape_of W ks ns ≡ well_formed (limit_of W)) ↔ (Countable W ks ns × Good (limit_of W) 0 (items ks ns))
  well-formed-exactly = (only, λ p. good-shape W ks ns p.0.0 p.0.1 p.0.2 p.0.3 p.1)
    where
      only : shape_of W ks ns ≡ well_formed (limit_of W) → Countable W ks ns × Good (limit_of W) 0 (items ks ns)
      only e = let p = shape-good W ks ns (ap (λ v. v.code) e) in ((p.0, p.1, p.2, p.3), p.4)

  -- what isn't well formed is refused with a number and a place, and 5, 6 and 7 at place 0
  pub refused-or-well-formed : ((shape_of W ks ns).code ≡ 0 → ⊥) → shape_of W ks ns ≡ refused (shape_of W ks ns).code (shape_of W ks ns).place
  refused-or-well-formed n =
      elim (stage W ks ns) [
        | no-width w s ↦ itself 5 0 s
        | lengths-differ w m s ↦ itself 6 0 s
        | miscounted w q o s ↦ itself 7 0 s
        | looked-at w q h k s ↦
            let r = refused-somewhere (limit_of W) (items ks ns) (λ z. n (ap (λ v. v.code) s ∙ z)) in
            itself r.0 r.1 (s ∙ r.2)
      ]
    where
      itself : (c j : ℕ) → shape_of W ks ns ≡ refused c j → shape_of W ks ns ≡ refused (shape_of W ks ns).code (shape_of W ks ns).place
      itself c j e = subst (λ v. v ≡ refused v.code v.place) (sym e) refl

  pub whole-refused-at-0 : 0 < (shape_of W ks ns).code → (shape_of W ks ns).code < 8 → (shape_of W ks ns).place ≡ 0
  whole-refused-at-0 h t =
      elim (stage W ks ns) [
        | no-width w s ↦ ap (λ v. v.place) s
        | lengths-differ w m s ↦ ap (λ v. v.place) s
        | miscounted w q o s ↦ ap (λ v. v.place) s
        | looked-at w q i k s ↦ absurd (not-below-8 (shape_of W ks ns).code s refl h t)
      ]

  -- a number is 0 or from 5 to 13
  pub shape-numbers : NoneOrFrom 5 13 (shape_of W ks ns).code
  shape-numbers =
      elim (stage W ks ns) [
        | no-width w s ↦ inr (omega (arith, ap (λ v. v.code) s), omega (arith, ap (λ v. v.code) s))
        | lengths-differ w n s ↦ inr (omega (arith, ap (λ v. v.code) s), omega (arith, ap (λ v. v.code) s))
        | miscounted w q o s ↦ inr (omega (arith, ap (λ v. v.code) s), omega (arith, ap (λ v. v.code) s))
        | looked-at w q h k s ↦
            ⊎_elim (λ z. inl (ap (λ v. v.code) s ∙ z)) (λ b. inr (omega (arith, ap (λ v. v.code) s), omega (arith, ap (λ v. v.code) s))) (numbers-from (limit_of W) 0 0 (items ks ns))
      ]

  -- 13 is never given: a recipe without an item is refused with 7, and an item that passes leaves a value on hand
  pub never-none-left : (shape_of W ks ns).code ≡ 13 → ⊥
  never-none-left e =
      elim (stage W ks ns) [
        | no-width w s ↦ omega (arith, ap (λ v. v.code) s)
        | lengths-differ w n s ↦ omega (arith, ap (λ v. v.code) s)
        | miscounted w q o s ↦ omega (arith, ap (λ v. v.code) s)
        | looked-at w q h k s ↦
            let p : 0 < 0 + length (items ks ns) = omega (arith, length-items ks ns q) in some-left (limit_of W) 0 0 (items ks ns) p (sym (ap (λ v. v.code) s) ∙ e)
      ]
