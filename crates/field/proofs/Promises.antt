-- What the scan of a field, the packing width and the look at a field's marks alone promise, one named theorem for each
-- promise. The scan's contract says that its answer is the one of `scan_of`; `Unique` says that no other answer is.
-- Assumes nothing.
use mathlib.Core.Path.{◌≡◌, refl, ap, sym, ◌∙◌, subst}
use mathlib.Core.Logic.{◌↔◌, ◌⊎◌, inl, inr, ⊎_elim}
use mathlib.Core.List.{List}
use Prim.Native.Nat.{ℕ, zero, suc, ◌+◌, ◌-◌, ◌^◌, ◌≤◌, ◌<◌}
use native.Mathlib.Omega.{arith}
use lib.ListN.{length, get_or}
use Rattle.whole.specs.Logarithm.{log_of}
use Rattle.places.specs.Faults.{first_fault, NoFaultBefore, FirstFault}
use Rattle.places.proofs.Faults.{faulty-at, faultless, walk, first-fault-is, no-fault-is}
use Rattle.field.specs.Field.{mark_fault, fault_of, mark_fault_at, fault_at, BadMark, EndsAt}
use Rattle.field.specs.Range.{Holds, Everywhere, packing_width, SmallestWidth, refused, range_of, scan_of}
use Rattle.field.proofs.Faults.{fits, overflowed, bad, standing, unmarked-faults, overflowed-faults}
use Rattle.field.proofs.Faults.{bad-faults, bad-only, fault-not-6, fault-not-14}
use Rattle.field.proofs.Ranges.{least-bound, greatest-bound, least-held, greatest-held}
use Rattle.field.proofs.Widths.{width-bound, width-least, smallest-unique}
use Rattle.field.proofs.Scans.{unequal, empty, ended, whole, stage}
use Rattle.field.proofs.Scans.{at-unequal, at-empty, at-range, at-fault-exactly}
-- the contracts on the earliest bad mark and on the packing width give the number itself, and so leave one
pub use Rattle.little.proofs.Unique.{value-unique}

-- ---- a place's fault, by its mark and its number

module _ (mark number : ℕ) where
  -- by the mark alone, none exactly when the mark is 0, or 1 with the number 0
  pub mark-fault-0-exactly : (mark_fault mark number ≡ 0) ↔ ((mark ≡ 0) ⊎ ((mark ≡ 1) × (number ≡ 0)))
  mark-fault-0-exactly =
      (only, ⊎_elim (λ z. (unmarked-faults mark number z).0) (λ p. (overflowed-faults mark number p.0 p.1).0))
    where
      only : mark_fault mark number ≡ 0 → (mark ≡ 0) ⊎ ((mark ≡ 1) × (number ≡ 0))
      only f =
          elim (standing mark number) [
            | fits z g h ↦ inl z
            | overflowed e z g h ↦ inr (e, z)
            | bad b g h ↦ let a : ⊥ = omega arith in absurd a
          ]

  -- and 15 exactly when the mark is neither 0 nor 1, or it is 1 and the number isn't 0
  pub mark-fault-15-exactly : (mark_fault mark number ≡ 15) ↔ BadMark mark number
  mark-fault-15-exactly = (λ f. bad-only mark number (inl f), λ b. (bad-faults mark number b).0)

  -- there is no other
  pub mark-fault-0-or-15 : (mark_fault mark number ≡ 0 → ⊥) → mark_fault mark number ≡ 15
  mark-fault-0-or-15 m =
      elim (standing mark number) [
        | fits z g h ↦ absurd (m g)
        | overflowed e z g h ↦ absurd (m g)
        | bad b g h ↦ g
      ]

  -- in a scan, none exactly when the mark is 0
  pub fault-0-exactly : (fault_of mark number ≡ 0) ↔ (mark ≡ 0)
  fault-0-exactly = (only, λ z. (unmarked-faults mark number z).1)
    where
      only : fault_of mark number ≡ 0 → mark ≡ 0
      only f =
          elim (standing mark number) [
            | fits z g h ↦ z
            | overflowed e z g h ↦ omega arith
            | bad b g h ↦ omega arith
          ]

  -- 15 exactly when the mark is neither 0 nor 1, or it is 1 and the number isn't 0
  pub fault-15-exactly : (fault_of mark number ≡ 15) ↔ BadMark mark number
  fault-15-exactly = (λ f. bad-only mark number (inr f), λ b. (bad-faults mark number b).1)

  -- 3 exactly when the mark is 1 and the number is 0
  pub fault-3-exactly : (fault_of mark number ≡ 3) ↔ ((mark ≡ 1) × (number ≡ 0))
  fault-3-exactly = (only, λ p. (overflowed-faults mark number p.0 p.1).1)
    where
      only : fault_of mark number ≡ 3 → (mark ≡ 1) × (number ≡ 0)
      only f =
          elim (standing mark number) [
            | fits z g h ↦ let a : ⊥ = omega arith in absurd a
            | overflowed e z g h ↦ (e, z)
            | bad b g h ↦ let a : ⊥ = omega arith in absurd a
          ]

-- ---- the earliest bad mark, where overflowed values are taken like the others

module _ (numbers marks : List ℕ) where
  abbrev mark_faults : ℕ → ℕ
  mark_faults = mark_fault_at numbers marks

  -- it is at place i exactly when place i has a bad mark and no place before it has one
  pub first-bad-exactly
      : (i : ℕ) →
      ((first_fault mark_faults (length numbers) ≡ i) × (i < length numbers))
      ↔ FirstFault mark_faults (length numbers) 15 i
  first-bad-exactly i =
      (only, λ f. (first-fault-is mark_faults (length numbers) i f.0 (λ z. omega arith) f.2, f.0))
    where
      only
          : (first_fault mark_faults (length numbers) ≡ i) × (i < length numbers) →
          FirstFault mark_faults (length numbers) 15 i
      only (e, h) =
          elim (walk mark_faults (length numbers)) [
            | faultless b ↦ let a : ⊥ = omega (arith, no-fault-is mark_faults (length numbers) b) in absurd a
            | faulty-at j m (l, f, b) ↦
                subst (FirstFault mark_faults (length numbers) 15)
                (sym (first-fault-is mark_faults (length numbers) j l m b) ∙ e)
                (l, mark-fault-0-or-15 (get_or marks j 0) (get_or numbers j 0) m, b)
          ]

  -- there is none, and so it is how many numbers there are, exactly when no place has a bad mark
  pub no-bad-exactly
      : (first_fault mark_faults (length numbers) ≡ length numbers) ↔ NoFaultBefore mark_faults (length numbers)
  no-bad-exactly = (only, no-fault-is mark_faults (length numbers))
    where
      only : first_fault mark_faults (length numbers) ≡ length numbers → NoFaultBefore mark_faults (length numbers)
      only e =
          elim (walk mark_faults (length numbers)) [
            | faultless b ↦ b
            | faulty-at j m (l, f, b) ↦
                let a : ⊥ = omega (arith, first-fault-is mark_faults (length numbers) j l m b) in absurd a
          ]

-- ---- how many bits a range takes

module _ (range : ℕ) where
  -- none exactly where the range is 0
  pub packing-width-0-exactly : (packing_width range ≡ 0) ↔ (range ≡ 0)
  unfolding packing_width
  packing-width-0-exactly = (only range, λ z. ap packing_width z)
    where
      only : (range : ℕ) → packing_width range ≡ 0 → range ≡ 0
      only zero e = refl
      only (suc below) e = omega arith

  -- log(2, range) + 1 for any other
  pub packing-width-is-log : 0 < range → packing_width range ≡ log_of 2 range + 1
  unfolding packing_width
  packing-width-is-log = rule range
    where
      rule : (range : ℕ) → 0 < range → packing_width range ≡ log_of 2 range + 1
      rule zero h = let f : ⊥ = omega arith in absurd f
      rule (suc below) h = refl

  -- w exactly where w is the smallest with range < 2^w: it is below that power, and below that of no smaller one
  pub packing-width-exactly : (w : ℕ) → (packing_width range ≡ w) ↔ SmallestWidth range w
  packing-width-exactly w =
      (λ e. subst (SmallestWidth range) e smallest, smallest-unique range (packing_width range) w smallest)
    where
      smallest : SmallestWidth range (packing_width range)
      smallest = (width-bound range, width-least range)

  -- a range of W bits takes at most W
  pub packing-width-at-most : (W : ℕ) → range < 2 ^ W → packing_width range ≤ W
  packing-width-at-most = width-least range

module _ (numbers marks : List ℕ) where
  -- ---- the range

  -- where the code is 0, every place was looked at and the answer is the range
  ranged-whole
      : (scan_of numbers marks).code ≡ 0 →
      (length numbers ≡ length marks)
      × (0 < length numbers)
      × NoFaultBefore (fault_at numbers marks) (length numbers)
      × (scan_of numbers marks ≡ range_of numbers)
  ranged-whole z =
      elim (stage numbers marks) [
        | unequal n s ↦ let f : ⊥ = omega (arith, ap (λ s. s.code) s) in absurd f
        | empty e o s ↦ let f : ⊥ = omega (arith, ap (λ s. s.code) s) in absurd f
        | ended e i n f s ↦ absurd (n (sym (ap (λ s. s.code) s) ∙ z))
        | whole e h b s ↦ (e, h, b, s)
      ]

  -- 0 exactly when the lengths are equal, the field isn't empty and every mark is 0
  pub ranged-exactly
      : ((scan_of numbers marks).code ≡ 0)
      ↔ ((length numbers ≡ length marks) × (0 < length numbers) × ((i : ℕ) → i < length numbers → get_or marks i 0 ≡ 0))
  ranged-exactly = (only, given)
    where
      only : (scan_of numbers marks).code ≡ 0 → (length numbers ≡ length marks) × (0 < length numbers) × ((i : ℕ) → i < length numbers → get_or marks i 0 ≡ 0)
      only z = let w = ranged-whole z in (w.0, w.1, λ i k. (fault-0-exactly (get_or marks i 0) (get_or numbers i 0)).0 (w.2 i k))

      given : (length numbers ≡ length marks) × (0 < length numbers) × ((i : ℕ) → i < length numbers → get_or marks i 0 ≡ 0) → (scan_of numbers marks).code ≡ 0
      given (e, h, a) =
          let b : NoFaultBefore (fault_at numbers marks) (length numbers) =
          λ i k. (fault-0-exactly (get_or marks i 0) (get_or numbers i 0)).1 (a i k) in
          ap (λ s. s.code) (at-range numbers marks e (λ z. omega arith) b)

  module _ (ranged : (scan_of numbers marks).code ≡ 0) where
    -- the least is among the numbers, and at most each of them
    pub least-among : Holds numbers (scan_of numbers marks).least
    least-among = let w = ranged-whole ranged in subst (Holds numbers) (sym (ap (λ s. s.least) w.3)) (least-held numbers w.1)

    pub least-bounds : (i : ℕ) → i < length numbers → (scan_of numbers marks).least ≤ get_or numbers i 0
    least-bounds i h = omega (arith, ap (λ s. s.least) (ranged-whole ranged).3, least-bound numbers i h)

    -- the greatest is among the numbers, and at least each of them
    pub greatest-among : Holds numbers (scan_of numbers marks).greatest
    greatest-among = let w = ranged-whole ranged in subst (Holds numbers) (sym (ap (λ s. s.greatest) w.3)) (greatest-held numbers w.1)

    pub greatest-bounds : (i : ℕ) → i < length numbers → get_or numbers i 0 ≤ (scan_of numbers marks).greatest
    greatest-bounds i h = omega (arith, ap (λ s. s.greatest) (ranged-whole ranged).3, greatest-bound numbers i h)

    -- the range
    abbrev between : ℕ
    between = (scan_of numbers marks).greatest - (scan_of numbers marks).least

    -- the width is its packing width
    pub width-given : (scan_of numbers marks).width ≡ packing_width between
    width-given =
        let e = (ranged-whole ranged).3 in
        ap (λ s. s.width) e ∙ sym (ap (λ s. packing_width (s.greatest - s.least)) e)

    -- it is 0 exactly when the field is one number everywhere
    pub no-bits-exactly : ((scan_of numbers marks).width ≡ 0) ↔ Everywhere numbers (scan_of numbers marks).least
    no-bits-exactly = (only, given)
      where
        only : (scan_of numbers marks).width ≡ 0 → Everywhere numbers (scan_of numbers marks).least
        only z i h =
            let none = (packing-width-0-exactly between).0 (sym width-given ∙ z) in
            omega (arith, least-bounds i h, greatest-bounds i h)

        given : Everywhere numbers (scan_of numbers marks).least → (scan_of numbers marks).width ≡ 0
        given same =
            let (i, h, e) = greatest-among in
            width-given ∙ (packing-width-0-exactly between).1 (omega (arith, same i h))

    -- and log(2, greatest - least) + 1 otherwise
    pub width-is-log : 0 < between → (scan_of numbers marks).width ≡ log_of 2 between + 1
    width-is-log h = width-given ∙ packing-width-is-log between h

    -- so it is the smallest w with greatest - least < 2^w
    pub width-smallest : SmallestWidth between (scan_of numbers marks).width
    width-smallest = (packing-width-exactly between (scan_of numbers marks).width).0 (sym width-given)

    -- numbers of W bits take at most W
    pub width-at-most
        : (W : ℕ) → ((i : ℕ) → i < length numbers → get_or numbers i 0 < 2 ^ W) → (scan_of numbers marks).width ≤ W
    width-at-most W below =
        let (i, h, e) = greatest-among in
        width-smallest.1 W (omega (arith, below i h))

  -- ---- the refusals

  -- 6, with place 0, exactly when the lengths differ
  pub refused-6-exactly : (scan_of numbers marks ≡ refused 6 0) ↔ (length numbers ≡ length marks → ⊥)
  refused-6-exactly = (only, at-unequal numbers marks)
    where
      only : scan_of numbers marks ≡ refused 6 0 → length numbers ≡ length marks → ⊥
      only r q =
          let c = ap (λ s. s.code) r in
          elim (stage numbers marks) [
            | unequal n s ↦ n q
            | empty e o s ↦ omega (arith, ap (λ s. s.code) s)
            | ended e i n f s ↦ fault-not-6 (get_or marks i 0) (get_or numbers i 0) (sym (ap (λ s. s.code) s) ∙ c)
            | whole e h b s ↦ omega (arith, ap (λ s. s.code) s)
          ]

  -- 14, with place 0, exactly when they are equal and the field is empty
  pub refused-14-exactly : (scan_of numbers marks ≡ refused 14 0) ↔ ((length numbers ≡ length marks) × (length numbers ≡ 0))
  refused-14-exactly = (only, λ p. at-empty numbers marks p.0 p.1)
    where
      only : scan_of numbers marks ≡ refused 14 0 → (length numbers ≡ length marks) × (length numbers ≡ 0)
      only r =
          let c = ap (λ s. s.code) r in
          elim (stage numbers marks) [
            | unequal n s ↦ let f : ⊥ = omega (arith, ap (λ s. s.code) s) in absurd f
            | empty e o s ↦ (e, o)
            | ended e i n f s ↦
                absurd (fault-not-14 (get_or marks i 0) (get_or numbers i 0) (sym (ap (λ s. s.code) s) ∙ c))
            | whole e h b s ↦ let f : ⊥ = omega (arith, ap (λ s. s.code) s) in absurd f
          ]

  -- 15 or 3 with place i exactly when the lengths are equal and the first place with a fault is i, with this one
  pub refused-at-exactly
      : (c i : ℕ) →
      (c ≡ 15) ⊎ (c ≡ 3) →
      (scan_of numbers marks ≡ refused c i) ↔ ((length numbers ≡ length marks) × EndsAt numbers marks c i)
  refused-at-exactly c i o = (only, given)
    where
      not-0 : c ≡ 0 → ⊥
      not-0 z = ⊎_elim (λ e. omega arith) (λ e. omega arith) o

      not-6 : 6 ≡ c → ⊥
      not-6 z = ⊎_elim (λ e. omega arith) (λ e. omega arith) o

      not-14 : 14 ≡ c → ⊥
      not-14 z = ⊎_elim (λ e. omega arith) (λ e. omega arith) o

      given : (length numbers ≡ length marks) × EndsAt numbers marks c i → scan_of numbers marks ≡ refused c i
      given (e, f) = (at-fault-exactly numbers marks e (λ z. omega (arith, f.0)) c i not-0).1 f

      only : scan_of numbers marks ≡ refused c i → (length numbers ≡ length marks) × EndsAt numbers marks c i
      only r =
          elim (stage numbers marks) [
            | unequal n s ↦ absurd (not-6 (ap (λ s. s.code) (sym s ∙ r)))
            | empty e z s ↦ absurd (not-14 (ap (λ s. s.code) (sym s ∙ r)))
            | ended e j n f s ↦ (e, (at-fault-exactly numbers marks e (λ z. omega (arith, f.0)) c i not-0).0 r)
            | whole e h b s ↦ absurd (not-0 (sym (ap (λ s. s.code) (sym s ∙ r))))
          ]

  -- no other number is given
  pub only-codes
      : ((scan_of numbers marks).code ≡ 0)
      ⊎ (((scan_of numbers marks).code ≡ 3) ⊎ (((scan_of numbers marks).code ≡ 6) ⊎ (((scan_of numbers marks).code ≡ 14) ⊎ ((scan_of numbers marks).code ≡ 15))))
  only-codes =
      elim (stage numbers marks) [
        | unequal n s ↦ inr (inr (inl (ap (λ s. s.code) s)))
        | empty e o s ↦ inr (inr (inr (inl (ap (λ s. s.code) s))))
        | ended e i n f s ↦
            elim (standing (get_or marks i 0) (get_or numbers i 0)) [
              | fits z g h ↦ absurd (n h)
              | overflowed m z g h ↦ inr (inl (ap (λ s. s.code) s ∙ h))
              | bad b g h ↦ inr (inr (inr (inr (ap (λ s. s.code) s ∙ h))))
            ]
        | whole e h b s ↦ inl (ap (λ s. s.code) s)
      ]

  -- a marked place is never passed over: with one the scan is refused
  pub never-passed-over : (i : ℕ) → i < length numbers → (get_or marks i 0 ≡ 0 → ⊥) → (scan_of numbers marks).code ≡ 0 → ⊥
  never-passed-over i h m z = m ((ranged-exactly.0 z).2 i h)
