-- The earliest bad mark: places passed one by one, and places looked at all together.
-- Assumes nothing.
use mathlib.Core.Path.{◌≡◌, refl, ap, ap₂, sym, ◌∙◌, subst}
use mathlib.Core.Bool.{Bool, true, false, cond, ◌&&◌}
use mathlib.Core.List.{List}
use Prim.Native.Nat.{ℕ, ◌+◌, ◌≤◌, ◌<◌, max, min}
use native.Mathlib.Decide.{ℕ_discrete, dec_lt}
use native.Mathlib.Numerals.{add-one}
use native.Mathlib.Omega.{arith}
use borrow.Author.Tests.{le-leb, lt-leb, eq-eqb, ne_eqb}
use lib.Bits.{bit_or}
use lib.Dec.{eqb, leb}
use lib.ListN.{length, get_or, get_or-eq_default}
use Rattle.std.specs.Prelude.{Option, Some, None, MatchOption}
use Rattle.std.specs.Option.{unwrap_or}
use Rattle.std.specs.List.{AllWithin, HoldsAt, zip}
use Rattle.std.proofs.lemmas.Slice.Zip.{length-zip, get_or-zip}
use Rattle.places.specs.Places.{every}
use Rattle.places.specs.Faults.{first_fault, NoFaultBefore}
use Rattle.places.proofs.Every.{every-at, every-more, larger-within}
use Rattle.places.proofs.Faults.{first-fault-is, no-fault-is}
use Rattle.little.specs.Zeros.{zeros}
use Rattle.little.proofs.Zeros.{zeros-at}
use Rattle.little.proofs.Joined.{or-zero}
use Rattle.field.specs.Field.{well_marked, mark_fault, well_marked_at, mark_fault_at}
use Rattle.field.proofs.Faults.{unmarked-faults}

-- ---- one place

module _ (mark number : ℕ) where
  pub well-marked-faultless : well_marked mark number ≡ true → mark_fault mark number ≡ 0
  unfolding mark_fault
  well-marked-faultless e = ap (λ t. cond t 0 15) e

  pub badly-marked : well_marked mark number ≡ false → mark_fault mark number ≡ 15
  unfolding mark_fault
  badly-marked e = ap (λ t. cond t 0 15) e

  -- a mark of at most 1, and no number where it is set
  pub marked-together : (leb mark 1 && eqb (cond (eqb mark 0) 0 number) 0) ≡ well_marked mark number
  marked-together =
      elim (ℕ_discrete mark 0) [
        | yes z ↦ let a = le-leb mark 1 (omega arith) in let b = eq-eqb mark 0 z in simp (a, b)
        | no m ↦
            elim (ℕ_discrete mark 1) [
              | yes o ↦
                  let a = le-leb mark 1 (omega arith) in
                  let b = ne_eqb mark 0 m in
                  let c = eq-eqb mark 1 o in simp (a, b, c)
              | no n ↦
                  let a = lt-leb mark 1 (omega arith) in
                  let b = ne_eqb mark 0 m in
                  let c = ne_eqb mark 1 n in simp (a, b, c)
            ]
      ]

-- ---- all places together

swapped : (p q r s : Bool) → ((p && q) && (r && s)) ≡ ((p && r) && (q && s))
swapped true true r s = refl
swapped true false true s = refl
swapped true false false s = refl
swapped false q r s = refl

-- a turn of the loop, where `most` and `any` are what it has found so far
pub together-turn
    : (numbers marks : List ℕ) (i most any : ℕ) → (leb most 1 && eqb any 0) ≡ every (well_marked_at numbers marks) i →
    {most' any' : ℕ} → most' ≡ max most (get_or marks i 0) →
    any' ≡ bit_or any (cond (eqb (get_or marks i 0) 0) 0 (get_or numbers i 0)) →
    (leb most' 1 && eqb any' 0) ≡ every (well_marked_at numbers marks) (i + 1)
together-turn numbers marks i most any e p q =
    let mark = get_or marks i 0 in
    let number = get_or numbers i 0 in
    ap₂ (λ m a. leb m 1 && eqb a 0) p q
    ∙ ap₂ ◌&&◌ (larger-within most mark 1) (or-zero any (cond (eqb mark 0) 0 number))
    ∙ swapped (leb most 1) (leb mark 1) (eqb any 0) (eqb (cond (eqb mark 0) 0 number) 0)
    ∙ ap₂ ◌&&◌ e (marked-together mark number)
    ∙ sym (every-more (well_marked_at numbers marks) i)
    ∙ ap (every (well_marked_at numbers marks)) (sym (add-one i))

-- ---- which place is the earliest bad one

abbrev Well : ℕ × ℕ → Type 0
Well p = well_marked p.1 p.0 ≡ true

abbrev Badly : ℕ × ℕ → Type 0
Badly p = well_marked p.1 p.0 ≡ false

module _ (numbers marks : List ℕ) where
  -- none, where all are well marked
  pub all-well-marked-is
      : every (well_marked_at numbers marks) (length numbers) ≡ true →
      length numbers ≡ first_fault (mark_fault_at numbers marks) (length numbers)
  all-well-marked-is e =
      sym
      (no-fault-is (mark_fault_at numbers marks) (length numbers)
      (λ j h. well-marked-faultless (get_or marks j 0) (get_or numbers j 0)
      (every-at (well_marked_at numbers marks) (length numbers) j e h)))

  -- none, where no mark is set
  pub unmarked-is
      : zeros 0 (length marks) marks ≡ true → length numbers ≡ first_fault (mark_fault_at numbers marks) (length numbers)
  unmarked-is z =
      sym
      (no-fault-is (mark_fault_at numbers marks) (length numbers)
      (λ j h. (unmarked-faults (get_or marks j 0) (get_or numbers j 0) (unset j)).0))
    where
      unset : (j : ℕ) → get_or marks j 0 ≡ 0
      unset j =
          elim (dec_lt j (length marks)) [
            | yes h ↦ zeros-at 0 (length marks) marks z j (omega arith) h
            | no h ↦ get_or-eq_default marks 0 (omega arith)
          ]

  -- none, where none of those with a mark is bad
  pub past-marks-is
      : (i : ℕ) → NoFaultBefore (mark_fault_at numbers marks) i → length marks ≤ i →
      length numbers ≡ first_fault (mark_fault_at numbers marks) (length numbers)
  past-marks-is i before past =
      sym
      (no-fault-is (mark_fault_at numbers marks) (length numbers)
      (λ j h.
      elim (dec_lt j i) [
        | yes k ↦ before j k
        | no k ↦
            (unmarked-faults (get_or marks j 0) (get_or numbers j 0) (get_or-eq_default marks 0 (omega arith))).0
      ]))

  -- none, where none of all numbers is bad
  pub all-passed-is
      : (i : ℕ) → NoFaultBefore (mark_fault_at numbers marks) i → length numbers ≤ i →
      length numbers ≡ first_fault (mark_fault_at numbers marks) (length numbers)
  all-passed-is i before past =
      sym (no-fault-is (mark_fault_at numbers marks) (length numbers) (λ j h. before j (omega arith)))

  -- the one that is reached
  pub bad-here-is
      : (i : ℕ) → i < length numbers → NoFaultBefore (mark_fault_at numbers marks) i →
      false ≡ well_marked_at numbers marks i → i ≡ first_fault (mark_fault_at numbers marks) (length numbers)
  bad-here-is i h before bad =
      let f = badly-marked (get_or marks i 0) (get_or numbers i 0) (sym bad) in
      sym (first-fault-is (mark_fault_at numbers marks) (length numbers) i h (λ z. omega arith) before)

  -- a place that has both, looked at as a pair
  passed
      : (j : ℕ) {n : ℕ} → AllWithin Well (zip numbers marks) 0 n → j < n → j < length (zip numbers marks) →
      mark_fault_at numbers marks j ≡ 0
  passed j well h l =
      let n = length-zip numbers marks in
      well-marked-faultless (get_or marks j 0) (get_or numbers j 0)
      (subst Well (get_or-zip numbers marks j (0, 0) (omega arith) (omega arith)) (well j (0, 0) (omega arith) h))

  -- where the places that have both are looked through: the first that isn't well marked, or none
  pub walked-is
      : (r : Option ℕ) →
      MatchOption r (AllWithin Well (zip numbers marks) 0 (length (zip numbers marks)))
      (λ i. (i < length (zip numbers marks)) × HoldsAt Badly (zip numbers marks) i × AllWithin Well (zip numbers marks) 0 i) →
      unwrap_or r (length numbers) ≡ first_fault (mark_fault_at numbers marks) (length numbers)
  walked-is None all =
      let n = length-zip numbers marks in
      let before : NoFaultBefore (mark_fault_at numbers marks) (min (length numbers) (length marks)) =
      λ j h. passed j all (omega arith) (omega arith) in
      elim (dec_lt (length marks) (length numbers)) [
        | yes h ↦ past-marks-is (min (length numbers) (length marks)) before (omega arith)
        | no h ↦ all-passed-is (min (length numbers) (length marks)) before (omega arith)
      ]
  walked-is (Some i) (l, here, before) =
      let n = length-zip numbers marks in
      bad-here-is i (omega arith) (λ j h. passed j before h (omega arith))
      (sym (subst Badly (get_or-zip numbers marks i (0, 0) (omega arith) (omega arith)) (here (0, 0))))
