-- A place's faults by its mark and its number: by the mark alone 0 or 15, in a scan 0, 3 or 15.
-- Assumes nothing.
use mathlib.Core.Path.{◌≡◌, sym, ◌∙◌}
use mathlib.Core.Logic.{◌⊎◌, inl, inr, ⊎_elim}
use Prim.Native.Nat.{ℕ}
use native.Mathlib.Decide.{ℕ_discrete}
use native.Mathlib.Omega.{arith}
use borrow.Author.Tests.{eq-eqb, ne_eqb}
use Rattle.field.specs.Field.{mark_fault, fault_of, BadMark}

module _ (mark number : ℕ) where
  -- ---- by what the place holds

  pub unmarked-faults : mark ≡ 0 → (mark_fault mark number ≡ 0) × (fault_of mark number ≡ 0)
  unfolding fault_of mark_fault
  unmarked-faults z = let m = eq-eqb mark 0 z in (simp m, simp m)

  pub overflowed-faults : mark ≡ 1 → number ≡ 0 → (mark_fault mark number ≡ 0) × (fault_of mark number ≡ 3)
  unfolding fault_of mark_fault
  overflowed-faults e z =
      let m = ne_eqb mark 0 (λ o. omega arith) in
      let o = eq-eqb mark 1 e in
      let n = eq-eqb number 0 z in (simp (m, o, n), simp (m, o, n))

  pub bad-faults : BadMark mark number → (mark_fault mark number ≡ 15) × (fault_of mark number ≡ 15)
  unfolding fault_of mark_fault
  bad-faults =
      ⊎_elim
      (λ p. let m = ne_eqb mark 0 p.0 in let o = ne_eqb mark 1 p.1 in (simp (m, o), simp (m, o)))
      (λ p.
      let e = p.0 in
      let m = ne_eqb mark 0 (λ o. omega arith) in
      let o = eq-eqb mark 1 e in
      let n = ne_eqb number 0 p.1 in (simp (m, o, n), simp (m, o, n)))

  -- ---- the three cases, each with both faults

  pub data Standing : Type 0 where
    fits : mark ≡ 0 → mark_fault mark number ≡ 0 → fault_of mark number ≡ 0 → Standing
    overflowed : mark ≡ 1 → number ≡ 0 → mark_fault mark number ≡ 0 → fault_of mark number ≡ 3 → Standing
    bad : BadMark mark number → mark_fault mark number ≡ 15 → fault_of mark number ≡ 15 → Standing

  pub standing : Standing
  standing =
      elim (ℕ_discrete mark 0) [
        | yes z ↦ let f = unmarked-faults z in fits z f.0 f.1
        | no m ↦
            elim (ℕ_discrete mark 1) [
              | no o ↦ is-bad (inl (m, o))
              | yes e ↦
                  elim (ℕ_discrete number 0) [
                    | yes z ↦ let f = overflowed-faults e z in overflowed e z f.0 f.1
                    | no n ↦ is-bad (inr (e, n))
                  ]
            ]
      ]
    where
      is-bad : BadMark mark number → Standing
      is-bad b = let f = bad-faults b in bad b f.0 f.1

  -- ---- what is no place's fault in a scan

  -- a marked place has a fault
  pub marked-faulty : (mark ≡ 0 → ⊥) → fault_of mark number ≡ 0 → ⊥
  marked-faulty m z = elim standing [ fits e g f ↦ m e | overflowed e n g f ↦ omega arith | bad b g f ↦ omega arith ]

  -- it is 0, 3 or 15: so 6 and 14 are no place's
  fault-not : (c : ℕ) → (c ≡ 0 → ⊥) → (c ≡ 3 → ⊥) → (c ≡ 15 → ⊥) → fault_of mark number ≡ c → ⊥
  fault-not c m n o e =
      elim standing [
        | fits z g f ↦ m (sym e ∙ f)
        | overflowed a z g f ↦ n (sym e ∙ f)
        | bad b g f ↦ o (sym e ∙ f)
      ]

  pub fault-not-6 : fault_of mark number ≡ 6 → ⊥
  fault-not-6 = fault-not 6 (λ e. omega arith) (λ e. omega arith) (λ e. omega arith)

  pub fault-not-14 : fault_of mark number ≡ 14 → ⊥
  fault-not-14 = fault-not 14 (λ e. omega arith) (λ e. omega arith) (λ e. omega arith)

  -- 15 is a bad mark's alone, in a scan and by the mark alone
  pub bad-only : (mark_fault mark number ≡ 15) ⊎ (fault_of mark number ≡ 15) → BadMark mark number
  bad-only f =
      elim standing [
        | fits z g h ↦ absurd (⊎_elim (λ e. omega arith) (λ e. omega arith) f)
        | overflowed e z g h ↦ absurd (⊎_elim (λ o. omega arith) (λ o. omega arith) f)
        | bad b g h ↦ b
      ]
