-- What an operation's first step promises, one named theorem for each promise, about `begun_as`, which
-- `operation::begin::begin` equals by its contract. Its further steps, `operation::work::work`, refuse nothing; what
-- they come to is `recipe`'s to say. `Unique` says that no other answers meet the contracts.
-- Assumes nothing.
use mathlib.Core.Path.{◌≡◌, refl, ap, sym, ◌∙◌, subst}
use mathlib.Core.Logic.{◌↔◌}
use Prim.Native.Nat.{ℕ}
use native.Mathlib.Omega.{arith}
use Rattle.checked.specs.declared.types.Checked.TheVariants.{Overflowed}
use Rattle.checked.specs.Value.{Value, BothNumbers}
use Rattle.shape.specs.Items.{Operation, Kind, literal, operation, unknown}
use Rattle.shape.specs.Faults.{Operates}
use Rattle.meaning.specs.Told.{Asked, ByZero, SmallBase}
use Rattle.steps.specs.declared.types.Phase.{Phase}
use Rattle.steps.specs.Steps.{within, fails, begun}
use Rattle.operation.specs.Work.{begun_as}
use Rattle.operation.proofs.Begun.{code_of, table_code, begun-code, fails-exactly}
use Rattle.operation.proofs.Begun.{row, gives, overflowed, by-zero, small-base}
use Rattle.operation.proofs.Begun.{asked-refused, zero-refused, base-refused, InPhase, begun-phase}
pub use Rattle.operation.proofs.Unique.{begin-unique, work-unique}

-- 8 exactly when the kind is no operation
pub refused-8-exactly : (M : ℕ) (k : Kind) (a b : Value) → (begun_as M k a b ≡ fails 8) ↔ (Operates k → ⊥)
refused-8-exactly M literal a b = (λ e o. let z : ◌≡◌ {A = ℕ} 0 1 = cc in omega arith, λ n. refl)
refused-8-exactly M (operation o) a b = (λ e. absurd (never e), λ n. absurd (n (o, refl)))
  where
    never : begun M o a b ≡ fails 8 → ⊥
    never e =
        let c = sym (begun-code M o a b) ∙ ap code_of e in
        elim (row M o a b) [
          | gives z ↦ omega (arith, sym z ∙ c)
          | overflowed k z ↦ omega (arith, sym z ∙ c)
          | by-zero k z ↦ omega (arith, sym z ∙ c)
          | small-base k z ↦ omega (arith, sym z ∙ c)
        ]
refused-8-exactly M unknown a b = (λ e o. let z : ◌≡◌ {A = ℕ} 0 1 = cc in omega arith, λ n. refl)

module _ (M : ℕ) (o : Operation) (a b : Value) where
  other : {A : Type 0} {c d : ℕ} → table_code M o a b ≡ c → table_code M o a b ≡ d → (c ≡ d → ⊥) → A
  other e f n = absurd (n (sym e ∙ f))

  -- 3 exactly when the left of a quotient or a remainder, or the argument of a logarithm, is overflowed
  pub refused-3-exactly : (begun_as M (operation o) a b ≡ fails 3) ↔ Asked (λ v. v ≡ Overflowed) o a b
  refused-3-exactly =
      let exactly = fails-exactly M o a b 3 (λ z. omega arith) in
      (λ e. only (exactly.0 e), λ p. exactly.1 (asked-refused M a b o p))
    where
      only : table_code M o a b ≡ 3 → Asked (λ v. v ≡ Overflowed) o a b
      only f =
          elim (row M o a b) [
            | gives e ↦ other e f (λ q. omega arith)
            | overflowed k e ↦ k
            | by-zero k e ↦ other e f (λ q. omega arith)
            | small-base k e ↦ other e f (λ q. omega arith)
          ]

  -- 1 exactly for a quotient or a remainder whose operands fit and whose divisor is 0
  pub refused-1-exactly : (begun_as M (operation o) a b ≡ fails 1) ↔ BothNumbers a b (λ l r. ByZero o r)
  refused-1-exactly =
      let exactly = fails-exactly M o a b 1 (λ z. omega arith) in
      (λ e. only (exactly.0 e), λ p. exactly.1 (zero-refused M a b o p))
    where
      only : table_code M o a b ≡ 1 → BothNumbers a b (λ l r. ByZero o r)
      only f =
          elim (row M o a b) [
            | gives e ↦ other e f (λ q. omega arith)
            | overflowed k e ↦ other e f (λ q. omega arith)
            | by-zero k e ↦ k
            | small-base k e ↦ other e f (λ q. omega arith)
          ]

  -- 2 exactly for a logarithm whose operands fit and whose base is below 2
  pub refused-2-exactly : (begun_as M (operation o) a b ≡ fails 2) ↔ BothNumbers a b (λ l r. SmallBase o l)
  refused-2-exactly =
      let exactly = fails-exactly M o a b 2 (λ z. omega arith) in
      (λ e. only (exactly.0 e), λ p. exactly.1 (base-refused M a b o p))
    where
      only : table_code M o a b ≡ 2 → BothNumbers a b (λ l r. SmallBase o l)
      only f =
          elim (row M o a b) [
            | gives e ↦ other e f (λ q. omega arith)
            | overflowed k e ↦ other e f (λ q. omega arith)
            | by-zero k e ↦ other e f (λ q. omega arith)
            | small-base k e ↦ k
          ]

  -- a phase is entered only where both operands fit: with an overflowed one the first step is the only one
  pub phase-needs-numbers
      : (p : Phase) → begun_as M (operation o) a b ≡ within p → BothNumbers a b (λ l r. Unit {0})
  phase-needs-numbers p e = begun-phase M o a b (subst InPhase (sym e) tt)
