-- How many turns the loop of a row takes: all of its operations, or none on refusal.
-- Assumes nothing.
use mathlib.Core.Path.{◌≡◌, refl, ap, sym, ◌∙◌}
use mathlib.Core.Bool.{Bool, true, false, cond}
use mathlib.Core.List.{List}
use Prim.Native.Nat.{ℕ, ◌≤◌, ◌<◌}
use native.Mathlib.Decide.{ℕ_discrete}
use native.Mathlib.Omega.{arith}
use borrow.Author.Tests.{eq-eqb, ne_eqb}
use lib.Dec.{eqb}
use lib.ListN.{length}
use Rattle.checked.specs.declared.refusal.Refusal.{Refusal}
use Rattle.checked.specs.Paper.{number_of}
use Rattle.checked.proofs.Unique.{not-zero}
use Rattle.places.specs.Places.{over}
use Rattle.places.proofs.Tables.{over-none}
use Rattle.rows.specs.Rows.{Operations, code_of, code_for, after}
use Rattle.rows.specs.Turns.{turns_of}
use Rattle.rows.proofs.Lengths.{naught}

pub all-turns : (code n : ℕ) → code ≡ 0 → turns_of code n ≡ n
all-turns code n z = ap (λ t. cond t n 0) (eq-eqb code 0 z)

pub no-turns : (code n : ℕ) → (code ≡ 0 → ⊥) → turns_of code n ≡ 0
no-turns code n m = ap (λ t. cond t n 0) (ne_eqb code 0 m)

-- where a turn is taken, every list has that place
pub record Inside (n k j a b c i : ℕ) : Type 0 where
  pub few : i < 4096
  pub kinds : i < n
  pub lefts : i < k
  pub rights : i < j
  pub numbers : i < a
  pub marks : i < b
  pub codes : i < c

pub inside : (n k j a b c i : ℕ) → i < turns_of (code_of n k j a b c) n → Inside n k j a b c i
inside n k j a b c i h =
    elim (ℕ_discrete (code_of n k j a b c) 0) [
      | yes z ↦
          let (e, f, r) = (naught n k j a b c).0 z in
          let all = all-turns (code_of n k j a b c) n z in
          let (p, q) = e in
          let most = f.1 in
          let (x, y, u) = r in
          record {
            few = omega arith;
            kinds = omega arith;
            lefts = omega arith;
            rights = omega arith;
            numbers = omega arith;
            marks = omega arith;
            codes = omega arith;
          }
      | no m ↦
          let none = no-turns (code_of n k j a b c) n m in
          let f : ⊥ = omega arith in absurd f
    ]

-- written over by as many turns as there are
pub over-turns : (code n : ℕ) (f : ℕ → ℕ) (old : List ℕ) → over f (turns_of code n) old ≡ after code n f old
unfolding after
over-turns code n f old = either (eqb code 0)
  where
    either : (t : Bool) → over f (cond t n 0) old ≡ cond t (over f n old) old
    either true = refl
    either false = over-none f old

-- how many turns a row takes
abbrev pub turns : Operations → (numbers marks codes : List ℕ) → ℕ
turns os numbers marks codes = turns_of (code_for os numbers marks codes) (length os.kinds)

-- there is room for as many marks and codes
pub enough
    : (os : Operations) (numbers marks codes : List ℕ) →
    (turns os numbers marks codes ≤ length marks) × (turns os numbers marks codes ≤ length codes)
enough os numbers marks codes =
    elim (ℕ_discrete (code_for os numbers marks codes) 0) [
      | yes z ↦
          let (e, f, r) =
          (naught (length os.kinds) (length os.lefts) (length os.rights) (length numbers) (length marks)
          (length codes)).0 z in
          let all = all-turns (code_for os numbers marks codes) (length os.kinds) z in
          let (x, y, u) = r in (omega arith, omega arith)
      | no m ↦ let none = no-turns (code_for os numbers marks codes) (length os.kinds) m in (omega arith, omega arith)
    ]

-- a row that is refused leaves a list as it was
pub stays
    : (r : Refusal) {code : ℕ} (n : ℕ) (f : ℕ → ℕ) (old : List ℕ) → number_of r ≡ code → old ≡ after code n f old
unfolding after
stays r n f old e =
    sym (ap (λ c. cond (eqb c 0) (over f n old) old) (sym e) ∙ ap (λ t. cond t (over f n old) old) (not-zero r))
