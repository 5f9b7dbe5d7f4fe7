-- The course of a run: refused for its shape, stopped where the allowance is spent, or finished as the meaning has it.
-- Assumes nothing.
use mathlib.Core.Path.{◌≡◌, refl, ap, sym, ◌∙◌, subst}
use mathlib.Core.Logic.{⊎_elim}
use mathlib.Core.List.{List, [], ◌∷◌}
use Prim.Native.Nat.{ℕ, suc, ◌≤◌, ◌<◌, zero-le}
use native.Mathlib.Decide.{ℕ_discrete, dec_lt}
use native.Mathlib.Omega.{arith}
use borrow.Author.Tests.{ne_eqb}
use lib.ListN.{length, get_or}
use Rattle.checked.specs.Value.{Value, limit_of, checked_of}
use Rattle.checked.specs.Paper.{Paper}
use Rattle.checked.proofs.Refused.{given-code}
use Rattle.shape.specs.Items.{Item, items}
use Rattle.shape.specs.Shape.{refused, Good, shape_of}
use Rattle.shape.proofs.Shapes.{shape-good}
use Rattle.shape.proofs.Promises as shape
use Rattle.meaning.specs.Meaning.{Meant, number, failed, meaning}
use Rattle.meaning.specs.Faults.{hand_after}
use Rattle.meaning.proofs.Promises as meant
use Rattle.steps.specs.declared.types.Phase.{Phase}
use Rattle.steps.specs.Steps as steps
use Rattle.steps.specs.Shown.{OnHand, ShowsMeaning}
use Rattle.steps.proofs.Agreement as agreed
use Rattle.steps.proofs.Stops.{shows}
use Rattle.recipe.specs.Run.{ended, stopped, refused_at, shown, answered, answer_meant, count_of, state_after, run_of}
use Rattle.recipe.specs.Run.{phase_numbers, WellFormed, StopsAt}
use Rattle.recipe.proofs.Shaped.{run-well-formed, run-refused}

-- ---- what the meaning's answer is in numbers

-- a number has no code
pub answered-number : (M n : ℕ) → (answered M (number n)).code ≡ 0
answered-number M n = given-code (checked_of M n)

-- a refusal that is answered is the meaning's
pub answered-back : (M : ℕ) (m : Meant) (c p : ℕ) → 0 < c → answered M m ≡ refused_at c p → m ≡ failed c p
answered-back M (number n) c p h e =
    let f : ⊥ = omega (arith, sym (answered-number M n) ∙ ap (λ a. a.code) e) in absurd f
answered-back M (failed d q) c p h e = ap (λ d. failed d q) (ap (λ a. a.code) e) ∙ ap (failed c) (ap (λ a. a.place) e)

-- it is none, or from 1 to 3
pub answered-at-most : (W : ℕ) (ks ns : List ℕ) → (answer_meant W ks ns).code ≤ 3
answered-at-most W ks ns = by-meaning (meaning (limit_of W) (items ks ns)) refl
  where
    by-meaning : (m : Meant) → meaning (limit_of W) (items ks ns) ≡ m → (answered (limit_of W) m).code ≤ 3
    by-meaning (number n) e = subst (λ c. c ≤ 3) (sym (answered-number (limit_of W) n)) zero-le
    by-meaning (failed c p) e = (meant.meaning-fails-only (limit_of W) (items ks ns) c p e).1

-- the end that the meaning gives, shown
ended-shown : (M t n : ℕ) (m : Meant) → shown (steps.ended_as M t n m) ≡ ended (answered M m) t
ended-shown M t n (number v) = refl
ended-shown M t n (failed code place) = refl

-- ---- a well-formed recipe

module _ (W : ℕ) (ks ns : List ℕ) (well : WellFormed W ks ns) where
  pub good : Good (limit_of W) 0 (items ks ns)
  good = (shape-good W ks ns (ap (λ v. v.code) well)).4

  pub runs : (k : ℕ) → run_of W ks ns k ≡ shown (state_after W ks ns k)
  runs k = run-well-formed W ks ns k (limit_of W) well

  pub finishes : (k : ℕ) → count_of W ks ns ≤ k → run_of W ks ns k ≡ ended (answer_meant W ks ns) (count_of W ks ns)
  finishes k h =
      runs k ∙ ap shown (agreed.enough (limit_of W) k (items ks ns) good h)
      ∙ ended-shown (limit_of W) (count_of W ks ns) (length (items ks ns)) (meaning (limit_of W) (items ks ns))

  pub stops : (k : ℕ) → k < count_of W ks ns → StopsAt W ks ns k
  stops k h = at (state_after W ks ns k) refl (agreed.short (limit_of W) k (items ks ns) good h)
    where
      at : (s : steps.State) → state_after W ks ns k ≡ s → steps.Stopped k s → StopsAt W ks ns k
      at (steps.going t d hand p []) e f = absurd f
      at (steps.going t d hand p (x ∷ rest)) e f =
          let g = e ∙ ap (λ n. steps.going n d hand p (x ∷ rest)) f in (d, hand, p, x, rest, g, runs k ∙ ap shown g)
      at (steps.refused t d code) e f = absurd f

-- ---- any recipe, any allowance

module _ (W : ℕ) (ks ns : List ℕ) (k : ℕ) where
  pub refused-so
      : ((shape_of W ks ns).code ≡ 0 → ⊥) →
      run_of W ks ns k ≡ ended (refused_at (shape_of W ks ns).code (shape_of W ks ns).place) 0
  refused-so n =
      run-refused W ks ns k (shape_of W ks ns).code (shape_of W ks ns).place (ne_eqb (shape_of W ks ns).code 0 n)
      (shape.refused-or-well-formed W ks ns n)

  pub data Course : Type 0 where
    ill-formed
        : (c j : ℕ) → 5 ≤ c → c ≤ 13 → shape_of W ks ns ≡ refused c j → run_of W ks ns k ≡ ended (refused_at c j) 0 →
        Course
    short : WellFormed W ks ns → k < count_of W ks ns → StopsAt W ks ns k → Course
    enough
        : WellFormed W ks ns → count_of W ks ns ≤ k → run_of W ks ns k ≡ ended (answer_meant W ks ns) (count_of W ks ns) →
        Course

  pub course : Course
  course =
      elim (ℕ_discrete (shape_of W ks ns).code 0) [
        | yes z ↦ let well = (shape-good W ks ns z).5 in elim (dec_lt k (count_of W ks ns)) [
          | yes h ↦ short well h (stops W ks ns well k h)
          | no n ↦ let h : count_of W ks ns ≤ k = omega arith in enough well h (finishes W ks ns well k h)
        ]
        | no n ↦
            let b : (5 ≤ (shape_of W ks ns).code) × ((shape_of W ks ns).code ≤ 13) =
            ⊎_elim (λ z. absurd (n z)) (λ b. b) (shape.shape-numbers W ks ns) in
            ill-formed (shape_of W ks ns).code (shape_of W ks ns).place b.0 b.1
            (shape.refused-or-well-formed W ks ns n) (refused-so n)
      ]

  -- what is shown: no state where the run is over, and otherwise one that keeps to the meaning
  pub data View : Type 0 where
    over : (a : Paper) (t : ℕ) → run_of W ks ns k ≡ ended a t → View
    going-on
        : (d : ℕ) (hand : List Value) (p : Phase) (rest : List Item) → Good (limit_of W) 0 (items ks ns) →
        ShowsMeaning (limit_of W) (items ks ns) (steps.going k d hand p rest) → run_of W ks ns k ≡ stopped k d hand p →
        View

  pub view : View
  view =
      elim course [
        | ill-formed c j l h s r ↦ over (refused_at c j) 0 r
        | short w h (d, hand, p, x, rest, e, r) ↦
            let g = good W ks ns w in
            let s = subst (ShowsMeaning (limit_of W) (items ks ns)) e (shows (limit_of W) k (items ks ns) g) in
            going-on d hand p (x ∷ rest) g s r
        | enough w h r ↦ over (answer_meant W ks ns) (count_of W ks ns) r
      ]

  -- what a phase with this number shows is shown by a run with it; 0 is between items, and where the run is over
  pub in-phase
      : (n : ℕ) → 0 < n → (Q : List ℕ → Type 0) →
      ((hand : List Value) (p : Phase) (before then : List ℕ) → OnHand (limit_of W) hand p before then →
      get_or (phase_numbers p) 0 0 ≡ n → Q (phase_numbers p)) →
      get_or (run_of W ks ns k).phase 0 0 ≡ n → Q (run_of W ks ns k).phase
  in-phase n h Q shown-so e =
      elim view [
        | over a t r ↦ let f : ⊥ = omega (arith, ap (λ r. get_or r.phase 0 0) r) in absurd f
        | going-on d hand p rest g s r ↦
            subst (λ s. Q s.phase) (sym r)
            (shown-so hand p (hand_after d [] (items ks ns)) (hand_after (suc d) [] (items ks ns)) s.1
            (sym (ap (λ r. get_or r.phase 0 0) r) ∙ e))
      ]
