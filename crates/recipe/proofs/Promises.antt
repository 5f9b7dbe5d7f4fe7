-- What the run of a recipe promises, one named theorem for each promise, about `run_of`, which `recipe::run::run`
-- equals by its contract for any width, any two lists and any allowance. `Unique` says that no other answer meets that
-- contract; the lists are lent to be read, so that they can't change.
--
-- The answer is that of the recipe worked over unlimited whole numbers, or the first failing item. An item fails with 3
-- only where the left of a quotient or a remainder, or the argument of a logarithm, is above M (`refusal-3-exactly`);
-- with any other operand above M it comes to its number as every item does. A step is counted for each item begun, and
-- further ones for a power's binary digits or a logarithm's units where both operands fit (`further-counted`). With one
-- above M the item has its one step and no more (`one-step-with-one-above`).
-- Assumes nothing.
use mathlib.Core.Path.{◌≡◌, refl, ap, ap₂, sym, ◌∙◌, subst}
use mathlib.Core.Logic.{◌↔◌, ◌⊎◌, inl, inr, ⊎_elim}
use mathlib.Core.Bool.{true}
use mathlib.Core.List.{List, [], ◌∷◌}
use Prim.Native.Nat.{ℕ, ◌+◌, ◌-◌, ◌*◌, ◌/◌, ◌%◌, ◌≤◌, ◌<◌}
use native.Mathlib.Nat.{mul-le-mul_left}
use native.Mathlib.Decide.{dec_lt}
use native.Mathlib.Omega.{arith}
use borrow.Author.Tests.{ne_eqb}
use lib.ListN.{length, get_or}
use Rattle.checked.specs.Value.{limit_of, checked_of}
use Rattle.checked.specs.Paper.{given}
use Rattle.shape.specs.Items.{items}
use Rattle.shape.specs.Shape.{refused, known_width, shape_of}
use Rattle.shape.proofs.Items.{length-items}
use Rattle.shape.proofs.Shapes.{shape-good, good-shape, known-widths}
use Rattle.meaning.specs.Meaning.{Meant, number, failed, top, meaning}
use Rattle.meaning.specs.Faults.{hand_after, FirstRefusal, NoRefusal, LeftAtEnd}
use Rattle.meaning.proofs.Failing.{none-fails as none-meant}
use Rattle.meaning.proofs.Promises as meant
use Rattle.steps.specs.Shown.{ShowsMeaning}
use Rattle.steps.proofs.Stops as stops
use Rattle.steps.proofs.Widths.{hand-at-most}
use Rattle.recipe.specs.Run.{ended, refused_at, answered, answer_meant, count_of, state_after, run_of}
use Rattle.recipe.specs.Run.{ShowsPower, ShowsLogarithm, ShowsHand, WellFormed, StopsAt}
use Rattle.recipe.proofs.Hands.{shows-hand, mark-shown, shows-power, shows-logarithm}
use Rattle.recipe.proofs.Shaped.{run-refused}
use Rattle.recipe.proofs.Courses as courses
pub use Rattle.meaning.proofs.Promises.{refusal-3-exactly, refusal-1-exactly, refusal-2-exactly}
pub use Rattle.meaning.proofs.Promises.{further-counted, one-step-with-one-above}
pub use Rattle.recipe.proofs.Unique.{run-unique}
pub use Rattle.recipe.proofs.Examples.{small-runs, small-stops}

-- a width is from 8 to 64
known-bounds : (W : ℕ) → known_width W ≡ true → (0 < W) × (W ≤ 64)
known-bounds W w =
    ⊎_elim (λ e. (omega arith, omega arith))
    (⊎_elim (λ e. (omega arith, omega arith))
    (⊎_elim (λ e. (omega arith, omega arith)) (λ e. (omega arith, omega arith))))
    (known-widths W w)

module _ (W : ℕ) (ks ns : List ℕ) (well : WellFormed W ks ns) where
  -- ---- 1: enough steps

  -- with an allowance of at least the count, the answer is the meaning's, and the steps are the count
  pub enough-finishes
      : (k : ℕ) → count_of W ks ns ≤ k → run_of W ks ns k ≡ ended (answer_meant W ks ns) (count_of W ks ns)
  enough-finishes = courses.finishes W ks ns well

  -- so where no item has a refusal, and n alone is on the hand at the end, the answer is n's value
  pub answer-is-left
      : (k n : ℕ) → count_of W ks ns ≤ k → NoRefusal (limit_of W) (items ks ns) → LeftAtEnd (items ks ns) n →
      run_of W ks ns k ≡ ended (given (checked_of (limit_of W) n)) (count_of W ks ns)
  answer-is-left k n h none left =
      let e = (meant.meaning-gives-exactly (limit_of W) (items ks ns) (courses.good W ks ns well) n).1 (none, left) in
      enough-finishes k h ∙ ap (λ m. ended (answered (limit_of W) m) (count_of W ks ns)) e

  -- ---- 2: too few steps

  -- with a smaller allowance k, the state after k steps is going on with k steps taken, and it is what is shown, with
  -- 20 at the items wholly done
  pub short-stops : (k : ℕ) → k < count_of W ks ns → StopsAt W ks ns k
  short-stops = courses.stops W ks ns well

  -- whatever the allowance, the state that is reached keeps to the meaning: between items its hand is the meaning's
  -- hand after the items done, and within one its numbers stand for the item's result
  pub state-shows-meaning : (k : ℕ) → ShowsMeaning (limit_of W) (items ks ns) (state_after W ks ns k)
  state-shows-meaning k = stops.shows (limit_of W) k (items ks ns) (courses.good W ks ns well)

  -- a stopped run shows its hand in 32 places, the bottom first and the unused ones fitting 0
  pub hand-shown
      : (k : ℕ) (h : k < count_of W ks ns) →
      ShowsHand (short-stops k h).1 (run_of W ks ns k).marks (run_of W ks ns k).numbers
  hand-shown k h =
      let (d, hand, p, x, rest, e, r) = short-stops k h in
      let s = subst (ShowsMeaning (limit_of W) (items ks ns)) e (state-shows-meaning k) in
      subst (λ s. ShowsHand hand s.marks s.numbers) (sym r)
      (shows-hand hand (hand-at-most (limit_of W) (items ks ns) (courses.good W ks ns well) k d hand p (x ∷ rest) s))

  -- ---- 3: the bound

  -- a well-formed recipe of n items at W bits never takes more than n + W (n - 1) / 2 steps
  pub count-bounded : count_of W ks ns ≤ length ks + W * (length ks - 1) / 2
  count-bounded =
      let g = shape-good W ks ns (ap (λ v. v.code) well) in
      subst (λ n. count_of W ks ns ≤ n + W * (n - 1) / 2) (length-items ks ns g.1) (meant.count-bound W (items ks ns) (known-bounds W g.0).0 g.4)

  pub steps-bounded : (k : ℕ) → (run_of W ks ns k).steps ≤ length ks + W * (length ks - 1) / 2
  steps-bounded k =
      elim (dec_lt k (count_of W ks ns)) [
        | yes h ↦ let e : (run_of W ks ns k).steps ≡ k = ap (λ r. r.steps) (short-stops k h).6 in omega (arith, count-bounded)
        | no n ↦ let h : count_of W ks ns ≤ k = omega arith in let e = ap (λ r. r.steps) (enough-finishes k h) in omega (arith, count-bounded)
      ]

  -- ---- 4: refusals of a well-formed recipe

  -- it is finished, refused with 1, 2 or 3, or out of its allowance: never refused for its shape
  pub well-formed-codes : (k : ℕ) → ((run_of W ks ns k).answer.code ≤ 3) ⊎ ((run_of W ks ns k).answer.code ≡ 20)
  well-formed-codes k =
      elim (courses.course W ks ns k) [
        | courses.ill-formed c j l h s r ↦ let f : ⊥ = omega (arith, ap (λ v. v.code) (sym s ∙ well)) in absurd f
        | courses.short w h s ↦ inr (ap (λ r. r.answer.code) s.6)
        | courses.enough w h r ↦
            inl (subst (λ c. c ≤ 3) (sym (ap (λ r. r.answer.code) r)) (courses.answered-at-most W ks ns))
      ]

  -- 1, 2 and 3 are given exactly as the meaning gives them
  pub running-refused-exactly
      : (k : ℕ) → count_of W ks ns ≤ k → (code place : ℕ) → 0 < code →
      ((run_of W ks ns k).answer ≡ refused_at code place) ↔ (meaning (limit_of W) (items ks ns) ≡ failed code place)
  running-refused-exactly k h code place p =
      let answers = ap (λ r. r.answer) (enough-finishes k h) in (
        λ e. courses.answered-back (limit_of W) (meaning (limit_of W) (items ks ns)) code place p (sym answers ∙ e),
        λ e. answers ∙ ap (answered (limit_of W)) e,
      )

-- ---- 3: the bound is reached

-- at each of the four widths and for every odd n up to 255 some well-formed recipe of n items takes just so many steps
pub bound-reached
    : (W n : ℕ) → known_width W ≡ true → n % 2 ≡ 1 → n ≤ 255 →
    (ks : List ℕ) × (ns : List ℕ) × (length ks ≡ n) × WellFormed W ks ns × ((run_of W ks ns (limit_of 64)).steps ≡ n + W * (n - 1) / 2)
bound-reached W n w o h =
    let b = known-bounds W w in
    let r = meant.bound-reached W n b.0 o in
    let ks = r.0 in
    let ns = r.1 in
    let l = r.2.0 in
    let well = good-shape W ks ns w (l ∙ sym r.2.1) (omega arith) (omega arith) r.2.2 in
    let m = n - 1 in
    let enough : count_of W ks ns ≤ limit_of 64 = omega (arith, r.2.3, mul-le-mul_left m b.1) in
    (ks, ns, l, well, ap (λ r. r.steps) (enough-finishes W ks ns well (limit_of 64) enough) ∙ r.2.3)

-- ---- 4: every refusal, for any recipe and any allowance

module _ (W : ℕ) (ks ns : List ℕ) (k : ℕ) where
  abbrev code : ℕ
  code = (run_of W ks ns k).answer.code

  -- the course of a run tells its code
  not-shape : (c j d : ℕ) → run_of W ks ns k ≡ ended (refused_at c j) 0 → code ≡ d → c ≡ d
  not-shape c j d r e = sym (ap (λ r. r.answer.code) r) ∙ e

  not-short : (s : StopsAt W ks ns k) (d : ℕ) → code ≡ d → 20 ≡ d
  not-short s d e = sym (ap (λ r. r.answer.code) s.6) ∙ e

  not-enough : (d : ℕ) → run_of W ks ns k ≡ ended (answer_meant W ks ns) (count_of W ks ns) → code ≡ d → d ≤ 3
  not-enough d r e =
      subst (λ c. c ≤ 3) (sym (ap (λ r. r.answer.code) r) ∙ e) (courses.answered-at-most W ks ns)

  -- a recipe that isn't well formed is refused as its shape says, with 0 steps, whatever the allowance
  pub shape-refused
      : ((shape_of W ks ns).code ≡ 0 → ⊥) →
      run_of W ks ns k ≡ ended (refused_at (shape_of W ks ns).code (shape_of W ks ns).place) 0
  shape-refused = courses.refused-so W ks ns k

  -- 5 to 13 are given exactly when the shape has them
  pub shape-refused-exactly : (c : ℕ) → 5 ≤ c → c ≤ 13 → (code ≡ c) ↔ ((shape_of W ks ns).code ≡ c)
  shape-refused-exactly c l h = (only, λ e. ap (λ r. r.answer.code) (shape-refused (λ z. omega arith)) ∙ e)
    where
      only : code ≡ c → (shape_of W ks ns).code ≡ c
      only e =
          elim (courses.course W ks ns k) [
            | courses.ill-formed d j m o s r ↦ ap (λ v. v.code) s ∙ not-shape d j c r e
            | courses.short w g s ↦ let f : ⊥ = omega (arith, not-short s c e) in absurd f
            | courses.enough w g r ↦ let f : ⊥ = omega (arith, not-enough c r e) in absurd f
          ]

  -- and at its place, with 0 steps
  pub shape-refused-at-exactly
      : (c j : ℕ) → 5 ≤ c → c ≤ 13 → (run_of W ks ns k ≡ ended (refused_at c j) 0) ↔ (shape_of W ks ns ≡ refused c j)
  shape-refused-at-exactly c j l h =
      (only, λ e. run-refused W ks ns k c j (ne_eqb c 0 (λ z. omega arith)) e)
    where
      only : run_of W ks ns k ≡ ended (refused_at c j) 0 → shape_of W ks ns ≡ refused c j
      only e =
          let q = ap (λ r. r.answer.code) e in
          elim (courses.course W ks ns k) [
            | courses.ill-formed d i m o s r ↦
                let same = sym r ∙ e in
                s ∙ ap₂ refused (ap (λ r. r.answer.code) same) (ap (λ r. r.answer.place) same)
            | courses.short w g s ↦ let f : ⊥ = omega (arith, not-short s c q) in absurd f
            | courses.enough w g r ↦ let f : ⊥ = omega (arith, not-enough c r q) in absurd f
          ]

  -- no other number than 0 to 13 and 20 is given
  pub only-codes : (code ≤ 13) ⊎ (code ≡ 20)
  only-codes =
      elim (courses.course W ks ns k) [
        | courses.ill-formed c j l h s r ↦ inl (omega (arith, ap (λ r. r.answer.code) r))
        | courses.short w h s ↦ inr (ap (λ r. r.answer.code) s.6)
        | courses.enough w h r ↦ inl (omega (arith, ap (λ r. r.answer.code) r, courses.answered-at-most W ks ns))
      ]

  -- 20 exactly when the recipe is well formed and the allowance is below the count
  pub allowance-spent-exactly : (code ≡ 20) ↔ (WellFormed W ks ns × (k < count_of W ks ns))
  allowance-spent-exactly = (only, λ p. ap (λ r. r.answer.code) (short-stops W ks ns p.0 k p.1).6)
    where
      only : code ≡ 20 → WellFormed W ks ns × (k < count_of W ks ns)
      only e =
          elim (courses.course W ks ns k) [
            | courses.ill-formed c j l h s r ↦ let f : ⊥ = omega (arith, not-shape c j 20 r e) in absurd f
            | courses.short w h s ↦ (w, h)
            | courses.enough w h r ↦ let f : ⊥ = omega (arith, not-enough 20 r e) in absurd f
          ]

  -- 1, 2 or 3 at item p exactly when the recipe is well formed, the allowance is enough, item p has that refusal on the
  -- hand after the items before it, and no item before it has one
  pub item-refused-exactly
      : (c p : ℕ) → 1 ≤ c → c ≤ 3 →
      ((run_of W ks ns k).answer ≡ refused_at c p)
      ↔ (WellFormed W ks ns × (count_of W ks ns ≤ k) × FirstRefusal (limit_of W) (items ks ns) c p)
  item-refused-exactly c p l h = (only, given-so)
    where
      fails : (meaning (limit_of W) (items ks ns) ≡ failed c p) ↔ FirstRefusal (limit_of W) (items ks ns) c p
      fails = meant.meaning-fails-exactly (limit_of W) (items ks ns) c p

      only
          : (run_of W ks ns k).answer ≡ refused_at c p →
          WellFormed W ks ns × (count_of W ks ns ≤ k) × FirstRefusal (limit_of W) (items ks ns) c p
      only e =
          let q = ap (λ a. a.code) e in
          elim (courses.course W ks ns k) [
            | courses.ill-formed d j m o s r ↦ let f : ⊥ = omega (arith, not-shape d j c r q) in absurd f
            | courses.short w g s ↦ let f : ⊥ = omega (arith, not-short s c q) in absurd f
            | courses.enough w g r ↦ (w, g, fails.0 ((running-refused-exactly W ks ns w k g c p l).0 e))
          ]

      given-so
          : WellFormed W ks ns × (count_of W ks ns ≤ k) × FirstRefusal (limit_of W) (items ks ns) c p →
          (run_of W ks ns k).answer ≡ refused_at c p
      given-so (w, g, f) = (running-refused-exactly W ks ns w k g c p l).1 (fails.1 f)

  -- a value is given exactly when the recipe is well formed, the allowance is enough, and no item has a refusal
  pub value-given-exactly
      : (code ≡ 0) ↔ (WellFormed W ks ns × (count_of W ks ns ≤ k) × NoRefusal (limit_of W) (items ks ns))
  value-given-exactly = (only, given-so)
    where
      none-fails : WellFormed W ks ns → (m : Meant) → meaning (limit_of W) (items ks ns) ≡ m →
          (answered (limit_of W) m).code ≡ 0 → NoRefusal (limit_of W) (items ks ns)
      none-fails w (number n) e z =
          ((meant.meaning-gives-exactly (limit_of W) (items ks ns) (courses.good W ks ns w) n).0 e).0
      none-fails w (failed c p) e z =
          let f : ⊥ = omega (arith, meant.meaning-fails-only (limit_of W) (items ks ns) c p e) in absurd f

      only : code ≡ 0 → WellFormed W ks ns × (count_of W ks ns ≤ k) × NoRefusal (limit_of W) (items ks ns)
      only e =
          elim (courses.course W ks ns k) [
            | courses.ill-formed c j l h s r ↦ let f : ⊥ = omega (arith, not-shape c j 0 r e) in absurd f
            | courses.short w h s ↦ let f : ⊥ = omega (arith, not-short s 0 e) in absurd f
            | courses.enough w h r ↦
                (w, h, none-fails w (meaning (limit_of W) (items ks ns)) refl (sym (ap (λ r. r.answer.code) r) ∙ e))
          ]

      given-so : WellFormed W ks ns × (count_of W ks ns ≤ k) × NoRefusal (limit_of W) (items ks ns) → code ≡ 0
      given-so (w, h, none) =
          let e = none-meant (limit_of W) (items ks ns) none in
          ap (λ r. r.answer.code) (enough-finishes W ks ns w k h) ∙ ap (λ m. (answered (limit_of W) m).code) e
          ∙ courses.answered-number (limit_of W) (top (hand_after (length (items ks ns)) [] (items ks ns)))

  -- ---- 5: what is shown

  -- with any answer but 20 no items are done, every place is fitting 0, and the phase is between items
  pub ended-shows-no-state
      : (code ≡ 20 → ⊥) → run_of W ks ns k ≡ ended (run_of W ks ns k).answer (run_of W ks ns k).steps
  ended-shows-no-state n =
      elim (courses.view W ks ns k) [
        | courses.over a t r ↦ r ∙ ap₂ ended (ap (λ r. r.answer) (sym r)) (ap (λ r. r.steps) (sym r))
        | courses.going-on d hand p rest g s r ↦ absurd (n (ap (λ r. r.answer.code) r))
      ]

  -- there are 32 places for the hand, whatever the answer
  pub places-shown : (length (run_of W ks ns k).marks ≡ 32) × (length (run_of W ks ns k).numbers ≡ 32)
  places-shown =
      elim (courses.view W ks ns k) [
        | courses.over a t r ↦ (ap (λ r. length r.marks) r, ap (λ r. length r.numbers) r)
        | courses.going-on d hand p rest g s r ↦
            let h = shows-hand hand (hand-at-most (limit_of W) (items ks ns) g k d hand p rest s) in
            (ap (λ r. length r.marks) r ∙ h.places_of_marks, ap (λ r. length r.numbers) r ∙ h.places_of_numbers)
      ]

  -- and each mark is 0 or 1
  pub marks-shown : (i : ℕ) → get_or (run_of W ks ns k).marks i 0 ≤ 1
  marks-shown i =
      elim (courses.view W ks ns k) [
        | courses.over a t r ↦ omega (arith, ap (λ r. get_or r.marks i 0) r, mark-shown [] i)
        | courses.going-on d hand p rest g s r ↦ omega (arith, ap (λ r. get_or r.marks i 0) r, mark-shown hand i)
      ]

  -- within a power both values are values of the width and are shown so, and the exponent is at most M
  pub power-shown : get_or (run_of W ks ns k).phase 0 0 ≡ 1 → ShowsPower (limit_of W) (run_of W ks ns k).phase
  power-shown = courses.in-phase W ks ns k 1 (omega arith) (ShowsPower (limit_of W)) (shows-power (limit_of W))

  -- within a logarithm the base and what is left are at most M
  pub logarithm-shown : get_or (run_of W ks ns k).phase 0 0 ≡ 2 → ShowsLogarithm (limit_of W) (run_of W ks ns k).phase
  logarithm-shown =
      courses.in-phase W ks ns k 2 (omega arith) (ShowsLogarithm (limit_of W)) (shows-logarithm (limit_of W))
