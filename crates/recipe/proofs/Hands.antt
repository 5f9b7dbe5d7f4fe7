-- The 32 places show a hand, the bottom first and the unused ones fitting 0; and values of the width are shown as such.
-- Assumes nothing.
use mathlib.Core.Path.{◌≡◌, refl, ap, sym, ◌∙◌}
use mathlib.Core.Logic.{inl, inr}
use mathlib.Core.List.{List, [], ◌∷◌}
use Prim.Native.Nat.{ℕ, zero, suc, ◌+◌, ◌-◌, ◌≤◌, ◌<◌}
use native.Mathlib.Decide.{dec_lt, dec_le}
use native.Mathlib.Omega.{arith}
use lib.ListN.{length, get_or, replicate}
use Rattle.checked.specs.declared.types.Checked.TheVariants.{Fits, Overflowed}
use Rattle.checked.specs.Value.{Value}
use Rattle.checked.proofs.Limit.{over}
use Rattle.steps.specs.declared.types.Phase.{Phase}
use Rattle.steps.specs.declared.types.Phase.TheVariants.{Between, InPower, InLogarithm}
use Rattle.steps.specs.Shown.{OfWidth, OnHand}
use Rattle.recipe.specs.Run.{mark_of, number_in, laid, places, from_bottom, phase_numbers}
use Rattle.recipe.specs.Run.{ShowsValue, ShowsPower, ShowsLogarithm, ShowsHand}
use Rattle.recipe.proofs.Places.{laid-get, places-length}

-- ---- the places

laid-below
    : (f : Value → ℕ) (hand : List Value) (rest : List ℕ) (i : ℕ) → i < length hand →
    get_or (laid f hand rest) i 0 ≡ f (from_bottom hand i)
laid-below f [] rest i h = let f : ⊥ = omega arith in absurd f
laid-below f (v ∷ hand) rest i h =
    elim (dec_lt i (length hand)) [
      | yes l ↦
          let e : suc (length hand) - suc i ≡ suc (length hand - suc i) = omega arith in
          laid-below f hand (f v ∷ rest) i l ∙ sym (ap (λ j. f (get_or (v ∷ hand) j (Fits 0))) e)
      | no n ↦
          let e : suc (length hand) - suc i ≡ 0 = omega arith in
          laid-get f hand (f v ∷ rest) i 0 (omega arith) ∙ sym (ap (λ j. f (get_or (v ∷ hand) j (Fits 0))) e)
    ]

zeros-at : (n j : ℕ) → ◌≡◌ {A = ℕ} (get_or (replicate n 0) j 0) 0
zeros-at zero j = refl
zeros-at (suc n) zero = refl
zeros-at (suc n) (suc j) = zeros-at n j

unused-zero : (f : Value → ℕ) (hand : List Value) (i : ℕ) → length hand ≤ i → get_or (places f hand) i 0 ≡ 0
unused-zero f hand i h =
    let e : i ≡ length hand + (i - length hand) = omega arith in
    laid-get f hand (replicate (32 - length hand) 0) i (i - length hand) e
    ∙ zeros-at (32 - length hand) (i - length hand)

mark-small : (v : Value) → mark_of v ≤ 1
mark-small (Fits n) = omega arith
mark-small Overflowed = omega arith

-- a mark at any place is 0 or 1
pub mark-shown : (hand : List Value) (i : ℕ) → get_or (places mark_of hand) i 0 ≤ 1
mark-shown hand i =
    elim (dec_lt i (length hand)) [
      | yes h ↦
          omega (arith, laid-below mark_of hand (replicate (32 - length hand) 0) i h, mark-small (from_bottom hand i))
      | no n ↦ omega (arith, unused-zero mark_of hand i (omega arith))
    ]

pub shows-hand : (hand : List Value) → length hand ≤ 32 → ShowsHand hand (places mark_of hand) (places number_in hand)
shows-hand hand h =
    record {
      places_of_marks = places-length mark_of hand h;
      places_of_numbers = places-length number_in hand h;
      bottom_first =
          λ i l. (
            laid-below mark_of hand (replicate (32 - length hand) 0) i l,
            laid-below number_in hand (replicate (32 - length hand) 0) i l,
          );
      unused = λ i l. (unused-zero mark_of hand i l, unused-zero number_in hand i l);
    }

-- ---- a value of the width

pub shows-value : (M : ℕ) (v : Value) → OfWidth M v → ShowsValue M (mark_of v) (number_in v)
shows-value M (Fits n) e =
    elim (dec_le n M) [
      | yes h ↦ inl (refl, h)
      | no m ↦
          let z : ◌≡◌ {A = ℕ} 0 1 = ap mark_of (e ∙ sym (over M n (omega arith))) in let f : ⊥ = omega arith in absurd f
    ]
shows-value M Overflowed e = inr (refl, refl)

-- ---- a phase

shows-other : {A : Type 0} {c d : ℕ} → (c ≡ d → ⊥) → c ≡ d → A
shows-other n e = absurd (n e)

pub shows-power
    : (M : ℕ) (hand : List Value) (p : Phase) (before then : List ℕ) → OnHand M hand p before then →
    get_or (phase_numbers p) 0 0 ≡ 1 → ShowsPower M (phase_numbers p)
shows-power M hand Between before then h e = shows-other (λ z. omega arith) e
shows-power M hand (InPower p) before then h e =
    let (positive, w, stands) = h.1 in
    (shows-value M p.first w.0, shows-value M p.second w.1, positive, w.2)
shows-power M hand (InLogarithm q) before then h e = shows-other (λ z. omega arith) e

pub shows-logarithm
    : (M : ℕ) (hand : List Value) (p : Phase) (before then : List ℕ) → OnHand M hand p before then →
    get_or (phase_numbers p) 0 0 ≡ 2 → ShowsLogarithm M (phase_numbers p)
shows-logarithm M hand Between before then h e = shows-other (λ z. omega arith) e
shows-logarithm M hand (InPower p) before then h e = shows-other (λ z. omega arith) e
shows-logarithm M hand (InLogarithm q) before then h e =
    let (base, left, small, sum, most) = h.1 in (base, left, small, omega arith)
