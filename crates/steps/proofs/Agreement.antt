-- The run by single steps comes to what the recipe means, in as many steps as it counts.
-- Assumes nothing.
use mathlib.Core.Path.{◌≡◌, refl, ap, ap₂, sym, ◌∙◌, subst}
use mathlib.Core.Bool.{Bool, true, false}
use mathlib.Core.List.{List, [], ◌∷◌}
use Prim.Native.Nat.{ℕ, suc, ◌+◌, ◌-◌, ◌≤◌, ◌<◌}
use native.Mathlib.Nat.{add-zero, zero-add, suc-add, add-sub_of_le}
use native.Mathlib.Numerals.{one-add}
use native.Mathlib.Omega.{arith}
use lib.Dec.{eqb}
use lib.ListN.{length}
use Rattle.checked.specs.Value.{checked_of}
use Rattle.shape.specs.Items.{Item}
use Rattle.shape.specs.Shape.{Good, fault_of}
use Rattle.meaning.specs.Meaning.{refusal_on, hand_on, Meant, number, failed, meaning_from, meaning}
use Rattle.meaning.specs.Count.{further_on, count_from, count}
use Rattle.meaning.proofs.Hands.{item-holds}
use Rattle.steps.specs.declared.types.Phase.TheVariants.{Between}
use Rattle.steps.specs.Steps.{State, going, refused, start, after, ended_as, finished, Stopped}
use Rattle.steps.specs.Shown.{values_of}
use Rattle.steps.proofs.Runs.{Ended, ended-stays, after-sum, taken, Reached, reached, one-more}
use Rattle.steps.proofs.Items.{item-begins, item-fails, item-runs}

-- ---- from the middle of a recipe

-- so the run ends, with H the meaning's hand, t steps taken and d items done
abbrev Agrees : ℕ → ℕ → ℕ → List ℕ → List Item → Type 0
Agrees M t d H xs =
    after M (count_from M H xs) (going t d (values_of M H) Between xs) ≡ ended_as M (count_from M H xs + t) (d + length xs) (meaning_from M d H xs)

-- nothing is left to do
at-end : (M t d : ℕ) (H : List ℕ) → length H ≡ 1 → Agrees M t d H []
unfolding after count_from meaning_from
at-end M t d [] g = let f : ⊥ = omega arith in absurd f
at-end M t d (v ∷ []) g = ap₂ (λ s n. going s n (checked_of M v ∷ []) Between []) (sym (zero-add t)) (sym (add-zero d))
at-end M t d (v ∷ w ∷ H) g = let f : ⊥ = omega arith in absurd f

module _ (M t d : ℕ) (H : List ℕ) (x : Item) (xs : List Item) where
  -- an item, by whether the meaning refuses it
  counted : Bool → ℕ
  counted b = elim b [ true ↦ suc (further_on M H x.kind + count_from M (hand_on H x) xs) | false ↦ 1 ]

  meant : Bool → Meant
  meant b = elim b [ true ↦ meaning_from M (suc d) (hand_on H x) xs | false ↦ failed (refusal_on M H x.kind) d ]

  on-item
      : (b : Bool) → eqb (refusal_on M H x.kind) 0 ≡ b → fault_of M (length H) x.kind x.number ≡ 0 →
      Agrees M (further_on M H x.kind + suc t) (suc d) (hand_on H x) xs →
      after M (counted b) (going t d (values_of M H) Between (x ∷ xs)) ≡ ended_as M (counted b + t) (d + length (x ∷ xs)) (meant b)
  unfolding after counted meant
  on-item true e h rest =
      let f = further_on M H x.kind in
      let c = count_from M (hand_on H x) xs in
      ap (λ k. after M k (going t d (values_of M H) Between (x ∷ xs))) (sym (suc-add f c))
      ∙ after-sum M (suc f) c (going t d (values_of M H) Between (x ∷ xs))
      ∙ ap (after M c) (item-runs M t d H x xs (item-begins M t d xs H x.kind x.number h e))
      ∙ rest
      ∙ ap₂ (λ s n. ended_as M s n (meaning_from M (suc d) (hand_on H x) xs)) (steps-so f c) (sym (one-more d (length xs)))
    where
      steps-so : (f c : ℕ) → c + (f + suc t) ≡ suc (f + c) + t
      steps-so f c = omega arith
  on-item false e h rest =
      item-fails M t d xs H x.kind x.number h e ∙ ap (λ s. refused s d (refusal_on M H x.kind)) (sym (one-add t))

agrees : (M t d : ℕ) (H : List ℕ) (xs : List Item) → Good M (length H) xs → Agrees M t d H xs
unfolding count_from meaning_from counted meant
agrees M t d H [] g = at-end M t d H g
agrees M t d H (x ∷ xs) (h, g) =
    on-item M t d H x xs (eqb (refusal_on M H x.kind) 0) refl h
    (agrees M (further_on M H x.kind + suc t) (suc d) (hand_on H x) xs (subst (λ n. Good M n xs) (sym (item-holds M H x.kind x.number h)) g))

-- ---- a whole recipe

-- after as many steps as it counts, the run has come to what the recipe means
pub agreement : (M : ℕ) (xs : List Item) → Good M 0 xs → after M (count M xs) (start xs) ≡ finished M xs
agreement M xs g = agrees M 0 0 [] xs g ∙ ap₂ (λ s n. ended_as M s n (meaning M xs)) (add-zero (count M xs)) (zero-add (length xs))

finished-ended : (M steps n : ℕ) (m : Meant) → Ended (ended_as M steps n m)
finished-ended M steps n (number v) = tt
finished-ended M steps n (failed code place) = tt

finished-takes : (M steps n : ℕ) (m : Meant) → taken (ended_as M steps n m) ≡ steps
finished-takes M steps n (number v) = refl
finished-takes M steps n (failed code place) = refl

-- and more steps change nothing
pub enough : (M k : ℕ) (xs : List Item) → Good M 0 xs → count M xs ≤ k → after M k (start xs) ≡ finished M xs
enough M k xs g h =
    ap (λ n. after M n (start xs)) (sym (add-sub_of_le h))
    ∙ after-sum M (count M xs) (k - count M xs) (start xs)
    ∙ ap (after M (k - count M xs)) (agreement M xs g)
    ∙ ended-stays M (k - count M xs) (finished M xs) (finished-ended M (count M xs) (length xs) (meaning M xs))

-- ---- with fewer steps it isn't ended

stopped : (k : ℕ) (s : State) → Reached k s → (Ended s → ⊥) → Stopped k s
stopped k (going t d hand p []) r n = n tt
stopped k (going t d hand p (x ∷ xs)) r n = r
stopped k (refused t d code) r n = n tt

at-most : (k : ℕ) (s : State) → Reached k s → taken s ≤ k
at-most k (going t d hand p []) r = r
at-most k (going t d hand p (x ∷ xs)) r = omega arith
at-most k (refused t d code) r = r

-- with fewer steps than it counts, exactly so many are taken and items are left
pub short : (M k : ℕ) (xs : List Item) → Good M 0 xs → k < count M xs → Stopped k (after M k (start xs))
short M k xs g h = stopped k s r not-ended
  where
    s : State
    s = after M k (start xs)

    r : Reached k s
    r = subst (λ n. Reached n s) (add-zero k) (reached M k (start xs))

    not-ended : Ended s → ⊥
    not-ended e =
        let same : s ≡ finished M xs =
        sym (ended-stays M (count M xs - k) s e) ∙ sym (after-sum M k (count M xs - k) (start xs))
        ∙ ap (λ n. after M n (start xs)) (add-sub_of_le (omega arith)) ∙ agreement M xs g in
        omega (arith, at-most k s r, ap taken same ∙ finished-takes M (count M xs) (length xs) (meaning M xs))
