-- Which refusal a block gets: the stages of looking at it, and of reading it into two lists.
-- Assumes nothing.
use mathlib.Core.Path.{◌≡◌, ap, ◌∙◌}
use mathlib.Core.Logic.{◌⊎◌, inl, inr}
use mathlib.Core.Bool.{true, false, cond, ◌&&◌}
use mathlib.Core.List.{List}
use Prim.Native.Nat.{ℕ, ◌≤◌, ◌<◌}
use native.Mathlib.Decide.{ℕ_discrete, dec_lt}
use native.Mathlib.Omega.{arith}
use borrow.Author.Tests.{eq-eqb, ne_eqb, le-leb, lt-leb}
use lib.Dec.{eqb, leb}
use lib.ListN.{length}
use Rattle.places.proofs.First.{holds-or-fails}
use Rattle.layout.specs.Editions.{block_length, Edition}
use Rattle.layout.specs.Layout.{count, check, check_sum, has_layout_as}
use Rattle.layout.specs.Sound.{fault_as}
use Rattle.layout.specs.Reading.{read_fault_as}

-- ---- a block

module _ (E : Edition) (b : List ℕ) where
  pub length-fault : (length b ≡ block_length → ⊥) → fault_as E b ≡ 16
  unfolding fault_as
  length-fault n =
      ap (λ t. cond t (cond (eqb (check b) (check_sum b)) (cond (has_layout_as E b) 0 18) 17) 16)
      (ne_eqb (length b) block_length n)

  at-length : length b ≡ block_length → fault_as E b ≡ cond (eqb (check b) (check_sum b)) (cond (has_layout_as E b) 0 18) 17
  unfolding fault_as
  at-length l =
      ap (λ t. cond t (cond (eqb (check b) (check_sum b)) (cond (has_layout_as E b) 0 18) 17) 16)
      (eq-eqb (length b) block_length l)

  pub check-fault : length b ≡ block_length → (check b ≡ check_sum b → ⊥) → fault_as E b ≡ 17
  check-fault l n = at-length l ∙ ap (λ t. cond t (cond (has_layout_as E b) 0 18) 17) (ne_eqb (check b) (check_sum b) n)

  at-check : length b ≡ block_length → check b ≡ check_sum b → fault_as E b ≡ cond (has_layout_as E b) 0 18
  at-check l c = at-length l ∙ ap (λ t. cond t (cond (has_layout_as E b) 0 18) 17) (eq-eqb (check b) (check_sum b) c)

  pub layout-fault : length b ≡ block_length → check b ≡ check_sum b → has_layout_as E b ≡ false → fault_as E b ≡ 18
  layout-fault l c h = at-check l c ∙ ap (λ t. cond t 0 18) h

  pub sound-fault : length b ≡ block_length → check b ≡ check_sum b → has_layout_as E b ≡ true → fault_as E b ≡ 0
  sound-fault l c h = at-check l c ∙ ap (λ t. cond t 0 18) h

-- one of the four it is
pub data Stage (E : Edition) (b : List ℕ) : Type 0 where
  other-length : (length b ≡ block_length → ⊥) → fault_as E b ≡ 16 → Stage E b
  wrong-check : length b ≡ block_length → (check b ≡ check_sum b → ⊥) → fault_as E b ≡ 17 → Stage E b
  other-layout : length b ≡ block_length → check b ≡ check_sum b → has_layout_as E b ≡ false → fault_as E b ≡ 18 → Stage E b
  sound : length b ≡ block_length → check b ≡ check_sum b → has_layout_as E b ≡ true → fault_as E b ≡ 0 → Stage E b

pub stage : (E : Edition) (b : List ℕ) → Stage E b
stage E b =
    elim (ℕ_discrete (length b) block_length) [
      | no n ↦ other-length n (length-fault E b n)
      | yes l ↦
          elim (ℕ_discrete (check b) (check_sum b)) [
            | no n ↦ wrong-check l n (check-fault E b l n)
            | yes c ↦
                elim (holds-or-fails (has_layout_as E b)) [
                  | inr h ↦ other-layout l c h (layout-fault E b l c h)
                  | inl h ↦ sound l c h (sound-fault E b l c h)
                ]
          ]
    ]

-- what a block without a fault has
pub sound-parts
    : (E : Edition) (b : List ℕ) → fault_as E b ≡ 0 →
    (length b ≡ block_length) × (check b ≡ check_sum b) × (has_layout_as E b ≡ true)
sound-parts E b z =
    elim (stage E b) [
      | other-length n f ↦ absurd (omega arith)
      | wrong-check l n f ↦ absurd (omega arith)
      | other-layout l c h f ↦ absurd (omega arith)
      | sound l c h f ↦ (l, c, h)
    ]

-- ---- reading it

module _ (E : Edition) (b numbers marks : List ℕ) where
  pub read-fault : (fault_as E b ≡ 0 → ⊥) → read_fault_as E b numbers marks ≡ fault_as E b
  unfolding read_fault_as
  read-fault n =
      ap (λ t. cond t (cond (leb (count b) (length numbers) && leb (count b) (length marks)) 0 19) (fault_as E b))
      (ne_eqb (fault_as E b) 0 n)

  at-sound
      : fault_as E b ≡ 0 →
      read_fault_as E b numbers marks ≡ cond (leb (count b) (length numbers) && leb (count b) (length marks)) 0 19
  unfolding read_fault_as
  at-sound z =
      ap (λ t. cond t (cond (leb (count b) (length numbers) && leb (count b) (length marks)) 0 19) (fault_as E b))
      (eq-eqb (fault_as E b) 0 z)

  pub numbers-short : fault_as E b ≡ 0 → length numbers < count b → read_fault_as E b numbers marks ≡ 19
  numbers-short z h =
      at-sound z ∙ ap (λ t. cond (t && leb (count b) (length marks)) 0 19) (lt-leb (count b) (length numbers) h)

  at-room
      : fault_as E b ≡ 0 → count b ≤ length numbers →
      read_fault_as E b numbers marks ≡ cond (leb (count b) (length marks)) 0 19
  at-room z h =
      at-sound z ∙ ap (λ t. cond (t && leb (count b) (length marks)) 0 19) (le-leb (count b) (length numbers) h)

  pub marks-short
      : fault_as E b ≡ 0 → count b ≤ length numbers → length marks < count b → read_fault_as E b numbers marks ≡ 19
  marks-short z h k = at-room z h ∙ ap (λ t. cond t 0 19) (lt-leb (count b) (length marks) k)

  pub read-sound
      : fault_as E b ≡ 0 → count b ≤ length numbers → count b ≤ length marks → read_fault_as E b numbers marks ≡ 0
  read-sound z h k = at-room z h ∙ ap (λ t. cond t 0 19) (le-leb (count b) (length marks) k)

-- one of the three it is
pub data Read (E : Edition) (b numbers marks : List ℕ) : Type 0 where
  faulty : (fault_as E b ≡ 0 → ⊥) → read_fault_as E b numbers marks ≡ fault_as E b → Read E b numbers marks
  short
      : fault_as E b ≡ 0 → (length numbers < count b) ⊎ (length marks < count b) → read_fault_as E b numbers marks ≡ 19 →
      Read E b numbers marks
  room
      : fault_as E b ≡ 0 → count b ≤ length numbers → count b ≤ length marks → read_fault_as E b numbers marks ≡ 0 →
      Read E b numbers marks

pub read-stage : (E : Edition) (b numbers marks : List ℕ) → Read E b numbers marks
read-stage E b numbers marks =
    elim (ℕ_discrete (fault_as E b) 0) [
      | no n ↦ faulty n (read-fault E b numbers marks n)
      | yes z ↦
          elim (dec_lt (length numbers) (count b)) [
            | yes h ↦ short z (inl h) (numbers-short E b numbers marks z h)
            | no h ↦
                let h' : count b ≤ length numbers = omega arith in
                elim (dec_lt (length marks) (count b)) [
                  | yes k ↦ short z (inr k) (marks-short E b numbers marks z h' k)
                  | no k ↦
                      let k' : count b ≤ length marks = omega arith in
                      room z h' k' (read-sound E b numbers marks z h' k')
                ]
          ]
    ]
