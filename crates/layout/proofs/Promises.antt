-- What reading a block promises, one named theorem for each promise, for any edition E: over `reading_as E`, which
-- gives a block's number and count or the refusal `read_fault_as E`, and over `numbers_after_as E` and `marks_after_as E`,
-- which the two lent lists are afterwards. `reading_of` and its kin, of which the reader's contract speaks, are these
-- at a block's own edition.
-- Assumes nothing.
use mathlib.Core.Path.{◌≡◌, ap, sym, ◌∙◌}
use mathlib.Core.Logic.{◌↔◌, ◌⊎◌, inl, inr, ⊎_elim}
use mathlib.Core.Bool.{false, cond, false≢true}
use mathlib.Core.List.{List}
use Prim.Native.Nat.{ℕ, ◌^◌, ◌≤◌, ◌<◌}
use native.Mathlib.Decide.{ℕ_discrete}
use native.Mathlib.Omega.{arith}
use borrow.Author.Tests.{eq-eqb, ne_eqb}
use lib.ListN.{length, get_or, set, length-set}
use Rattle.places.specs.Places.{over}
use Rattle.places.proofs.Tables.{length-over, over-at, over-past}
use Rattle.little.specs.Bytes.{byte_at, Bytes}
use Rattle.layout.specs.Editions.{block_length, Edition}
use Rattle.layout.specs.Layout.{count, block_number, number_from, mark, check, check_sum, has_layout_as}
use Rattle.layout.specs.Sound.{fault_as}
use Rattle.layout.specs.Reading.{read_fault_as, given, refused, reading_as, numbers_after_as, marks_after_as}
use Rattle.layout.specs.Told.{LaidOutAs}
use Rattle.layout.proofs.Check.{check-below}
use Rattle.layout.proofs.Changed.{check-wrong}
use Rattle.layout.proofs.Faults.{length-fault, check-fault, layout-fault, other-length, wrong-check}
use Rattle.layout.proofs.Faults.{other-layout, sound, stage, sound-parts, read-fault, read-sound, faulty}
use Rattle.layout.proofs.Faults.{short, room, read-stage}
use Rattle.layout.proofs.Layouts.{sound-exactly}
-- what edition 1's head says: 6..7 zero
pub use Rattle.layout.proofs.Layouts.{head-of-one}

-- ---- the check

-- it is below 2^32, so nothing wraps
pub check-below-2^32 : (b : List ℕ) → Bytes b → check_sum b < 2 ^ 32
check-below-2^32 = check-below

-- in a sound block any one byte changed is noticed, with 17
pub changed-byte-noticed
    : (E : Edition) (b : List ℕ) (i y : ℕ) → fault_as E b ≡ 0 → i < block_length → (y ≡ byte_at b i → ⊥) →
    fault_as E (set b i y) ≡ 17
changed-byte-noticed E b i y z h n =
    let p = sound-parts E b z in
    check-fault E (set b i y) (length-set b i y ∙ p.0) (check-wrong b y i p.0 p.1 h n)

module _ (E : Edition) (b : List ℕ) where
  -- ---- which refusal a block gets by itself; that it gets none exactly when it is laid out so is `sound-exactly`

  -- 16 exactly when it isn't block_length bytes
  pub fault-16-exactly : (fault_as E b ≡ 16) ↔ (length b ≡ block_length → ⊥)
  fault-16-exactly = (only, length-fault E b)
    where
      only : fault_as E b ≡ 16 → length b ≡ block_length → ⊥
      only e l =
          elim (stage E b) [
            | other-length n f ↦ n l
            | wrong-check m n f ↦ omega arith
            | other-layout m c h f ↦ omega arith
            | sound m c h f ↦ omega arith
          ]

  -- 17 exactly when it is, and the check is wrong
  pub fault-17-exactly : (fault_as E b ≡ 17) ↔ ((length b ≡ block_length) × (check b ≡ check_sum b → ⊥))
  fault-17-exactly = (only, λ p. check-fault E b p.0 p.1)
    where
      only : fault_as E b ≡ 17 → (length b ≡ block_length) × (check b ≡ check_sum b → ⊥)
      only e =
          elim (stage E b) [
            | other-length n f ↦ absurd (omega arith)
            | wrong-check l n f ↦ (l, n)
            | other-layout l c h f ↦ absurd (omega arith)
            | sound l c h f ↦ absurd (omega arith)
          ]

  -- 18 exactly when the check is right, and the layout is another
  pub fault-18-exactly
      : (fault_as E b ≡ 18) ↔ ((length b ≡ block_length) × (check b ≡ check_sum b) × (has_layout_as E b ≡ false))
  fault-18-exactly = (only, λ p. layout-fault E b p.0 p.1 p.2)
    where
      only : fault_as E b ≡ 18 → (length b ≡ block_length) × (check b ≡ check_sum b) × (has_layout_as E b ≡ false)
      only e =
          elim (stage E b) [
            | other-length n f ↦ absurd (omega arith)
            | wrong-check l n f ↦ absurd (omega arith)
            | other-layout l c h f ↦ (l, c, h)
            | sound l c h f ↦ absurd (omega arith)
          ]

  -- in propositions: what `Told` says of a block isn't all so, though its length and its check are right
  pub fault-18-told
      : (fault_as E b ≡ 18) ↔ ((length b ≡ block_length) × (check b ≡ check_sum b) × (LaidOutAs E b → ⊥))
  fault-18-told = (only, back)
    where
      only : fault_as E b ≡ 18 → (length b ≡ block_length) × (check b ≡ check_sum b) × (LaidOutAs E b → ⊥)
      only e =
          let p = fault-18-exactly.0 e in
          (p.0, p.1, λ l. false≢true (sym p.2 ∙ (sound-parts E b ((sound-exactly E b).1 l)).2))

      back : (length b ≡ block_length) × (check b ≡ check_sum b) × (LaidOutAs E b → ⊥) → fault_as E b ≡ 18
      back p =
          elim (stage E b) [
            | other-length n f ↦ absurd (n p.0)
            | wrong-check l n f ↦ absurd (n p.1)
            | other-layout l c h f ↦ f
            | sound l c h f ↦ absurd (p.2 ((sound-exactly E b).0 f))
          ]

  -- no other refusal is given
  pub fault-only-codes
      : (fault_as E b ≡ 0) ⊎ ((fault_as E b ≡ 16) ⊎ ((fault_as E b ≡ 17) ⊎ (fault_as E b ≡ 18)))
  fault-only-codes =
      elim (stage E b) [
        | other-length n f ↦ inr (inl f)
        | wrong-check l n f ↦ inr (inr (inl f))
        | other-layout l c h f ↦ inr (inr (inr f))
        | sound l c h f ↦ inl f
      ]

module _ (E : Edition) (b numbers marks : List ℕ) where
  -- ---- which blocks are accepted, and which refusal the others get

  -- a block is accepted exactly when it has the layout and both lists have room
  pub accepted-exactly
      : (read_fault_as E b numbers marks ≡ 0) ↔ (LaidOutAs E b × (count b ≤ length numbers) × (count b ≤ length marks))
  accepted-exactly = (only, λ p. read-sound E b numbers marks ((sound-exactly E b).1 p.0) p.1 p.2)
    where
      only : read_fault_as E b numbers marks ≡ 0 → LaidOutAs E b × (count b ≤ length numbers) × (count b ≤ length marks)
      only e =
          elim (read-stage E b numbers marks) [
            | faulty n r ↦ absurd (n (sym r ∙ e))
            | short z s r ↦ absurd (omega arith)
            | room z h k r ↦ ((sound-exactly E b).0 z, h, k)
          ]

  -- a fault of the block is its refusal, and no other refusal but 19 is given
  faults-exactly : (c : ℕ) → (c ≡ 0 → ⊥) → (c ≡ 19 → ⊥) → (read_fault_as E b numbers marks ≡ c) ↔ (fault_as E b ≡ c)
  faults-exactly c n m = (only, λ e. read-fault E b numbers marks (λ z. n (sym e ∙ z)) ∙ e)
    where
      only : read_fault_as E b numbers marks ≡ c → fault_as E b ≡ c
      only e =
          elim (read-stage E b numbers marks) [
            | faulty f r ↦ sym r ∙ e
            | short z s r ↦ absurd (m (sym e ∙ r))
            | room z h k r ↦ absurd (n (sym e ∙ r))
          ]

  -- 16 exactly when it isn't block_length bytes
  pub refused-16-exactly : (read_fault_as E b numbers marks ≡ 16) ↔ (length b ≡ block_length → ⊥)
  refused-16-exactly =
      let f = faults-exactly 16 (λ z. omega arith) (λ z. omega arith) in
      let g = fault-16-exactly E b in
      (λ e. g.0 (f.0 e), λ n. f.1 (g.1 n))

  -- 17 exactly when it is, and the check is wrong
  pub refused-17-exactly
      : (read_fault_as E b numbers marks ≡ 17) ↔ ((length b ≡ block_length) × (check b ≡ check_sum b → ⊥))
  refused-17-exactly =
      let f = faults-exactly 17 (λ z. omega arith) (λ z. omega arith) in
      let g = fault-17-exactly E b in
      (λ e. g.0 (f.0 e), λ p. f.1 (g.1 p))

  -- 18 exactly when the check is right, and the layout is another
  pub refused-18-exactly
      : (read_fault_as E b numbers marks ≡ 18)
      ↔ ((length b ≡ block_length) × (check b ≡ check_sum b) × (has_layout_as E b ≡ false))
  refused-18-exactly =
      let f = faults-exactly 18 (λ z. omega arith) (λ z. omega arith) in
      let g = fault-18-exactly E b in
      (λ e. g.0 (f.0 e), λ p. f.1 (g.1 p))

  -- in propositions: what `Told` says of a block isn't all so, though its length and its check are right
  pub refused-18-told
      : (read_fault_as E b numbers marks ≡ 18) ↔ ((length b ≡ block_length) × (check b ≡ check_sum b) × (LaidOutAs E b → ⊥))
  refused-18-told =
      let f = faults-exactly 18 (λ z. omega arith) (λ z. omega arith) in
      let g = fault-18-told E b in
      (λ e. g.0 (f.0 e), λ p. f.1 (g.1 p))

  -- 19 exactly when the block is sound, and one of the lists has no room for what would be written
  pub refused-19-exactly
      : (read_fault_as E b numbers marks ≡ 19)
      ↔ ((fault_as E b ≡ 0) × ((length numbers < count b) ⊎ (length marks < count b)))
  refused-19-exactly = (only, back)
    where
      only
          : read_fault_as E b numbers marks ≡ 19 →
          (fault_as E b ≡ 0) × ((length numbers < count b) ⊎ (length marks < count b))
      only e =
          elim (read-stage E b numbers marks) [
            | short z s r ↦ (z, s)
            | room z h k r ↦ absurd (omega arith)
            | faulty n r ↦
                elim (stage E b) [
                  | other-length m f ↦ absurd (omega arith)
                  | wrong-check l m f ↦ absurd (omega arith)
                  | other-layout l c h f ↦ absurd (omega arith)
                  | sound l c h f ↦ absurd (n f)
                ]
          ]

      back
          : (fault_as E b ≡ 0) × ((length numbers < count b) ⊎ (length marks < count b)) →
          read_fault_as E b numbers marks ≡ 19
      back p =
          elim (read-stage E b numbers marks) [
            | faulty n r ↦ absurd (n p.0)
            | short z s r ↦ r
            | room z h k r ↦ absurd (⊎_elim (λ s. omega arith) (λ s. omega arith) p.1)
          ]

  -- no other refusal is given
  pub only-codes
      : (read_fault_as E b numbers marks ≡ 0)
      ⊎ ((read_fault_as E b numbers marks ≡ 16)
      ⊎ ((read_fault_as E b numbers marks ≡ 17)
      ⊎ ((read_fault_as E b numbers marks ≡ 18) ⊎ (read_fault_as E b numbers marks ≡ 19))))
  only-codes =
      elim (read-stage E b numbers marks) [
        | short z s r ↦ inr (inr (inr (inr r)))
        | room z h k r ↦ inl r
        | faulty n r ↦
            elim (stage E b) [
              | other-length m f ↦ inr (inl (r ∙ f))
              | wrong-check l m f ↦ inr (inr (inl (r ∙ f)))
              | other-layout l c h f ↦ inr (inr (inr (inl (r ∙ f))))
              | sound l c h f ↦ absurd (n f)
            ]
      ]

  -- ---- what is given back

  -- where it is accepted, the block's number and its count
  pub given-where-accepted
      : read_fault_as E b numbers marks ≡ 0 → reading_as E b numbers marks ≡ given (block_number b) (count b)
  given-where-accepted e =
      ap (λ u. cond u (given (block_number b) (count b)) (refused (read_fault_as E b numbers marks)))
      (eq-eqb (read_fault_as E b numbers marks) 0 e)

  -- where it is refused, the refusal's number at place 0
  pub refused-at-0
      : (read_fault_as E b numbers marks ≡ 0 → ⊥) →
      reading_as E b numbers marks ≡ refused (read_fault_as E b numbers marks)
  refused-at-0 n =
      ap (λ u. cond u (given (block_number b) (count b)) (refused (read_fault_as E b numbers marks)))
      (ne_eqb (read_fault_as E b numbers marks) 0 n)

  -- ---- what the two lists hold afterwards

  -- where it is accepted, they are written over from their first place on
  pub written
      : read_fault_as E b numbers marks ≡ 0 →
      (numbers_after_as E b numbers marks ≡ over (number_from E.first b) (count b) numbers)
      × (marks_after_as E b numbers marks ≡ over (mark b) (count b) marks)
  written e =
      let t = eq-eqb (read_fault_as E b numbers marks) 0 e in (
        ap (λ u. cond u (over (number_from E.first b) (count b) numbers) numbers) t,
        ap (λ u. cond u (over (mark b) (count b) marks) marks) t,
      )

  -- where the block is refused, both lists stay as they are
  pub lists-stay
      : (read_fault_as E b numbers marks ≡ 0 → ⊥) →
      (numbers_after_as E b numbers marks ≡ numbers) × (marks_after_as E b numbers marks ≡ marks)
  lists-stay n =
      let t = ne_eqb (read_fault_as E b numbers marks) 0 n in (
        ap (λ u. cond u (over (number_from E.first b) (count b) numbers) numbers) t,
        ap (λ u. cond u (over (mark b) (count b) marks) marks) t,
      )

  -- so, where it is accepted, with its numbers and its marks
  pub numbers-read
      : read_fault_as E b numbers marks ≡ 0 → (i : ℕ) → i < count b →
      get_or (numbers_after_as E b numbers marks) i 0 ≡ number_from E.first b i
  numbers-read e i h = ap (λ l. get_or l i 0) (written e).0 ∙ over-at (number_from E.first b) numbers (count b) i h

  pub marks-read
      : read_fault_as E b numbers marks ≡ 0 → (i : ℕ) → i < count b →
      get_or (marks_after_as E b numbers marks) i 0 ≡ mark b i
  marks-read e i h = ap (λ l. get_or l i 0) (written e).1 ∙ over-at (mark b) marks (count b) i h

  -- and nothing past them
  pub nothing-past-numbers : (i : ℕ) → count b ≤ i → get_or (numbers_after_as E b numbers marks) i 0 ≡ get_or numbers i 0
  nothing-past-numbers i h =
      elim (ℕ_discrete (read_fault_as E b numbers marks) 0) [
        | yes e ↦ ap (λ l. get_or l i 0) (written e).0 ∙ over-past (number_from E.first b) numbers (count b) i h
        | no n ↦ ap (λ l. get_or l i 0) (lists-stay n).0
      ]

  pub nothing-past-marks : (i : ℕ) → count b ≤ i → get_or (marks_after_as E b numbers marks) i 0 ≡ get_or marks i 0
  nothing-past-marks i h =
      elim (ℕ_discrete (read_fault_as E b numbers marks) 0) [
        | yes e ↦ ap (λ l. get_or l i 0) (written e).1 ∙ over-past (mark b) marks (count b) i h
        | no n ↦ ap (λ l. get_or l i 0) (lists-stay n).1
      ]

  -- neither list gets longer or shorter
  pub lengths-stay
      : (length (numbers_after_as E b numbers marks) ≡ length numbers)
      × (length (marks_after_as E b numbers marks) ≡ length marks)
  lengths-stay =
      elim (ℕ_discrete (read_fault_as E b numbers marks) 0) [
        | yes e ↦
            let p = accepted-exactly.0 e in (
              ap length (written e).0 ∙ length-over (number_from E.first b) numbers (count b) p.1,
              ap length (written e).1 ∙ length-over (mark b) marks (count b) p.2,
            )
        | no n ↦ (ap length (lists-stay n).0, ap length (lists-stay n).1)
      ]
