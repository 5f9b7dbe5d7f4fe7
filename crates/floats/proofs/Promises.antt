-- What the entries on levels promise, one named theorem for each promise. What each refusal means is said by the
-- pages of promises of `level` and `turn`, and what every entry promises by that of `entry`. `Unique` says that the
-- contracts leave one answer.
-- Assumes nothing.
use mathlib.Core.Path.{◌≡◌, refl, sym, ap, ◌∙◌}
use mathlib.Core.Logic.{◌↔◌, ◌⊎◌, inl, inr, ⊎_elim}
use mathlib.Core.List.{List, [], ◌∷◌}
use Prim.Native.Nat.{ℕ, ◌≤◌, ◌<◌}
use native.Mathlib.Decide.{dec_lt}
use native.Mathlib.Omega.{arith}
use lib.ListN.{length}
use lib.Ieee.{Float}
use Rattle.little.specs.Bytes.{put}
use Rattle.level.specs.Scan.{Scanned, scan_of}
use Rattle.level.proofs.Promises as scan
use Rattle.turn.specs.Turning.{Turning, turning_of, numbers_after, marks_after}
use Rattle.turn.specs.Turning as turning
use Rattle.turn.proofs.Promises as turn
use Rattle.entry.specs.Entry.{Told, Room, answer_code}
use Rattle.entry.proofs.Entries.{roomy-returned, short-beside, roomy-beside}
use Rattle.entry.proofs.Exactly.{answer-19-exactly, answer-code-exactly}
use Rattle.floats.specs.Levels.{bits_in, scan_for, of_level_scan, extent_after, extent_beside}
use Rattle.floats.specs.Levels.{of_turning, turned_beside, unmarked_beside}
use Rattle.floats.proofs.Entries.{no-room-for-extent, room-for-extent, extent-given, extent-stays}

-- each answer is a place
pub place-lengths
    : (s : Scanned) (t : Turning) → (length (of_level_scan s).words ≡ 1) × (length (of_turning t).words ≡ 1)
place-lengths s t = (refl, refl)

-- ---- the scan

module _ (level : List Float) (grounds : List ℕ) (extent : List Float) (lent : List ℕ) where
  abbrev answer : Scanned
  answer = scan_for extent (scan_of level grounds)

  abbrev told : Told
  told = of_level_scan answer

  -- 19 exactly when there is no room for the place, or none for the least and the greatest
  pub level-scan-19-exactly : (answer_code told lent ≡ 19) ↔ ((length lent < 1) ⊎ (length extent < 2))
  level-scan-19-exactly = (only, ⊎_elim (λ h. both.1 (inl h)) (λ h. both.1 (inr (narrow h))))
    where
      both : (answer_code told lent ≡ 19) ↔ ((length lent < 1) ⊎ (answer.code ≡ 19))
      both = answer-19-exactly told lent

      narrow : length extent < 2 → answer.code ≡ 19
      narrow h = ap (λ s. s.code) (no-room-for-extent (scan_of level grounds) extent h)

      only : answer_code told lent ≡ 19 → (length lent < 1) ⊎ (length extent < 2)
      only e =
          ⊎_elim inl
          (λ (c : answer.code ≡ 19).
          elim (dec_lt (length extent) 2) [
            | yes h ↦ inr h
            | no h ↦
                let w : 2 ≤ length extent = omega arith in
                let d : (scan_of level grounds).code ≡ 19 =
                sym (ap (λ s. s.code) (room-for-extent (scan_of level grounds) extent w)) ∙ c in
                absurd
                (⊎_elim (λ f. omega arith)
                (⊎_elim (λ f. omega arith) (⊎_elim (λ f. omega arith) (⊎_elim (λ f. omega arith) (λ f. omega arith))))
                (scan.only-codes level grounds))
          ])
          (both.0 e)

  -- any other number is the scan's own
  pub level-scan-code-exactly
      : (c : ℕ) → (c ≡ 19 → ⊥) →
      (answer_code told lent ≡ c) ↔ ((1 ≤ length lent) × (2 ≤ length extent) × ((scan_of level grounds).code ≡ c))
  level-scan-code-exactly c other = (only, λ (h, k, e). exactly.1 (h, wide k ∙ e))
    where
      exactly : (answer_code told lent ≡ c) ↔ (Room told lent × (answer.code ≡ c))
      exactly = answer-code-exactly told lent c other

      wide : 2 ≤ length extent → answer.code ≡ (scan_of level grounds).code
      wide k = ap (λ s. s.code) (room-for-extent (scan_of level grounds) extent k)

      only : answer_code told lent ≡ c → (1 ≤ length lent) × (2 ≤ length extent) × ((scan_of level grounds).code ≡ c)
      only e =
          let (h, f) = exactly.0 e in
          elim (dec_lt (length extent) 2) [
            | yes k ↦ absurd (other (sym f ∙ ap (λ s. s.code) (no-room-for-extent (scan_of level grounds) extent k)))
            | no k ↦ let w : 2 ≤ length extent = omega arith in (h, w, sym (wide w) ∙ f)
          ]

  -- with 0 the list holds the least and the greatest, and later places stay
  pub level-scan-fills
      : answer_code told lent ≡ 0 →
      extent_beside level grounds extent lent
      ≡ put 0 ((scan_of level grounds).least ∷ (scan_of level grounds).greatest ∷ []) (bits_in extent)
  level-scan-fills e =
      let (h, k, z) = (level-scan-code-exactly 0 (λ f. let g : ⊥ = omega arith in g)).0 e in
      roomy-beside told lent (extent_after answer extent) (bits_in extent) h
      ∙ ap (λ s. extent_after s extent) (room-for-extent (scan_of level grounds) extent k)
      ∙ extent-given (scan_of level grounds) extent z

  -- with any refusal it stays
  pub level-scan-refused-stays
      : (answer_code told lent ≡ 0 → ⊥) → extent_beside level grounds extent lent ≡ bits_in extent
  level-scan-refused-stays n =
      elim (dec_lt (length lent) 1) [
        | yes h ↦ short-beside told lent (extent_after answer extent) (bits_in extent) h
        | no m ↦
            let room : Room told lent = omega arith in
            roomy-beside told lent (extent_after answer extent) (bits_in extent) room
            ∙ extent-stays answer extent (λ z. n (roomy-returned told lent room ∙ z))
      ]

-- ---- a level turned into a field

module _ (level : List Float) (grounds numbers marks lent : List ℕ) where
  abbrev turning-told : Told
  turning-told = of_turning (turning_of level grounds numbers marks)

  -- 19 exactly when there is no room for the place, or the level has readings and marks and one of the lists is shorter
  pub turn-19-exactly
      : (answer_code turning-told lent ≡ 19)
      ↔ ((length lent < 1)
      ⊎ ((length level ≡ length grounds) × (0 < length level)
      × ((length numbers < length level) ⊎ (length marks < length level))))
  turn-19-exactly = (
    λ e. ⊎_elim inl (λ c. inr (own.0 (nineteen c))) (both.0 e),
    ⊎_elim (λ h. both.1 (inl h)) (λ p. both.1 (inr (ap (λ t. t.code) (own.1 p)))),
  )
    where
      both : (answer_code turning-told lent ≡ 19) ↔ ((length lent < 1) ⊎ ((turning_of level grounds numbers marks).code ≡ 19))
      both = answer-19-exactly turning-told lent

      own
          : (turning_of level grounds numbers marks ≡ turning.refused 19 0)
          ↔ ((length level ≡ length grounds) × (0 < length level)
          × ((length numbers < length level) ⊎ (length marks < length level)))
      own = turn.refused-19-exactly level grounds numbers marks

      nineteen
          : (turning_of level grounds numbers marks).code ≡ 19 →
          turning_of level grounds numbers marks ≡ turning.refused 19 0
      nineteen c =
          ⊎_elim (λ s. absurd (clash turning.given s (λ e. omega arith)))
          (⊎_elim (λ s. absurd (clash (turning.refused 6 0) s (λ e. omega arith)))
          (⊎_elim (λ s. absurd (clash (turning.refused 14 0) s (λ e. omega arith)))
          (⊎_elim (λ s. s)
          (λ (i, o).
          absurd
          (⊎_elim (λ s. clash (turning.refused 15 i) s (λ e. omega arith))
          (⊎_elim (λ s. clash (turning.refused 22 i) s (λ e. omega arith)) (λ s. clash (turning.refused 23 i) s (λ e. omega arith)))
          o)))))
          (turn.only-answers level grounds numbers marks)
        where
          clash : (t : Turning) → turning_of level grounds numbers marks ≡ t → (t.code ≡ 19 → ⊥) → ⊥
          clash t s n = n (sym (ap (λ t. t.code) s) ∙ c)

  -- with 0 the two lists hold the field, as `turn` promises
  pub turn-fills
      : answer_code turning-told lent ≡ 0 →
      (turned_beside level grounds numbers marks lent ≡ numbers_after level grounds numbers marks)
      × (unmarked_beside level grounds numbers marks lent ≡ marks_after level grounds numbers marks)
  turn-fills e =
      let r = ((answer-code-exactly turning-told lent 0 (λ z. let f : ⊥ = omega arith in f)).0 e).0 in (
        roomy-beside turning-told lent (numbers_after level grounds numbers marks) numbers r,
        roomy-beside turning-told lent (marks_after level grounds numbers marks) marks r,
      )

  -- with any refusal they stay
  pub turn-refused-stays
      : (answer_code turning-told lent ≡ 0 → ⊥) →
      (turned_beside level grounds numbers marks lent ≡ numbers) × (unmarked_beside level grounds numbers marks lent ≡ marks)
  turn-refused-stays n =
      let ns = numbers_after level grounds numbers marks in
      let ms = marks_after level grounds numbers marks in
      elim (dec_lt (length lent) 1) [
        | yes h ↦ (short-beside turning-told lent ns numbers h, short-beside turning-told lent ms marks h)
        | no m ↦
            let room : Room turning-told lent = omega arith in
            let s = turn.lists-stay level grounds numbers marks (λ z. n (roomy-returned turning-told lent room ∙ z)) in
            (roomy-beside turning-told lent ns numbers room ∙ s.0, roomy-beside turning-told lent ms marks room ∙ s.1)
      ]
