-- What the entries for hosts promise, one named theorem for each promise. An entry's contract says that it returns what
-- `answer_code` gives and leaves what `answer_list` gives, where t is `of_run (run_of ..)`, `of_shape (shape_of ..)`,
-- `of_scan (scan_of ..)`, `of_reading (reading_of ..)`, `of_writing (writing_of ..)` or `of_search (search_of ..)`: so what
-- each refusal means is said by the pages of promises of `recipe`, `shape`, `field`, `block`, `write` and `search`.
-- `Unique` says that this leaves one answer.
-- Assumes nothing.
use mathlib.Core.Path.{◌≡◌, refl, sym, ap, ◌∙◌}
use mathlib.Core.Logic.{◌↔◌, ◌⊎◌, inl, inr, ⊎_elim}
use mathlib.Core.Bool.{Bool, true, false, cond}
use mathlib.Core.List.{List, ◌∷◌}
use Prim.Native.Nat.{ℕ, ◌^◌, ◌≤◌, ◌<◌}
use native.Mathlib.Decide.{dec_lt}
use native.Mathlib.Omega.{arith}
use borrow.Author.Tests.{ne_eqb}
use lib.IntN.{ℤ, pos, negsuc}
use lib.ListN.{length, drop}
use Rattle.checked.specs.Value.{limit_of}
use Rattle.fit.specs.Fit.{power_fits}
use Rattle.fit.proofs.Promises.{power-fits-exactly}
use Rattle.signed.specs.Signed.{Answer, quotient_of, remainder_of, in_range, smallest}
use Rattle.signed.proofs.Promises.{one-exactly, four-exactly, quotient-only-codes, remainder-one-exactly}
use Rattle.signed.proofs.Promises.{remainder-only-codes}
use Rattle.layout.specs.Reading.{read_fault, reading_of, numbers_after, marks_after}
use Rattle.layout.specs.Layout.{count, edition_of}
use Rattle.layout.specs.Sound.{fault_of}
use Rattle.layout.proofs.Promises.{given-where-accepted, lists-stay, refused-19-exactly}
use Rattle.shape.specs.Shape.{Verdict, shape_of}
use Rattle.shape.proofs.Promises.{shape-numbers}
use Rattle.field.specs.Range.{Scanned, scan_of}
use Rattle.field.proofs.Promises as scan
use Rattle.layout.specs.Reading.{Reading}
use Rattle.block.specs.Answers.{with_code, sound_of}
use Rattle.layout.specs.Editions.{one}
use Rattle.written.specs.Run.{length_for}
use Rattle.written.specs.Writing.{Writing, writing_of, run_after, GoodField}
use Rattle.written.specs.Writing as write
use Rattle.write.proofs.Promises as writer
use Rattle.search.specs.Search.{Searched, search_of}
use Rattle.search.proofs.Promises as search
use Rattle.recipe.specs.Run.{run_of}
use Rattle.recipe.proofs.Promises as run
use Rattle.entry.specs.Entry.{Told, Room, answer_code}
use Rattle.hosts.specs.Entry.{signed_code, signed_list}
use Rattle.hosts.specs.Answers.{of_shape, of_scan, of_reading, of_writing, of_search, of_run}
use Rattle.hosts.specs.Answers.{numbers_beside, marks_beside, run_beside}
use Rattle.entry.proofs.Entries.{roomy-returned, short-beside, roomy-beside}
use Rattle.entry.proofs.Exactly.{no-room-exactly}
use Rattle.hosts.proofs.Entries.{reading-code}
use Rattle.hosts.proofs.Signed.{short-signed-returned}
use Rattle.hosts.proofs.Signed.{refused-signed-stays, number-signed-written}
use Rattle.hosts.proofs.Signed.{quotient-refused, remainder-refused}
use Rattle.hosts.proofs.Exactly.{signed-no-room-exactly, signed-exactly}
use Rattle.hosts.proofs.Runs.{run-of-words}
-- the room for an answer comes first, 19 and any other number exactly, where the answer stands, and that its list stays
-- as long
pub use Rattle.entry.proofs.Promises.{no-room-refused-first, answer-19-exactly, answer-code-exactly}
pub use Rattle.entry.proofs.Promises.{answer-written, answer-length-stays}
-- any number but 19 exactly when there is room and it is the answer's own, of one signed number
pub use Rattle.hosts.proofs.Exactly.{signed-code-exactly}
-- of a run's four numbers of marks the bytes are the 32 marks, bottom first
pub use Rattle.hosts.proofs.Runs.{marks-as-bytes}

-- ---- answers of several numbers

-- how many numbers each answer has
pub answer-lengths
    : (v : Verdict) (s : Scanned) (r : Reading) (w : Writing) (f : Searched) (W : ℕ) (ks ns : List ℕ) (k : ℕ) →
    (length (of_shape v).words ≡ 2) × (length (of_scan s).words ≡ 4) × (length (of_reading r).words ≡ 3)
    × (length (of_writing w).words ≡ 2) × (length (of_search f).words ≡ 4)
    × (length (of_run (run_of W ks ns k)).words ≡ 50)
answer-lengths v s r w f W ks ns k = (refl, refl, refl, refl, refl, run-of-words W ks ns k)

-- ---- 19, entry by entry

-- the other four never have 19 of their own
pub run-19-exactly
    : (W : ℕ) (ks ns : List ℕ) (k : ℕ) (lent : List ℕ) →
    (answer_code (of_run (run_of W ks ns k)) lent ≡ 19) ↔ (length lent < 50)
run-19-exactly W ks ns k lent = no-room-exactly (of_run (run_of W ks ns k)) lent 50 (run-of-words W ks ns k) never
  where
    never : (run_of W ks ns k).answer.code ≡ 19 → ⊥
    never e = ⊎_elim (λ h. omega arith) (λ h. omega arith) (run.only-codes W ks ns k)

pub shape-19-exactly
    : (W : ℕ) (ks ns lent : List ℕ) → (answer_code (of_shape (shape_of W ks ns)) lent ≡ 19) ↔ (length lent < 2)
shape-19-exactly W ks ns lent = no-room-exactly (of_shape (shape_of W ks ns)) lent 2 refl never
  where
    never : (shape_of W ks ns).code ≡ 19 → ⊥
    never e = ⊎_elim (λ h. omega arith) (λ h. omega (arith, h.1)) (shape-numbers W ks ns)

pub scan-19-exactly
    : (numbers marks lent : List ℕ) → (answer_code (of_scan (scan_of numbers marks)) lent ≡ 19) ↔ (length lent < 4)
scan-19-exactly numbers marks lent = no-room-exactly (of_scan (scan_of numbers marks)) lent 4 refl never
  where
    never : (scan_of numbers marks).code ≡ 19 → ⊥
    never e =
        ⊎_elim (λ h. omega arith)
        (⊎_elim (λ h. omega arith) (⊎_elim (λ h. omega arith) (⊎_elim (λ h. omega arith) (λ h. omega arith))))
        (scan.only-codes numbers marks)

pub search-19-exactly : (run lent : List ℕ) → (answer_code (of_search (search_of run)) lent ≡ 19) ↔ (length lent < 4)
search-19-exactly run lent = no-room-exactly (of_search (search_of run)) lent 4 refl never
  where
    never : (search_of run).code ≡ 19 → ⊥
    never e =
        ⊎_elim (λ h. omega arith) (⊎_elim (λ h. omega arith) (⊎_elim (λ h. omega arith) (λ h. omega arith)))
        (search.only-codes run)

-- the reader's, also where the block is sound and one of the two lists has fewer places than it has values
pub read-19-exactly
    : (b numbers marks lent : List ℕ) →
    (answer_code (of_reading (reading_of b numbers marks)) lent ≡ 19)
    ↔ ((length lent < 3) ⊎ ((fault_of b ≡ 0) × ((length numbers < count b) ⊎ (length marks < count b))))
read-19-exactly b numbers marks lent = (only, ⊎_elim (λ h. both.1 (inl h)) (λ p. both.1 (inr (own.1 p))))
  where
    both
        : (answer_code (of_reading (reading_of b numbers marks)) lent ≡ 19)
        ↔ ((length lent < 3) ⊎ ((reading_of b numbers marks).code ≡ 19))
    both = answer-19-exactly (of_reading (reading_of b numbers marks)) lent

    own
        : ((reading_of b numbers marks).code ≡ 19)
        ↔ ((fault_of b ≡ 0) × ((length numbers < count b) ⊎ (length marks < count b)))
    own =
        let f = refused-19-exactly (edition_of b) b numbers marks in
        (λ e. f.0 (sym (reading-code b numbers marks) ∙ e), λ p. reading-code b numbers marks ∙ f.1 p)

    only
        : answer_code (of_reading (reading_of b numbers marks)) lent ≡ 19 →
        (length lent < 3) ⊎ ((fault_of b ≡ 0) × ((length numbers < count b) ⊎ (length marks < count b)))
    only e = ⊎_elim inl (λ c. inr (own.0 c)) (both.0 e)

-- the writer's, also where the field can be written and the run has fewer bytes than its blocks
pub write-19-exactly
    : (first : ℕ) (numbers marks run lent : List ℕ) →
    (answer_code (of_writing (writing_of one first numbers marks run)) lent ≡ 19)
    ↔ ((length lent < 2) ⊎ (GoodField numbers marks × (length run < length_for one (length numbers))))
write-19-exactly first numbers marks run lent =
    (only, ⊎_elim (λ h. both.1 (inl h)) (λ p. both.1 (inr (ap (λ w. w.code) (own.1 p)))))
  where
    both
        : (answer_code (of_writing (writing_of one first numbers marks run)) lent ≡ 19)
        ↔ ((length lent < 2) ⊎ ((writing_of one first numbers marks run).code ≡ 19))
    both = answer-19-exactly (of_writing (writing_of one first numbers marks run)) lent

    own
        : (writing_of one first numbers marks run ≡ write.refused 19 0)
        ↔ (GoodField numbers marks × (length run < length_for one (length numbers)))
    own = writer.refused-19-exactly one first numbers marks run

    whole
        : (writing_of one first numbers marks run).code ≡ 19 → writing_of one first numbers marks run ≡ write.refused 19 0
    whole c =
        ⊎_elim (λ e. absurd (let d = ap (λ w. w.code) e in omega arith))
        (⊎_elim (λ e. absurd (let d = ap (λ w. w.code) e in omega arith)) (λ e. e ∙ ap (λ k. write.refused k 0) c))
        (writer.said-by-code one first numbers marks run)

    only
        : answer_code (of_writing (writing_of one first numbers marks run)) lent ≡ 19 →
        (length lent < 2) ⊎ (GoodField numbers marks × (length run < length_for one (length numbers)))
    only e = ⊎_elim inl (λ c. inr (own.0 (whole c))) (both.0 e)

-- ---- a block alone

-- a number exactly when looking at the block gives it, of which `block` says when that is
pub sound-code-exactly : (b : List ℕ) (n : ℕ) → ((sound_of b).code ≡ n) ↔ (sound_of b ≡ with_code n)
sound-code-exactly b n = (λ e. ap with_code e, λ e. ap (λ l. l.code) e)

-- ---- the reader's two lists

module _ (b numbers marks lent : List ℕ) where
  -- with 0 they hold the block's values, as `block` promises
  pub read-fills
      : answer_code (of_reading (reading_of b numbers marks)) lent ≡ 0 →
      (numbers_beside b numbers marks lent ≡ numbers_after b numbers marks)
      × (marks_beside b numbers marks lent ≡ marks_after b numbers marks)
  read-fills e =
      let t = of_reading (reading_of b numbers marks) in
      let r = ((answer-code-exactly t lent 0 (λ z. let f : ⊥ = omega arith in f)).0 e).0 in (
        roomy-beside t lent (numbers_after b numbers marks) numbers r,
        roomy-beside t lent (marks_after b numbers marks) marks r,
      )

  -- with any refusal they stay
  pub read-refused-stays
      : (answer_code (of_reading (reading_of b numbers marks)) lent ≡ 0 → ⊥) →
      (numbers_beside b numbers marks lent ≡ numbers) × (marks_beside b numbers marks lent ≡ marks)
  read-refused-stays n =
      elim (dec_lt (length lent) 3) [
        | yes h ↦ (short-beside t lent ns numbers h, short-beside t lent ms marks h)
        | no m ↦
            let room : Room t lent = omega arith in
            let s = lists-stay (edition_of b) b numbers marks (refused room) in
            (roomy-beside t lent ns numbers room ∙ s.0, roomy-beside t lent ms marks room ∙ s.1)
      ]
    where
      t : Told
      t = of_reading (reading_of b numbers marks)

      ns : List ℕ
      ns = numbers_after b numbers marks

      ms : List ℕ
      ms = marks_after b numbers marks

      refused : Room t lent → read_fault b numbers marks ≡ 0 → ⊥
      refused room z =
          n (roomy-returned t lent room ∙ ap (λ r. r.code) (given-where-accepted (edition_of b) b numbers marks z))

-- ---- the writer's run

module _ (first : ℕ) (numbers marks run lent : List ℕ) where
  -- with 0 it holds the field's blocks, as `write` promises
  pub write-fills
      : answer_code (of_writing (writing_of one first numbers marks run)) lent ≡ 0 →
      run_beside first numbers marks run lent ≡ run_after one first numbers marks run
  write-fills e =
      let t = of_writing (writing_of one first numbers marks run) in
      let r = ((answer-code-exactly t lent 0 (λ z. let f : ⊥ = omega arith in f)).0 e).0 in
      roomy-beside t lent (run_after one first numbers marks run) run r

  -- with any refusal it stays
  pub write-refused-stays
      : (answer_code (of_writing (writing_of one first numbers marks run)) lent ≡ 0 → ⊥) →
      run_beside first numbers marks run lent ≡ run
  write-refused-stays n =
      let t = of_writing (writing_of one first numbers marks run) in
      elim (dec_lt (length lent) 2) [
        | yes h ↦ short-beside t lent (run_after one first numbers marks run) run h
        | no m ↦
            let room : Room t lent = omega arith in
            roomy-beside t lent (run_after one first numbers marks run) run room
            ∙ writer.refused-stays one first numbers marks run (λ z. n (roomy-returned t lent room ∙ z))
      ]

-- ---- one signed number

module _ (a : Answer) (lent : List ℤ) where
  -- whatever the answer is, an empty list is refused with 19
  pub signed-no-room-refused-first : length lent ≡ 0 → signed_code a lent ≡ 19
  signed-no-room-refused-first = short-signed-returned a lent

  -- with 0 the number stands in the first place, and later ones stay
  pub signed-written : signed_code a lent ≡ 0 → signed_list a lent ≡ a.number ∷ drop 1 lent
  signed-written = number-signed-written a lent

  -- with a refusal all stay
  pub signed-refused-stays : (signed_code a lent ≡ 0 → ⊥) → signed_list a lent ≡ lent
  signed-refused-stays n = refused-signed-stays a lent (ne_eqb (signed_code a lent) 0 n)

module _ (a b : ℤ) (lent : List ℤ) where
  -- 19 exactly when the list is empty
  pub signed-quotient-19-exactly : (signed_code (quotient_of 64 a b) lent ≡ 19) ↔ (length lent ≡ 0)
  signed-quotient-19-exactly =
      signed-no-room-exactly (quotient_of 64 a b) lent
      (λ e. ⊎_elim (λ h. omega arith) (⊎_elim (λ h. omega arith) (λ h. omega arith)) (quotient-only-codes 64 a b))

  pub signed-remainder-19-exactly : (signed_code (remainder_of a b) lent ≡ 19) ↔ (length lent ≡ 0)
  signed-remainder-19-exactly =
      signed-no-room-exactly (remainder_of a b) lent
      (λ e. ⊎_elim (λ h. omega arith) (λ h. omega arith) (remainder-only-codes a b))

  -- 1 exactly when there is room and the divisor is 0
  pub signed-quotient-1-exactly : (signed_code (quotient_of 64 a b) lent ≡ 1) ↔ ((1 ≤ length lent) × (b ≡ pos 0))
  signed-quotient-1-exactly =
      signed-exactly (quotient_of 64 a b) lent 1 (λ e. omega arith) (one-exactly 64 a b)
      (quotient-refused 64 a b 1 (omega arith))

  pub signed-remainder-1-exactly : (signed_code (remainder_of a b) lent ≡ 1) ↔ ((1 ≤ length lent) × (b ≡ pos 0))
  signed-remainder-1-exactly =
      signed-exactly (remainder_of a b) lent 1 (λ e. omega arith) (remainder-one-exactly a b)
      (remainder-refused a b 1 (omega arith))

  -- 4 exactly when there is room and it is the smallest number by -1
  pub signed-quotient-4-exactly
      : in_range 64 a ≡ true →
      (signed_code (quotient_of 64 a b) lent ≡ 4) ↔ ((1 ≤ length lent) × ((a ≡ smallest 64) × (b ≡ negsuc 0)))
  signed-quotient-4-exactly r =
      signed-exactly (quotient_of 64 a b) lent 4 (λ e. omega arith) (four-exactly 64 a b r)
      (quotient-refused 64 a b 4 (omega arith))

-- ---- power-fit

-- 1 exactly when the power is at most 2^64 - 1
pub power-fits-1-exactly : (b e : ℕ) → (◌≡◌ {A = ℕ} (cond (power_fits b e) 1 0) 1) ↔ (b ^ e ≤ limit_of 64)
power-fits-1-exactly b e = (only, λ h. ap (λ t. cond t 1 0) ((power-fits-exactly b e).1 h))
  where
    of-one : (t : Bool) → ◌≡◌ {A = ℕ} (cond t 1 0) 1 → t ≡ true
    of-one true o = refl
    of-one false o = let f : ⊥ = omega arith in absurd f

    only : ◌≡◌ {A = ℕ} (cond (power_fits b e) 1 0) 1 → b ^ e ≤ limit_of 64
    only o = (power-fits-exactly b e).0 (of-one (power_fits b e) o)

-- and 0 exactly when it is above
pub power-fits-0-exactly : (b e : ℕ) → (◌≡◌ {A = ℕ} (cond (power_fits b e) 1 0) 0) ↔ (limit_of 64 < b ^ e)
power-fits-0-exactly b e = (only, back (power_fits b e) refl)
  where
    only : ◌≡◌ {A = ℕ} (cond (power_fits b e) 1 0) 0 → limit_of 64 < b ^ e
    only z =
        elim (dec_lt (limit_of 64) (b ^ e)) [
          | yes h ↦ h
          | no n ↦
              let o = (power-fits-1-exactly b e).1 (omega arith) in
              let f : ⊥ = omega arith in absurd f
        ]

    back : (t : Bool) → power_fits b e ≡ t → limit_of 64 < b ^ e → ◌≡◌ {A = ℕ} (cond (power_fits b e) 1 0) 0
    back true q h = let g = (power-fits-exactly b e).0 q in let f : ⊥ = omega arith in absurd f
    back false q h = ap (λ t. cond t 1 0) q
