-- What the functions on blocks promise. `block::sound::sound` equals `sound_of`, and `block::read::read` equals
-- `reading_of`, `numbers_after` and `marks_after` by their contracts, for any list of bytes and any two lent lists; the
-- theorems on the reader are `layout`'s, for any edition, gathered here under their names.
-- Assumes nothing.
use mathlib.Core.Path.{◌≡◌, ap, ap₂, sym, ◌∙◌}
use mathlib.Core.Logic.{◌↔◌, ◌⊎◌}
use mathlib.Core.Bool.{true, ◌&&◌}
use mathlib.Core.List.{List}
use Prim.Native.Nat.{ℕ, ◌+◌, ◌-◌, ◌≤◌, ◌<◌}
use native.Mathlib.Omega.{arith}
use borrow.Author.Tests.{eqb-true, eq-eqb}
use lib.Dec.{eqb}
use lib.ListN.{length}
use Rattle.places.proofs.Every.{both-hold}
use Rattle.little.specs.Bytes.{byte_at}
use Rattle.little.specs.Zeros.{zeros}
use Rattle.little.proofs.Zeros.{zeros-at, zeros-of}
use Rattle.layout.specs.Editions.{block_length, marks_at, one}
use Rattle.layout.specs.Layout.{mark, check, check_sum, edition_of}
use Rattle.layout.specs.Told.{LaidOut}
use Rattle.layout.proofs.Promises.{fault-16-exactly, fault-17-exactly, fault-18-told, fault-only-codes}
use Rattle.block.specs.Answers.{with_code, sound_of}
use Rattle.block.specs.Marks.{no_marks}
-- sound exactly when each sentence of the layout holds
pub use Rattle.layout.proofs.Layouts.{sound-exactly}
-- which blocks are accepted, and which refusal the others get
pub use Rattle.layout.proofs.Promises.{accepted-exactly, refused-16-exactly, refused-17-exactly, refused-18-exactly}
pub use Rattle.layout.proofs.Promises.{refused-18-told, refused-19-exactly, only-codes}
-- what is given back, and what the two lists hold afterwards
pub use Rattle.layout.proofs.Promises.{given-where-accepted, refused-at-0, numbers-read, marks-read}
pub use Rattle.layout.proofs.Promises.{nothing-past-numbers, nothing-past-marks, lists-stay, lengths-stay}
-- the check is below 2^32, and any one byte changed is noticed
pub use Rattle.layout.proofs.Promises.{check-below-2^32, changed-byte-noticed}
-- no other answer meets the contracts, and no other content of the reader's two lists
pub use Rattle.block.proofs.Unique.{sound-unique, read-unique}

-- ---- looking at a block, which gives a refusal's number at place 0, or 0

module _ (b : List ℕ) where
  -- 0 exactly when each sentence of the layout holds
  pub look-0-exactly : (sound_of b ≡ with_code 0) ↔ LaidOut b
  look-0-exactly =
      let f = sound-exactly (edition_of b) b in (λ e. f.0 (ap (λ l. l.code) e), λ l. ap with_code (f.1 l))

  -- 16 exactly when it isn't 512 bytes
  pub look-16-exactly : (sound_of b ≡ with_code 16) ↔ (length b ≡ block_length → ⊥)
  look-16-exactly =
      let f = fault-16-exactly (edition_of b) b in (λ e. f.0 (ap (λ l. l.code) e), λ n. ap with_code (f.1 n))

  -- 17 exactly when it is, and the check is wrong
  pub look-17-exactly : (sound_of b ≡ with_code 17) ↔ ((length b ≡ block_length) × (check b ≡ check_sum b → ⊥))
  look-17-exactly =
      let f = fault-17-exactly (edition_of b) b in (λ e. f.0 (ap (λ l. l.code) e), λ p. ap with_code (f.1 p))

  -- 18 exactly when both are right, and not every sentence of the layout holds
  pub look-18-exactly
      : (sound_of b ≡ with_code 18) ↔ ((length b ≡ block_length) × (check b ≡ check_sum b) × (LaidOut b → ⊥))
  look-18-exactly =
      let f = fault-18-told (edition_of b) b in (λ e. f.0 (ap (λ l. l.code) e), λ p. ap with_code (f.1 p))

  -- no other number is given
  pub look-only-codes
      : ((sound_of b).code ≡ 0) ⊎ (((sound_of b).code ≡ 16) ⊎ (((sound_of b).code ≡ 17) ⊎ ((sound_of b).code ≡ 18)))
  look-only-codes = fault-only-codes (edition_of b) b

-- a list has no marks exactly when it is 512 bytes and each of the 55 marks is 0
pub unmarked-exactly
    : (b : List ℕ) → (no_marks b ≡ true) ↔ ((length b ≡ block_length) × ((i : ℕ) → i < one.most → mark b i ≡ 0))
unfolding no_marks
unmarked-exactly b = (only, back)
  where
    only
        : (eqb (length b) block_length && zeros marks_at one.past b) ≡ true →
        (length b ≡ block_length) × ((i : ℕ) → i < one.most → mark b i ≡ 0)
    only h =
        let p = both-hold (eqb (length b) block_length) (zeros marks_at one.past b) h in (
          eqb-true (length b) block_length p.0,
          λ i l. zeros-at marks_at one.past b p.1 (marks_at + i) (omega arith) (omega arith),
        )

    back
        : (length b ≡ block_length) × ((i : ℕ) → i < one.most → mark b i ≡ 0) →
        (eqb (length b) block_length && zeros marks_at one.past b) ≡ true
    back (e, z) = ap₂ ◌&&◌ (eq-eqb (length b) block_length e) (zeros-of marks_at one.past b at)
      where
        at : (i : ℕ) → marks_at ≤ i → i < one.past → byte_at b i ≡ 0
        at i l h =
            let e : marks_at + (i - marks_at) ≡ i = omega arith in
            ap (byte_at b) (sym e) ∙ z (i - marks_at) (omega arith)
