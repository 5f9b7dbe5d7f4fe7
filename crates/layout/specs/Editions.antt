-- The places of a block. What stands where in every edition is named here once; what an edition has of its own is a
-- record.
-- Assumes nothing.
use Rattle.std.specs.Prelude.{◌≡◌, refl, List, [], ◌∷◌, ℕ, ◌+◌, ◌*◌, length}

-- ---- in every edition

-- a block is so many bytes
abbrev pub block_length : ℕ
block_length = 512

-- where what an edition's head says begins, after block number, count and edition
abbrev pub head_at : ℕ
head_at = 6

-- where the marks begin
abbrev pub marks_at : ℕ
marks_at = 448

-- where the check begins
abbrev pub check_at : ℕ
check_at = 508

-- ---- an edition

pub record Edition : Type 0 where
  -- its number, which stands in byte 5
  pub tag : ℕ
  -- how many values at most
  pub most : ℕ
  -- where its numbers begin
  pub first : ℕ
  -- where what follows its marks begins
  pub past : ℕ
  -- what its head says: the bytes before its numbers, in a block that has these numbers and these marks in use
  pub head : List ℕ → List ℕ → List ℕ
  -- the head reaches up to the numbers, the numbers up to the marks, and the marks up to what follows them
  pub headed : (numbers marks : List ℕ) → head_at + length (head numbers marks) ≡ first
  pub full : first + 8 * most ≡ marks_at
  pub marked : marks_at + most ≡ past

-- edition 1: up to 55 values, whose numbers begin at 8; what follows the marks begins at 503; its head is two zeros
abbrev pub one : Edition
one =
    record {
      tag = 1;
      most = 55;
      first = 8;
      past = 503;
      head = λ numbers marks. 0 ∷ 0 ∷ [];
      headed = λ numbers marks. refl;
      full = refl;
      marked = refl;
    }
