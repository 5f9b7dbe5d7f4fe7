-- The layout of a block once more, each sentence of it a proposition. A block has no fault exactly when they hold:
-- `sound-exactly`. The places in the comments are those of edition 1.
-- Assumes nothing.
use Rattle.std.specs.Prelude.{◌≡◌, ◌⊎◌, List, ℕ, ◌-◌, ◌≤◌, ◌<◌, length}
use Rattle.little.specs.Bytes.{byte_at}
use Rattle.layout.specs.Editions.{block_length, head_at, check_at, Edition}
use Rattle.layout.specs.Layout.{count, edition, number_from, mark, check, check_sum, head_of, edition_of}

pub record LaidOutAs (E : Edition) (b : List ℕ) : Type 0 where
  -- a block is 512 bytes
  pub whole : length b ≡ block_length
  -- 4 count c, 0 to 55
  pub counted : count b ≤ E.most
  -- 5 edition, 1
  pub editioned : edition b ≡ E.tag
  -- 6..7 zero: what the edition's head says
  pub headed : (i : ℕ) → head_at ≤ i → i < E.first → byte_at b i ≡ byte_at (head_of E b) (i - head_at)
  -- 8..447 fifty-five numbers; unused numbers are zero
  pub unused_numbers : (i : ℕ) → count b ≤ i → i < E.most → number_from E.first b i ≡ 0
  -- 448..502 their marks; unused marks are zero
  pub unused_marks : (i : ℕ) → count b ≤ i → i < E.most → mark b i ≡ 0
  -- a mark: 0 fits, 1 overflowed, number then 0
  pub marked : (i : ℕ) → i < count b → (mark b i ≡ 0) ⊎ ((mark b i ≡ 1) × (number_from E.first b i ≡ 0))
  -- 503..507 zero
  pub zeros_past : (i : ℕ) → E.past ≤ i → i < check_at → byte_at b i ≡ 0
  -- 508..511 the check: the sum over i from 0 to 507 of (i+1) times byte i
  pub checked : check b ≡ check_sum b

-- by the block's own edition
abbrev pub LaidOut : List ℕ → Type 0
LaidOut b = LaidOutAs (edition_of b) b
