-- What an entry for hosts returns, and what the lent list of its answer holds afterwards.
-- Assumes nothing.
use Rattle.std.specs.Prelude.{cond, List, ℕ, ◌≤◌, ltb, length}
use Rattle.little.specs.Bytes.{put}

-- the number that is returned, and the numbers that are written
pub record Told : Type 0 where
  pub code : ℕ
  pub words : List ℕ

-- a list has room for all of them
abbrev pub Room : Told → List ℕ → Type 0
Room t lent = length t.words ≤ length lent

-- a list without room for all of them is refused with 19 before anything else is looked at
unfoldable pub answer_code : Told → List ℕ → ℕ
answer_code t lent = cond (ltb (length lent) (length t.words)) 19 t.code

-- where there is room they are written, on a refusal too, and later places stay; otherwise all stay
abbrev pub answer_list : Told → List ℕ → List ℕ
answer_list t lent = put 0 t.words lent

-- another list that the entry writes to, with what it would hold: it stays where the answer has no room
unfoldable pub besides : {A : Type 0} → Told → List ℕ → List A → List A → List A
besides t lent written old = cond (ltb (length lent) (length t.words)) old written
