-- A field's overflowed places, in the words of the promise on the search.
-- Assumes nothing.
use Rattle.std.specs.Prelude.{◌≡◌, List, ℕ, ◌<◌, length, get_or}

-- place j is overflowed, and no place before it is
abbrev pub FirstOverflowed : List ℕ → ℕ → Type 0
FirstOverflowed marks j =
    (j < length marks) × (get_or marks j 0 ≡ 1) × ((i : ℕ) → i < j → get_or marks i 0 ≡ 1 → ⊥)

-- no place is
abbrev pub NoneOverflowed : List ℕ → Type 0
NoneOverflowed marks = (i : ℕ) → i < length marks → get_or marks i 0 ≡ 1 → ⊥
