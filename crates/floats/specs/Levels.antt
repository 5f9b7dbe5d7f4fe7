-- The answers on levels as the entries give them, and what their lists of floats and of a field's values hold
-- afterwards. A list of floats is told by its bits.
-- Assumes nothing.
use Rattle.std.specs.Prelude.{◌≡◌, cond, List, [], ◌∷◌, map, ℕ, eqb, ltb, length, Float}
use Rattle.little.specs.Bytes.{put}
use Rattle.reading.specs.Order.{bits_of}
use Rattle.level.specs.Scan.{Scanned, refused, scan_of}
use Rattle.turn.specs.Turning.{Turning, turning_of, numbers_after, marks_after}
use Rattle.entry.specs.Entry.{Told, answer_code, answer_list, besides}

-- the bits of a list of floats
abbrev pub bits_in : List Float → List ℕ
bits_in floats = map bits_of floats

-- ---- the scan

-- 19 first, where the list of the least and the greatest is too short
unfoldable pub scan_for : List Float → Scanned → Scanned
scan_for extent s = cond (ltb (length extent) 2) (refused 19 0) s

abbrev pub of_level_scan : Scanned → Told
of_level_scan s = record { code = s.code; words = s.place ∷ [] }

-- the least and the greatest, and later places stay; on refusal all stays
unfoldable pub extent_after : Scanned → List Float → List ℕ
extent_after s extent =
    cond (eqb s.code 0) (put 0 (s.least ∷ s.greatest ∷ []) (bits_in extent)) (bits_in extent)

abbrev pub extent_beside : (level : List Float) → (grounds : List ℕ) → (extent : List Float) → (lent : List ℕ) → List ℕ
extent_beside level grounds extent lent =
    let s = scan_for extent (scan_of level grounds) in
    besides (of_level_scan s) lent (extent_after s extent) (bits_in extent)

-- its whole contract: the number, the list of its answer, and the list of the least and the greatest
abbrev pub ScansLevelForHost
    : (level : List Float) → (grounds : List ℕ) → (extent : List Float) → (lent : List ℕ) → ℕ → List ℕ → List Float →
    Type 0
ScansLevelForHost level grounds extent lent r now after =
    (r ≡ answer_code (of_level_scan (scan_for extent (scan_of level grounds))) lent)
    × (now ≡ answer_list (of_level_scan (scan_for extent (scan_of level grounds))) lent)
    × (bits_in after ≡ extent_beside level grounds extent lent)

-- ---- a level turned into a field

abbrev pub of_turning : Turning → Told
of_turning t = record { code = t.code; words = t.place ∷ [] }

-- the field's two lists, which stay where the answer has no room
abbrev pub turned_beside : (level : List Float) → (grounds numbers marks lent : List ℕ) → List ℕ
turned_beside level grounds numbers marks lent =
    besides (of_turning (turning_of level grounds numbers marks)) lent (numbers_after level grounds numbers marks) numbers

abbrev pub unmarked_beside : (level : List Float) → (grounds numbers marks lent : List ℕ) → List ℕ
unmarked_beside level grounds numbers marks lent =
    besides (of_turning (turning_of level grounds numbers marks)) lent (marks_after level grounds numbers marks) marks

-- its whole contract: the number, the list of its answer, and the two lists that it fills
abbrev pub TurnsForHost
    : (level : List Float) → (grounds numbers marks lent : List ℕ) → ℕ → List ℕ → List ℕ → List ℕ → Type 0
TurnsForHost level grounds numbers marks lent r now ns ms =
    (r ≡ answer_code (of_turning (turning_of level grounds numbers marks)) lent)
    × (now ≡ answer_list (of_turning (turning_of level grounds numbers marks)) lent)
    × (ns ≡ turned_beside level grounds numbers marks lent)
    × (ms ≡ unmarked_beside level grounds numbers marks lent)
