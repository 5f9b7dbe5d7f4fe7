-- Floats that are whole numbers from 0 to 16,777,215, and their values. `fin s m e` is m * 2 ^ e, below zero where s
-- is true, and 2 ^ e is the fraction up e / down e.
-- Assumes nothing.
use Rattle.std.specs.Prelude.{◌≡◌, ◌⊎◌, Bool, true, false, not, ◌&&◌, ◌||◌, cond, List, ℕ, ◌*◌, ◌/◌, ◌%◌, eqb, ltb, get_or, pos, Float}
use Rattle.std.specs.Float.{nan, inf, fin, binary32}
use Rattle.std.specs.Float.Ieee.{up, down, add, sub, le}

-- no fraction, below 2^24, and not below zero; negative zero is a whole number too
unfoldable pub is_whole : Float → Bool
is_whole nan = false
is_whole (inf s) = false
is_whole (fin s m e) = eqb (m * up e % down e) 0 && ltb (m * up e / down e) 16777216 && (not s || eqb m 0)

-- a whole number's value
unfoldable pub value_of : Float → ℕ
value_of nan = 0
value_of (inf s) = 0
value_of (fin s m e) = m * up e / down e

-- ---- at each place of a level

abbrev pub is_whole_at : List Float → ℕ → Bool
is_whole_at level i = is_whole (get_or level i nan)

abbrev pub value_at : List Float → ℕ → ℕ
value_at level i = value_of (get_or level i nan)

-- ---- for the test

-- 8,388,608
abbrev pub room : Float
room = fin false 1 (pos 23)

-- x itself from there on; below it, what a sum with it keeps of x
abbrev pub rounded_of : Float → Float
rounded_of x = cond (le room x) x (sub binary32 (add binary32 x room) room)

-- ---- in the words of the promises

-- x is the whole number n; negative zero is 0
abbrev pub Equals : Float → ℕ → Type 0
Equals nan n = ⊥
Equals (inf s) n = ⊥
Equals (fin s m e) n = (m * up e ≡ n * down e) × ((s ≡ false) ⊎ (n ≡ 0))

abbrev pub negative_zero : Float
negative_zero = fin true 0 (pos 0)
