-- A level's least and greatest reading, by their bits: the earliest of those that no other is below, and of those
-- that no other is above.
-- Assumes nothing.
use Rattle.std.specs.Prelude.{◌≡◌, cond, List, ℕ, zero, suc, ◌<◌, T, ltb, length, get_or, Float}
use Rattle.std.specs.Float.{nan, binary32}
use Rattle.std.specs.Float.Ieee.{fits}
use Rattle.reading.specs.Order.{bits_of, rank_of, rank}

-- the bits of the reading at each place
abbrev pub bits_at : List Float → ℕ → ℕ
bits_at level i = bits_of (get_or level i nan)

-- what is kept of m and of what f gives at the first n places, where `keep` says which of two
unfoldable pub kept_of : (ℕ → ℕ → ℕ) → ℕ → (ℕ → ℕ) → ℕ → ℕ
kept_of keep m f zero = m
kept_of keep m f (suc n) = keep (kept_of keep m f n) (f n)

-- the later one only where it is below, or above
abbrev pub lower : ℕ → ℕ → ℕ
lower a b = cond (ltb (rank_of b) (rank_of a)) b a

abbrev pub higher : ℕ → ℕ → ℕ
higher a b = cond (ltb (rank_of a) (rank_of b)) b a

-- the bits of the two infinities, which every usable reading lies between
abbrev pub infinity : ℕ
infinity = 2139095040

abbrev pub minus_infinity : ℕ
minus_infinity = 4286578688

-- of the first n readings
abbrev pub lowest : List Float → ℕ → ℕ
lowest level n = kept_of lower infinity (bits_at level) n

abbrev pub highest : List Float → ℕ → ℕ
highest level n = kept_of higher minus_infinity (bits_at level) n

-- ---- in the words of the promises

-- floats of 32 bits, as every lent list of them has
abbrev pub Readings : List Float → Type 0
Readings level = (i : ℕ) → T (fits binary32 (get_or level i nan))

-- some reading has these bits, and none before it is equal to it
abbrev pub Earliest : List Float → ℕ → Type 0
Earliest level bits =
    (i : ℕ) × (i < length level) × (bits_at level i ≡ bits) × ((j : ℕ) → j < i → rank (get_or level j nan) ≡ rank_of bits → ⊥)
