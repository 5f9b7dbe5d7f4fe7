-- Numbers as bytes, little-endian: the lowest byte first.
-- Assumes nothing.
use Rattle.std.specs.Prelude.{cond, List, [], ◌∷◌, ◌++◌, ℕ, zero, suc, ◌+◌, ◌*◌, ◌/◌, ◌%◌, ◌^◌, ◌<◌, leb, length, get_or, take, drop}

abbrev pub byte_at : List ℕ → ℕ → ℕ
byte_at bs i = get_or bs i 0

-- a list whose elements are bytes
abbrev pub Bytes : List ℕ → Type 0
Bytes bs = (i : ℕ) → byte_at bs i < 256

-- `count` elements from place `from` on
abbrev pub part : ℕ → ℕ → List ℕ → List ℕ
part from count bs = take count (drop from bs)

-- the number that bytes stand for
unfoldable pub little : List ℕ → ℕ
little [] = 0
little (b ∷ bs) = b + 256 * little bs

-- k bytes that stand for a number below 256 ^ k
unfoldable pub bytes_of : ℕ → ℕ → List ℕ
bytes_of zero n = []
bytes_of (suc k) n = n % 256 ∷ bytes_of k (n / 256)

-- numbers of eight bytes each, one after the other
unfoldable pub longs : List ℕ → List ℕ
longs [] = []
longs (n ∷ ns) = bytes_of 8 n ++ longs ns

-- byte j of a number
abbrev pub byte_of : ℕ → ℕ → ℕ
byte_of n j = n / 256 ^ j % 256

-- a list with these bytes stored in it from place `at` on; a list without room for them stays
unfoldable pub put : ℕ → List ℕ → List ℕ → List ℕ
put at bytes old =
    cond (leb (at + length bytes) (length old)) (take at old ++ bytes ++ drop (at + length bytes) old) old
