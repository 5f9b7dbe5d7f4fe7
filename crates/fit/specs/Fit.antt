-- When a power fits 64 bits, the table of largest bases, and the rule of its entries.
-- Assumes nothing.
use Rattle.std.specs.Prelude.{Bool, true, ◌&&◌, List, [], ◌∷◌, ℕ, suc, ◌-◌, ◌^◌, leb, ltb, get_or}
use Rattle.checked.specs.Value.{limit_of}

-- b^e is at most 2^64 - 1
unfoldable pub power_fits : ℕ → ℕ → Bool
power_fits b e = leb (b ^ e) (limit_of 64)

-- the rule of an entry t for the exponent e: t^e <= 2^64 - 1 < (t + 1)^e
abbrev pub largest : ℕ → ℕ → Bool
largest e t = leb (t ^ e) (limit_of 64) && ltb (limit_of 64) (suc t ^ e)

-- f holds of the first entry with the number n, of the second with n + 1, and so on
abbrev pub every : (ℕ → ℕ → Bool) → ℕ → List ℕ → Bool
every f n [] = true
every f n (x ∷ xs) = f n x && every f (suc n) xs

-- the largest base whose power fits, for each exponent from 2 to 63
unfoldable pub largest_bases : List ℕ
largest_bases =
    4294967295 ∷ 2642245 ∷ 65535 ∷ 7131 ∷ 1625 ∷ 565 ∷ 255 ∷ 138 ∷ 84 ∷ 56 ∷
    40 ∷ 30 ∷ 23 ∷ 19 ∷ 15 ∷ 13 ∷ 11 ∷ 10 ∷ 9 ∷ 8 ∷
    7 ∷ 6 ∷ 6 ∷ 5 ∷ 5 ∷ 5 ∷ 4 ∷ 4 ∷ 4 ∷ 4 ∷
    3 ∷ 3 ∷ 3 ∷ 3 ∷ 3 ∷ 3 ∷ 3 ∷ 3 ∷ 3 ∷ 2 ∷
    2 ∷ 2 ∷ 2 ∷ 2 ∷ 2 ∷ 2 ∷ 2 ∷ 2 ∷ 2 ∷ 2 ∷
    2 ∷ 2 ∷ 2 ∷ 2 ∷ 2 ∷ 2 ∷ 2 ∷ 2 ∷ 2 ∷ 2 ∷
    2 ∷ 2 ∷ []

-- the entry for the exponent e
abbrev pub entry_for : ℕ → ℕ
entry_for e = get_or largest_bases (e - 2) 0
