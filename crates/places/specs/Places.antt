-- What holds at the places 0 to n - 1, and what is worked out over them. A place's own value is given as a function
-- of its number.
-- Assumes nothing.
use Rattle.std.specs.Prelude.{Bool, true, false, ◌&&◌, List, [], ◌∷◌, ◌++◌, ℕ, zero, suc, ◌+◌, length, drop}

-- the first of the k places from i on at which f holds, or the place after them
unfoldable pub first_from : (ℕ → Bool) → ℕ → ℕ → ℕ
first_from f i zero = i
first_from f i (suc k) = elim (f i) [ true ↦ i | false ↦ first_from f (suc i) k ]

-- the first of n places at which f holds, or n
abbrev pub first : (ℕ → Bool) → ℕ → ℕ
first f n = first_from f 0 n

-- f holds at each of n places
unfoldable pub every : (ℕ → Bool) → ℕ → Bool
every f zero = true
every f (suc n) = every f n && f n

-- the sum of f over n places
unfoldable pub total : (ℕ → ℕ) → ℕ → ℕ
total f zero = 0
total f (suc n) = total f n + f n

-- the list of what f is at n places
unfoldable pub table : (ℕ → ℕ) → ℕ → List ℕ
table f zero = []
table f (suc n) = table f n ++ (f n ∷ [])

-- a list with its first n places written over, and nothing past them
abbrev pub over : (ℕ → ℕ) → ℕ → List ℕ → List ℕ
over f n old = table f n ++ drop n old

-- ---- lists one after the other

-- the lists f 0 to f (n - 1), one after the other
unfoldable pub chained : (ℕ → List ℕ) → ℕ → List ℕ
chained f zero = []
chained f (suc n) = chained f n ++ f n

-- a list that begins with these and goes on as it was
abbrev pub overlaid : List ℕ → List ℕ → List ℕ
overlaid xs old = xs ++ drop (length xs) old
