-- The block of an edition that has a number and values: its bytes from the first to the last, by the places at which
-- `layout` looks for them.
-- Assumes nothing.
use Rattle.std.specs.Prelude.{◌≡◌, ◌⊎◌, Bool, cond, ◌&&◌, List, [], ◌∷◌, ◌++◌, ℕ, ◌-◌, ◌*◌, ◌^◌, ◌≤◌, ◌<◌, eqb, leb, length, get_or, replicate}
use Rattle.little.specs.Bytes.{Bytes, bytes_of, longs}
use Rattle.layout.specs.Editions.{block_length, marks_at, check_at, Edition}
use Rattle.layout.specs.Layout.{check_sum}

-- ---- a block

-- up to its check: number, count and edition; the head; the numbers, and zeros for the unused ones; the marks, and
-- zeros up to the check
unfoldable pub before_check : Edition → ℕ → List ℕ → List ℕ → List ℕ
before_check E n numbers marks =
    bytes_of 4 n
    ++ (length numbers ∷ E.tag ∷ [])
    ++ E.head numbers marks
    ++ longs numbers
    ++ replicate (8 * (E.most - length numbers)) 0
    ++ marks
    ++ replicate (check_at - marks_at - length marks) 0

-- and the check, which is the sum over these
unfoldable pub block_of : Edition → ℕ → List ℕ → List ℕ → List ℕ
block_of E n numbers marks = before_check E n numbers marks ++ bytes_of 4 (check_sum (before_check E n numbers marks))

-- a lent list afterwards: it stays where it is no block, where the values are more than the edition takes, or where
-- numbers and marks are not as many
abbrev pub layable : Edition → List ℕ → List ℕ → List ℕ → Bool
layable E numbers marks old =
    eqb (length old) block_length && leb (length numbers) E.most && eqb (length marks) (length numbers)

unfoldable pub laid_over : Edition → ℕ → List ℕ → List ℕ → List ℕ → List ℕ
laid_over E n numbers marks old = cond (layable E numbers marks old) (block_of E n numbers marks) old

-- ---- what a writer needs of an edition

-- it takes values, its number is a byte, and what its head says is bytes
pub record Writable (E : Edition) : Type 0 where
  pub takes : 0 < E.most
  pub tagged : E.tag < 256
  pub headed : (numbers marks : List ℕ) → Bytes (E.head numbers marks)

-- ---- in the words of the promises

-- what a block is to be made of: a number of four bytes, and values that the edition takes, numbers of eight bytes with
-- their marks
pub record Values (E : Edition) (n : ℕ) (numbers marks : List ℕ) : Type 0 where
  pub numbered : n < 2 ^ 32
  pub counted : length numbers ≤ E.most
  pub even : length marks ≡ length numbers
  pub sized : (i : ℕ) → get_or numbers i 0 < 2 ^ 64
  pub marked : (i : ℕ) → i < length numbers → (get_or marks i 0 ≡ 0) ⊎ ((get_or marks i 0 ≡ 1) × (get_or numbers i 0 ≡ 0))
