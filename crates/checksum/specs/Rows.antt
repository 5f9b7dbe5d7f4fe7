-- The sum for the check, worked out as 8 rows of 64 bytes from the last row up: for each column, `all` is the sum of
-- the bytes met so far, and `rows` grows by `all` as each row is met. So in the end `all` is the column's sum and
-- `rows` its sum with each byte taken as often as its row's number says.
-- Assumes nothing.
use Rattle.std.specs.Prelude.{◌≡◌, List, ℕ, suc, ◌+◌, ◌*◌, ◌≤◌, ◌<◌, length, get_or}
use Rattle.places.specs.Places.{total, over}
use Rattle.little.specs.Bytes.{byte_at}

-- the byte of column j in row q
abbrev pub cell : List ℕ → ℕ → ℕ → ℕ
cell b j q = byte_at b (64 * q + j)

abbrev pub rowed : List ℕ → ℕ → ℕ → ℕ
rowed b j q = q * cell b j q

-- ---- one row more

-- column j of `all` with the byte at place `at` + j added, and of `rows` with `all` added
abbrev pub all_with : List ℕ → ℕ → List ℕ → ℕ → ℕ
all_with b at all j = get_or all j 0 + byte_at b (at + j)

abbrev pub rows_with : List ℕ → List ℕ → ℕ → ℕ
rows_with all rows j = get_or rows j 0 + get_or all j 0

-- all 64 columns so
abbrev pub all_more : List ℕ → ℕ → List ℕ → List ℕ
all_more b at all = over (all_with b at all) 64 all

abbrev pub rows_more : List ℕ → List ℕ → List ℕ
rows_more all rows = over (rows_with all rows) 64 rows

-- ---- where `row` rows are still to come

pub record Columns (b : List ℕ) (row : ℕ) (all rows : List ℕ) : Type 0 where
  pub all_length : length all ≡ 64
  pub rows_length : length rows ≡ 64
  pub all_so_far : (j : ℕ) → j < 64 → get_or all j 0 + total (cell b j) row ≡ total (cell b j) 8
  pub rows_so_far : (j : ℕ) → j < 64 → get_or rows j 0 + row * get_or all j 0 + total (rowed b j) row ≡ total (rowed b j) 8

-- so no sum is too large for 16 bits, nor one row more, nor what all columns weigh for 32
pub record Small (all rows : List ℕ) : Type 0 where
  pub all_length : length all ≡ 64
  pub rows_length : length rows ≡ 64
  pub all_small : (j : ℕ) → j < 64 → get_or all j 0 ≤ 2040
  pub rows_small : (j : ℕ) → j < 64 → get_or rows j 0 ≤ 14280

-- ---- the sum of all columns

abbrev pub column_weight : List ℕ → List ℕ → ℕ → ℕ
column_weight all rows j = 64 * get_or rows j 0 + suc j * get_or all j 0
