-- The sum for the check by rows of 64 bytes: one row added, the columns while rows are still to come, and the columns
-- weighed.
-- Assumes nothing.
use mathlib.Core.Path.{◌≡◌, ap, ap₂, sym, ◌∙◌}
use mathlib.Core.List.{List}
use Prim.Native.Nat.{ℕ, suc, ◌+◌, ◌*◌, ◌≤◌, ◌<◌}
use native.Mathlib.Nat.{mul-le-mul_left, mul-le-mul_right}
use native.Mathlib.Omega.{arith}
use lib.ListN.{length, get_or, set, replicate, get_or-replicate, length-replicate}
use Rattle.places.specs.Places.{total, over}
use Rattle.places.proofs.Totals.{total-none, total-more, total-same, total-at-most, by-columns}
use Rattle.places.proofs.Tables.{over-none, over-more, over-at, over-past, length-over}
use Rattle.little.specs.Bytes.{byte_at, Bytes}
use Rattle.layout.specs.Editions.{block_length}
use Rattle.layout.specs.Layout.{weighed}
use Rattle.checksum.specs.Rows.{cell, rowed, all_with, rows_with, all_more, rows_more, Columns, Small, column_weight}

-- ---- one row added, column by column

module _ (b : List ℕ) (at : ℕ) (all₀ rows₀ : List ℕ) where
  -- the first j columns are done
  pub record Added (j : ℕ) (all rows : List ℕ) : Type 0 where
    pub all-done : all ≡ over (all_with b at all₀) j all₀
    pub rows-done : rows ≡ over (rows_with all₀ rows₀) j rows₀
    pub within : j ≤ 64

  pub added-none : Added 0 all₀ rows₀
  added-none =
      record {
        all-done = sym (over-none (all_with b at all₀) all₀);
        rows-done = sym (over-none (rows_with all₀ rows₀) rows₀);
        within = omega arith;
      }

  module _ (small : Small all₀ rows₀) (j : ℕ) (all rows : List ℕ) (a : Added j all rows) (h : j < 64) where
    -- column j is as it was
    all-there : get_or all j 0 ≡ get_or all₀ j 0
    all-there = ap (λ l. get_or l j 0) a.all-done ∙ over-past (all_with b at all₀) all₀ j j (omega arith)

    rows-there : get_or rows j 0 ≡ get_or rows₀ j 0
    rows-there = ap (λ l. get_or l j 0) a.rows-done ∙ over-past (rows_with all₀ rows₀) rows₀ j j (omega arith)

    -- so its sums are small
    pub column-small : (get_or all j 0 ≤ 2040) × (get_or rows j 0 ≤ 14280)
    column-small = (omega (arith, all-there, small.all_small j h), omega (arith, rows-there, small.rows_small j h))

    pub added-more
        : Added (j + 1) (set all j (get_or all j 0 + byte_at b (at + j))) (set rows j (get_or rows j 0 + get_or all j 0))
    added-more =
        let e : suc j ≡ j + 1 = omega arith in
        let la : j < length all₀ = omega (arith, small.all_length) in
        let lr : j < length rows₀ = omega (arith, small.rows_length) in
        record {
          all-done =
              ap₂ (λ l v. set l j v) a.all-done (ap (λ v. v + byte_at b (at + j)) all-there)
              ∙ over-more (all_with b at all₀) all₀ j la
              ∙ ap (λ n. over (all_with b at all₀) n all₀) e;
          rows-done =
              ap₂ (λ l v. set l j v) a.rows-done (ap₂ ◌+◌ rows-there all-there)
              ∙ over-more (rows_with all₀ rows₀) rows₀ j lr
              ∙ ap (λ n. over (rows_with all₀ rows₀) n rows₀) e;
          within = omega arith;
        }

  -- all 64 of them
  pub added-all
      : (j : ℕ) (all rows : List ℕ) → Added j all rows → 64 ≤ j →
      (all ≡ all_more b at all₀) × (rows ≡ rows_more all₀ rows₀)
  added-all j all rows a h =
      let w = a.within in
      let e : j ≡ 64 = omega arith in (
        a.all-done ∙ ap (λ n. over (all_with b at all₀) n all₀) e,
        a.rows-done ∙ ap (λ n. over (rows_with all₀ rows₀) n rows₀) e,
      )

-- ---- while rows are still to come

module _ (b : List ℕ) (bytes : Bytes b) where
  cells-at-most : (j : ℕ) → total (cell b j) 8 ≤ 2040
  cells-at-most j = omega (arith, total-at-most (cell b j) 255 8 (λ q l. let p = bytes (64 * q + j) in omega arith))

  rowed-at-most : (j : ℕ) → total (rowed b j) 8 ≤ 14280
  rowed-at-most j = omega (arith, total-at-most (rowed b j) 1785 8 small)
    where
      small : (q : ℕ) → q < 8 → rowed b j q ≤ 1785
      small q l =
          let p = bytes (64 * q + j) in
          let u : q ≤ 7 = omega arith in
          let v : cell b j q ≤ 255 = omega arith in
          omega (arith, mul-le-mul_right (cell b j q) u, mul-le-mul_left 7 v)

  -- no column is too large
  pub columns-small : (row : ℕ) (all rows : List ℕ) → Columns b row all rows → Small all rows
  columns-small row all rows c =
      record {
        all_length = c.all_length;
        rows_length = c.rows_length;
        all_small = λ j h. omega (arith, c.all_so_far j h, cells-at-most j);
        rows_small = λ j h. omega (arith, c.rows_so_far j h, rowed-at-most j);
      }

-- before the first row
pub columns-start : (b : List ℕ) → Columns b 8 (replicate 64 0) (replicate 64 0)
columns-start b =
    record {
      all_length = length-replicate {A = ℕ} 64 0;
      rows_length = length-replicate {A = ℕ} 64 0;
      all_so_far = λ j h. omega (arith, get_or-replicate {A = ℕ} 64 j 0 0 h);
      rows_so_far = λ j h. omega (arith, get_or-replicate {A = ℕ} 64 j 0 0 h);
    }

-- a row more
pub columns-more
    : (b : List ℕ) (row : ℕ) (all rows : List ℕ) → Columns b (suc row) all rows →
    Columns b row (all_more b (64 * row) all) (rows_more all rows)
columns-more b row all rows c =
    let added = over-at (all_with b (64 * row) all) all 64 in
    let raised = over-at (rows_with all rows) rows 64 in
    record {
      all_length = length-over (all_with b (64 * row) all) all 64 (omega (arith, c.all_length)) ∙ c.all_length;
      rows_length = length-over (rows_with all rows) rows 64 (omega (arith, c.rows_length)) ∙ c.rows_length;
      all_so_far = λ j h. omega (arith, added j h, c.all_so_far j h, total-more (cell b j) row);
      rows_so_far =
          λ j h.
          omega (arith, ap (λ n. row * n) (added j h), raised j h, c.rows_so_far j h, total-more (rowed b j) row);
    }

-- ---- the columns weighed

module _ (all rows : List ℕ) (s : Small all rows) where
  pub weight-at-most : (j : ℕ) → j < 64 → column_weight all rows j ≤ 1044480
  weight-at-most j h =
      let a = s.all_small j h in
      let r = s.rows_small j h in
      let u : suc j ≤ 64 = omega arith in
      omega (arith, mul-le-mul_right (get_or all j 0) u)

  pub weights-at-most : (j : ℕ) → j ≤ 64 → total (column_weight all rows) j ≤ 66846720
  weights-at-most j h =
      let t = total-at-most (column_weight all rows) 1044480 j (λ i l. weight-at-most i (omega arith)) in
      omega (arith, mul-le-mul_right 1044480 h)

-- where no row is to come, what they weigh is the sum over all 512 bytes
pub columns-weigh
    : (b all rows : List ℕ) → Columns b 0 all rows → total (column_weight all rows) 64 ≡ total (weighed b) block_length
columns-weigh b all rows c =
    total-same (column_weight all rows) (λ j. 64 * total (rowed b j) 8 + suc j * total (cell b j) 8) 64 same
    ∙ by-columns (byte_at b) 64 8
  where
    same : (j : ℕ) → j < 64 → column_weight all rows j ≡ 64 * total (rowed b j) 8 + suc j * total (cell b j) 8
    same j h =
        let a : get_or all j 0 ≡ total (cell b j) 8 = omega (arith, c.all_so_far j h, total-none (cell b j)) in
        let r : get_or rows j 0 ≡ total (rowed b j) 8 = omega (arith, c.rows_so_far j h, total-none (rowed b j)) in
        ap₂ (λ m n. 64 * m + suc j * n) r a
