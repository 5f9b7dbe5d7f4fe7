-- The part of the layout that speaks of marks, and blocks with no mark at all.
-- Assumes nothing.
use Rattle.std.specs.Prelude.{Bool, ◌&&◌, List, ℕ, ◌+◌, eqb, length}
use Rattle.places.specs.Places.{every}
use Rattle.little.specs.Zeros.{zeros}
use Rattle.layout.specs.Editions.{block_length, marks_at, check_at, one}
use Rattle.layout.specs.Layout.{place_well_marked}

-- unused marks and the bytes after them are zero, and the marks in use are well marked, where the numbers begin at
-- place `from`
abbrev pub marks_fine : ℕ → List ℕ → ℕ → Bool
marks_fine from b count = zeros (marks_at + count) check_at b && every (place_well_marked from b) count

-- a block, and the bytes of all its marks are zero; no edition has more of them than edition 1
unfoldable pub no_marks : List ℕ → Bool
no_marks b = eqb (length b) block_length && zeros marks_at one.past b
