-- The blocks of three small fields: block 0 with the one value 3 has the check 38, with one overflowed value 460, and
-- a field of 56 values is a full block and one with a single value.
-- Assumes nothing.
use mathlib.Core.Path.{◌≡◌, refl}
use mathlib.Core.List.{List, [], ◌∷◌}
use Prim.Native.Nat.{ℕ}
use lib.ListN.{length, replicate}
use Rattle.places.specs.Places.{total, every, chained}
use Rattle.little.specs.Bytes.{little, bytes_of, longs}
use Rattle.little.specs.Zeros.{zeros}
use Rattle.layout.specs.Editions.{one}
use Rattle.layout.specs.Layout.{check_sum, has_head, has_layout_as, check, number_from, block_number, count}
use Rattle.layout.specs.Sound.{fault_as, fault_of}
use Rattle.layout.specs.Runs.{block_at}
use Rattle.written.specs.Block.{before_check, block_of}
use Rattle.written.specs.Run.{blocks_for, run_for}

pub small-written-checks
    : (check (block_of one 0 [] []) ≡ 6)
    × (check (block_of one 0 (3 ∷ []) (0 ∷ [])) ≡ 38)
    × (check (block_of one 0 (0 ∷ []) (1 ∷ [])) ≡ 460)
unfolding block_of before_check longs bytes_of little check_sum total check
small-written-checks = (refl, refl, refl)

abbrev three : List ℕ
three = block_of one 0 (3 ∷ []) (0 ∷ [])

abbrev lost : List ℕ
lost = block_of one 0 (0 ∷ []) (1 ∷ [])

pub small-written-sound : (fault_of three ≡ 0) × (fault_of lost ≡ 0)
unfolding block_of before_check longs bytes_of little check_sum total check fault_as has_head has_layout_as number_from zeros every
small-written-sound = (refl, refl)

abbrev long-run : List ℕ
long-run = run_for one 7 (replicate 56 9) (replicate 56 0)

pub small-written-run
    : (length long-run ≡ 1024)
    × (block_number (block_at long-run 0) ≡ 7) × (count (block_at long-run 0) ≡ 55)
    × (block_number (block_at long-run 1) ≡ 8) × (count (block_at long-run 1) ≡ 1)
unfolding run_for blocks_for chained block_of before_check longs bytes_of little check_sum total block_number
small-written-run = (refl, refl, refl, refl, refl)
