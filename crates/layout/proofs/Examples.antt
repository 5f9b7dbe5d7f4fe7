-- The checks of block 0 with no values, with the one value 3, and with one overflowed value.
-- Assumes nothing.
use mathlib.Core.Path.{◌≡◌, refl}
use mathlib.Core.List.{List}
use Prim.Native.Nat.{ℕ}
use lib.ListN.{set, replicate}
use Rattle.places.specs.Places.{total, every}
use Rattle.little.specs.Bytes.{little}
use Rattle.little.specs.Zeros.{zeros}
use Rattle.layout.specs.Layout.{check_sum, has_head, has_layout_as, check, number_from}
use Rattle.layout.specs.Sound.{fault_as, fault_of}

-- block 0 of edition 1 with a count, a first byte of the first number, a first mark, and a check below 65536
pub block : ℕ → ℕ → ℕ → ℕ → ℕ → List ℕ
block c value mark low high =
    set (set (set (set (set (set (replicate 512 0) 4 c) 5 1) 8 value) 448 mark) 508 low) 509 high

pub small-checks
    : (check_sum (block 0 0 0 0 0) ≡ 6) × (check_sum (block 1 3 0 0 0) ≡ 38) × (check_sum (block 1 0 1 0 0) ≡ 460)
unfolding check_sum total block
small-checks = (refl, refl, refl)

pub small-blocks
    : (fault_of (block 0 0 0 6 0) ≡ 0) × (fault_of (block 1 3 0 38 0) ≡ 0) × (fault_of (block 1 0 1 204 1) ≡ 0)
unfolding fault_as check_sum total block has_head has_layout_as check number_from zeros every little
small-blocks = (refl, refl, refl)
