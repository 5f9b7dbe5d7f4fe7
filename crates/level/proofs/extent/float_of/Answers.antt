-- `extent::float_of` meets its contract.
-- Assumes nothing.
use mathlib.Core.Path.{◌≡◌, ap, sym, ◌∙◌}
use mathlib.Core.Bool.{not, false}
use Prim.Native.Nat.{ℕ, ◌+◌, ◌-◌}
use native.Mathlib.Omega.{arith}
use denote.Floats.{passes}
use lib.Dec.{T}
use lib.Ieee.{binary32, of_bits, nan_bits}
use Rattle.reading.specs.Order.{bits_of_rank}
use Rattle.reading.proofs.Order.{upper-bits, lower-bits}
use Rattle.level.proofs.extent.float_of.Goals.{Else-rank-ge-ZEROS}
use Rattle.level.proofs.extent.float_of.Goals as goal

number-from : (bits : ℕ) → nan_bits binary32 bits ≡ false → T (not (nan_bits binary32 bits))
number-from bits n = passes (not (nan_bits binary32 bits)) (ap not n)

below-is : (c : Else-rank-ge-ZEROS) → bits_of_rank c.args.rank ≡ (4294967295 - c.args.rank) + 1
below-is c = let e = lower-bits c.args.rank c.if-rank-ge-ZEROS.false in omega arith

pub float_from_bits-result : goal.float_from_bits-result
float_from_bits-result c =
    let r = c.args.rank in
    number-from (r - 2147483648)
    (sym (ap (nan_bits binary32) (upper-bits r c.if-rank-ge-ZEROS.true)) ∙ c.requires.rank_value)

pub returns-then-rank-ge-ZEROS : goal.returns-then-rank-ge-ZEROS
returns-then-rank-ge-ZEROS c = sym (ap (of_bits binary32) (upper-bits c.args.rank c.if-rank-ge-ZEROS.true))

pub float_from_bits-result-2 : goal.float_from_bits-result-2
float_from_bits-result-2 c =
    let r = c.args.rank in
    number-from (4294967295 - r + 1)
    (sym (ap (nan_bits binary32) (below-is (goal.at.float_from_bits-result-2 c).Else-rank-ge-ZEROS)) ∙ c.requires.rank_value)

pub returns : goal.returns
returns c = sym (ap (of_bits binary32) (below-is (goal.at.returns c).Else-rank-ge-ZEROS))
