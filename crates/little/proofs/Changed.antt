-- One byte changed in the bytes of a number.
-- Assumes nothing.
use mathlib.Core.Path.{◌≡◌, ap}
use mathlib.Core.List.{List, [], ◌∷◌}
use Prim.Native.Nat.{ℕ, zero, suc, ◌+◌, ◌*◌, ◌^◌, ◌<◌}
use native.Mathlib.Nat.{pow-succ'}
use native.Mathlib.Omega.{arith}
use lib.ListN.{length, set}
use Rattle.little.specs.Bytes.{byte_at, little}

-- a number's byte counts with its place's power of 256
pub little-changed
    : (bs : List ℕ) (i y : ℕ) → i < length bs → little (set bs i y) + 256 ^ i * byte_at bs i ≡ little bs + 256 ^ i * y
unfolding little
little-changed [] i y h = absurd (omega arith)
little-changed (x ∷ xs) zero y h = omega arith
little-changed (x ∷ xs) (suc i) y h =
    let e = little-changed xs i y (omega arith) in
    let p = ap (λ k. k * byte_at xs i) (pow-succ' 256 i) in
    let q = ap (λ k. k * y) (pow-succ' 256 i) in omega arith
