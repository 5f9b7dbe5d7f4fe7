-- The kinds of the codes: 0 is a literal, 1 to 6 are the operations, and no other code is a kind.
-- Assumes nothing.
use mathlib.Core.Path.{◌≡◌, refl}
use Prim.Native.Nat.{ℕ, zero, suc, ◌≤◌, ◌<◌}
use native.Mathlib.Nat.{not-suc-le-zero}
use native.Mathlib.Omega.{arith}
use lib.ListN.{get_or, get_or-eq_default}
use Rattle.shape.specs.Items.{Operation, sum, product, quotient, remainder, power, logarithm, operation, unknown, kinds, kind_of}

-- a code's kind is the one at its place in the list of kinds, which computes where the code is a number
pub kind_at : (k : ℕ) → kind_of k ≡ get_or kinds k unknown
unfolding kind_of
kind_at k = refl

pub kind-operation : (k : ℕ) → 0 < k → k < 7 → (o : Operation) × (kind_of k ≡ operation o)
kind-operation zero h l = absurd (not-suc-le-zero h)
kind-operation (suc zero) h l = (sum, kind_at 1)
kind-operation (suc (suc zero)) h l = (product, kind_at 2)
kind-operation (suc (suc (suc zero))) h l = (quotient, kind_at 3)
kind-operation (suc (suc (suc (suc zero)))) h l = (remainder, kind_at 4)
kind-operation (suc (suc (suc (suc (suc zero))))) h l = (power, kind_at 5)
kind-operation (suc (suc (suc (suc (suc (suc zero)))))) h l = (logarithm, kind_at 6)
kind-operation (suc (suc (suc (suc (suc (suc (suc k))))))) h l = let f : ⊥ = omega arith in absurd f

pub kind_unknown : (k : ℕ) → 7 ≤ k → kind_of k ≡ unknown
unfolding kind_of
kind_unknown k h = get_or-eq_default kinds unknown h
