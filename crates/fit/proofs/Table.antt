-- A test over a whole table, computed once, holds of each entry.
-- Assumes nothing.
use mathlib.Core.Path.{subst, sym, ◌∙◌}
use mathlib.Core.Bool.{Bool, true, false, ◌&&◌}
use mathlib.Core.List.{List, [], ◌∷◌}
use Prim.Native.Nat.{ℕ, zero, suc, ◌+◌, ◌<◌}
use native.Mathlib.Nat.{add-zero, add-suc, suc-add, le_of_suc-le-suc, not-suc-le-zero}
use lib.Dec.{T}
use lib.ListN.{length, get_or}
use Rattle.fit.specs.Fit.{every}

pub left : (a b : Bool) → T (a && b) → T a
left true b t = tt
left false b t = t

pub right : (a b : Bool) → T (a && b) → T b
right true b t = t
right false b t = absurd t

pub each : (f : ℕ → ℕ → Bool) (xs : List ℕ) (n : ℕ) → T (every f n xs) → (k : ℕ) → k < length xs → T (f (n + k) (get_or xs k 0))
each f [] n t k h = absurd (not-suc-le-zero h)
each f (x ∷ xs) n t zero h = subst (λ m. T (f m x)) (sym (add-zero n)) (left (f n x) (every f (suc n) xs) t)
each f (x ∷ xs) n t (suc k) h =
    subst (λ m. T (f m (get_or xs k 0))) (suc-add n k ∙ sym (add-suc n k)) (each f xs (suc n) (right (f n x) (every f (suc n) xs) t) k (le_of_suc-le-suc h))
