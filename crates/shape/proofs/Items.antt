-- The items of two lists of equal length: how many there are, and the one at each place.
-- Assumes nothing.
use mathlib.Core.Path.{◌≡◌, refl, ap}
use mathlib.Core.List.{List, [], ◌∷◌}
use Prim.Native.Nat.{ℕ, zero, suc, ◌<◌}
use native.Mathlib.Nat.{not-suc-le-zero, le_of_suc-le-suc}
use native.Mathlib.Omega.{arith}
use lib.ListN.{length, get_or, drop}
use Rattle.shape.specs.Items.{item_of, items}

pub length-items : (ks ns : List ℕ) → length ks ≡ length ns → length (items ks ns) ≡ length ks
length-items [] ns e = refl
length-items (k ∷ ks) [] e = let f : ⊥ = omega arith in absurd f
length-items (k ∷ ks) (n ∷ ns) e = let p : length ks ≡ length ns = omega arith in ap suc (length-items ks ns p)

-- the items from place i on are the one there and those after it
pub items-at
    : (ks ns : List ℕ) (i : ℕ) → i < length ks → i < length ns → drop i (items ks ns) ≡ item_of (get_or ks i 0) (get_or ns i 0) ∷ drop (suc i) (items ks ns)
items-at [] ns i h k = absurd (not-suc-le-zero h)
items-at (x ∷ ks) [] i h k = absurd (not-suc-le-zero k)
items-at (x ∷ ks) (n ∷ ns) zero h k = refl
items-at (x ∷ ks) (n ∷ ns) (suc i) h k = items-at ks ns i (le_of_suc-le-suc h) (le_of_suc-le-suc k)
