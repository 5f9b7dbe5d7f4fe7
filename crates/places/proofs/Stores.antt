-- Numbers stored in a list one after the other from a place on, and a loop that stores what stands at the places of
-- another list.
-- Assumes nothing.
use mathlib.Core.Path.{◌≡◌, refl, ap, sym, ◌∙◌}
use mathlib.Core.List.{List, [], ◌∷◌, ◌++◌}
use Prim.Native.Nat.{ℕ, suc, ◌+◌}
use native.Mathlib.Numerals.{add-one}
use native.Mathlib.Omega.{arith}
use lib.ListN.{length, get_or, set}
use lib.Seq.{sets}
use Rattle.places.specs.Places.{table}
use Rattle.places.proofs.Tables.{length-table, table-is}

pub stored-on
    : (xs ys old : List ℕ) (at : ℕ) → sets old at (xs ++ ys) ≡ sets (sets old at xs) (at + length xs) ys
stored-on [] ys old at = let e : at ≡ at + 0 = omega arith in ap (λ k. sets old k ys) e
stored-on (x ∷ xs) ys old at =
    let e : suc at + length xs ≡ at + suc (length xs) = omega arith in
    stored-on xs ys (set old at x) (suc at) ∙ ap (λ k. sets (sets (set old at x) (suc at) xs) k ys) e

-- ---- place by place: f is what is stored at each

module _ (f : ℕ → ℕ) (at : ℕ) (old : List ℕ) where
  pub stored-none : old ≡ sets old at (table f 0)
  unfolding table
  stored-none = refl

  pub stored-turn
      : {now : List ℕ} (i : ℕ) → now ≡ sets old at (table f i) → set now (at + i) (f i) ≡ sets old at (table f (i + 1))
  unfolding table
  stored-turn {now} i here =
      ap (λ l. set l (at + i) (f i)) here
      ∙ ap (λ k. set (sets old at (table f i)) (at + k) (f i)) (sym (length-table f i))
      ∙ sym (stored-on (table f i) (f i ∷ []) old at)
      ∙ ap (λ n. sets old at (table f n)) (sym (add-one i))

  pub stored-all : {now : List ℕ} (i n : ℕ) → now ≡ sets old at (table f i) → i ≡ n → now ≡ sets old at (table f n)
  stored-all i n here e = here ∙ ap (λ k. sets old at (table f k)) e

-- what stands at the places of a list is the list
pub listed : (xs : List ℕ) (n : ℕ) → length xs ≡ n → table (λ i. get_or xs i 0) n ≡ xs
listed xs n e = table-is (λ i. get_or xs i 0) xs n e (λ i h. refl)
