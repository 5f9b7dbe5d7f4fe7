-- Lists written place by place.
-- Assumes nothing.
use mathlib.Core.Path.{◌≡◌, refl, ap, sym, ◌∙◌}
use mathlib.Core.List.{List, [], ◌∷◌, ◌++◌, append_assoc}
use Prim.Native.Nat.{ℕ, zero, suc, ◌+◌, ◌-◌, ◌≤◌, ◌<◌}
use native.Mathlib.Decide.{ℕ_discrete}
use native.Mathlib.Omega.{arith}
use lib.ListN.{length, get_or, drop, set, length-append, length-drop, get_or-append}
use lib.Seq.{drop-cons, get_or-drop, get_or_at, set_at, get_or-append-add, ext_get_or}
use Rattle.places.specs.Places.{table, over}

pub length-table : (f : ℕ → ℕ) (n : ℕ) → length (table f n) ≡ n
unfolding table
length-table f zero = refl
length-table f (suc n) = length-append (table f n) (f n ∷ []) ∙ (let e = length-table f n in omega arith)

pub table-at : (f : ℕ → ℕ) (n j : ℕ) → j < n → get_or (table f n) j 0 ≡ f j
unfolding table
table-at f zero j h = absurd (omega arith)
table-at f (suc n) j h =
    elim (ℕ_discrete n j) [
      | yes p ↦
          ap (λ i. get_or (table f n ++ (f n ∷ [])) i 0) (sym p)
          ∙ get_or_at (table f n) (f n) [] 0 n (length-table f n)
          ∙ ap f p
      | no q ↦
          let l : j < length (table f n) = omega (arith, length-table f n) in
          get_or-append (table f n) (f n ∷ []) 0 j l ∙ table-at f n j (omega arith)
    ]

-- a list is known by what stands at its places
pub table-is
    : (f : ℕ → ℕ) (xs : List ℕ) (n : ℕ) → length xs ≡ n → ((i : ℕ) → i < n → f i ≡ get_or xs i 0) → table f n ≡ xs
table-is f xs n l e =
    let t = length-table f n in
    ext_get_or 0 (table f n) xs (t ∙ sym l)
    (λ i h. let k : i < n = omega arith in table-at f n i k ∙ e i k)

-- ---- a list written over

module _ (f : ℕ → ℕ) (old : List ℕ) where
  pub over-none : over f 0 old ≡ old
  unfolding table
  over-none = refl

  -- one place more
  pub over-more : (n : ℕ) → n < length old → set (over f n old) n (f n) ≡ over f (suc n) old
  unfolding table
  over-more n h =
      ap (λ l. set (table f n ++ l) n (f n)) (drop-cons old n 0 h)
      ∙ set_at (table f n) (get_or old n 0) (drop (suc n) old) (f n) n (length-table f n)
      ∙ sym (append_assoc (table f n) (f n ∷ []) (drop (suc n) old))

  pub length-over : (n : ℕ) → n ≤ length old → length (over f n old) ≡ length old
  length-over n h =
      length-append (table f n) (drop n old) ∙ (let a = length-table f n in let b = length-drop n old in omega arith)

  pub over-at : (n j : ℕ) → j < n → get_or (over f n old) j 0 ≡ f j
  over-at n j h =
      let l : j < length (table f n) = omega (arith, length-table f n) in
      get_or-append (table f n) (drop n old) 0 j l ∙ table-at f n j h

  -- what is past the places written is as it was
  pub over-past : (n j : ℕ) → n ≤ j → get_or (over f n old) j 0 ≡ get_or old j 0
  over-past n j h =
      let e : length (table f n) + (j - n) ≡ j = omega (arith, length-table f n) in
      let g : n + (j - n) ≡ j = omega arith in
      ap (λ i. get_or (over f n old) i 0) (sym e)
      ∙ get_or-append-add (table f n) (drop n old) (j - n) 0
      ∙ get_or-drop n old (j - n) 0
      ∙ ap (λ i. get_or old i 0) g
