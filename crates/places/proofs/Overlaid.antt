-- A list that begins with another and goes on as it was.
-- Assumes nothing.
use mathlib.Core.Path.{◌≡◌, refl, ap, ◌∙◌}
use mathlib.Core.List.{List, [], ◌++◌, append-nil}
use Prim.Native.Nat.{ℕ, ◌≤◌, ◌<◌}
use native.Mathlib.Omega.{arith}
use lib.ListN.{length, get_or, drop, length-append, length-drop, drop_of_length-le, get_or-append}
use Rattle.places.specs.Places.{overlaid}

module _ (old : List ℕ) where
  -- with nothing it is what it was
  pub overlaid-none : overlaid [] old ≡ old
  overlaid-none = refl

  -- with as much as there is room for it is that
  pub overlaid-all : (xs : List ℕ) → length old ≤ length xs → overlaid xs old ≡ xs
  overlaid-all xs h = ap (λ l. xs ++ l) (drop_of_length-le old h) ∙ append-nil xs

  pub overlaid-length : (xs : List ℕ) → length xs ≤ length old → length (overlaid xs old) ≡ length old
  overlaid-length xs h =
      length-append xs (drop (length xs) old) ∙ (let e = length-drop (length xs) old in omega arith)

  pub overlaid-at : (xs : List ℕ) (j : ℕ) → j < length xs → get_or (overlaid xs old) j 0 ≡ get_or xs j 0
  overlaid-at xs j h = get_or-append xs (drop (length xs) old) 0 j h
