-- The loop that writes a list place by place: one turn, and the end.
-- Assumes nothing.
use mathlib.Core.Path.{◌≡◌, ap, sym, ◌∙◌}
use mathlib.Core.List.{List}
use Prim.Native.Nat.{ℕ, ◌+◌, ◌<◌}
use native.Mathlib.Numerals.{add-one}
use lib.ListN.{length, set}
use Rattle.places.specs.Places.{over}
use Rattle.places.proofs.Tables.{over-more}

module _ (f : ℕ → ℕ) (old now : List ℕ) (i : ℕ) (here : now ≡ over f i old) where
  -- the next place is written
  pub copy-turn : (v : ℕ) → v ≡ f i → i < length old → set now i v ≡ over f (i + 1) old
  copy-turn v e h =
      ap (λ l. set l i v) here
      ∙ ap (set (over f i old) i) e
      ∙ over-more f old i h
      ∙ ap (λ n. over f n old) (sym (add-one i))

  -- what is written where the loop ends
  pub copy-end : (n : ℕ) → i ≡ n → now ≡ over f n old
  copy-end n e = here ∙ ap (λ k. over f k old) e
