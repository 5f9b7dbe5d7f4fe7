-- What a lent list holds after a row: with 0 its first n places are written over, and otherwise all stay.
-- Assumes nothing.
use mathlib.Core.Path.{◌≡◌, ap, ◌∙◌}
use mathlib.Core.Bool.{cond}
use mathlib.Core.List.{List}
use Prim.Native.Nat.{ℕ, ◌≤◌, ◌<◌}
use native.Mathlib.Decide.{ℕ_discrete}
use borrow.Author.Tests.{eq-eqb, ne_eqb}
use lib.ListN.{length, get_or}
use Rattle.places.specs.Places.{over}
use Rattle.places.proofs.Tables.{over-at, over-past, length-over}
use Rattle.rows.specs.Rows.{after}

module _ (code n : ℕ) (f : ℕ → ℕ) (old : List ℕ) where
  pub written : code ≡ 0 → after code n f old ≡ over f n old
  unfolding after
  written z = ap (λ t. cond t (over f n old) old) (eq-eqb code 0 z)

  pub stays : (code ≡ 0 → ⊥) → after code n f old ≡ old
  unfolding after
  stays m = ap (λ t. cond t (over f n old) old) (ne_eqb code 0 m)

  pub written-at : code ≡ 0 → (i : ℕ) → i < n → get_or (after code n f old) i 0 ≡ f i
  written-at z i h = ap (λ l. get_or l i 0) (written z) ∙ over-at f old n i h

  pub past-at : (i : ℕ) → n ≤ i → get_or (after code n f old) i 0 ≡ get_or old i 0
  past-at i h =
      elim (ℕ_discrete code 0) [
        | yes z ↦ ap (λ l. get_or l i 0) (written z) ∙ over-past f old n i h
        | no m ↦ ap (λ l. get_or l i 0) (stays m)
      ]

  pub as-long : (code ≡ 0 → n ≤ length old) → length (after code n f old) ≡ length old
  as-long room =
      elim (ℕ_discrete code 0) [
        | yes z ↦ ap length (written z) ∙ length-over f old n (room z)
        | no m ↦ ap length (stays m)
      ]
