-- A turn of the loop over the ranks of a part's readings.
-- Assumes nothing.
use mathlib.Core.Path.{◌≡◌, ap, ◌∙◌, subst}
use mathlib.Core.Logic.{◌⊎◌, inl, inr}
use mathlib.Core.Bool.{true, false}
use mathlib.Core.List.{List}
use Prim.Native.Nat.{ℕ, ◌+◌, ◌≤◌, min, max}
use native.Mathlib.Decide.{ℕ_discrete}
use native.Mathlib.Numerals.{add-one}
use native.Mathlib.Omega.{arith}
use lib.ListN.{get_or}
use lib.Ieee.{Float, nan}
use Rattle.reading.specs.Reading.{usable, usable_at}
use Rattle.reading.specs.Order.{rank_of, rank}
use Rattle.level.specs.Extent.{bits_at, lower, higher, infinity, minus_infinity, lowest, highest}
use Rattle.level.specs.Ranks.{UsableFrom, RankedTo}
use Rattle.level.proofs.Kept.{kept-more, lower-rank, higher-rank}

-- r is the reading's rank, or 0 where it isn't usable
abbrev pub RankedAs : Float → ℕ → Type 0
RankedAs x r = ((usable x ≡ false) × (r ≡ 0)) ⊎ ((usable x ≡ true) × (r ≡ rank x))

module _ (level : List Float) (from : ℕ) where
  usable-none : UsableFrom level from from
  usable-none j a b = absurd (omega arith)

  usable-more : (i : ℕ) → UsableFrom level from i → usable_at level i ≡ true → UsableFrom level from (i + 1)
  usable-more i u e j a b =
      elim (ℕ_discrete i j) [
        | yes p ↦ subst (λ j. usable_at level j ≡ true) p e
        | no q ↦ u j a (omega arith)
      ]

  pub ranked-start
      : {least greatest : ℕ} → least ≡ rank_of (lowest level from) → greatest ≡ rank_of (highest level from) →
      RankedTo level from from least greatest
  ranked-start l g = inr (usable-none, l, g)

  module _ (i : ℕ) where
    lowest-rank : rank_of (lowest level (i + 1)) ≡ min (rank_of (lowest level i)) (rank_of (bits_at level i))
    lowest-rank =
        ap (λ n. rank_of (lowest level n)) (add-one i)
        ∙ ap rank_of (kept-more lower infinity (bits_at level) i)
        ∙ lower-rank (lowest level i) (bits_at level i)

    highest-rank : rank_of (highest level (i + 1)) ≡ max (rank_of (highest level i)) (rank_of (bits_at level i))
    highest-rank =
        ap (λ n. rank_of (highest level n)) (add-one i)
        ∙ ap rank_of (kept-more higher minus_infinity (bits_at level) i)
        ∙ higher-rank (highest level i) (bits_at level i)

    pub ranked-turn
        : (least greatest r least' greatest' : ℕ) → from ≤ i → RankedTo level from i least greatest →
        RankedAs (get_or level i nan) r → least' ≡ min least r → greatest' ≡ max greatest r →
        RankedTo level from (i + 1) least' greatest'
    ranked-turn least greatest r least' greatest' h (inl (u, z)) at l g =
        inl ((u.0, u.1, omega arith, u.3), omega arith)
    ranked-turn least greatest r least' greatest' h (inr ranked) (inl (n, z)) l g =
        inl ((i, h, omega arith, n), omega arith)
    ranked-turn least greatest r least' greatest' h (inr (u, a, b)) (inr (e, is)) l g =
        let p = lowest-rank in
        let q = highest-rank in inr (usable-more i u e, omega arith, omega arith)
