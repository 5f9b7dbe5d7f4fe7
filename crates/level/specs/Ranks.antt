-- For the scan's helpers: what is known of a part's readings by their ranks.
-- Assumes nothing.
use Rattle.std.specs.Prelude.{◌≡◌, ◌⊎◌, true, false, cond, List, ℕ, ◌-◌, ◌≤◌, ◌<◌, eqb, length, get_or, Float}
use Rattle.std.specs.Float.{nan}
use Rattle.std.specs.Float.Ieee.{is_nan}
use Rattle.places.specs.Places.{first_from}
use Rattle.reading.specs.Reading.{usable_at}
use Rattle.reading.specs.Order.{rank_of, rank}
use Rattle.level.specs.Extent.{bits_at, lowest, highest}

-- every reading from place `from` to before place `to` is usable
abbrev pub UsableFrom : List Float → ℕ → ℕ → Type 0
UsableFrom level from to = (j : ℕ) → from ≤ j → j < to → usable_at level j ≡ true

-- one of them isn't
abbrev pub UnusableFrom : List Float → ℕ → ℕ → Type 0
UnusableFrom level from to = (j : ℕ) × (from ≤ j) × (j < to) × (usable_at level j ≡ false)

-- the least is 0 where one isn't usable, and otherwise the two are the ranks of the least and the greatest reading up
-- to there
abbrev pub RankedTo : List Float → ℕ → ℕ → ℕ → ℕ → Type 0
RankedTo level from to least greatest =
    (UnusableFrom level from to × (least ≡ 0))
    ⊎ (UsableFrom level from to × (least ≡ rank_of (lowest level to)) × (greatest ≡ rank_of (highest level to)))

-- the first place from `from` to before `to` whose reading has this rank, or `to`
abbrev pub place_of_rank : List Float → ℕ → ℕ → ℕ → ℕ
place_of_rank level from to r = first_from (λ i. eqb (rank_of (bits_at level i)) r) from (to - from)

-- the float kept so far where it has this rank, and otherwise the first that has
abbrev pub settled : List Float → ℕ → ℕ → Float → ℕ → Float
settled level from to x r = cond (eqb r (rank x)) x (get_or level (place_of_rank level from to r) nan)

-- that one of them has it
pub record Settles (level : List Float) (from to : ℕ) (x : Float) (r : ℕ) : Type 0 where
  pub within : to ≤ length level
  pub number : is_nan x ≡ false
  pub all_usable : UsableFrom level from to
  pub among : (r ≡ rank x → ⊥) → place_of_rank level from to r < to
