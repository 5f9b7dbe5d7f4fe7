-- A part of a level, from one place to another: what was kept before it, settled by the rank that was found, is what is
-- kept after it.
-- Assumes nothing.
use mathlib.Core.Path.{◌≡◌, refl, ap, sym, ◌∙◌, subst}
use mathlib.Core.Logic.{inl, inr}
use mathlib.Core.Bool.{Bool, true, false, cond, false≢true}
use mathlib.Core.List.{List}
use Prim.Native.Nat.{ℕ, ◌+◌, ◌-◌, ◌≤◌, ◌<◌}
use native.Mathlib.Decide.{ℕ_discrete, dec_lt}
use native.Mathlib.Omega.{arith}
use borrow.Author.Tests.{eq-eqb, ne_eqb, eqb-true, eqb-false}
use lib.Dec.{T, eqb}
use lib.ListN.{length, get_or}
use lib.Ieee.{Float, nan, inf, fin, binary32, fits, is_nan, eq, of_bits, to_bits, nan_bits}
use Rattle.places.proofs.First.{first-within, first-holds, none-before}
use Rattle.reading.specs.Reading.{usable_at}
use Rattle.reading.specs.Order.{bits_of, rank_of, rank, bits_of_rank}
use Rattle.level.specs.Extent.{bits_at, kept_of}
use Rattle.level.specs.Ranks.{UsableFrom, place_of_rank, settled, Settles}
use Rattle.reading.proofs.Order.{no-nan, usable-rank, rank-not-nan, float-of-rank}
use Rattle.reading.proofs.Compare.{zero-is}
use Rattle.level.proofs.Kept.{Direction, keep, stays-or-placed}

module _ (level : List Float) (from to : ℕ) (x : Float) (r : ℕ) where
  -- ---- what is settled on

  pub settled-same : r ≡ rank x → settled level from to x r ≡ x
  settled-same e = ap (λ t. cond t x (get_or level (place_of_rank level from to r) nan)) (eq-eqb r (rank x) e)

  pub settled-other : (r ≡ rank x → ⊥) → settled level from to x r ≡ get_or level (place_of_rank level from to r) nan
  settled-other n = ap (λ t. cond t x (get_or level (place_of_rank level from to r) nan)) (ne_eqb r (rank x) n)

-- ---- the first place of a part with a rank

module _ (level : List Float) (from to r : ℕ) (among : place_of_rank level from to r < to) where
  pub place-from : from ≤ place_of_rank level from to r
  place-from = (first-within (λ i. eqb (rank_of (bits_at level i)) r) from (to - from)).0

  pub place-rank : rank_of (bits_at level (place_of_rank level from to r)) ≡ r
  place-rank =
      let p = place_of_rank level from to r in
      let a = place-from in
      eqb-true (rank_of (bits_at level p)) r
      (first-holds (λ i. eqb (rank_of (bits_at level i)) r) from (to - from) (omega arith))

  pub place-usable : UsableFrom level from to → usable_at level (place_of_rank level from to r) ≡ true
  place-usable u = u (place_of_rank level from to r) place-from among

  -- it is found again from its rank alone, unless it is a zero
  module _ (fitting : T (fits binary32 (get_or level (place_of_rank level from to r) nan))) where
    pub number-placed : UsableFrom level from to → (nan_bits binary32 (bits_of_rank r) ≡ false) × (0 < r)
    number-placed u =
        let b = usable-rank (get_or level (place_of_rank level from to r) nan) fitting (place-usable u) in
        let e = place-rank in (rank-not-nan r (omega arith) (omega arith), omega arith)

    pub float-placed
        : (r ≡ 2147483648 → ⊥) → of_bits binary32 (bits_of_rank r) ≡ get_or level (place_of_rank level from to r) nan
    float-placed n = float-of-rank (get_or level (place_of_rank level from to r) nan) r fitting place-rank n

  -- where none before has it: a place without it is before the first, and a place with it is the first
  module _ (i : ℕ) (past : from ≤ i) (upto : i ≤ place_of_rank level from to r) where
    pub rank-passed : eqb (rank_of (bits_at level i)) r ≡ false → i + 1 ≤ place_of_rank level from to r
    rank-passed n =
        elim (ℕ_discrete i (place_of_rank level from to r)) [
          | yes e ↦
              absurd (eqb-false (rank_of (bits_at level i)) r n (ap (λ i. rank_of (bits_at level i)) e ∙ place-rank))
          | no q ↦ omega arith
        ]

    pub rank-found : eqb (rank_of (bits_at level i)) r ≡ true → i ≡ place_of_rank level from to r
    rank-found e =
        elim (dec_lt i (place_of_rank level from to r)) [
          | yes h ↦
              absurd
              (false≢true (sym (none-before (λ i. eqb (rank_of (bits_at level i)) r) from (to - from) i past h) ∙ e))
          | no h ↦ omega arith
        ]

-- the machine's test for a zero; a NaN isn't one either way
pub zero-told : (x : Float) → T (fits binary32 x) → eq x (of_bits binary32 0) ≡ eqb (rank x) 2147483648
unfolding eq is_nan to_bits rank_of
zero-told nan h = refl
zero-told (inf s) h = zero-is (inf s) h refl
zero-told (fin s m e) h = zero-is (fin s m e) h refl

-- ---- what is kept

-- what `settle` asks for, and that what it settles on is what is kept after the part, and no NaN
pub record Settling
    (beyond : ℕ → ℕ → Bool) (m : ℕ) (level : List Float) (from to : ℕ) (x : Float) (r : ℕ) : Type 0 where
  pub asked : Settles level from to x r
  pub bits : bits_of (settled level from to x r) ≡ kept_of (keep beyond) m (bits_at level) to
  pub a-number : is_nan (settled level from to x r) ≡ false

module _
    (beyond : ℕ → ℕ → Bool)
    (direction : Direction beyond)
    (m : ℕ)
    (level : List Float)
    (from to : ℕ)
    (x : Float)
    (r : ℕ)
    (within : from ≤ to)
    (before : bits_of x ≡ kept_of (keep beyond) m (bits_at level) from)
    (found : r ≡ rank_of (kept_of (keep beyond) m (bits_at level) to))
  where
    among : (r ≡ rank x → ⊥) → place_of_rank level from to r < to
    among n =
        elim (stays-or-placed beyond direction m (bits_at level) from to within) [
          | inl s ↦ absurd (n (found ∙ ap rank_of (s ∙ sym before)))
          | inr q ↦ subst (λ r. place_of_rank level from to r < to) (sym found) q.1
        ]

    settled-bits : bits_of (settled level from to x r) ≡ kept_of (keep beyond) m (bits_at level) to
    settled-bits =
        elim (stays-or-placed beyond direction m (bits_at level) from to within) [
          | inl s ↦
              ap bits_of (settled-same level from to x r (found ∙ ap rank_of (s ∙ sym before))) ∙ before ∙ sym s
          | inr q ↦
              ap bits_of (settled-other level from to x r (λ e. q.0 (sym found ∙ e ∙ ap rank_of before)))
              ∙ ap (λ r. bits_at level (place_of_rank level from to r)) found
              ∙ q.2
        ]

    number-settled : is_nan x ≡ false → UsableFrom level from to → is_nan (settled level from to x r) ≡ false
    number-settled n u =
        elim (ℕ_discrete r (rank x)) [
          | yes e ↦ ap is_nan (settled-same level from to x r e) ∙ n
          | no q ↦
              ap is_nan (settled-other level from to x r q)
              ∙ no-nan (get_or level (place_of_rank level from to r) nan) (place-usable level from to r (among q) u)
        ]

    pub settling
        : to ≤ length level → is_nan x ≡ false → UsableFrom level from to → Settling beyond m level from to x r
    settling l n u =
        record {
          asked = record { within = l; number = n; all_usable = u; among = among };
          bits = settled-bits;
          a-number = number-settled n u;
        }
