-- The scan's loop over parts: what is known before a part, and that it is known after it.
-- Assumes nothing.
use mathlib.Core.Path.{◌≡◌, refl, ap, ap₂, sym, ◌∙◌, subst}
use mathlib.Core.Logic.{inl, inr}
use mathlib.Core.Bool.{true, false}
use mathlib.Core.List.{List}
use Prim.Native.Nat.{ℕ, ◌≤◌, ◌<◌}
use native.Mathlib.Decide.{dec_lt}
use native.Mathlib.Omega.{arith}
use lib.Dec.{T, ltb}
use lib.ListN.{length, get_or}
use lib.Ieee.{Float, nan, binary32, fits, is_nan, of_bits, nan_bits}
use lib.Ieee.Bits.{nan_bits_is}
use Rattle.places.specs.Places.{every}
use Rattle.places.specs.Faults.{NoFaultBefore}
use Rattle.places.proofs.Faults.{no-fault-before-0}
use Rattle.reading.specs.Reading.{marked_at}
use Rattle.reading.specs.Order.{bits_of, rank_of}
use Rattle.reading.specs.Level.{fault_at}
use Rattle.reading.proofs.Order.{bits-below, unsigned-rank, signed-rank, bits-of-made}
use Rattle.level.specs.Extent.{bits_at, lower, higher, infinity, minus_infinity, lowest, highest}
use Rattle.level.specs.Ranks.{UsableFrom, UnusableFrom, RankedTo, place_of_rank, settled}
use Rattle.level.specs.Scan.{ranged, scan_of}
use Rattle.level.proofs.Kept.{kept-none, downwards, upwards, stays-or-placed}
use Rattle.level.proofs.Parts.{Settling, settling}
use Rattle.level.proofs.Stages.{at-extent, passed-on}

-- x and y are the least and the greatest of the readings before place i, which have no fault
pub record Passed (level : List Float) (grounds : List ℕ) (x y : Float) (i : ℕ) : Type 0 where
  pub within : i ≤ length level
  pub no-fault : NoFaultBefore (fault_at level grounds) i
  pub least : bits_of x ≡ lowest level i
  pub greatest : bits_of y ≡ highest level i
  pub least-number : is_nan x ≡ false
  pub greatest-number : is_nan y ≡ false

-- ---- before the first part

made-number : (b : ℕ) → nan_bits binary32 b ≡ false → is_nan (of_bits binary32 b) ≡ false
made-number b n = sym (nan_bits_is binary32 b) ∙ n

infinity-number : nan_bits binary32 infinity ≡ false
unfolding nan_bits
infinity-number = refl

minus-infinity-number : nan_bits binary32 minus_infinity ≡ false
unfolding nan_bits
minus-infinity-number = refl

pub passed-none
    : (level : List Float) (grounds : List ℕ) →
    Passed level grounds (of_bits binary32 infinity) (of_bits binary32 minus_infinity) 0
passed-none level grounds =
    record {
      within = omega arith;
      no-fault = no-fault-before-0 (fault_at level grounds);
      least =
          bits-of-made infinity (omega arith) infinity-number ∙ sym (kept-none lower infinity (bits_at level));
      greatest =
          bits-of-made minus_infinity (omega arith) minus-infinity-number
          ∙ sym (kept-none higher minus_infinity (bits_at level));
      least-number = made-number infinity infinity-number;
      greatest-number = made-number minus_infinity minus-infinity-number;
    }

-- ---- 0 is the rank of nothing that is kept

rank-positive : (b : ℕ) → b < 4294967296 → 0 < rank_of b
rank-positive b h =
    elim (dec_lt b 2147483648) [
      | yes l ↦ let e = unsigned-rank b l in omega arith
      | no l ↦ let e = signed-rank b (omega arith) in omega arith
    ]

lowest-positive
    : (level : List Float) → ((j : ℕ) → T (fits binary32 (get_or level j nan))) → (n : ℕ) → 0 < rank_of (lowest level n)
lowest-positive level fitting n = rank-positive (lowest level n) below
  where
    below : lowest level n < 4294967296
    below =
        elim (stays-or-placed ltb downwards infinity (bits_at level) 0 n (omega arith)) [
          | inl s ↦ let e = kept-none lower infinity (bits_at level) in omega arith
          | inr q ↦
              let p = place_of_rank level 0 n (rank_of (lowest level n)) in
              let b = bits-below (get_or level p nan) (fitting p) in
              let e = q.2 in omega arith
        ]

-- ---- a part

-- what is passed before it, and the ranks that are found up to its end
pub record Part (level : List Float) (grounds : List ℕ) (x y : Float) (from to least greatest : ℕ) : Type 0 where
  pub passed : Passed level grounds x y from
  pub forward : from ≤ to
  pub within : to ≤ length level
  pub ranked : RankedTo level from to least greatest

module _
    {level : List Float} {grounds : List ℕ} {x y : Float} {from to least greatest : ℕ}
    (part : Part level grounds x y from to least greatest)
  where
    pub unusable-in
        : ((j : ℕ) → T (fits binary32 (get_or level j nan))) → least ≡ 0 → UnusableFrom level from to
    unusable-in fitting z =
        elim part.ranked [
          | inl u ↦ u.0
          | inr u ↦ let e = u.1 in let p = lowest-positive level fitting to in absurd (omega arith)
        ]

    module _ (usable : least ≡ 0 → ⊥) where
      usable-in
          : UsableFrom level from to × (least ≡ rank_of (lowest level to)) × (greatest ≡ rank_of (highest level to))
      usable-in =
          elim part.ranked [
            | inl u ↦ absurd (usable u.1)
            | inr u ↦ u
          ]

      pub least-settles : Settling ltb infinity level from to x least
      least-settles =
          settling ltb downwards infinity level from to x least part.forward part.passed.least
          usable-in.1 part.within part.passed.least-number usable-in.0

      pub greatest-settles : Settling (λ r s. ltb s r) minus_infinity level from to y greatest
      greatest-settles =
          settling (λ r s. ltb s r) upwards minus_infinity level from to y greatest part.forward
          part.passed.greatest usable-in.2 part.within part.passed.greatest-number usable-in.0

      pub passed-part
          : {x' y' : Float} → every (marked_at grounds) (length level) ≡ true → x' ≡ settled level from to x least →
          y' ≡ settled level from to y greatest → Passed level grounds x' y' to
      passed-part marked l g =
          record {
            within = part.within;
            no-fault =
                passed-on level grounds from to marked part.within part.passed.no-fault usable-in.0;
            least = ap bits_of l ∙ least-settles.bits;
            greatest = ap bits_of g ∙ greatest-settles.bits;
            least-number = ap is_nan l ∙ least-settles.a-number;
            greatest-number = ap is_nan g ∙ greatest-settles.a-number;
          }

-- ---- past the last part

pub passed-all
    : (level : List Float) (grounds : List ℕ) {x y : Float} {i : ℕ} → length level ≡ length grounds →
    (length level ≡ 0 → ⊥) → length level ≤ i → Passed level grounds x y i →
    ranged (bits_of x) (bits_of y) ≡ scan_of level grounds
passed-all level grounds {i = i} e n h p =
    let w = p.within in
    let past : i ≡ length level = omega arith in
    ap₂ ranged (p.least ∙ ap (lowest level) past) (p.greatest ∙ ap (highest level) past)
    ∙ sym (at-extent level grounds e n (subst (NoFaultBefore (fault_at level grounds)) past p.no-fault))
