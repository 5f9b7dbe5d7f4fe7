-- The contracts of the entries on levels leave one number to return and one content of each list that was lent, a
-- list of floats by its bits; and floats of 32 bits are told by their bits.
-- Assumes nothing.
use mathlib.Core.Path.{◌≡◌, refl, ap, ap₂, sym, ◌∙◌}
use mathlib.Core.List.{List, [], ◌∷◌, map}
use Prim.Native.Nat.{ℕ, suc}
use lib.Ieee.{Float, binary32, of_bits}
use Rattle.little.proofs.Unique.{value-unique}
use Rattle.reading.proofs.Order.{back-from-bits}
use Rattle.level.specs.Extent.{Readings}
use Rattle.level.specs.Scan.{scan_of}
use Rattle.turn.specs.Turning.{turning_of}
use Rattle.entry.specs.Entry.{answer_code, answer_list}
use Rattle.floats.specs.Levels.{bits_in, scan_for, of_level_scan, extent_beside, ScansLevelForHost}
use Rattle.floats.specs.Levels.{of_turning, turned_beside, unmarked_beside, TurnsForHost}

-- a list of 32-bit floats is determined by its bits
bits-back : (floats : List Float) → Readings floats → map (of_bits binary32) (bits_in floats) ≡ floats
bits-back [] f = refl
bits-back (x ∷ xs) f = ap₂ (λ y ys. y ∷ ys) (back-from-bits x (f 0)) (bits-back xs (λ i. f (suc i)))

pub floats-unique : (xs ys : List Float) → Readings xs → Readings ys → bits_in xs ≡ bits_in ys → xs ≡ ys
floats-unique xs ys f g e = sym (bits-back xs f) ∙ ap (map (of_bits binary32)) e ∙ bits-back ys g

-- the scan: the number, the list of its answer, and the bits in the list of the least and the greatest
pub host-level-scan-unique
    : (level : List Float) (grounds : List ℕ) (extent : List Float) (lent : List ℕ) (r s : ℕ) (now now' : List ℕ)
    (after after' : List Float) →
    ScansLevelForHost level grounds extent lent r now after → ScansLevelForHost level grounds extent lent s now' after' →
    (r ≡ s) × (now ≡ now') × (bits_in after ≡ bits_in after')
host-level-scan-unique level grounds extent lent r s now now' after after' g h =
    let t = of_level_scan (scan_for extent (scan_of level grounds)) in (
      value-unique r s (answer_code t lent) g.0 h.0,
      value-unique now now' (answer_list t lent) g.1 h.1,
      value-unique (bits_in after) (bits_in after') (extent_beside level grounds extent lent) g.2 h.2,
    )

-- a level turned into a field: the number, the list of its answer, and the two lists that are filled
pub host-turn-unique
    : (level : List Float) (grounds numbers marks lent : List ℕ) (r s : ℕ) (now ns ms now' ns' ms' : List ℕ) →
    TurnsForHost level grounds numbers marks lent r now ns ms → TurnsForHost level grounds numbers marks lent s now' ns' ms' →
    (r ≡ s) × (now ≡ now') × (ns ≡ ns') × (ms ≡ ms')
host-turn-unique level grounds numbers marks lent r s now ns ms now' ns' ms' g h =
    let t = of_turning (turning_of level grounds numbers marks) in (
      value-unique r s (answer_code t lent) g.0 h.0,
      value-unique now now' (answer_list t lent) g.1 h.1,
      value-unique ns ns' (turned_beside level grounds numbers marks lent) g.2 h.2,
      value-unique ms ms' (unmarked_beside level grounds numbers marks lent) g.3 h.3,
    )
