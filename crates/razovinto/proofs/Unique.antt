-- An entry's contract leaves one number to return and one content of the slice.
-- Assumes nothing.
use mathlib.Core.Path.{◌≡◌, sym, ◌∙◌}
use mathlib.Core.List.{List}
use Prim.Native.Nat.{ℕ}
use Rattle.checked.specs.Paper.{Paper}
use Rattle.razovinto.specs.Entry.{returned, afterwards}

pub entry-unique
    : (p : Paper) (result : List ℕ) (r s : ℕ) (written other : List ℕ) → (r ≡ returned p result) × (written ≡ afterwards p result) → (s ≡ returned p result) × (other ≡ afterwards p result) → (r ≡ s) × (written ≡ other)
entry-unique p result r s written other g h = (g.0 ∙ sym h.0, g.1 ∙ sym h.1)
