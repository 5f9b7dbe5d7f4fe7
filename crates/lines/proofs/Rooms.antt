-- What is put where there is room, and where there is none.
-- Assumes nothing.
use mathlib.Core.Path.{◌≡◌, sym, ap}
use mathlib.Core.Bool.{Bool, true, false, cond}
use mathlib.Core.List.{List}
use Prim.Native.Nat.{ℕ, ◌+◌, ◌≤◌, ◌<◌}
use borrow.Author.Tests.{le-leb, lt-leb}
use lib.ListN.{length}
use lib.Seq.{paste}
use Rattle.lines.specs.Line.{room, after, written}

-- the place after the text, and the line with it
abbrev pub Puts : ℕ → List ℕ → List ℕ → ℕ → List ℕ → Type 0
Puts at text line place line' = (place ≡ after at text line) × (line' ≡ written at text line)

puts-by
    : (at : ℕ) (text line : List ℕ) (t : Bool) → room at text line ≡ t → Puts at text line (cond t (at + length text) at) (cond t (paste line at text (length text)) line)
puts-by at text line t e =
    (sym (ap (λ t. cond t (at + length text) at) e), sym (ap (λ t. cond t (paste line at text (length text)) line) e))

pub room-puts : (at : ℕ) (text line : List ℕ) → at + length text ≤ length line → Puts at text line (at + length text) (paste line at text (length text))
room-puts at text line h = puts-by at text line true (le-leb (at + length text) (length line) h)

pub no-room-puts : (at : ℕ) (text line : List ℕ) → length line < at + length text → Puts at text line at line
no-room-puts at text line h = puts-by at text line false (lt-leb (at + length text) (length line) h)
