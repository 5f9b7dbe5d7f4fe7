-- What is put into a line of text, and where.
-- Assumes nothing.
use Rattle.std.specs.Prelude.{Bool, cond, List, ℕ, suc, ◌+◌, leb, length}
use Rattle.std.proofs.Math.Seq.{paste}
use Rattle.io.specs.Digits.{last_digits}
use Rattle.whole.specs.Logarithm.{log_of}

-- the decimal digits of n in ASCII, the highest first: log(10, n) + 1 of them
abbrev pub decimal : ℕ → List ℕ
decimal n = last_digits 10 (suc (log_of 10 n)) n

-- there is room for the text from place `at` on
abbrev pub room : ℕ → List ℕ → List ℕ → Bool
room at text line = leb (at + length text) (length line)

-- the place after the text, where there is room for it
abbrev pub after : ℕ → List ℕ → List ℕ → ℕ
after at text line = cond (room at text line) (at + length text) at

-- the line with the text in it, where there is room for it
abbrev pub written : ℕ → List ℕ → List ℕ → List ℕ
written at text line = cond (room at text line) (paste line at text (length text)) line
