-- What an entry for C returns and what the lent slice has afterwards. An operation's answer is in numbers: the refusal's number, or 0 with the value's mark and number.
-- Assumes nothing.
use Rattle.std.specs.Prelude.{cond, List, [], ◌∷◌, ◌++◌, ℕ, eqb, ltb, length, drop}
use Rattle.checked.specs.Paper.{Paper}
use Rattle.little.specs.Bytes.{bytes_of}

-- a mark and seven zeros
abbrev pub mark_bytes : ℕ → List ℕ
mark_bytes mark = mark ∷ 0 ∷ 0 ∷ 0 ∷ 0 ∷ 0 ∷ 0 ∷ 0 ∷ []

-- the 16 bytes of a value: its number, the lowest byte first, its mark, and seven zeros
abbrev pub result_bytes : ℕ → ℕ → List ℕ
result_bytes number mark = bytes_of 8 number ++ mark_bytes mark

-- a slice shorter than 16 bytes is refused before anything else is looked at
unfoldable pub returned : Paper → List ℕ → ℕ
returned p result = cond (ltb (length result) 16) 19 p.code

-- with 0 the 16 bytes are written and later ones stay; otherwise all stay
unfoldable pub afterwards : Paper → List ℕ → List ℕ
afterwards p result = cond (eqb (returned p result) 0) (result_bytes p.number p.mark ++ drop 16 result) result
