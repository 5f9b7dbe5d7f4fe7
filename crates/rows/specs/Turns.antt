-- How a row is worked out: how many operations, and what happens to marks and codes.
-- Assumes nothing.
use Rattle.std.specs.Prelude.{cond, List, ℕ, eqb, set}
use Rattle.places.specs.Places.{over}

-- all n operations, or none on refusal
abbrev pub turns_of : (code n : ℕ) → ℕ
turns_of code n = cond (eqb code 0) n 0

-- the first n places are 0
abbrev pub cleared : ℕ → List ℕ → List ℕ
cleared n bytes = over (λ i. 0) n bytes

-- a mark or a code is written where it isn't 0
abbrev pub kept : (byte old : ℕ) → ℕ
kept byte old = cond (eqb byte 0) old byte

-- and so at place i
abbrev pub noted : (i byte : ℕ) → List ℕ → List ℕ
noted i byte bytes = cond (eqb byte 0) bytes (set bytes i byte)
