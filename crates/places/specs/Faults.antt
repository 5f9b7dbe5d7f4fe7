-- The earliest place with a fault, and which. A place's fault is a refusal's number, given as a function of the
-- place; 0 is none.
-- Assumes nothing.
use Rattle.std.specs.Prelude.{◌≡◌, Bool, not, cond, ℕ, ◌<◌, eqb, ltb}
use Rattle.places.specs.Places.{first}

abbrev pub faulty : (ℕ → ℕ) → ℕ → Bool
faulty fault i = not (eqb (fault i) 0)

-- the earliest of n places with a fault, or n
abbrev pub first_fault : (ℕ → ℕ) → ℕ → ℕ
first_fault fault n = first (faulty fault) n

-- what is answered at the earliest of n places with a fault, given its number and place; or what is answered where
-- there is none
abbrev pub at_first_fault : {A : Type 0} → (ℕ → ℕ) → ℕ → (ℕ → ℕ → A) → A → A
at_first_fault fault n refused none =
    cond (ltb (first_fault fault n) n) (refused (fault (first_fault fault n)) (first_fault fault n)) none

-- ---- in the words of the promises

-- no place before i has a fault
abbrev pub NoFaultBefore : (ℕ → ℕ) → ℕ → Type 0
NoFaultBefore fault i = (j : ℕ) → j < i → fault j ≡ 0

-- i is one of n places, c is its fault, and no place before it has one
abbrev pub FirstFault : (ℕ → ℕ) → ℕ → ℕ → ℕ → Type 0
FirstFault fault n c i = (i < n) × (fault i ≡ c) × NoFaultBefore fault i
