-- Bytes that are zero.
-- Assumes nothing.
use Rattle.std.specs.Prelude.{Bool, List, ℕ, ◌+◌, ◌-◌, eqb}
use Rattle.places.specs.Places.{every}
use Rattle.little.specs.Bytes.{byte_at}

abbrev pub zero_at : List ℕ → ℕ → Bool
zero_at b i = eqb (byte_at b i) 0

-- the bytes from place `from` to before place `to` are zero
unfoldable pub zeros : ℕ → ℕ → List ℕ → Bool
zeros from to b = every (λ i. zero_at b (from + i)) (to - from)
