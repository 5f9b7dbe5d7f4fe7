-- `state::eight` meets its contract.
-- Assumes nothing.
use mathlib.Core.Path.{◌≡◌, ◌∙◌}
use mathlib.Core.List.{List, [], ◌∷◌}
use Prim.Native.Nat.{ℕ}
use native.Mathlib.Omega.{arith}
use lib.ListN.{length}
use Rattle.std.specs.Int.{w64, from_le_bytes}
use Rattle.little.specs.Bytes.{little}
use Rattle.hosts.proofs.state.eight.Goals as goal

eight-little : (bs : List ℕ) → length bs ≡ 8 → from_le_bytes w64 bs ≡ little bs
unfolding little
eight-little [] q = let f : ⊥ = omega arith in absurd f
eight-little (a ∷ []) q = let f : ⊥ = omega arith in absurd f
eight-little (a ∷ b ∷ []) q = let f : ⊥ = omega arith in absurd f
eight-little (a ∷ b ∷ c ∷ []) q = let f : ⊥ = omega arith in absurd f
eight-little (a ∷ b ∷ c ∷ d ∷ []) q = let f : ⊥ = omega arith in absurd f
eight-little (a ∷ b ∷ c ∷ d ∷ e ∷ []) q = let f : ⊥ = omega arith in absurd f
eight-little (a ∷ b ∷ c ∷ d ∷ e ∷ f ∷ []) q = let f : ⊥ = omega arith in absurd f
eight-little (a ∷ b ∷ c ∷ d ∷ e ∷ f ∷ g ∷ []) q = let f : ⊥ = omega arith in absurd f
eight-little (a ∷ b ∷ c ∷ d ∷ e ∷ f ∷ g ∷ h ∷ []) q = omega arith
eight-little (a ∷ b ∷ c ∷ d ∷ e ∷ f ∷ g ∷ h ∷ x ∷ xs) q = let f : ⊥ = omega arith in absurd f

pub returns : goal.returns
returns c = c.from_le_bytes.ensures ∙ eight-little c.args.marks.now c.told-marks
