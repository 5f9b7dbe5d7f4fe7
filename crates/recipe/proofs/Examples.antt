-- The twelve small runs and five stops, by computation.
-- Assumes nothing.
use mathlib.Core.Path.{◌≡◌, refl}
use mathlib.Core.List.{List, [], ◌∷◌}
use Prim.Native.Nat.{ℕ}
use lib.ListN.{replicate}
use Rattle.checked.specs.declared.types.Checked.TheVariants.{Fits, Overflowed}
use Rattle.checked.specs.Value.{checked_of, limit_of}
use Rattle.checked.specs.Paper.{Paper, given}
use Rattle.shape.specs.Items.{kind_of}
use Rattle.shape.specs.Shape.{shape_from, shape_at, shape_of}
use Rattle.steps.specs.declared.types.Phase.TheVariants.{Between, InPower, InLogarithm}
use Rattle.steps.specs.Steps.{begun, after}
use Rattle.recipe.specs.Run.{run_of, ended, stopped, refused_at}

-- a run at 8 bits with the largest allowance ends so
abbrev ends-so : List ℕ → List ℕ → Paper → ℕ → Type 0
ends-so ks ns answer steps = run_of 8 ks ns (limit_of 64) ≡ ended answer steps

pub small-runs
    : ends-so (0 ∷ 0 ∷ 1 ∷ []) (255 ∷ 1 ∷ 0 ∷ []) (given Overflowed) 3
    × ends-so (0 ∷ 0 ∷ 1 ∷ 0 ∷ 2 ∷ []) (255 ∷ 1 ∷ 0 ∷ 0 ∷ 0 ∷ []) (given (Fits 0)) 5
    × ends-so (0 ∷ 0 ∷ 0 ∷ 1 ∷ 2 ∷ []) (0 ∷ 255 ∷ 1 ∷ 0 ∷ 0 ∷ []) (given (Fits 0)) 5
    × ends-so (0 ∷ 0 ∷ 3 ∷ []) (7 ∷ 0 ∷ 0 ∷ []) (refused_at 1 2) 3
    × ends-so (0 ∷ 0 ∷ 1 ∷ 0 ∷ 3 ∷ []) (255 ∷ 1 ∷ 0 ∷ 0 ∷ 0 ∷ []) (refused_at 3 4) 5
    × ends-so (0 ∷ 0 ∷ 5 ∷ []) (2 ∷ 7 ∷ 0 ∷ []) (given (Fits 128)) 6
    × ends-so (0 ∷ 0 ∷ 5 ∷ []) (2 ∷ 8 ∷ 0 ∷ []) (given Overflowed) 7
    × ends-so (0 ∷ 0 ∷ 5 ∷ []) (16 ∷ 1 ∷ 0 ∷ []) (given (Fits 16)) 4
    × ends-so (0 ∷ 0 ∷ 5 ∷ []) (0 ∷ 0 ∷ 0 ∷ []) (given (Fits 1)) 3
    × ends-so (0 ∷ 0 ∷ 6 ∷ []) (2 ∷ 255 ∷ 0 ∷ []) (given (Fits 7)) 10
    × ends-so (0 ∷ 0 ∷ 6 ∷ []) (10 ∷ 0 ∷ 0 ∷ []) (given (Fits 0)) 3
    × ends-so (0 ∷ 0 ∷ 6 ∷ []) (1 ∷ 5 ∷ 0 ∷ []) (refused_at 2 2) 3
unfolding run_of shape_of shape_at shape_from kind_of after begun checked_of
small-runs = (refl, refl, refl, refl, refl, refl, refl, refl, refl, refl, refl, refl)

-- ---- stopped sooner

-- 255 1 sum 0 product after 3 steps: an overflowed value is on hand. 3 5 sum after 2: 5 is on 3, and the places show 3
-- first. 2 8 power after 5: the power holds 1, 16 and 2. 16 3 power after 4: its second value is overflowed
pub small-stops
    : (run_of 8 (0 ∷ 0 ∷ 1 ∷ 0 ∷ 2 ∷ []) (255 ∷ 1 ∷ 0 ∷ 0 ∷ 0 ∷ []) 3 ≡ stopped 3 3 (Overflowed ∷ []) Between)
    × (run_of 8 (0 ∷ 0 ∷ 1 ∷ []) (3 ∷ 5 ∷ 0 ∷ []) 2 ≡ stopped 2 2 (Fits 5 ∷ Fits 3 ∷ []) Between)
    × ((run_of 8 (0 ∷ 0 ∷ 1 ∷ []) (3 ∷ 5 ∷ 0 ∷ []) 2).numbers ≡ 3 ∷ 5 ∷ replicate 30 0)
    × (run_of 8 (0 ∷ 0 ∷ 5 ∷ []) (2 ∷ 8 ∷ 0 ∷ []) 5
    ≡ stopped 5 2 [] (InPower (record { first = Fits 1; second = Fits 16; exponent = 2 })))
    × (run_of 8 (0 ∷ 0 ∷ 5 ∷ []) (16 ∷ 3 ∷ 0 ∷ []) 4
    ≡ stopped 4 2 [] (InPower (record { first = Fits 16; second = Overflowed; exponent = 1 })))
    × (run_of 8 (0 ∷ 0 ∷ 6 ∷ []) (2 ∷ 255 ∷ 0 ∷ []) 5
    ≡ stopped 5 2 [] (InLogarithm (record { base = 2; left = 63; count = 2 })))
unfolding run_of shape_of shape_at shape_from kind_of after begun checked_of
small-stops = (refl, refl, refl, refl, refl, refl)
