-- The entries' definitions worked out at small lists. Nines are what the lent list held before.
-- Assumes nothing.
use mathlib.Core.Path.{◌≡◌, refl}
use mathlib.Core.List.{[], ◌∷◌}
use lib.IntN.{pos, negsuc}
use lib.ListN.{take}
use Rattle.little.specs.Bytes.{little, put}
use Rattle.shape.specs.Shape.{shape_of, shape_at, shape_from}
use Rattle.shape.specs.Items.{kind_of}
use Rattle.steps.specs.Steps.{after, begun}
use Rattle.recipe.specs.Run.{mark_of, places, run_of}
use Rattle.whole.specs.DivMod.{rust_div, ◌/ℤ◌}
use Rattle.checked.specs.Value.{checked_of}
use Rattle.checked.specs.declared.types.Checked.TheVariants.{Fits, Overflowed}
use Rattle.signed.specs.Signed.{quotient_of}
use Rattle.entry.specs.Entry.{answer_code, answer_list}
use Rattle.hosts.specs.Entry.{signed_code, signed_list}
use Rattle.hosts.specs.Answers.{of_shape, of_run, phase_words, mark_words}

-- '7 0 quotient' is well formed at 8 bits: the place 0 and the limit, and the last nine stays; a list of one number is
-- refused with 19, whatever the recipe is
pub shape-told
    : let t = of_shape (shape_of 8 (0 ∷ 0 ∷ 3 ∷ []) (7 ∷ 0 ∷ 0 ∷ [])) in
    (answer_code t (9 ∷ 9 ∷ 9 ∷ []) ≡ 0) × (answer_list t (9 ∷ 9 ∷ 9 ∷ []) ≡ 0 ∷ 255 ∷ 9 ∷ [])
    × (answer_code t (9 ∷ []) ≡ 19) × (answer_list t (9 ∷ []) ≡ 9 ∷ [])
unfolding answer_code put shape_of shape_at shape_from kind_of
shape-told = (refl, refl, refl, refl)

-- an operation with too few values on hand: the refusal's place is written, and 0 for the limit
pub shape-refused : answer_list (of_shape (shape_of 8 (0 ∷ 1 ∷ []) (7 ∷ 0 ∷ []))) (9 ∷ 9 ∷ 9 ∷ []) ≡ 1 ∷ 0 ∷ 9 ∷ []
unfolding put shape_of shape_at shape_from kind_of
shape-refused = refl

-- '2 7 power' at 8 bits, stopped after 5 steps: 20 at 2 items done, within a power with 8, 16 and the exponent 1
pub run-told
    : let t = of_run (run_of 8 (0 ∷ 0 ∷ 5 ∷ []) (2 ∷ 7 ∷ 0 ∷ []) 5) in
    (t.code ≡ 20)
    × (take 14 t.words ≡ 2 ∷ 0 ∷ 0 ∷ 5 ∷ 2 ∷ 1 ∷ 0 ∷ 8 ∷ 0 ∷ 16 ∷ 1 ∷ 0 ∷ 0 ∷ 0 ∷ [])
unfolding run_of shape_of shape_at shape_from kind_of after begun checked_of
run-told = (refl, refl)

-- the marks of a hand whose second place from the bottom is overflowed: the second byte of the first number
pub marks-told : mark_words (places mark_of (Overflowed ∷ Fits 7 ∷ [])) ≡ 256 ∷ 0 ∷ 0 ∷ 0 ∷ []
unfolding little
marks-told = refl

-- a power's numbers and a logarithm's stand at places of their own
pub phase-told
    : (phase_words (1 ∷ 0 ∷ 8 ∷ 1 ∷ 0 ∷ 3 ∷ []) ≡ 1 ∷ 0 ∷ 8 ∷ 1 ∷ 0 ∷ 3 ∷ 0 ∷ 0 ∷ 0 ∷ [])
    × (phase_words (2 ∷ 10 ∷ 99 ∷ 4 ∷ 0 ∷ 0 ∷ []) ≡ 2 ∷ 0 ∷ 0 ∷ 0 ∷ 0 ∷ 0 ∷ 10 ∷ 99 ∷ 4 ∷ [])
phase-told = (refl, refl)

-- -7 by 2 is -3; by 0 it is refused with 1, and the list stays
pub signed-told
    : (signed_list (quotient_of 64 (negsuc 6) (pos 2)) (pos 9 ∷ pos 9 ∷ []) ≡ negsuc 2 ∷ pos 9 ∷ [])
    × (signed_code (quotient_of 64 (negsuc 6) (pos 0)) (pos 9 ∷ []) ≡ 1)
    × (signed_list (quotient_of 64 (negsuc 6) (pos 0)) (pos 9 ∷ []) ≡ pos 9 ∷ [])
    × (signed_code (quotient_of 64 (negsuc 6) (pos 0)) [] ≡ 19)
unfolding signed_code signed_list quotient_of rust_div ◌/ℤ◌
signed-told = (refl, refl, refl, refl)
