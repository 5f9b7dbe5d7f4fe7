-- Readings looked at all together: 0 for each that is whole and 1 for any other, joined by 'or'.
-- Assumes nothing.
use mathlib.Core.Path.{◌≡◌, refl, ap, ap₂, sym, ◌∙◌}
use mathlib.Core.Bool.{Bool, true, false, cond, ◌&&◌}
use mathlib.Core.List.{List}
use Prim.Native.Nat.{ℕ, ◌+◌}
use native.Mathlib.Numerals.{add-one}
use lib.Bits.{bit_or}
use lib.Dec.{eqb}
use lib.Ieee.{Float}
use Rattle.places.specs.Places.{every}
use Rattle.places.proofs.Every.{every-none, every-more}
use Rattle.turn.specs.Wholes.{is_whole_at}

joined : (s t : Bool) → bit_or (cond s 0 1) (cond t 0 1) ≡ cond (s && t) 0 1
joined true true = refl
joined true false = refl
joined false true = refl
joined false false = refl

none-unfit : (t : Bool) → eqb (cond t 0 1) 0 ≡ t
none-unfit true = refl
none-unfit false = refl

module _ (level : List Float) where
  pub unfit-start : ◌≡◌ {A = ℕ} 0 (cond (every (is_whole_at level) 0) 0 1)
  unfit-start = ap (λ t. cond t 0 1) (sym (every-none (is_whole_at level)))

  module _ (i : ℕ) {any : ℕ} (here : any ≡ cond (every (is_whole_at level) i) 0 1) where
    pub unfit-turn
        : {r : ℕ} → r ≡ cond (is_whole_at level i) 0 1 → bit_or any r ≡ cond (every (is_whole_at level) (i + 1)) 0 1
    unfit-turn e =
        ap₂ bit_or here e
        ∙ joined (every (is_whole_at level) i) (is_whole_at level i)
        ∙ ap (λ t. cond t 0 1) (sym (every-more (is_whole_at level) i))
        ∙ ap (λ k. cond (every (is_whole_at level) k) 0 1) (sym (add-one i))

    pub unfit-end : (n : ℕ) → i ≡ n → eqb any 0 ≡ every (is_whole_at level) n
    unfit-end n e =
        ap (λ a. eqb a 0) here ∙ none-unfit (every (is_whole_at level) i) ∙ ap (every (is_whole_at level)) e
