-- What an arm of a `match` knows: that the value matched on is a constructor at what the arm binds.
-- Assumes nothing.
use mathlib.Core.Path.{◌≡◌, ap, sym, ◌∙◌}

-- an equation that holds of x holds of the value that the arm knows to be x
pub at {ℓ κ} : {A : Type ℓ} {B : Type κ} (f : A → B) {r : B} {x y : A} → r ≡ f x → y ≡ x → r ≡ f y
at f e p = e ∙ ap f (sym p)
