-- What a state holds is of the width: at most 32 values are on hand.
-- Assumes nothing.
use mathlib.Core.Path.{ap}
use mathlib.Core.List.{List, []}
use Prim.Native.Nat.{ℕ, suc, ◌≤◌}
use native.Mathlib.Omega.{arith}
use lib.ListN.{length, length-map}
use Rattle.checked.specs.Value.{Value, checked_of}
use Rattle.shape.specs.Items.{Item}
use Rattle.shape.specs.Shape.{most_on_hand, Good}
use Rattle.shape.proofs.Held.{held-at-most}
use Rattle.meaning.specs.Faults.{hand_after}
use Rattle.meaning.proofs.Hands.{hand-held}
use Rattle.steps.specs.declared.types.Phase.{Phase}
use Rattle.steps.specs.declared.types.Phase.TheVariants.{Between, InPower, InLogarithm}
use Rattle.steps.specs.Steps.{going}
use Rattle.steps.specs.Shown.{values_of, ShowsMeaning}

module _ (M : ℕ) (xs : List Item) (g : Good M 0 xs) where
  meant-at-most : (d : ℕ) → length (values_of M (hand_after d [] xs)) ≤ most_on_hand
  meant-at-most d =
      let e = length-map (hand_after d [] xs) (checked_of M) in
      let l = hand-held M [] xs d g in
      let m = held-at-most M 0 xs d g (omega arith) in
      omega arith

  pub hand-at-most
      : (t d : ℕ) (hand : List Value) (p : Phase) (rest : List Item) → ShowsMeaning M xs (going t d hand p rest) →
      length hand ≤ most_on_hand
  hand-at-most t d hand Between rest (e, h) = let l = ap length h in omega (arith, meant-at-most d)
  hand-at-most t d hand (InPower p) rest (e, h) = let l = ap length h.0 in omega (arith, meant-at-most (suc d))
  hand-at-most t d hand (InLogarithm q) rest (e, h) = let l = ap length h.0 in omega (arith, meant-at-most (suc d))
