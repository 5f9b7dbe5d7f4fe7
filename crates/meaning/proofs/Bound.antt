-- The bound on the count of steps: an operation takes at most W further steps, and fewer than half of a well-formed recipe's items are operations.
-- Assumes nothing.
use mathlib.Core.Path.{◌≡◌, refl, ap, sym, ◌∙◌, subst}
use mathlib.Core.Bool.{Bool, true, false, cond, ◌&&◌}
use mathlib.Core.List.{List, [], ◌∷◌}
use Prim.Native.Nat.{ℕ, suc, ◌+◌, ◌-◌, ◌*◌, ◌/◌, ◌≤◌, ◌<◌, zero-le}
use native.Mathlib.Omega.{arith}
use lib.Dec.{eqb, leb}
use lib.ListN.{length}
use lib.Pow.{lt_of_le_ones}
use borrow.Author.Tests.{eqb-true}
use Rattle.whole.specs.Logarithm.{log_of}
use Rattle.checked.specs.Value.{limit_of}
use Rattle.checked.proofs.Logarithms.{log-below-width}
use Rattle.shape.specs.Items.{Operation, sum, product, quotient, remainder, power, logarithm, Kind, literal, operation, unknown, Item}
use Rattle.shape.specs.Shape.{Good}
use Rattle.meaning.specs.Meaning.{refusal_at, refusal_on, top, under, hand_on}
use Rattle.meaning.specs.Count.{digits, further_at, further_on, count_from, count}
use Rattle.meaning.proofs.Refusals.{BothFit, passed, counted, not-counted, both-fit-or-not}
use Rattle.meaning.proofs.Digits.{digits-at-most}
use Rattle.meaning.proofs.Operations.{operations_of, operations, length-odd}

-- ---- an operation

-- what is counted only where both operands fit
counted-at-most
    : (W l r n : ℕ) → (BothFit (limit_of W) l r → n ≤ W) → cond (leb l (limit_of W) && leb r (limit_of W)) n 0 ≤ W
counted-at-most W l r n h =
    both-fit-or-not (limit_of W) l r (λ b. omega (arith, counted (limit_of W) l r n b, h b))
    (λ o. omega (arith, not-counted (limit_of W) l r n o))

pub further-at-most
    : (W : ℕ) (o : Operation) (l r : ℕ) → 0 < W →
    refusal_at (limit_of W) o l r ≡ 0 → further_at (limit_of W) o l r ≤ W
further-at-most W sum l r w e = zero-le
further-at-most W product l r w e = zero-le
further-at-most W quotient l r w e = zero-le
further-at-most W remainder l r w e = zero-le
further-at-most W power l r w e =
    counted-at-most W l r (digits r) (λ b. digits-at-most W r (lt_of_le_ones W b.1))
further-at-most W logarithm l r w e =
    let base = (passed (limit_of W) logarithm l r e).1 in
    counted-at-most W l r (log_of l r)
    (λ b. omega (arith, log-below-width l r W (base b.0) w (lt_of_le_ones W b.1)))

-- with an operand above the limit it takes none
pub nothing-further
    : (M : ℕ) (o : Operation) (l r : ℕ) → (BothFit M l r → ⊥) → further_at M o l r ≡ 0
nothing-further M sum l r h = refl
nothing-further M product l r h = refl
nothing-further M quotient l r h = refl
nothing-further M remainder l r h = refl
nothing-further M power l r h = not-counted M l r (digits r) h
nothing-further M logarithm l r h = not-counted M l r (log_of l r) h

-- ---- a recipe

-- an item's further steps
item-at-most : (W : ℕ) (hand : List ℕ) (k : Kind) → 0 < W → refusal_on (limit_of W) hand k ≡ 0 → further_on (limit_of W) hand k ≤ W * operations_of k
item-at-most W hand literal w e = zero-le
item-at-most W hand (operation o) w e = omega (arith, further-at-most W o (top (under hand)) (top hand) w e)
item-at-most W hand unknown w e = zero-le

-- from here on: an item's count, with t the test of its refusal, f its further steps and c the count after it
from-at-most : (t : Bool) (W f c n p q : ℕ) → (t ≡ true → f ≤ W * p) → c ≤ n + W * q → elim t [ true ↦ suc (f + c) | false ↦ 1 ] ≤ suc n + W * (p + q)
from-at-most true W f c n p q h k = omega (arith, h refl)
from-at-most false W f c n p q h k = omega arith

count-from-at-most : (W : ℕ) (hand : List ℕ) (xs : List Item) → 0 < W → count_from (limit_of W) hand xs ≤ length xs + W * operations xs
unfolding count_from
count-from-at-most W hand [] w = zero-le
count-from-at-most W hand (x ∷ xs) w =
    from-at-most (eqb (refusal_on (limit_of W) hand x.kind) 0) W (further_on (limit_of W) hand x.kind) (count_from (limit_of W) (hand_on hand x) xs) (length xs) (operations_of x.kind)
    (operations xs) (λ e. item-at-most W hand x.kind w (eqb-true (refusal_on (limit_of W) hand x.kind) 0 e)) (count-from-at-most W (hand_on hand x) xs w)

-- W for each of the m operations among suc (m + m) items
pub halved : (W n m : ℕ) → n ≡ suc (m + m) → W * m ≡ W * (n - 1) / 2
halved W n m e =
    let p : n - 1 ≡ m + m = omega arith in
    sym (ap (λ k. W * k / 2) p ∙ twice (W * (m + m)) (W * m) (omega arith))
  where
    twice : (a b : ℕ) → a ≡ 2 * b → a / 2 ≡ b
    twice a b e = omega arith

-- n items take at most n + W (n - 1) / 2 steps
pub count-bound : (W : ℕ) (xs : List Item) → 0 < W → Good (limit_of W) 0 xs → count (limit_of W) xs ≤ length xs + W * (length xs - 1) / 2
count-bound W xs w g =
    subst (λ k. count (limit_of W) xs ≤ length xs + k) (halved W (length xs) (operations xs) (length-odd (limit_of W) xs g)) (count-from-at-most W [] xs w)
