-- `sum::own` meets its contract. The invariant: `sum` is what is weighed from the check's first byte to before byte i.
-- Assumes nothing.
use mathlib.Core.Path.{◌≡◌, ap, ◌∙◌}
use mathlib.Core.List.{List}
use Prim.Native.Nat.{ℕ, ◌+◌, ◌≤◌}
use native.Mathlib.Numerals.{add-one}
use native.Mathlib.Omega.{arith}
use Rattle.places.specs.Places.{total}
use Rattle.places.proofs.Totals.{total-more}
use Rattle.little.specs.Bytes.{Bytes}
use Rattle.layout.specs.Editions.{check_at}
use Rattle.layout.specs.Layout.{weighed, check_sum}
use Rattle.layout.proofs.Check.{weighed-at-most, sums-at-most}
use Rattle.checksum.proofs.sum.own.Goals.{After-shared_slice_known-1}
use Rattle.checksum.proofs.sum.own.Goals as goal

start : (b : List ℕ) → check_sum b + 0 ≡ total (weighed b) check_at
unfolding check_sum
start b = omega arith

module _ (c : After-shared_slice_known-1) where
  abbrev b : List ℕ
  b = c.args.b.now

  abbrev i : ℕ
  i = c.loop-i.i

  here
      : (weighed b i ≤ 130560)
      × (total (weighed b) i ≤ 66846720)
      × (total (weighed b) (i + 1) ≡ total (weighed b) i + weighed b i)
  here =
      let bytes : Bytes b = λ j. (c.shared_slice_known-1.given j).fits in (
        weighed-at-most b i bytes c.loop-i-test.true,
        sums-at-most b i bytes (omega arith),
        ap (total (weighed b)) (add-one i) ∙ total-more (weighed b) i,
      )

pub loop-i-init : goal.loop-i-init
loop-i-init c = start c.args.b.now

pub overflow_add-sum-in-loop-i : goal.overflow_add-sum-in-loop-i
overflow_add-sum-in-loop-i c = omega (arith, here c)

pub loop-i-preserved : goal.loop-i-preserved
loop-i-preserved c = omega (arith, here c)
