-- `limited::mul_halves` meets its contract, by the laws on a product from halves at the base 2^32.
-- Assumes nothing.
use mathlib.Core.Path.{◌≡◌, ap, ◌∙◌}
use Prim.Native.Nat.{ℕ, ◌+◌, ◌*◌, ◌%◌, ◌≤◌, ◌<◌}
use native.Mathlib.Decide.{dec_le}
use native.Mathlib.Omega.{arith}
use Rattle.checked.specs.declared.types.Checked.TheVariants.{Fits}
use Rattle.checked.specs.Halves.{lows}
use Rattle.checked.proofs.Below.{both-below-exactly}
use Rattle.checked.proofs.Halves.{middle_by, joined, below-square-by-lesser, middle-below}
use Rattle.checked.proofs.Limit.{fits, over}
use Rattle.checked.proofs.limited.mul_halves.Goals.{Start, Then-lesser-middle-lt-TWO_TO_32}
use Rattle.checked.proofs.limited.mul_halves.Goals as goal

abbrev B : ℕ
B = 4294967296

base : 0 < B
base = omega arith

abbrev product : Start → ℕ
product s = s.args.greater * s.args.lesser

abbrev middle : Start → ℕ
middle s = middle_by B s.args.greater s.args.lesser

middle-fits : (c : Start) → middle c ≤ 18446744073709551615
middle-fits c =
    let within : c.args.greater < B * B = omega (arith, c.ranges.greater) in
    omega (arith, middle-below B c.args.greater c.args.lesser base within)

below : (c : Then-lesser-middle-lt-TWO_TO_32) → (c.args.lesser < B) × (middle c.before < B)
below c = (both-below-exactly 32 c.args.lesser (middle c.before)).0 c.if-lesser-middle-lt-TWO_TO_32.true

parts-joined
    : (c : Then-lesser-middle-lt-TWO_TO_32) →
    middle c.before * B + lows B c.args.greater c.args.lesser % B ≡ product c.before
parts-joined c = joined B c.args.greater c.args.lesser base (below c).0

pub overflow_mul-product : goal.overflow_mul-product
overflow_mul-product c = omega (arith, below (goal.at.overflow_mul-product c).Then-lesser-middle-lt-TWO_TO_32)

pub overflow_add-product : goal.overflow_add-product
overflow_add-product c = omega (arith, below (goal.at.overflow_add-product c).Then-lesser-middle-lt-TWO_TO_32)

pub returns-then-product-limit : goal.returns-then-product-limit
returns-then-product-limit c =
    let s = c in
    let is = parts-joined (goal.at.returns-then-product-limit c).Then-lesser-middle-lt-TWO_TO_32 in
    ap Fits is ∙ fits s.args.limit (product (goal.at.returns-then-product-limit s).Start) (omega (arith, is, c.if-product-limit.true))

pub returns-else-product-limit : goal.returns-else-product-limit
returns-else-product-limit c =
    let s = c in
    over s.args.limit (product (goal.at.returns-else-product-limit s).Start) (omega (arith, parts-joined (goal.at.returns-else-product-limit c).Then-lesser-middle-lt-TWO_TO_32, c.if-product-limit.false))

pub returns-else-lesser-middle-lt-TWO_TO_32 : goal.returns-else-lesser-middle-lt-TWO_TO_32
returns-else-lesser-middle-lt-TWO_TO_32 c =
    let s = c in
    elim (dec_le (product (goal.at.returns-else-lesser-middle-lt-TWO_TO_32 s).Start) s.args.limit) [
      | yes within ↦
          let square : product (goal.at.returns-else-lesser-middle-lt-TWO_TO_32 s).Start < B * B = omega (arith, s.ranges.limit) in
          let parts = (below-square-by-lesser B s.args.greater s.args.lesser base s.requires).0 square in
          let test = (both-below-exactly 32 s.args.lesser (middle (goal.at.returns-else-lesser-middle-lt-TWO_TO_32 s).Start)).1 parts in
          absurd (omega (arith, c.if-lesser-middle-lt-TWO_TO_32.false))
      | no beyond ↦ over s.args.limit (product (goal.at.returns-else-lesser-middle-lt-TWO_TO_32 s).Start) (omega arith)
    ]
