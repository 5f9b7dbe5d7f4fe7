-- `sound::sound` meets its contract: the length, the check, the layout, in this order.
-- Assumes nothing.
use mathlib.Core.Path.{◌≡◌, refl, ap, sym, ◌∙◌}
use mathlib.Core.List.{List}
use Prim.Native.Nat.{ℕ}
use lib.ListN.{length}
use Rattle.little.specs.Bytes.{part, little}
use Rattle.layout.specs.Editions.{block_length, check_at, one}
use Rattle.layout.specs.Layout.{check, check_sum}
use Rattle.layout.proofs.Faults.{length-fault, check-fault, layout-fault, sound-fault}
use Rattle.checksum.proofs.Sums.{sum-of-block}
use Rattle.block.specs.Answers.{with_code, sound_of}
use Rattle.block.proofs.sound.sound.Goals.{In-Ok, After-has_layout_one}
use Rattle.block.proofs.sound.sound.Goals as goal

check-read : (b : List ℕ) → check b ≡ little (part check_at 4 b)
unfolding check
check-read b = refl

-- the array is the whole list, which has the length of a block
same : (c : In-Ok) → c.in-Ok.block.now ≡ c.args.block.now
same c = c.in-Ok.ensures.1.same

long : (c : In-Ok) → length c.in-Ok.block.now ≡ block_length
long c = ap length (same c) ∙ c.in-Ok.ensures.1.long

right
    : (c : After-has_layout_one) → length c.in-Ok.block.now ≡ block_length →
    check c.in-Ok.block.now
    ≡ check_sum c.in-Ok.block.now
right c n =
    let b = c.in-Ok.block.now in
    check-read b
    ∙ sym c.word_at.ensures
    ∙ c.if-word_at-check_sum.false
    ∙ c.check_sum.ensures
    ∙ sum-of-block b n

pub returns-in_default : goal.returns-in_default
returns-in_default c = ap with_code (sym (length-fault one c.args.block.now c.in_default.ensures.1))

pub returns-then-word_at-check_sum : goal.returns-then-word_at-check_sum
returns-then-word_at-check_sum c =
    let b = c.in-Ok.block.now in
    let at = (goal.at.returns-then-word_at-check_sum c).In-Ok in
    let wrong : check b ≡ check_sum b → ⊥ =
    λ e.
    c.if-word_at-check_sum.true
    (c.word_at.ensures
    ∙ sym (check-read b)
    ∙ e
    ∙ sym (c.check_sum.ensures ∙ sum-of-block b (long at))) in
    ap with_code (sym (check-fault one b (long at) wrong)) ∙ ap sound_of (same at)

pub returns-then-not-has_layout_one : goal.returns-then-not-has_layout_one
returns-then-not-has_layout_one c =
    let at = goal.at.returns-then-not-has_layout_one c in
    let n = long at.In-Ok in
    ap with_code
    (sym
    (layout-fault one c.in-Ok.block.now n (right at.After-has_layout_one n)
    (sym c.has_layout_one.ensures ∙ c.if-not-has_layout_one.true)))
    ∙ ap sound_of (same at.In-Ok)

pub returns : goal.returns
returns c =
    let at = goal.at.returns c in
    let n = long at.In-Ok in
    ap with_code
    (sym
    (sound-fault one c.in-Ok.block.now n (right at.After-has_layout_one n)
    (sym c.has_layout_one.ensures ∙ c.if-not-has_layout_one.false)))
    ∙ ap sound_of (same at.In-Ok)
