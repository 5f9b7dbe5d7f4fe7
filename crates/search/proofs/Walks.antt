-- A run walked through block by block: when a block is passed, and what the answer is where the walk ends.
-- Assumes nothing.
use mathlib.Core.Path.{◌≡◌, ap, sym, ◌∙◌}
use mathlib.Core.Bool.{true}
use mathlib.Core.List.{List, ◌++◌}
use Prim.Native.Nat.{ℕ, ◌+◌, ◌*◌, ◌<◌}
use native.Mathlib.Omega.{arith}
use lib.Dec.{eqb}
use lib.ListN.{length, take, drop, length-append, length-drop}
use lib.Seq.{take-append_seam, drop-append_seam, drop-drop}
use Rattle.places.specs.Faults.{NoFaultBefore}
use Rattle.places.proofs.Every.{both-hold}
use Rattle.little.specs.Zeros.{zeros}
use Rattle.little.proofs.Zeros.{zeros-at}
use Rattle.layout.specs.Editions.{block_length, marks_at, one}
use Rattle.layout.specs.Layout.{edition_of}
use Rattle.layout.specs.Sound.{fault_of}
use Rattle.layout.specs.Runs.{blocks, block_at, Whole}
use Rattle.layout.proofs.Layouts.{sound-sizes}
use Rattle.block.specs.Marks.{no_marks}
use Rattle.search.specs.Search.{refused, none, found_at, end_at, search_of, OverflowsFirstAt, Quiet}
use Rattle.search.proofs.Stages.{quiet-before, at-bad, at-overflowed, at-none}

-- ---- a block's places

-- a sound block with no mark at all is passed
pub no-marks-quiet : (b : List ℕ) → fault_of b ≡ 0 → no_marks b ≡ true → Quiet b
unfolding no_marks
no-marks-quiet b z m =
    let n = (both-hold (eqb (length b) block_length) (zeros marks_at one.past b) m).1 in
    let s = (sound-sizes (edition_of b) b z).1 in
    (z, λ i h e. omega (arith, zeros-at marks_at one.past b n (marks_at + i) (omega arith) (omega arith)))

-- ---- the run cut into blocks

-- the block cut off what is left from block p on is the one at position p, and what is left goes on from the next
pub block-cut
    : (run : List ℕ) {rest block left : List ℕ} (p : ℕ) → rest ≡ drop (block_length * p) run → rest ≡ block ++ left →
    length block ≡ block_length →
    (block ≡ block_at run p) × (left ≡ drop (block_length * (p + 1)) run) × (p < blocks run)
block-cut run {rest} {block} {left} p here cut long =
    let e : block_length * p + block_length ≡ block_length * (p + 1) = omega arith in
    let c : block ++ left ≡ drop (block_length * p) run = sym cut ∙ here in
    let seam : take block_length (block ++ left) ≡ block = ap (λ k. take k (block ++ left)) (sym long) ∙ take-append_seam block left in
    let after : drop block_length (block ++ left) ≡ left = ap (λ k. drop k (block ++ left)) (sym long) ∙ drop-append_seam block left in (
      sym seam ∙ ap (take block_length) c,
      sym after
          ∙ ap (drop block_length) c
          ∙ drop-drop block_length (block_length * p) run
          ∙ ap (λ k. drop k run) e,
      omega (arith, ap length c, length-append block left, length-drop (block_length * p) run),
    )

-- ---- the walk ended, with every block before position p passed

module _ (run : List ℕ) (whole : Whole run) (p : ℕ) (passed : NoFaultBefore (end_at run) p) where
  pub bad-ends
      : (c : ℕ) → p < blocks run → fault_of (block_at run p) ≡ c → (c ≡ 0 → ⊥) → refused c p ≡ search_of run
  bad-ends c h f z =
      ap (λ c. refused c p) (sym f) ∙ sym (at-bad run p whole h (λ e. z (sym f ∙ e)) (quiet-before run p passed))

  pub found-ends
      : (i : ℕ) → p < blocks run → fault_of (block_at run p) ≡ 0 → OverflowsFirstAt (block_at run p) i →
      found_at p i ≡ search_of run
  found-ends i h z f = sym (at-overflowed run p i whole h z f (quiet-before run p passed))

  pub none-ends : length (drop (block_length * p) run) < block_length → none ≡ search_of run
  none-ends h =
      let l = length-drop (block_length * p) run in
      sym (at-none run whole (λ q k. quiet-before run p passed q (omega arith)))
