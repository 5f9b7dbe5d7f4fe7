-- How long a block is, part after part, where its values are no more than the edition takes and numbers and marks are
-- as many.
-- Assumes nothing.
use mathlib.Core.Path.{◌≡◌, refl, ap, ◌∙◌}
use mathlib.Core.List.{List, [], ◌∷◌, ◌++◌}
use Prim.Native.Nat.{ℕ, ◌+◌, ◌-◌, ◌*◌, ◌≤◌}
use native.Mathlib.Omega.{arith}
use lib.ListN.{length, replicate, length-append, length-replicate}
use Rattle.little.specs.Bytes.{bytes_of, longs}
use Rattle.little.proofs.Little.{length-bytes}
use Rattle.little.proofs.Longs.{length-longs}
use Rattle.layout.specs.Editions.{block_length, head_at, marks_at, check_at, Edition}
use Rattle.layout.specs.Layout.{check_sum}
use Rattle.written.specs.Block.{before_check, block_of}

module _ (E : Edition) (n : ℕ) (numbers marks : List ℕ) where
  -- ---- the block so far

  abbrev pub counted : List ℕ
  counted = bytes_of 4 n ++ (length numbers ∷ E.tag ∷ [])

  abbrev pub headed : List ℕ
  headed = counted ++ E.head numbers marks

  abbrev pub numbered : List ℕ
  numbered = headed ++ longs numbers

  abbrev pub filled : List ℕ
  filled = numbered ++ replicate (8 * (E.most - length numbers)) 0

  abbrev pub marked : List ℕ
  marked = filled ++ marks

  pub before-check-is : before_check E n numbers marks ≡ marked ++ replicate (check_at - marks_at - length marks) 0
  unfolding before_check
  before-check-is = refl

  pub block-is
      : block_of E n numbers marks
      ≡ before_check E n numbers marks ++ bytes_of 4 (check_sum (before_check E n numbers marks))
  unfolding block_of
  block-is = refl

  -- ---- its length

  pub length-number : length (bytes_of 4 n) ≡ 4
  length-number = length-bytes 4 n

  pub length-counted : length counted ≡ head_at
  length-counted =
      length-append (bytes_of 4 n) (length numbers ∷ E.tag ∷ []) ∙ (let l = length-number in omega arith)

  pub length-headed : length headed ≡ E.first
  length-headed =
      length-append counted (E.head numbers marks)
      ∙ (let l = length-counted in let h = E.headed numbers marks in omega arith)

  pub length-numbered : length numbered ≡ E.first + 8 * length numbers
  length-numbered =
      length-append headed (longs numbers)
      ∙ (let l = length-headed in let h = length-longs numbers in omega arith)

  module _ (most : length numbers ≤ E.most) (even : length marks ≡ length numbers) where
    pub length-filled : length filled ≡ marks_at
    length-filled =
        length-append numbered (replicate (8 * (E.most - length numbers)) 0)
        ∙ (let l = length-numbered in
        let h = length-replicate {A = ℕ} (8 * (E.most - length numbers)) 0 in
        let f = E.full in omega arith)

    pub length-marked : length marked ≡ marks_at + length numbers
    length-marked = length-append filled marks ∙ (let l = length-filled in omega arith)

    -- an edition's marks end before the check
    pub within : length numbers ≤ 55
    within = let f = E.full in let h = E.headed numbers marks in omega arith

    pub length-before-check : length (before_check E n numbers marks) ≡ check_at
    length-before-check =
        ap length before-check-is
        ∙ length-append marked (replicate (check_at - marks_at - length marks) 0)
        ∙ (let l = length-marked in
        let w = within in
        let h = length-replicate {A = ℕ} (check_at - marks_at - length marks) 0 in omega arith)

    pub length-block : length (block_of E n numbers marks) ≡ block_length
    length-block =
        ap length block-is
        ∙ length-append (before_check E n numbers marks) (bytes_of 4 (check_sum (before_check E n numbers marks)))
        ∙ (let l = length-before-check in
        let h = length-bytes 4 (check_sum (before_check E n numbers marks)) in omega arith)
