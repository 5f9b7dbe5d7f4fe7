-- A block laid part after part over a lent list: when the list stays, and that the parts make the block.
-- Assumes nothing.
use mathlib.Core.Path.{◌≡◌, refl, ap, sym, ◌∙◌}
use mathlib.Core.Logic.{inl, inr}
use mathlib.Core.Bool.{Bool, true, false, cond, ◌&&◌, and-false}
use mathlib.Core.List.{List, [], ◌∷◌, ◌++◌, append_assoc}
use Prim.Native.Nat.{ℕ, ◌+◌, ◌-◌, ◌*◌, ◌≤◌, ◌<◌}
use native.Mathlib.Omega.{arith}
use borrow.Author.Tests.{eq-eqb, ne_eqb, le-leb, lt-leb, eqb-true, leb-true}
use lib.Dec.{eqb, leb}
use lib.ListN.{length, replicate, length-append, length-replicate, replicate-append-replicate, get_or-append}
use lib.Seq.{drop-append_seam, sets}
use Rattle.places.specs.Places.{overlaid}
use Rattle.places.proofs.First.{holds-or-fails}
use Rattle.places.proofs.Every.{both-hold}
use Rattle.places.proofs.Overlaid.{overlaid-none, overlaid-all, overlaid-length}
use Rattle.little.specs.Bytes.{bytes_of, longs, put}
use Rattle.little.proofs.Little.{length-bytes}
use Rattle.little.proofs.Longs.{length-longs}
use Rattle.little.proofs.Stored.{put-stored, laid-on}
use Rattle.layout.specs.Editions.{block_length, head_at, marks_at, check_at, Edition}
use Rattle.layout.specs.Layout.{check_sum}
use Rattle.checksum.specs.Sum.{block_sum}
use Rattle.checksum.proofs.Sums.{sum-of-block}
use Rattle.written.specs.Block.{before_check, block_of, layable, laid_over}
use Rattle.written.proofs.Sizes as sizes
use Rattle.written.proofs.Blocks.{same-sum}
use Rattle.lay.specs.Ending.{with_zeros, with_check}

-- the end of a block: the check is the sum of what it is put in
pub finished
    : (laid : List ℕ) {b after : List ℕ} {check : ℕ} →
    after ≡ put check_at (bytes_of 4 check) b → check ≡ block_sum b → b ≡ laid → after ≡ with_check laid
finished laid e s l = cc

module _ (E : Edition) (n : ℕ) (numbers marks old : List ℕ) where
  -- ---- when the list stays

  over-by
      : (t : Bool) → layable E numbers marks old ≡ t →
      laid_over E n numbers marks old ≡ cond t (block_of E n numbers marks) old
  unfolding laid_over
  over-by t e = ap (λ t. cond t (block_of E n numbers marks) old) e

  pub no-block-stays : (length old ≡ block_length → ⊥) → laid_over E n numbers marks old ≡ old
  no-block-stays h =
      over-by false
      (ap (λ t. t && leb (length numbers) E.most && eqb (length marks) (length numbers))
      (ne_eqb (length old) block_length h))

  pub too-many-stays : E.most < length numbers → laid_over E n numbers marks old ≡ old
  too-many-stays h =
      over-by false
      (ap (λ t. eqb (length old) block_length && t && eqb (length marks) (length numbers))
      (lt-leb (length numbers) E.most h)
      ∙ ap (λ t. t && eqb (length marks) (length numbers)) (and-false (eqb (length old) block_length)))

  pub uneven-stays : (length marks ≡ length numbers → ⊥) → laid_over E n numbers marks old ≡ old
  uneven-stays h =
      let t = eqb (length old) block_length && leb (length numbers) E.most in
      over-by false (ap (λ s. t && s) (ne_eqb (length marks) (length numbers) h) ∙ and-false t)

  -- ---- the code's steps, each on what the one before it left

  abbrev number_put : List ℕ
  number_put = put 0 (bytes_of 4 n) old

  abbrev count_put : List ℕ
  count_put = sets number_put 4 (length numbers ∷ E.tag ∷ [])

  abbrev head_put : List ℕ
  head_put = put head_at (E.head numbers marks) count_put

  abbrev numbers_put : List ℕ
  numbers_put = put E.first (longs numbers) head_put

  abbrev unused_put : List ℕ
  unused_put = put (E.first + 8 * length numbers) (replicate (8 * (E.most - length numbers)) 0) numbers_put

  abbrev marks_put : List ℕ
  marks_put = put marks_at marks unused_put

  abbrev zeros_put : List ℕ
  zeros_put = with_zeros (length numbers) marks_put

  abbrev check_put : List ℕ
  check_put = with_check zeros_put

  -- so the code's equations together
  pub steps-put
      : {b₁ b₂ b₃ b₄ b₅ b₆ : List ℕ} →
      b₁ ≡ put 0 (bytes_of 4 n) old →
      b₂ ≡ sets b₁ 4 (length numbers ∷ E.tag ∷ []) →
      b₃ ≡ put head_at (E.head numbers marks) b₂ →
      b₄ ≡ put E.first (longs numbers) b₃ →
      b₅ ≡ put (E.first + 8 * length numbers) (replicate (8 * (E.most - length numbers)) 0) b₄ →
      b₆ ≡ with_check (with_zeros (length numbers) (put marks_at marks b₅)) →
      b₆ ≡ check_put
  steps-put e₁ e₂ e₃ e₄ e₅ e₆ = cc

  module _
      (whole : length old ≡ block_length) (most : length numbers ≤ E.most) (even : length marks ≡ length numbers)
    where
      -- ---- and when it becomes the block

      pub block-laid : laid_over E n numbers marks old ≡ block_of E n numbers marks
      block-laid =
          let a = eq-eqb (length old) block_length whole in
          let b = le-leb (length numbers) E.most most in
          let c = eq-eqb (length marks) (length numbers) even in over-by true (simp (a, b, c))

      -- ---- part after part

      abbrev u : List ℕ
      u = before_check E n numbers marks

      -- the block with zeros for its check
      abbrev zero-ended : List ℕ
      zero-ended = u ++ replicate 4 0

      zero-ended-long : length zero-ended ≡ block_length
      zero-ended-long =
          length-append u (replicate 4 0)
          ∙ (let l = sizes.length-before-check E n numbers marks most even in omega arith)

      zero-ended-begins : zero-ended ≡ overlaid u zero-ended
      zero-ended-begins = ap (λ l. u ++ l) (sym (drop-append_seam u (replicate 4 0)))

      -- its sum is the check that it is to have
      zero-ended-sum : block_sum zero-ended ≡ check_sum u
      zero-ended-sum =
          let l = sizes.length-before-check E n numbers marks most even in
          sum-of-block zero-ended zero-ended-long
          ∙ same-sum zero-ended u (λ i h. get_or-append u (replicate 4 0) 0 i (omega arith))

      number-laid : number_put ≡ overlaid (bytes_of 4 n) old
      number-laid =
          let l = length-bytes 4 n in
          laid-on 0 [] (bytes_of 4 n) old (sym (overlaid-none old)) refl refl (omega arith)

      count-laid : count_put ≡ overlaid (sizes.counted E n numbers marks) old
      count-laid =
          let pair = length numbers ∷ E.tag ∷ [] in
          let l = length-bytes 4 n in
          let size = ap length number-laid ∙ overlaid-length old (bytes_of 4 n) (omega arith) in
          laid-on 4 (bytes_of 4 n) pair old number-laid (sym (put-stored 4 pair number_put (omega arith))) (sym l)
          (omega arith)

      head-laid : head_put ≡ overlaid (sizes.headed E n numbers marks) old
      head-laid =
          let l = sizes.length-counted E n numbers marks in
          let h = E.headed numbers marks in
          let f = E.full in
          laid-on head_at (sizes.counted E n numbers marks) (E.head numbers marks) old count-laid refl (sym l)
          (omega arith)

      numbers-laid : numbers_put ≡ overlaid (sizes.numbered E n numbers marks) old
      numbers-laid =
          let l = sizes.length-headed E n numbers marks in
          let f = E.full in
          laid-on E.first (sizes.headed E n numbers marks) (longs numbers) old head-laid refl (sym l)
          (omega (arith, length-longs numbers))

      unused-laid : unused_put ≡ overlaid (sizes.filled E n numbers marks) old
      unused-laid =
          let l = sizes.length-numbered E n numbers marks in
          let f = E.full in
          laid-on (E.first + 8 * length numbers) (sizes.numbered E n numbers marks)
          (replicate (8 * (E.most - length numbers)) 0) old numbers-laid refl (sym l)
          (omega (arith, length-replicate {A = ℕ} (8 * (E.most - length numbers)) 0))

      marks-laid : marks_put ≡ overlaid (sizes.marked E n numbers marks) old
      marks-laid =
          let l = sizes.length-filled E n numbers marks most even in
          let w = sizes.within E n numbers marks most even in
          laid-on marks_at (sizes.filled E n numbers marks) marks old unused-laid refl (sym l) (omega arith)

      zeros-laid : zeros_put ≡ zero-ended
      zeros-laid =
          let l = sizes.length-marked E n numbers marks most even in
          let w = sizes.within E n numbers marks most even in
          let k = check_at - marks_at - length marks in
          let rest = block_length - marks_at - length numbers in
          let s : rest ≡ k + 4 = omega arith in
          let laid = sizes.marked E n numbers marks in
          laid-on (marks_at + length numbers) laid (replicate rest 0) old marks-laid refl (sym l)
          (omega (arith, length-replicate {A = ℕ} rest 0))
          ∙ ap (λ z. overlaid (laid ++ z) old)
          (ap (λ n. replicate n 0) s ∙ sym (replicate-append-replicate k 4 0))
          ∙ ap (λ l. overlaid l old)
          (sym (append_assoc laid (replicate k 0) (replicate 4 0))
          ∙ ap (λ l. l ++ replicate 4 0) (sym (sizes.before-check-is E n numbers marks)))
          ∙ overlaid-all old zero-ended (let z = zero-ended-long in omega arith)

      pub check-laid : check_put ≡ laid_over E n numbers marks old
      check-laid =
          let l = sizes.length-before-check E n numbers marks most even in
          let z = zero-ended-long in
          let all = sizes.length-block E n numbers marks most even in
          let sum = block_sum zeros_put in
          laid-on check_at u (bytes_of 4 sum) zero-ended (zeros-laid ∙ zero-ended-begins) refl (sym l)
          (omega (arith, length-bytes 4 sum))
          ∙ ap (λ k. overlaid (u ++ bytes_of 4 k) zero-ended) (ap block_sum zeros-laid ∙ zero-ended-sum)
          ∙ ap (λ l. overlaid l zero-ended) (sym (sizes.block-is E n numbers marks))
          ∙ overlaid-all zero-ended (block_of E n numbers marks) (omega arith)
          ∙ sym block-laid

  -- ---- the list is as long as it was

  pub laid-length : length (laid_over E n numbers marks old) ≡ length old
  laid-length =
      elim (holds-or-fails (layable E numbers marks old)) [
        | inr e ↦ ap length (over-by false e)
        | inl e ↦
            let first = eqb (length old) block_length in
            let second = leb (length numbers) E.most in
            let third = eqb (length marks) (length numbers) in
            let two = both-hold (first && second) third e in
            let one = both-hold first second two.0 in
            ap length (over-by true e)
            ∙ sizes.length-block E n numbers marks (leb-true (length numbers) E.most one.1)
            (eqb-true (length marks) (length numbers) two.1)
            ∙ sym (eqb-true (length old) block_length one.0)
      ]
