-- One byte changed in a block whose check is right.
-- Assumes nothing.
use mathlib.Core.Path.{◌≡◌, ap, ◌∙◌}
use mathlib.Core.List.{List}
use Prim.Native.Nat.{ℕ, suc, ◌+◌, ◌-◌, ◌*◌, ◌^◌, ◌<◌}
use native.Mathlib.Nat.{pow-le-pow_right, le_of_mul-le-mul_left, le_antisymm}
use native.Mathlib.Decide.{dec_lt}
use native.Mathlib.Omega.{arith}
use lib.ListN.{length, take, drop, set, length-take, length-drop}
use lib.Seq.{drop-set-lt, drop-set-add, take-set-lt}
use Rattle.little.specs.Bytes.{byte_at, part, little}
use Rattle.little.proofs.Little.{part-at}
use Rattle.little.proofs.Changed.{little-changed}
use Rattle.layout.specs.Editions.{block_length, check_at}
use Rattle.layout.specs.Layout.{check, check_sum}
use Rattle.layout.proofs.Check.{check-changed, check-not-changed}

-- a factor that isn't 0 leaves what it is multiplied with apart
same-times : (k x y : ℕ) → 0 < k → k * x ≡ k * y → x ≡ y
same-times k x y h e =
    le_antisymm (le_of_mul-le-mul_left {k = k} (omega arith) h) (le_of_mul-le-mul_left {k = k} (omega arith) h)

module _ (b : List ℕ) (y : ℕ) where
  -- the check itself stays where a byte before it is changed
  check-kept : (i : ℕ) → i < check_at → check (set b i y) ≡ check b
  unfolding check
  check-kept i h = ap (λ l. little (take 4 l)) (drop-set-lt check_at b i y h)

  -- and changes with one of its own four
  own-byte
      : (j : ℕ) → length b ≡ block_length → j < 4 →
      check (set b (check_at + j) y) + 256 ^ j * byte_at b (check_at + j) ≡ check b + 256 ^ j * y
  unfolding check
  own-byte j l h =
      let s : part check_at 4 (set b (check_at + j) y) ≡ set (part check_at 4 b) j y =
      ap (take 4) (drop-set-add check_at b j y) ∙ take-set-lt 4 (drop check_at b) j y h in
      let e =
      little-changed (part check_at 4 b) j y (omega (arith, length-take 4 (drop check_at b), length-drop check_at b)) in
      let g = ap little s in
      let a = ap (λ x. 256 ^ j * x) (part-at check_at 4 b j h) in
      omega arith

  -- a block whose check is right has a wrong one with any byte changed
  pub check-wrong
      : (i : ℕ) → length b ≡ block_length → check b ≡ check_sum b → i < block_length → (y ≡ byte_at b i → ⊥) →
      check (set b i y) ≡ check_sum (set b i y) → ⊥
  check-wrong i l c h n e =
      elim (dec_lt i check_at) [
        | yes k ↦
            let a = check-kept i k in
            let d = check-changed b i y k (omega arith) in
            n (same-times (suc i) y (byte_at b i) (omega arith) (omega arith))
        | no k ↦
            let p : check_at + (i - check_at) ≡ i = omega arith in
            let a = check-not-changed b i y (omega arith) in
            let d = own-byte (i - check_at) l (omega arith) in
            let q = ap (λ j. check (set b j y)) p in
            let r = ap (byte_at b) p in
            let power : 0 < 256 ^ (i - check_at) =
            omega (arith, pow-le-pow_right {n = 256} (omega arith) {i = 0} {j = i - check_at} (omega arith)) in
            n (same-times (256 ^ (i - check_at)) y (byte_at b (check_at + (i - check_at))) power (omega arith) ∙ r)
      ]
