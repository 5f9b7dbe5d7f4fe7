-- Unused numbers and marks are zero exactly when the bytes where they stand are.
-- Assumes nothing.
use mathlib.Core.Path.{◌≡◌, ap, sym, ◌∙◌}
use mathlib.Core.Bool.{true}
use mathlib.Core.List.{List}
use Prim.Native.Nat.{ℕ, ◌+◌, ◌-◌, ◌*◌, ◌/◌, ◌≤◌, ◌<◌}
use native.Mathlib.Omega.{arith}
use Rattle.little.specs.Bytes.{byte_at}
use Rattle.little.specs.Zeros.{zeros}
use Rattle.little.proofs.Zeros.{zeros-at, zeros-of, part-zero, part-bytes-zero}
use Rattle.layout.specs.Editions.{marks_at, Edition}
use Rattle.layout.specs.Layout.{number_from, mark}

module _ (E : Edition) (b : List ℕ) (c : ℕ) where
  pub unused-numbers-zero
      : zeros (E.first + 8 * c) marks_at b ≡ true → (i : ℕ) → c ≤ i → i < E.most → number_from E.first b i ≡ 0
  unfolding number_from
  unused-numbers-zero z i l h =
      part-zero (E.first + 8 * i) 8 b (λ j m k. zeros-at (E.first + 8 * c) marks_at b z j (omega arith) (omega arith))

  pub zero-unused-numbers
      : ((i : ℕ) → c ≤ i → i < E.most → number_from E.first b i ≡ 0) → zeros (E.first + 8 * c) marks_at b ≡ true
  unfolding number_from
  zero-unused-numbers z = zeros-of (E.first + 8 * c) marks_at b at
    where
      at : (j : ℕ) → E.first + 8 * c ≤ j → j < marks_at → byte_at b j ≡ 0
      at j l h =
          let i = (j - E.first) / 8 in
          part-bytes-zero (E.first + 8 * i) 8 b (z i (omega arith) (omega arith)) j (omega arith) (omega arith)

  pub unused-marks-zero : zeros (marks_at + c) E.past b ≡ true → (i : ℕ) → c ≤ i → i < E.most → mark b i ≡ 0
  unused-marks-zero z i l h = zeros-at (marks_at + c) E.past b z (marks_at + i) (omega arith) (omega arith)

  pub zero-unused-marks : ((i : ℕ) → c ≤ i → i < E.most → mark b i ≡ 0) → zeros (marks_at + c) E.past b ≡ true
  zero-unused-marks z = zeros-of (marks_at + c) E.past b at
    where
      at : (j : ℕ) → marks_at + c ≤ j → j < E.past → byte_at b j ≡ 0
      at j l h =
          let p : marks_at + (j - marks_at) ≡ j = omega arith in
          ap (byte_at b) (sym p) ∙ z (j - marks_at) (omega arith) (omega arith)
