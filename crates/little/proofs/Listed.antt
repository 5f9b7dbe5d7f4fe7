-- The bytes of a part of a list given one by one, as a number is put together from them.
-- Assumes nothing.
use mathlib.Core.Path.{◌≡◌, ap, sym, ◌∙◌}
use mathlib.Core.List.{List, [], ◌∷◌}
use Prim.Native.Nat.{ℕ, suc, ◌+◌, ◌≤◌, ◌<◌}
use native.Mathlib.Nat.{add-zero, add-suc}
use native.Mathlib.Omega.{arith}
use lib.ListN.{length, take}
use lib.Seq.{drop-cons}
use Rattle.little.specs.Bytes.{byte_at, part}

module _ (at : ℕ) (b : List ℕ) where
  -- the first byte of a part, and those after it
  next : (i k : ℕ) → at + i < length b → part (at + i) (suc k) b ≡ byte_at b (at + i) ∷ part (at + suc i) k b
  next i k h =
      ap (take (suc k)) (drop-cons b (at + i) 0 h) ∙ ap (λ m. byte_at b (at + i) ∷ part m k b) (sym (add-suc at i))

  next-four
      : (i k : ℕ) → at + i + 4 ≤ length b →
      part (at + i) (suc (suc (suc (suc k)))) b
      ≡ byte_at b (at + i) ∷ byte_at b (at + suc i) ∷ byte_at b (at + suc (suc i)) ∷ byte_at b (at + suc (suc (suc i)))
      ∷ part (at + suc (suc (suc (suc i)))) k b
  next-four i k h =
      next i (suc (suc (suc k))) (omega arith)
      ∙ ap (λ l. byte_at b (at + i) ∷ l)
      (next (suc i) (suc (suc k)) (omega arith)
      ∙ ap (λ l. byte_at b (at + suc i) ∷ l)
      (next (suc (suc i)) (suc k) (omega arith)
      ∙ ap (λ l. byte_at b (at + suc (suc i)) ∷ l) (next (suc (suc (suc i))) k (omega arith))))

  -- two, four and eight bytes from place `at` on
  pub two-listed : at + 2 ≤ length b → byte_at b at ∷ byte_at b (at + 1) ∷ [] ≡ part at 2 b
  two-listed h =
      sym
      (ap (λ m. part m 2 b) (sym (add-zero at))
      ∙ next 0 1 (omega arith)
      ∙ ap (λ l. byte_at b (at + 0) ∷ l) (next 1 0 (omega arith))
      ∙ ap (λ m. byte_at b m ∷ byte_at b (at + 1) ∷ []) (add-zero at))

  pub four-listed
      : at + 4 ≤ length b →
      byte_at b at ∷ byte_at b (at + 1) ∷ byte_at b (at + 2) ∷ byte_at b (at + 3) ∷ [] ≡ part at 4 b
  four-listed h =
      sym
      (ap (λ m. part m 4 b) (sym (add-zero at))
      ∙ next-four 0 0 (omega arith)
      ∙ ap (λ m. byte_at b m ∷ byte_at b (at + 1) ∷ byte_at b (at + 2) ∷ byte_at b (at + 3) ∷ []) (add-zero at))

  pub eight-listed
      : at + 8 ≤ length b →
      byte_at b at ∷ byte_at b (at + 1) ∷ byte_at b (at + 2) ∷ byte_at b (at + 3)
      ∷ byte_at b (at + 4) ∷ byte_at b (at + 5) ∷ byte_at b (at + 6) ∷ byte_at b (at + 7) ∷ []
      ≡ part at 8 b
  eight-listed h =
      sym
      (ap (λ m. part m 8 b) (sym (add-zero at))
      ∙ next-four 0 4 (omega arith)
      ∙ ap (λ l. byte_at b (at + 0) ∷ byte_at b (at + 1) ∷ byte_at b (at + 2) ∷ byte_at b (at + 3) ∷ l)
      (next-four 4 0 (omega arith))
      ∙ ap (λ m. byte_at b m ∷ byte_at b (at + 1) ∷ byte_at b (at + 2) ∷ byte_at b (at + 3)
      ∷ byte_at b (at + 4) ∷ byte_at b (at + 5) ∷ byte_at b (at + 6) ∷ byte_at b (at + 7) ∷ []) (add-zero at))
