-- Of any answer p: when a number is returned, and what stands where in the slice.
-- Assumes nothing.
use mathlib.Core.Path.{◌≡◌, ap, sym, ◌∙◌}
use mathlib.Core.Logic.{◌↔◌}
use mathlib.Core.List.{List, [], ◌∷◌, ◌++◌}
use Prim.Native.Nat.{ℕ, ◌≤◌, ◌<◌}
use native.Mathlib.Decide.{dec_lt, ℕ_discrete}
use native.Mathlib.Omega.{arith}
use borrow.Author.Tests.{ne_eqb}
use lib.ListN.{length, drop}
use Rattle.checked.specs.Paper.{Paper}
use Rattle.little.specs.Bytes.{byte_at, part, bytes_of}
use Rattle.razovinto.specs.Entry.{result_bytes, returned, afterwards}
use Rattle.razovinto.proofs.Slices.{short-returns, roomy-returns, refused-stays, answered-written}

module _ (p : Paper) (result : List ℕ) where
  -- a number below 19 exactly when there is room and it is the answer's own code
  pub returned-exactly : (n : ℕ) → n < 19 → (returned p result ≡ n) ↔ ((16 ≤ length result) × (p.code ≡ n))
  returned-exactly n b = (only, λ q. sym (roomy-returns p result q.0) ∙ q.1)
    where
      only : returned p result ≡ n → (16 ≤ length result) × (p.code ≡ n)
      only e =
          elim (dec_lt (length result) 16) [
            | yes h ↦ let s = short-returns p result h in let f : ⊥ = omega arith in absurd f
            | no h ↦ let r : 16 ≤ length result = omega arith in (r, roomy-returns p result r ∙ e)
          ]

  -- 19 exactly when there is none, where no answer has that code
  pub returned-19-exactly : p.code < 19 → (returned p result ≡ 19) ↔ (length result < 16)
  returned-19-exactly b = (only, λ h. sym (short-returns p result h))
    where
      only : returned p result ≡ 19 → length result < 16
      only e =
          elim (dec_lt (length result) 16) [
            | yes h ↦ h
            | no h ↦ let r = roomy-returns p result (omega arith) in let f : ⊥ = omega arith in absurd f
          ]

  pub stays : (returned p result ≡ 0 → ⊥) → afterwards p result ≡ result
  stays n = sym (refused-stays p result (ne_eqb (returned p result) 0 n))

  pub written : returned p result ≡ 0 → afterwards p result ≡ result_bytes p.number p.mark ++ drop 16 result
  written e = sym (answered-written p result e)

  pub number-there : returned p result ≡ 0 → part 0 8 (afterwards p result) ≡ bytes_of 8 p.number
  unfolding bytes_of
  number-there e = ap (part 0 8) (written e)

  pub mark-there : returned p result ≡ 0 → byte_at (afterwards p result) 8 ≡ p.mark
  unfolding bytes_of
  mark-there e = ap (λ bs. byte_at bs 8) (written e)

  pub zeros-there : returned p result ≡ 0 → part 9 7 (afterwards p result) ≡ 0 ∷ 0 ∷ 0 ∷ 0 ∷ 0 ∷ 0 ∷ 0 ∷ []
  unfolding bytes_of
  zeros-there e = ap (part 9 7) (written e)

  pub later-there : drop 16 (afterwards p result) ≡ drop 16 result
  unfolding bytes_of
  later-there =
      elim (ℕ_discrete (returned p result) 0) [
        | yes e ↦ ap (drop 16) (written e)
        | no n ↦ ap (drop 16) (stays n)
      ]
