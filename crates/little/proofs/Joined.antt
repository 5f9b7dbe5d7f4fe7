-- Bytes joined by 'or' are zero exactly where each of them is.
-- Assumes nothing.
use mathlib.Core.Path.{◌≡◌, ap, sym, ◌∙◌}
use mathlib.Core.Bool.{◌&&◌}
use mathlib.Core.List.{List}
use Prim.Native.Nat.{ℕ, ◌+◌, ◌≤◌}
use native.Mathlib.Decide.{ℕ_discrete}
use native.Mathlib.Numerals.{add-one}
use native.Mathlib.Omega.{arith}
use borrow.Author.Tests.{eq-eqb, ne_eqb}
use lib.Bits.{bit_or, or_zero_l, or_add_and, and_le_r}
use lib.Dec.{eqb}
use Rattle.little.specs.Bytes.{byte_at}
use Rattle.little.specs.Zeros.{zero_at, zeros}
use Rattle.little.proofs.Zeros.{zeros-more}

-- two numbers joined are zero exactly where both are
pub or-zero : (a x : ℕ) → eqb (bit_or a x) 0 ≡ (eqb a 0 && eqb x 0)
or-zero a x =
    elim (ℕ_discrete a 0) [
      | yes p ↦
          ap (λ n. eqb n 0) (ap (λ n. bit_or n x) p ∙ or_zero_l x) ∙ ap (λ t. t && eqb x 0) (sym (eq-eqb a 0 p))
      | no n ↦
          let set : bit_or a x ≡ 0 → ⊥ = λ e. n (let s = or_add_and a x in let l = and_le_r a x in omega arith) in
          ne_eqb (bit_or a x) 0 set ∙ ap (λ t. t && eqb x 0) (sym (ne_eqb a 0 n))
    ]

-- one turn of the loop that joins them
pub zeros-turn
    : (from i any : ℕ) (b : List ℕ) → from ≤ i → eqb any 0 ≡ zeros from i b →
    eqb (bit_or any (byte_at b i)) 0 ≡ zeros from (i + 1) b
zeros-turn from i any b h e =
    or-zero any (byte_at b i)
    ∙ ap (λ t. t && zero_at b i) e
    ∙ sym (zeros-more from i b h)
    ∙ ap (λ k. zeros from k b) (sym (add-one i))
