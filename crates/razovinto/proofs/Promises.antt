-- What the six entries for C promise, one named theorem for each promise, of any operation o on the plain numbers l
-- and r. An entry's contract says that it returns what `returned` gives and leaves what `afterwards` gives, of its own
-- operation's answer, which is `answer_of o l r`; `Unique` says that this leaves one number and one content.
-- Assumes nothing.
use mathlib.Core.Path.{◌≡◌, ap, sym, ◌∙◌}
use mathlib.Core.Logic.{◌↔◌, ◌⊎◌, inl, inr}
use mathlib.Core.List.{List, [], ◌∷◌, ◌++◌}
use Prim.Native.Nat.{ℕ, ◌^◌, ◌≤◌, ◌<◌}
use native.Mathlib.Decide.{dec_lt}
use native.Mathlib.Omega.{arith}
use lib.ListN.{length, drop}
use Rattle.checked.specs.Value.{limit_of}
use Rattle.checked.specs.Paper.{sums_of, products_of, divided_by, left_by, powers_of, log_by}
use Rattle.shape.specs.Items.{Operation, sum, product, quotient, remainder, power, logarithm}
use Rattle.meaning.specs.Meaning.{worth}
use Rattle.meaning.specs.Told.{ByZero, SmallBase}
use Rattle.little.specs.Bytes.{byte_at, part, little, bytes_of}
use Rattle.little.proofs.Little.{little-bytes}
use Rattle.razovinto.specs.Entry.{result_bytes, returned, afterwards}
use Rattle.razovinto.specs.Six.{answer_of, Allowed}
use Rattle.razovinto.proofs.Slices.{short-returns, short-stays}
use Rattle.razovinto.proofs.Written.{returned-exactly, returned-19-exactly, stays, written, number-there}
use Rattle.razovinto.proofs.Written.{mark-there, zeros-there, later-there}
use Rattle.razovinto.proofs.Operations.{code-0-exactly, code-1-exactly, code-2-exactly, code-below-3}
use Rattle.razovinto.proofs.Operations.{by-zero, below-two, valued, stage, fitting-given, overflowed-given}
use Rattle.razovinto.proofs.Operations.{number-below}

module _ (o : Operation) (l r : ℕ) (result : List ℕ) where
  -- ---- what is returned

  -- whatever the operation would come to, a slice shorter than 16 bytes is refused with 19, and stays
  pub short-refused-first
      : length result < 16 →
      (returned (answer_of o l r) result ≡ 19) × (afterwards (answer_of o l r) result ≡ result)
  short-refused-first h =
      (sym (short-returns (answer_of o l r) result h), sym (short-stays (answer_of o l r) result h))

  -- 19 exactly when the slice is shorter than 16 bytes
  pub refused-19-exactly : (returned (answer_of o l r) result ≡ 19) ↔ (length result < 16)
  refused-19-exactly =
      let c = code-below-3 o l r in
      let small : (answer_of o l r).code < 19 = omega arith in
      returned-19-exactly (answer_of o l r) result small

  -- 1 exactly when there is room, and it is a quotient or a remainder by 0
  pub refused-1-exactly : (returned (answer_of o l r) result ≡ 1) ↔ ((16 ≤ length result) × ByZero o r)
  refused-1-exactly =
      let small : 1 < 19 = omega arith in
      let f = returned-exactly (answer_of o l r) result 1 small in
      let g = code-1-exactly o l r in
      (λ e. ((f.0 e).0, g.0 (f.0 e).1), λ p. f.1 (p.0, g.1 p.1))

  -- 2 exactly when there is room, and it is a logarithm in a base below 2
  pub refused-2-exactly : (returned (answer_of o l r) result ≡ 2) ↔ ((16 ≤ length result) × SmallBase o l)
  refused-2-exactly =
      let small : 2 < 19 = omega arith in
      let f = returned-exactly (answer_of o l r) result 2 small in
      let g = code-2-exactly o l r in
      (λ e. ((f.0 e).0, g.0 (f.0 e).1), λ p. f.1 (p.0, g.1 p.1))

  -- 0 exactly when there is room, and it is neither of these
  pub returned-0-exactly : (returned (answer_of o l r) result ≡ 0) ↔ ((16 ≤ length result) × Allowed o l r)
  returned-0-exactly =
      let small : 0 < 19 = omega arith in
      let f = returned-exactly (answer_of o l r) result 0 small in
      let g = code-0-exactly o l r in
      (λ e. ((f.0 e).0, g.0 (f.0 e).1), λ p. f.1 (p.0, g.1 p.1))

  -- no other number is returned
  pub only-codes
      : (returned (answer_of o l r) result ≡ 0)
      ⊎ ((returned (answer_of o l r) result ≡ 1)
      ⊎ ((returned (answer_of o l r) result ≡ 2) ⊎ (returned (answer_of o l r) result ≡ 19)))
  only-codes =
      elim (dec_lt (length result) 16) [
        | yes h ↦ inr (inr (inr (refused-19-exactly.1 h)))
        | no n ↦
            let room : 16 ≤ length result = omega arith in
            elim (stage o l r) [
              | by-zero d e ↦ inr (inl (refused-1-exactly.1 (room, d)))
              | below-two b e ↦ inr (inr (inl (refused-2-exactly.1 (room, b))))
              | valued a e ↦ inl (returned-0-exactly.1 (room, a))
            ]
      ]

  -- ---- what the slice has afterwards

  -- on refusal every byte stays
  pub refusal-changes-nothing
      : (returned (answer_of o l r) result ≡ 0 → ⊥) → afterwards (answer_of o l r) result ≡ result
  refusal-changes-nothing = stays (answer_of o l r) result

  -- later bytes stay, whatever is returned
  pub later-bytes-stay : drop 16 (afterwards (answer_of o l r) result) ≡ drop 16 result
  later-bytes-stay = later-there (answer_of o l r) result

  -- where there is room and nothing is refused
  module _ (room : 16 ≤ length result) (allowed : Allowed o l r) where
    -- the 16 bytes are written, in this order, and nothing past them
    pub sixteen-written
        : afterwards (answer_of o l r) result
        ≡ result_bytes (answer_of o l r).number (answer_of o l r).mark ++ drop 16 result
    sixteen-written = written (answer_of o l r) result (returned-0-exactly.1 (room, allowed))

    pub number-written : part 0 8 (afterwards (answer_of o l r) result) ≡ bytes_of 8 (answer_of o l r).number
    number-written = number-there (answer_of o l r) result (returned-0-exactly.1 (room, allowed))

    pub mark-written : byte_at (afterwards (answer_of o l r) result) 8 ≡ (answer_of o l r).mark
    mark-written = mark-there (answer_of o l r) result (returned-0-exactly.1 (room, allowed))

    pub seven-zeros-written : part 9 7 (afterwards (answer_of o l r) result) ≡ 0 ∷ 0 ∷ 0 ∷ 0 ∷ 0 ∷ 0 ∷ 0 ∷ []
    seven-zeros-written = zeros-there (answer_of o l r) result (returned-0-exactly.1 (room, allowed))

    -- a result of 64 bits: its number, read back as the host reads it, and the mark 0
    pub fitting-written
        : worth o l r ≤ limit_of 64 →
        (little (part 0 8 (afterwards (answer_of o l r) result)) ≡ worth o l r)
        × (byte_at (afterwards (answer_of o l r) result) 8 ≡ 0)
    fitting-written h =
        let e = fitting-given o l r allowed h in
        let n : (answer_of o l r).number ≡ worth o l r = ap (λ p. p.number) e in
        let small : (answer_of o l r).number < 256 ^ 8 = omega arith in (
          ap little number-written ∙ little-bytes 8 (answer_of o l r).number small ∙ n,
          mark-written ∙ ap (λ p. p.mark) e,
        )

    -- of any two numbers of 64 bits
    module _ (left : l ≤ limit_of 64) (right : r ≤ limit_of 64) where
      -- the number of the answer is read back
      pub number-read : little (part 0 8 (afterwards (answer_of o l r) result)) ≡ (answer_of o l r).number
      number-read =
          ap little number-written
          ∙ little-bytes 8 (answer_of o l r).number (number-below o l r allowed left right)

      -- a larger result: the number 0 with the mark 1
      pub overflowed-written
          : limit_of 64 < worth o l r →
          (little (part 0 8 (afterwards (answer_of o l r) result)) ≡ 0)
          × (byte_at (afterwards (answer_of o l r) result) 8 ≡ 1)
      overflowed-written h =
          let e = overflowed-given o l r allowed left right h in
          (number-read ∙ ap (λ p. p.number) e, mark-written ∙ ap (λ p. p.mark) e)

-- ---- each operation by its name: what is refused, and when

module _ (l r : ℕ) (result : List ℕ) where
  -- sum, product and power are never refused where there is room
  pub sum-always : 16 ≤ length result → returned (sums_of (limit_of 64) l r) result ≡ 0
  sum-always h = (returned-0-exactly sum l r result).1 (h, (λ f. f, λ f. f))

  pub product-always : 16 ≤ length result → returned (products_of (limit_of 64) l r) result ≡ 0
  product-always h = (returned-0-exactly product l r result).1 (h, (λ f. f, λ f. f))

  pub power-always : 16 ≤ length result → returned (powers_of (limit_of 64) l r) result ≡ 0
  power-always h = (returned-0-exactly power l r result).1 (h, (λ f. f, λ f. f))

  -- a quotient and a remainder are refused with 1 exactly when there is room and the divisor is 0
  pub quotient-refused-exactly : (returned (divided_by l r) result ≡ 1) ↔ ((16 ≤ length result) × (r ≡ 0))
  quotient-refused-exactly = refused-1-exactly quotient l r result

  pub remainder-refused-exactly : (returned (left_by l r) result ≡ 1) ↔ ((16 ≤ length result) × (r ≡ 0))
  remainder-refused-exactly = refused-1-exactly remainder l r result

  -- a logarithm is refused with 2 exactly when there is room and the base is below 2
  pub logarithm-refused-exactly : (returned (log_by l r) result ≡ 2) ↔ ((16 ≤ length result) × (l < 2))
  logarithm-refused-exactly = refused-2-exactly logarithm l r result
