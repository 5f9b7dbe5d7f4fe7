-- Bytes that are zero, and the numbers that they stand for.
-- Assumes nothing.
use mathlib.Core.Path.{◌≡◌, refl, ap, sym, ◌∙◌}
use mathlib.Core.Bool.{Bool, true, ◌&&◌}
use mathlib.Core.List.{List, [], ◌∷◌}
use Prim.Native.Nat.{ℕ, zero, suc, ◌+◌, ◌-◌, ◌≤◌, ◌<◌, min}
use native.Mathlib.Decide.{dec_lt}
use native.Mathlib.Omega.{arith}
use borrow.Author.Tests.{eqb-true, eq-eqb}
use lib.ListN.{length, drop, length-take, get_or-eq_default}
use Rattle.places.specs.Places.{every}
use Rattle.places.proofs.Every.{same-truth, every-at, every-of, every-more}
use Rattle.little.specs.Bytes.{byte_at, part, little}
use Rattle.little.specs.Zeros.{zero_at, zeros}
use Rattle.little.proofs.Little.{part-at}

-- ---- zeros from one place to another

pub zeros-at : (from to : ℕ) (b : List ℕ) → zeros from to b ≡ true → (i : ℕ) → from ≤ i → i < to → byte_at b i ≡ 0
unfolding zeros
zeros-at from to b z i l h =
    let e : from + (i - from) ≡ i = omega arith in
    let k : i - from < to - from = omega arith in
    ap (byte_at b) (sym e)
    ∙ eqb-true (byte_at b (from + (i - from))) 0 (every-at (λ j. zero_at b (from + j)) (to - from) (i - from) z k)

pub zeros-of : (from to : ℕ) (b : List ℕ) → ((i : ℕ) → from ≤ i → i < to → byte_at b i ≡ 0) → zeros from to b ≡ true
unfolding zeros
zeros-of from to b z =
    every-of (λ j. zero_at b (from + j)) (to - from)
    (λ j h. eq-eqb (byte_at b (from + j)) 0 (z (from + j) (omega arith) (omega arith)))

-- no byte
pub zeros-none : (from : ℕ) (b : List ℕ) → zeros from from b ≡ true
unfolding zeros
zeros-none from b = every-of (λ k. zero_at b (from + k)) (from - from) (λ j h. absurd (omega arith))

-- one byte more
pub zeros-more : (from i : ℕ) (b : List ℕ) → from ≤ i → zeros from (suc i) b ≡ (zeros from i b && zero_at b i)
unfolding zeros
zeros-more from i b h =
    let f : ℕ → Bool = λ k. zero_at b (from + k) in
    let s : suc i - from ≡ suc (i - from) = omega arith in
    let e : from + (i - from) ≡ i = omega arith in
    ap (every f) s ∙ every-more f (i - from) ∙ ap (λ k. every f (i - from) && zero_at b k) e

-- a part of what is zero is zero
pub zeros-within
    : (b : List ℕ) (from to low high : ℕ) → from ≤ low → high ≤ to → zeros from to b ≡ true → zeros low high b ≡ true
zeros-within b from to low high l h z =
    zeros-of low high b (λ i g k. zeros-at from to b z i (omega arith) (omega arith))

-- zeros next to zeros
pub zeros-joined
    : (b : List ℕ) (from via to : ℕ) → zeros from via b ≡ true → zeros via to b ≡ true → zeros from to b ≡ true
zeros-joined b from via to y z =
    zeros-of from to b
    (λ i g k. elim (dec_lt i via) [ yes l ↦ zeros-at from via b y i g l | no n ↦ zeros-at via to b z i (omega arith) k ])

-- what is past a list's end counts as zero
pub zeros-clamped : (from to : ℕ) (b : List ℕ) → zeros from (min to (length b)) b ≡ zeros from to b
zeros-clamped from to b =
    same-truth (zeros from (min to (length b)) b) (zeros from to b)
    (λ z. zeros-of from to b (λ i l h. at z i l h))
    (λ z. zeros-within b from to from (min to (length b)) (omega arith) (omega arith) z)
  where
    at : zeros from (min to (length b)) b ≡ true → (i : ℕ) → from ≤ i → i < to → byte_at b i ≡ 0
    at z i l h =
        elim (dec_lt i (length b)) [
          | yes k ↦ zeros-at from (min to (length b)) b z i l (omega arith)
          | no n ↦ get_or-eq_default b 0 (omega arith)
        ]

-- the end of a walk that goes from place `from` up to place `to`, and nowhere where that lies before it
pub zeros-walked
    : (from to i : ℕ) (b : List ℕ) → from ≤ i → to ≤ i → (to < i → i ≡ from) → zeros from i b ≡ zeros from to b
unfolding zeros
zeros-walked from to i b h k n =
    let e : i - from ≡ to - from = elim (dec_lt to i) [ yes l ↦ let e = n l in omega arith | no l ↦ omega arith ] in
    ap (every (λ j. zero_at b (from + j))) e

-- ---- a number is 0 exactly when its bytes are

bytes-zero : (bs : List ℕ) → little bs ≡ 0 → (i : ℕ) → byte_at bs i ≡ 0
unfolding little
bytes-zero [] e i = refl
bytes-zero (x ∷ xs) e zero = omega arith
bytes-zero (x ∷ xs) e (suc i) = bytes-zero xs (omega arith) i

little-zero : (bs : List ℕ) → ((i : ℕ) → i < length bs → byte_at bs i ≡ 0) → little bs ≡ 0
unfolding little
little-zero [] z = refl
little-zero (x ∷ xs) z =
    let first = z 0 (omega arith) in
    let others = little-zero xs (λ i h. z (suc i) (omega arith)) in omega arith

-- the number of a part is 0 exactly when its bytes are
pub part-bytes-zero
    : (from k : ℕ) (b : List ℕ) → little (part from k b) ≡ 0 → (j : ℕ) → from ≤ j → j < from + k → byte_at b j ≡ 0
part-bytes-zero from k b e j l h =
    let p : from + (j - from) ≡ j = omega arith in
    ap (byte_at b) (sym p) ∙ sym (part-at from k b (j - from) (omega arith)) ∙ bytes-zero (part from k b) e (j - from)

pub part-zero
    : (from k : ℕ) (b : List ℕ) → ((j : ℕ) → from ≤ j → j < from + k → byte_at b j ≡ 0) → little (part from k b) ≡ 0
part-zero from k b z = little-zero (part from k b) (λ j h. at j (omega (arith, length-take k (drop from b))))
  where
    at : (j : ℕ) → j < k → byte_at (part from k b) j ≡ 0
    at j h = part-at from k b j h ∙ z (from + j) (omega arith) (omega arith)
