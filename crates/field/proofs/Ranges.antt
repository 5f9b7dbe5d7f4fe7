-- The least and the greatest of a list, both as what is kept of it: one number more, a bound, and that it is one of the numbers.
-- Assumes nothing.
use mathlib.Core.Path.{◌≡◌, refl, ap, sym, ◌∙◌}
use mathlib.Core.Logic.{◌⊎◌, inl, inr}
use mathlib.Core.List.{List, [], ◌∷◌}
use Prim.Native.Nat.{ℕ, zero, suc, ◌≤◌, ◌<◌, min, max}
use native.Mathlib.Nat.{not-suc-le-zero, le_of_suc-le-suc}
use native.Mathlib.Decide.{dec_lt}
use native.Mathlib.Omega.{arith}
use lib.ListN.{length, get_or, drop}
use lib.Seq.{drop-cons}
use Rattle.field.specs.Range.{kept_from, kept, least, greatest, Holds}

-- ---- one number more

module _ (keep : ℕ → ℕ → ℕ) where
  pub kept-at : (m : ℕ) (ns : List ℕ) (i : ℕ) → i < length ns → kept_from keep m (drop i ns) ≡ kept_from keep (keep m (get_or ns i 0)) (drop (suc i) ns)
  unfolding kept_from
  kept-at m ns i h = ap (kept_from keep m) (drop-cons ns i 0 h)

  pub kept-end : (m : ℕ) → kept_from keep m [] ≡ m
  unfolding kept_from
  kept-end m = refl

  -- from the first number on, which is looked at twice
  pub kept-start : (ns : List ℕ) → ((n : ℕ) → keep n n ≡ n) → 0 < length ns → kept_from keep (get_or ns 0 0) ns ≡ kept keep ns
  unfolding kept_from
  kept-start [] same h = absurd (not-suc-le-zero h)
  kept-start (n ∷ ns) same h = ap (λ m. kept_from keep m ns) (same n)

-- ---- a bound

-- where what is kept of two numbers stands so to both of them, what is kept of a list stands so to each number
module _
    (keep : ℕ → ℕ → ℕ)
    (To : ℕ → ℕ → Type 0)
    (same : (n : ℕ) → To n n)
    (via : (l m n : ℕ) → To l m → To m n → To l n)
    (left : (m n : ℕ) → To (keep m n) m)
    (right : (m n : ℕ) → To (keep m n) n)
  where
    to-first : (m : ℕ) (ns : List ℕ) → To (kept_from keep m ns) m
    unfolding kept_from
    to-first m [] = same m
    to-first m (n ∷ ns) = via (kept_from keep (keep m n) ns) (keep m n) m (to-first (keep m n) ns) (left m n)

    to-later : (m : ℕ) (ns : List ℕ) (i : ℕ) → i < length ns → To (kept_from keep m ns) (get_or ns i 0)
    unfolding kept_from
    to-later m [] i h = absurd (not-suc-le-zero h)
    to-later m (n ∷ ns) zero h = via (kept_from keep (keep m n) ns) (keep m n) n (to-first (keep m n) ns) (right m n)
    to-later m (n ∷ ns) (suc i) h = to-later (keep m n) ns i (le_of_suc-le-suc h)

    kept-bound : (ns : List ℕ) (i : ℕ) → i < length ns → To (kept keep ns) (get_or ns i 0)
    kept-bound [] i h = absurd (not-suc-le-zero h)
    kept-bound (n ∷ ns) zero h = to-first n ns
    kept-bound (n ∷ ns) (suc i) h = to-later n ns i (le_of_suc-le-suc h)

-- the least is at most each number, and the greatest at least
pub least-bound : (ns : List ℕ) (i : ℕ) → i < length ns → least ns ≤ get_or ns i 0
least-bound = kept-bound min (λ m n. m ≤ n) (λ n. omega arith) (λ l m n h k. omega arith) (λ m n. omega arith) (λ m n. omega arith)

pub greatest-bound : (ns : List ℕ) (i : ℕ) → i < length ns → get_or ns i 0 ≤ greatest ns
greatest-bound = kept-bound max (λ m n. n ≤ m) (λ n. omega arith) (λ l m n h k. omega arith) (λ m n. omega arith) (λ m n. omega arith)

-- ---- one of the numbers

later : (n m : ℕ) (ns : List ℕ) → Holds ns m → Holds (n ∷ ns) m
later n m ns (i, h, e) = let k : suc i < suc (length ns) = omega arith in (suc i, k, e)

here : (n m : ℕ) (ns : List ℕ) → n ≡ m → Holds (n ∷ ns) m
here n m ns e = let k : 0 < suc (length ns) = omega arith in (0, k, e)

-- where one of two numbers is kept, one of a list's is
module _ (keep : ℕ → ℕ → ℕ) (either : (m n : ℕ) → (keep m n ≡ m) ⊎ (keep m n ≡ n)) where
  -- the number that is carried, or one of the list's
  among : (m : ℕ) (ns : List ℕ) → (kept_from keep m ns ≡ m) ⊎ Holds ns (kept_from keep m ns)
  unfolding kept_from
  among m [] = inl refl
  among m (n ∷ ns) =
      elim (among (keep m n) ns) [
        | inl e ↦
            elim (either m n) [
              | inl l ↦ inl (e ∙ l)
              | inr r ↦ inr (here n (kept_from keep (keep m n) ns) ns (sym (e ∙ r)))
            ]
        | inr h ↦ inr (later n (kept_from keep (keep m n) ns) ns h)
      ]

  kept-held : (ns : List ℕ) → 0 < length ns → Holds ns (kept keep ns)
  kept-held [] h = absurd (not-suc-le-zero h)
  kept-held (n ∷ ns) h = elim (among n ns) [ inl e ↦ here n (kept_from keep n ns) ns (sym e) | inr k ↦ later n (kept_from keep n ns) ns k ]

pub least-held : (ns : List ℕ) → 0 < length ns → Holds ns (least ns)
least-held = kept-held min (λ m n. elim (dec_lt n m) [ yes h ↦ inr (omega arith) | no h ↦ inl (omega arith) ])

pub greatest-held : (ns : List ℕ) → 0 < length ns → Holds ns (greatest ns)
greatest-held = kept-held max (λ m n. elim (dec_lt m n) [ yes h ↦ inr (omega arith) | no h ↦ inl (omega arith) ])
