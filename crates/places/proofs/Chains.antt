-- Lists one after the other: how long they are together, where each of them lies, and a list cut into parts.
-- Assumes nothing.
use mathlib.Core.Path.{◌≡◌, refl, ap, ap₂, sym, ◌∙◌}
use mathlib.Core.List.{List, [], ◌++◌, append_assoc, append-nil}
use Prim.Native.Nat.{ℕ, zero, suc, ◌+◌, ◌*◌, ◌≤◌, ◌<◌}
use native.Mathlib.Decide.{dec_lt}
use native.Mathlib.Omega.{arith}
use lib.ListN.{length, take, drop, length-append}
use lib.Seq.{take_all, take-add, take_at, drop_at}
use Rattle.places.specs.Places.{chained}

-- ---- one list more

module _ (f : ℕ → List ℕ) where
  pub chained-none : chained f 0 ≡ []
  unfolding chained
  chained-none = refl

  pub chained-more : (n : ℕ) → chained f (suc n) ≡ chained f n ++ f n
  unfolding chained
  chained-more n = refl

pub chained-same
    : (f g : ℕ → List ℕ) (n : ℕ) → ((p : ℕ) → p < n → f p ≡ g p) → chained f n ≡ chained g n
unfolding chained
chained-same f g zero e = refl
chained-same f g (suc n) e = ap₂ ◌++◌ (chained-same f g n (λ p h. e p (omega arith))) (e n (omega arith))

-- the first of them, and those after it
pub chained-front
    : (f : ℕ → List ℕ) (n : ℕ) → chained f (suc n) ≡ f 0 ++ chained (λ p. f (suc p)) n
unfolding chained
chained-front f zero = sym (append-nil (f 0))
chained-front f (suc n) =
    ap (λ l. l ++ f (suc n)) (chained-front f n)
    ∙ append_assoc (f 0) (chained (λ p. f (suc p)) n) (f (suc n))

-- ---- lists of one length

module _ (f : ℕ → List ℕ) (size : ℕ) where
  -- together
  pub length-chained
      : (n : ℕ) → ((p : ℕ) → p < n → length (f p) ≡ size) → length (chained f n) ≡ size * n
  unfolding chained
  length-chained zero e = omega arith
  length-chained (suc n) e =
      let l = length-append (chained f n) (f n) in
      let r = length-chained n (λ p h. e p (omega arith)) in
      let o = e n (omega arith) in omega arith

  -- with a last one that may be shorter
  pub length-chained-last
      : (n : ℕ) → ((p : ℕ) → p < n → length (f p) ≡ size) → length (chained f (suc n)) ≡ size * n + length (f n)
  length-chained-last n e =
      ap length (chained-more f n) ∙ length-append (chained f n) (f n)
      ∙ ap (λ k. k + length (f n)) (length-chained n e)

  -- where the one at position p lies, and whatever follows
  earlier
      : (n : ℕ) → ((p : ℕ) → p < n → length (f p) ≡ size) → (p : ℕ) → p < n → (after : List ℕ) →
      take size (drop (size * p) (chained f n ++ after)) ≡ f p
  unfolding chained
  earlier zero e p h after = absurd (omega arith)
  earlier (suc n) e p h after =
      let s = length-chained n (λ q k. e q (omega arith)) in
      let o = e n (omega arith) in
      ap (λ l. take size (drop (size * p) l)) (append_assoc (chained f n) (f n) after)
      ∙ elim (dec_lt p n) [
        | yes m ↦ earlier n (λ q k. e q (omega arith)) p m (f n ++ after)
        | no m ↦
            let q : n ≡ p = omega arith in
            ap (take size) (drop_at (chained f n) (f n ++ after) (size * p) (s ∙ ap (λ k. size * k) q))
            ∙ take_at (f n) after size o
            ∙ ap f q
      ]

  -- the last may be shorter
  pub chained-at
      : (n : ℕ) → ((p : ℕ) → p < n → length (f p) ≡ size) → length (f n) ≤ size → (p : ℕ) → p ≤ n →
      take size (drop (size * p) (chained f (suc n))) ≡ f p
  unfolding chained
  chained-at n e l p h =
      elim (dec_lt p n) [
        | yes m ↦ earlier n e p m (f n)
        | no m ↦
            let q : n ≡ p = omega arith in
            let s : length (chained f n) ≡ size * p = length-chained n e ∙ ap (λ k. size * k) q in
            ap (take size) (drop_at (chained f n) (f n) (size * p) s) ∙ take_all size (f n) l ∙ ap f q
      ]

-- ---- a list cut into parts

pub parts-chained
    : (size n : ℕ) (xs : List ℕ) → chained (λ p. take size (drop (size * p) xs)) n ≡ take (size * n) xs
unfolding chained
parts-chained size zero xs = let z : size * 0 ≡ 0 = omega arith in sym (ap (λ k. take k xs) z)
parts-chained size (suc n) xs =
    let s : size * n + size ≡ size * suc n = omega arith in
    ap (λ l. l ++ take size (drop (size * n) xs)) (parts-chained size n xs)
    ∙ sym (take-add (size * n) size xs)
    ∙ ap (λ k. take k xs) s

-- the parts together are the list, where they reach to its end
pub parts-are-all
    : (size n : ℕ) (xs : List ℕ) → length xs ≤ size * n → chained (λ p. take size (drop (size * p) xs)) n ≡ xs
parts-are-all size n xs h = parts-chained size n xs ∙ take_all (size * n) xs h
