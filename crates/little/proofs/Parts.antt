-- Parts of a list that is laid part after part: where each part is found again, and that the parts make the list.
-- Assumes nothing.
use mathlib.Core.Path.{◌≡◌, ap, ap₂, sym, ◌∙◌}
use mathlib.Core.List.{List, [], ◌∷◌, ◌++◌, append_assoc, append-nil}
use Prim.Native.Nat.{ℕ, zero, suc, ◌+◌, ◌-◌, ◌≤◌, ◌<◌}
use native.Mathlib.Decide.{dec_lt}
use native.Mathlib.Omega.{arith}
use lib.ListN.{length, get_or, take, drop, replicate, length-drop, length-replicate}
use lib.ListN.{get_or-replicate, get_or-append, get_or-eq_default}
use lib.Seq.{take-nil, take-add, take_at, drop_at, take-take, drop-drop, length-take-le, get_or-append-add, ext_get_or}
use Rattle.little.specs.Bytes.{byte_at, Bytes, part}
use Rattle.little.proofs.Little.{part-at}

-- ---- a list that begins with another

-- b begins with xs
pub record Begins (xs b : List ℕ) : Type 0 where
  pub rest : List ℕ
  pub whole : b ≡ xs ++ rest

pub begins-all : (xs : List ℕ) {b : List ℕ} → b ≡ xs → Begins xs b
begins-all xs e = record { rest = []; whole = e ∙ sym (append-nil xs) }

-- with the same list in another form
pub begins-same : {xs ys b : List ℕ} → Begins xs b → xs ≡ ys → Begins ys b
begins-same w e = record { rest = w.rest; whole = w.whole ∙ ap (λ l. l ++ w.rest) e }

pub begins-less : (xs ys : List ℕ) {b : List ℕ} → Begins (xs ++ ys) b → Begins xs b
begins-less xs ys w = record { rest = ys ++ w.rest; whole = w.whole ∙ append_assoc xs ys w.rest }

-- the last part of what it begins with, found in it again at its place
pub part-last
    : (xs ys : List ℕ) {b : List ℕ} (from count : ℕ) → Begins (xs ++ ys) b → length xs ≡ from → length ys ≡ count →
    part from count b ≡ ys
part-last xs ys from count w f c =
    ap (part from count) (w.whole ∙ append_assoc xs ys w.rest)
    ∙ ap (take count) (drop_at xs (ys ++ w.rest) from f)
    ∙ take_at ys w.rest count c

pub begins-at : (xs : List ℕ) {b : List ℕ} → Begins xs b → (i : ℕ) → i < length xs → byte_at b i ≡ byte_at xs i
begins-at xs w i h = ap (λ l. byte_at l i) w.whole ∙ get_or-append xs w.rest 0 i h

-- the way back: a list is made of its parts, one after the other
pub part-grown
    : (xs ys b : List ℕ) (from count to : ℕ) → take from b ≡ xs → part from count b ≡ ys → from + count ≡ to →
    take to b ≡ xs ++ ys
part-grown xs ys b from count to e p s =
    ap (λ k. take k b) (sym s) ∙ take-add from count b ∙ ap₂ ◌++◌ e p

-- ---- parts

pub length-part : (from k : ℕ) (b : List ℕ) → from + k ≤ length b → length (part from k b) ≡ k
length-part from k b h = length-take-le k (drop from b) (omega (arith, length-drop from b))

-- a part of a part
pub part-of-part
    : (from k at j : ℕ) (b : List ℕ) → at + j ≤ k → part at j (part from k b) ≡ part (from + at) j b
part-of-part from k at j b h =
    let e : at + (k - at) ≡ k = omega arith in
    ap (λ m. take j (drop at (take m (drop from b)))) (sym e)
    ∙ ap (take j) (sym (taken at (k - at) (drop from b)))
    ∙ take-take j (k - at) (drop at (drop from b)) (omega arith)
    ∙ ap (take j) (drop-drop at from b)
  where
    taken : (n m : ℕ) (l : List ℕ) → take m (drop n l) ≡ drop n (take (n + m) l)
    taken zero m l = let e : 0 + m ≡ m = omega arith in sym (ap (λ k. take k l) e)
    taken (suc n) m [] = take-nil m ∙ sym (ap (drop (suc n)) (take-nil (suc n + m)))
    taken (suc n) m (x ∷ l) =
        let e : suc n + m ≡ suc (n + m) = omega arith in
        taken n m l ∙ sym (ap (λ k. drop (suc n) (take k (x ∷ l))) e)

-- a part whose bytes are known one by one
pub part-is
    : (from k : ℕ) (b xs : List ℕ) → from + k ≤ length b → length xs ≡ k →
    ((i : ℕ) → i < k → byte_at b (from + i) ≡ byte_at xs i) → part from k b ≡ xs
part-is from k b xs h l e =
    let n = length-part from k b h in
    ext_get_or 0 (part from k b) xs (n ∙ sym l)
    (λ i m. let w : i < k = omega arith in part-at from k b i w ∙ e i w)

-- zeros
pub zeros-part-is
    : (from k : ℕ) (b : List ℕ) → from + k ≤ length b →
    ((i : ℕ) → i < k → byte_at b (from + i) ≡ 0) → part from k b ≡ replicate k 0
zeros-part-is from k b h z =
    part-is from k b (replicate k 0) h (length-replicate k 0) (λ i m. z i m ∙ sym (get_or-replicate k i 0 0 m))

pub zero-in-part
    : (from k : ℕ) (b : List ℕ) → part from k b ≡ replicate k 0 → (i : ℕ) → i < k → byte_at b (from + i) ≡ 0
zero-in-part from k b e i h = sym (part-at from k b i h) ∙ ap (λ l. byte_at l i) e ∙ get_or-replicate k i 0 0 h

-- ---- bytes

pub bytes-append : (xs ys : List ℕ) → Bytes xs → Bytes ys → Bytes (xs ++ ys)
bytes-append xs ys p q i =
    elim (dec_lt i (length xs)) [
      | yes h ↦ let e = get_or-append xs ys 0 i h in let g = p i in omega arith
      | no h ↦
          let s : length xs + (i - length xs) ≡ i = omega arith in
          let e = get_or-append-add xs ys (i - length xs) 0 in
          let r = ap (λ k. get_or (xs ++ ys) k 0) s in
          let g = q (i - length xs) in omega arith
    ]

pub bytes-zeros : (k : ℕ) → Bytes (replicate k 0)
bytes-zeros k i =
    elim (dec_lt i k) [
      | yes h ↦ let e = get_or-replicate {A = ℕ} k i 0 0 h in omega arith
      | no h ↦
          let l : length {A = ℕ} (replicate k 0) ≤ i = omega (arith, length-replicate {A = ℕ} k 0) in
          let e = get_or-eq_default {A = ℕ} (replicate k 0) 0 l in omega arith
    ]
