-- Numbers of eight bytes each, one after the other: how long they are, numbers after others, where each of them lies,
-- and a loop that stores one after the other.
-- Assumes nothing.
use mathlib.Core.Path.{◌≡◌, refl, ap, sym, ◌∙◌}
use mathlib.Core.List.{List, [], ◌∷◌, ◌++◌, append_assoc, append-nil}
use Prim.Native.Nat.{ℕ, suc, ◌+◌, ◌-◌, ◌*◌, ◌≤◌, ◌<◌}
use native.Mathlib.Numerals.{add-one}
use native.Mathlib.Omega.{arith}
use lib.ListN.{length, get_or, take, drop, length-append}
use lib.Seq.{take-suc, take_all, length-take-le, drop-drop, sets}
use Rattle.places.specs.Places.{table, chained}
use Rattle.places.proofs.Tables.{length-table, table-at}
use Rattle.places.proofs.Chains.{chained-same, chained-front, chained-at, parts-chained}
use Rattle.places.proofs.Stores.{stored-on}
use Rattle.little.specs.Bytes.{Bytes, part, bytes_of, longs}
use Rattle.little.proofs.Little.{length-bytes, bytes-below}
use Rattle.little.proofs.Parts.{bytes-append}

pub length-longs : (ns : List ℕ) → length (longs ns) ≡ 8 * length ns
unfolding longs
length-longs [] = refl
length-longs (n ∷ ns) =
    length-append (bytes_of 8 n) (longs ns)
    ∙ (let e = length-longs ns in let l = length-bytes 8 n in omega arith)

pub longs-append : (xs ys : List ℕ) → longs (xs ++ ys) ≡ longs xs ++ longs ys
unfolding longs
longs-append [] ys = refl
longs-append (x ∷ xs) ys =
    ap (λ l. bytes_of 8 x ++ l) (longs-append xs ys) ∙ sym (append_assoc (bytes_of 8 x) (longs xs) (longs ys))

pub longs-one : (n : ℕ) → longs (n ∷ []) ≡ bytes_of 8 n
unfolding longs
longs-one n = append-nil (bytes_of 8 n)

-- one number more at the end
pub longs-more
    : (ns : List ℕ) (i : ℕ) → i < length ns → longs (take (suc i) ns) ≡ longs (take i ns) ++ bytes_of 8 (get_or ns i 0)
longs-more ns i h =
    let n = get_or ns i 0 in
    ap longs (take-suc ns i 0 h)
    ∙ longs-append (take i ns) (n ∷ [])
    ∙ ap (λ l. longs (take i ns) ++ l) (longs-one n)

-- ---- as a chain, and as parts of a list

pub bytes-longs : (ns : List ℕ) → Bytes (longs ns)
unfolding longs
bytes-longs [] i = omega arith
bytes-longs (n ∷ ns) i = bytes-append (bytes_of 8 n) (longs ns) (bytes-below 8 n) (bytes-longs ns) i

pub longs-chained : (ns : List ℕ) → longs ns ≡ chained (λ i. bytes_of 8 (get_or ns i 0)) (length ns)
unfolding longs chained
longs-chained [] = refl
longs-chained (n ∷ ns) =
    ap (λ l. bytes_of 8 n ++ l) (longs-chained ns)
    ∙ sym (chained-front (λ i. bytes_of 8 (get_or (n ∷ ns) i 0)) (length ns))

eight : (ns : List ℕ) (n p : ℕ) → p < n → length (bytes_of 8 (get_or ns p 0)) ≡ 8
eight ns n p h = length-bytes 8 (get_or ns p 0)

-- each of them lies at its place
pub longs-at : (ns : List ℕ) (i : ℕ) → i < length ns → part (8 * i) 8 (longs ns) ≡ bytes_of 8 (get_or ns i 0)
longs-at ns i h =
    let k = length ns - 1 in
    let s : length ns ≡ suc k = omega arith in
    let f : ℕ → List ℕ = λ i. bytes_of 8 (get_or ns i 0) in
    let l = length-bytes 8 (get_or ns k 0) in
    ap (part (8 * i) 8) (longs-chained ns ∙ ap (chained f) s)
    ∙ chained-at f 8 k (eight ns k) (omega arith) i (omega arith)

-- and a part is the numbers whose bytes lie there
pub longs-of-part
    : (from n : ℕ) (b : List ℕ) (f : ℕ → ℕ) → ((i : ℕ) → i < n → bytes_of 8 (f i) ≡ part (from + 8 * i) 8 b) →
    part from (8 * n) b ≡ longs (table f n)
longs-of-part from n b f e =
    sym (parts-chained 8 n (drop from b))
    ∙ chained-same (λ i. take 8 (drop (8 * i) (drop from b))) (λ i. bytes_of 8 (get_or (table f n) i 0)) n same
    ∙ ap (chained (λ i. bytes_of 8 (get_or (table f n) i 0))) (sym (length-table f n))
    ∙ sym (longs-chained (table f n))
  where
    same : (i : ℕ) → i < n → take 8 (drop (8 * i) (drop from b)) ≡ bytes_of 8 (get_or (table f n) i 0)
    same i h =
        ap (take 8) (drop-drop (8 * i) from b) ∙ sym (e i h) ∙ ap (bytes_of 8) (sym (table-at f n i h))

-- ---- stored one by one from a place on

module _ (at : ℕ) (ns old : List ℕ) where
  pub longs-none : old ≡ sets old at (longs (take 0 ns))
  unfolding longs
  longs-none = refl

  pub longs-turn
      : {now : List ℕ} (i : ℕ) → now ≡ sets old at (longs (take i ns)) → i < length ns →
      sets now (at + 8 * i) (bytes_of 8 (get_or ns i 0)) ≡ sets old at (longs (take (i + 1) ns))
  longs-turn {now} i here h =
      let n = get_or ns i 0 in
      let done = longs (take i ns) in
      let size : at + 8 * i ≡ at + length done =
      omega (arith, length-longs (take i ns), length-take-le i ns (omega arith)) in
      ap (λ l. sets l (at + 8 * i) (bytes_of 8 n)) here
      ∙ ap (λ k. sets (sets old at done) k (bytes_of 8 n)) size
      ∙ sym (stored-on done (bytes_of 8 n) old at)
      ∙ ap (sets old at) (sym (longs-more ns i h))
      ∙ ap (λ k. sets old at (longs (take k ns))) (sym (add-one i))

  pub longs-all
      : {now : List ℕ} (i : ℕ) → now ≡ sets old at (longs (take i ns)) → length ns ≤ i → now ≡ sets old at (longs ns)
  longs-all i here h = here ∙ ap (λ l. sets old at (longs l)) (take_all i ns h)
