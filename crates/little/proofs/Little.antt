-- Numbers as bytes, little-endian: from a number to its bytes and back, the number of two lists one after the other,
-- and the numbers of parts of a list.
-- Assumes nothing.
use mathlib.Core.Path.{◌≡◌, refl, ap, ap₂, sym, ◌∙◌}
use mathlib.Core.List.{List, [], ◌∷◌, ◌++◌}
use Prim.Native.Nat.{ℕ, zero, suc, ◌+◌, ◌*◌, ◌/◌, ◌%◌, ◌^◌, ◌≤◌, ◌<◌}
use native.Mathlib.Nat.{mod-add-div, mod-lt, div-one, div-div-eq-div-mul, div-eq_of_lt, pow-zero, pow-suc, pow-succ'}
use native.Mathlib.Nat.{pow-le-pow_right}
use native.Mathlib.Decide.{dec_lt}
use native.Mathlib.Omega.{arith}
use lib.Arith.{digits_div, digits_mod}
use lib.Pow.{pow-add}
use lib.ListN.{length, take, drop, length-take, length-drop, get_or-eq_default}
use lib.Seq.{drop-cons, drop-drop, get_or-take, get_or-drop, length-take-le, take-add}
use Rattle.std.specs.Int.{w32, w64, to_le_bytes, bytes_low_first}
use Rattle.std.specs.Int as Core
use Rattle.little.specs.Bytes.{byte_at, Bytes, part, little, bytes_of, byte_of}

-- ---- the bytes of a number

pub length-bytes : (k n : ℕ) → length (bytes_of k n) ≡ k
unfolding bytes_of
length-bytes zero n = refl
length-bytes (suc k) n = ap suc (length-bytes k (n / 256))

pub bytes-below : (k n : ℕ) → Bytes (bytes_of k n)
unfolding bytes_of
bytes-below zero n i = omega arith
bytes-below (suc k) n zero = mod-lt n (omega arith)
bytes-below (suc k) n (suc i) = bytes-below k (n / 256) i

-- each of them by its place
pub bytes-at : (k n j : ℕ) → j < k → byte_at (bytes_of k n) j ≡ byte_of n j
unfolding bytes_of
bytes-at zero n j h = absurd (omega arith)
bytes-at (suc k) n zero h = ap (λ m. m % 256) (sym (ap (λ m. n / m) (pow-zero 256) ∙ div-one n))
bytes-at (suc k) n (suc j) h =
    bytes-at k (n / 256) j (omega arith)
    ∙ ap (λ m. m % 256) (div-div-eq-div-mul n 256 (256 ^ j) ∙ ap (λ m. n / m) (sym (pow-succ' 256 j)))

-- the same bytes as std's methods give them
low-first : (i k n : ℕ) → bytes_low_first i k n ≡ bytes_of k (n / 256 ^ i)
unfolding bytes_of
low-first i zero n = refl
low-first i (suc k) n =
    ap₂ ◌∷◌ (here i)
    (low-first (suc i) k n
    ∙ ap (bytes_of k) (ap (λ m. n / m) (pow-suc 256 i) ∙ sym (div-div-eq-div-mul n (256 ^ i) 256)))
  where
    here : (j : ℕ) → Core.byte_at j n ≡ n / 256 ^ j % 256
    here zero = ap (λ m. m % 256) (sym (ap (λ m. n / m) (pow-zero 256) ∙ div-one n))
    here (suc j) = refl

whole : (k n : ℕ) → bytes_low_first 0 k n ≡ bytes_of k n
whole k n = low-first 0 k n ∙ ap (bytes_of k) (ap (λ m. n / m) (pow-zero 256) ∙ div-one n)

pub le-bytes-4 : (n : ℕ) → to_le_bytes w32 n ≡ bytes_of 4 n
le-bytes-4 n = whole 4 n

pub le-bytes-8 : (n : ℕ) → to_le_bytes w64 n ≡ bytes_of 8 n
le-bytes-8 n = whole 8 n

-- a byte is eight bits
pub shifted : (j : ℕ) → 2 ^ (8 * j) ≡ 256 ^ j
shifted zero = refl
shifted (suc j) =
    let e : 8 * suc j ≡ 8 + 8 * j = omega arith in
    ap (λ m. 2 ^ m) e ∙ pow-add 2 8 (8 * j) ∙ ap (λ m. 256 * m) (shifted j) ∙ sym (pow-succ' 256 j)

-- a number of eight bytes has no ninth
pub byte-past : (n j : ℕ) → n < 2 ^ 64 → 7 < j → byte_of n j ≡ 0
byte-past n j h k =
    let p : 256 ^ 8 ≤ 256 ^ j = pow-le-pow_right (omega arith) k in
    ap (λ m. m % 256) (div-eq_of_lt {n = n} {m = 256 ^ j} (omega arith))

-- ---- the number of bytes

-- a list's number is below 256 to the power of its length
pub little-below : (bs : List ℕ) → Bytes bs → little bs < 256 ^ length bs
unfolding little
little-below [] h = omega arith
little-below (b ∷ bs) h =
    let r = little-below bs (λ i. h (suc i)) in
    let l = h 0 in
    let p = pow-succ' 256 (length bs) in omega arith

-- the number of two lists, one after the other
pub little-append : (xs ys : List ℕ) → little (xs ++ ys) ≡ little xs + 256 ^ length xs * little ys
unfolding little
little-append [] ys = omega arith
little-append (x ∷ xs) ys =
    let r = little-append xs ys in
    let p = pow-succ' 256 (length xs) in
    let q = ap (λ t. t * little ys) p in omega arith

-- ---- there and back

pub little-bytes : (k n : ℕ) → n < 256 ^ k → little (bytes_of k n) ≡ n
unfolding little bytes_of
little-bytes zero n h = omega arith
little-bytes (suc k) n h =
    let e = mod-add-div n 256 in
    let p = pow-succ' 256 k in
    let r = little-bytes k (n / 256) (omega arith) in omega arith

pub bytes-little : (bs : List ℕ) → Bytes bs → bytes_of (length bs) (little bs) ≡ bs
unfolding little bytes_of
bytes-little [] h = refl
bytes-little (b ∷ bs) h =
    let e : b + 256 * little bs ≡ little bs * 256 + b = omega arith in
    let low : (b + 256 * little bs) % 256 ≡ b = ap (λ n. n % 256) e ∙ digits_mod (little bs) (h 0) in
    let high : (b + 256 * little bs) / 256 ≡ little bs = ap (λ n. n / 256) e ∙ digits_div (little bs) (h 0) in
    ap₂ ◌∷◌ low (ap (bytes_of (length bs)) high ∙ bytes-little bs (λ i. h (suc i)))

-- ---- the number of a part

pub part-at : (from k : ℕ) (b : List ℕ) (i : ℕ) → i < k → byte_at (part from k b) i ≡ byte_at b (from + i)
part-at from k b i h = get_or-take k (drop from b) i 0 h ∙ get_or-drop from b i 0

pub part-bytes : (from k : ℕ) (b : List ℕ) → Bytes b → Bytes (part from k b)
part-bytes from k b h i =
    elim (dec_lt i k) [
      | yes l ↦ let e = part-at from k b i l in let g = h (from + i) in omega arith
      | no n ↦
          let s : length (part from k b) ≤ i = omega (arith, length-take k (drop from b)) in
          let e = get_or-eq_default (part from k b) 0 s in omega arith
    ]

pub little-part-below : (from k : ℕ) (b : List ℕ) → Bytes b → little (part from k b) < 256 ^ k
little-part-below from k b h =
    let s : length (part from k b) ≤ k = omega (arith, length-take k (drop from b)) in
    let r = little-below (part from k b) (part-bytes from k b h) in
    let p : 256 ^ length (part from k b) ≤ 256 ^ k = pow-le-pow_right (omega arith) s in omega arith

-- a part of one byte
pub little-one : (from : ℕ) (b : List ℕ) → from < length b → little (part from 1 b) ≡ byte_at b from
unfolding little
little-one from b h = ap (λ l. little (take 1 l)) (drop-cons b from 0 h) ∙ omega arith

-- a part in two
pub little-split
    : (from j k : ℕ) (b : List ℕ)
    → from + (j + k) ≤ length b →
    little (part from (j + k) b) ≡ little (part from j b) + 256 ^ j * little (part (from + j) k b)
little-split from j k b h =
    let s : length (part from j b) ≡ j = length-take-le j (drop from b) (omega (arith, length-drop from b)) in
    ap little (take-add j k (drop from b)) ∙ little-append (part from j b) (take k (drop j (drop from b)))
    ∙ ap₂ (λ n l. little (part from j b) + 256 ^ n * little (take k l)) s (drop-drop j from b)
