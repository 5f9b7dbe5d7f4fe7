-- Sums over places.
-- Assumes nothing.
use mathlib.Core.Path.{◌≡◌, refl, ap, ap₂, sym, ◌∙◌}
use Prim.Native.Nat.{ℕ, zero, suc, ◌+◌, ◌*◌, ◌≤◌, ◌<◌}
use native.Mathlib.Decide.{ℕ_discrete}
use native.Mathlib.Nat.{add-zero, add-suc}
use native.Mathlib.Omega.{arith}
use Rattle.places.specs.Places.{total}

-- no place, and one place more
pub total-none : (f : ℕ → ℕ) → total f 0 ≡ 0
unfolding total
total-none f = refl

pub total-more : (f : ℕ → ℕ) (n : ℕ) → total f (suc n) ≡ total f n + f n
unfolding total
total-more f n = refl

pub total-same : (f g : ℕ → ℕ) (n : ℕ) → ((j : ℕ) → j < n → f j ≡ g j) → total f n ≡ total g n
unfolding total
total-same f g zero e = refl
total-same f g (suc n) e = ap₂ ◌+◌ (total-same f g n (λ j h. e j (omega arith))) (e n (omega arith))

pub total-sum : (f g : ℕ → ℕ) (n : ℕ) → total (λ j. f j + g j) n ≡ total f n + total g n
unfolding total
total-sum f g zero = refl
total-sum f g (suc n) = let e = total-sum f g n in omega arith

pub total-times : (m : ℕ) (f : ℕ → ℕ) (n : ℕ) → total (λ j. m * f j) n ≡ m * total f n
unfolding total
total-times m f zero = omega arith
total-times m f (suc n) = let e = total-times m f n in omega arith

pub total-zero : (n : ℕ) → total (λ j. 0) n ≡ 0
unfolding total
total-zero zero = refl
total-zero (suc n) = let e = total-zero n in omega arith

-- the first m places, then n more
pub total-split : (f : ℕ → ℕ) (m n : ℕ) → total f (m + n) ≡ total f m + total (λ j. f (m + j)) n
unfolding total
total-split f m zero = omega (arith, ap (total f) (add-zero m))
total-split f m (suc n) = ap (total f) (add-suc m n) ∙ (let e = total-split f m n in omega arith)

-- a table of h rows of w places, row by row
pub total-rows : (f : ℕ → ℕ) (w h : ℕ) → total f (w * h) ≡ total (λ r. total (λ j. f (w * r + j)) w) h
unfolding total
total-rows f w zero = let e : w * 0 ≡ 0 = omega arith in ap (total f) e
total-rows f w (suc h) =
    let e : w * suc h ≡ w * h + w = omega arith in
    ap (total f) e ∙ total-split f (w * h) w ∙ ap (λ t. t + total (λ j. f (w * h + j)) w) (total-rows f w h)

-- rows of columns or columns of rows
pub total-swapped : (f : ℕ → ℕ → ℕ) (m n : ℕ) → total (λ i. total (f i) n) m ≡ total (λ j. total (λ i. f i j) m) n
unfolding total
total-swapped f zero n = sym (total-zero n)
total-swapped f (suc m) n =
    ap (λ t. t + total (f m) n) (total-swapped f m n) ∙ sym (total-sum (λ j. total (λ i. f i j) m) (f m) n)

-- ---- column by column

-- the sum over w * h places of (i + 1) times f, from the sums of each of w columns of h places: of f, and of f times
-- its row
pub by-columns
    : (f : ℕ → ℕ) (w h : ℕ) →
    total (λ j. w * total (λ q. q * f (w * q + j)) h + suc j * total (λ q. f (w * q + j)) h) w
    ≡ total (λ i. suc i * f i) (w * h)
by-columns f w h =
    total-same (λ j. w * total (λ q. q * f (w * q + j)) h + suc j * total (λ q. f (w * q + j)) h)
    (λ j. total (λ q. suc (w * q + j) * f (w * q + j)) h) w (λ j l. column j)
    ∙ sym (total-swapped (λ q j. suc (w * q + j) * f (w * q + j)) h w)
    ∙ sym (total-rows (λ i. suc i * f i) w h)
  where
    column
        : (j : ℕ) →
        w * total (λ q. q * f (w * q + j)) h + suc j * total (λ q. f (w * q + j)) h
        ≡ total (λ q. suc (w * q + j) * f (w * q + j)) h
    column j =
        let rows = total-times w (λ q. q * f (w * q + j)) h in
        let column-number = total-times (suc j) (λ q. f (w * q + j)) h in
        let both = total-sum (λ q. w * (q * f (w * q + j))) (λ q. suc j * f (w * q + j)) h in
        let same =
        total-same (λ q. w * (q * f (w * q + j)) + suc j * f (w * q + j)) (λ q. suc (w * q + j) * f (w * q + j)) h
        (λ q l. omega arith) in
        omega arith

-- ---- bounds

pub total-at-most : (f : ℕ → ℕ) (most n : ℕ) → ((j : ℕ) → j < n → f j ≤ most) → total f n ≤ n * most
unfolding total
total-at-most f most zero h = omega arith
total-at-most f most (suc n) h =
    let a = total-at-most f most n (λ j l. h j (omega arith)) in
    let b = h n (omega arith) in omega arith

-- ---- one place changed

-- f and g differ at place i alone
pub total-changed
    : (f g : ℕ → ℕ) (i n : ℕ) → i < n → ((j : ℕ) → (j ≡ i → ⊥) → f j ≡ g j) → total f n + g i ≡ total g n + f i
unfolding total
total-changed f g i zero l e = absurd (omega arith)
total-changed f g i (suc n) l e =
    elim (ℕ_discrete n i) [
      | yes p ↦
          let s = total-same f g n (λ j h. e j (λ q. omega arith)) in
          let a = ap f p in
          let b = ap g p in omega arith
      | no q ↦
          let r = total-changed f g i n (omega arith) e in
          let a = e n q in omega arith
    ]
