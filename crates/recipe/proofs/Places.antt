-- The hand as 32 numbers and marks: what putting a value on its place and taking one from it do to the hand that the places show.
-- Assumes nothing.
use mathlib.Core.Path.{◌≡◌, refl, ap, ap₂, sym, ◌∙◌, subst}
use mathlib.Core.List.{List, [], ◌∷◌}
use Prim.Native.Nat.{ℕ, zero, suc, ◌+◌, ◌-◌, ◌≤◌, ◌<◌}
use native.Mathlib.Numerals.{add-one}
use native.Mathlib.Omega.{arith}
use lib.ListN.{length, get_or, set, replicate, length-replicate}
use Rattle.checked.specs.declared.types.Checked.TheVariants.{Fits, Overflowed}
use Rattle.checked.specs.Value.{Value}
use Rattle.recipe.specs.Run.{mark_of, number_in, laid, places}
use Rattle.recipe.specs.Machine.{value_of, hand_of, Shows}

-- ---- values laid from the bottom up, then the rest

laid-set : (f : Value → ℕ) (hand : List Value) (rest : List ℕ) (i j x : ℕ) → i ≡ length hand + j → set (laid f hand rest) i x ≡ laid f hand (set rest j x)
laid-set f [] rest i j x e = let p : i ≡ j = omega arith in ap (λ k. set rest k x) p
laid-set f (v ∷ hand) rest i j x e = laid-set f hand (f v ∷ rest) i (suc j) x (omega arith)

pub laid-get
    : (f : Value → ℕ) (hand : List Value) (rest : List ℕ) (i j : ℕ) → i ≡ length hand + j →
    get_or (laid f hand rest) i 0 ≡ get_or rest j 0
laid-get f [] rest i j e = let p : i ≡ j = omega arith in ap (λ k. get_or rest k 0) p
laid-get f (v ∷ hand) rest i j e = laid-get f hand (f v ∷ rest) i (suc j) (omega arith)

laid-length : (f : Value → ℕ) (hand : List Value) (rest : List ℕ) → length (laid f hand rest) ≡ length hand + length rest
laid-length f [] rest = sym (omega arith)
laid-length f (v ∷ hand) rest = laid-length f hand (f v ∷ rest) ∙ omega arith

-- ---- the 32 places

room : (n : ℕ) → n < 32 → 32 - n ≡ suc (32 - suc n)
room n h = omega arith

pub places-length : (f : Value → ℕ) (hand : List Value) → length hand ≤ 32 → length (places f hand) ≡ 32
places-length f hand h = laid-length f hand (replicate (32 - length hand) 0) ∙ omega (arith, length-replicate {A = ℕ} (32 - length hand) 0)

places-put : (f : Value → ℕ) (hand : List Value) (v : Value) → length hand < 32 → set (places f hand) (length hand) (f v) ≡ places f (v ∷ hand)
places-put f hand v h =
    ap (λ n. set (laid f hand (replicate n 0)) (length hand) (f v)) (room (length hand) h)
    ∙ laid-set f hand (replicate (suc (32 - suc (length hand))) 0) (length hand) 0 (f v) (omega arith)

places-take : (f : Value → ℕ) (hand : List Value) (v : Value) → length hand < 32 → set (places f (v ∷ hand)) (length hand) 0 ≡ places f hand
places-take f hand v h =
    laid-set f hand (f v ∷ replicate (32 - suc (length hand)) 0) (length hand) 0 0 (omega arith) ∙ ap (λ n. laid f hand (replicate n 0)) (sym (room (length hand) h))

-- ---- the hand that the places show

pub value-back : (v : Value) → value_of (number_in v) (mark_of v) ≡ v
value-back (Fits n) = refl
value-back Overflowed = refl

hand-length : (k : ℕ) (numbers marks : List ℕ) → length (hand_of k numbers marks) ≡ k
hand-length zero numbers marks = refl
hand-length (suc k) numbers marks = ap suc (hand-length k numbers marks)

hand-back : (hand : List Value) (r s : List ℕ) → hand_of (length hand) (laid number_in hand r) (laid mark_of hand s) ≡ hand
hand-back [] r s = refl
hand-back (v ∷ hand) r s =
    ap₂ ◌∷◌ (ap₂ value_of (laid-get number_in hand (number_in v ∷ r) (length hand) 0 (omega arith)) (laid-get mark_of hand (mark_of v ∷ s) (length hand) 0 (omega arith)) ∙ value-back v)
    (hand-back hand (number_in v ∷ r) (mark_of v ∷ s))

-- places that show a hand show it by themselves
shows : (k : ℕ) (hand : List Value) (numbers marks : List ℕ) → length hand ≡ k → k ≤ 32 → numbers ≡ places number_in hand → marks ≡ places mark_of hand →
    (hand_of k numbers marks ≡ hand) × Shows k numbers marks
shows k hand numbers marks e h p q = (back, (h, p ∙ ap (places number_in) (sym back), q ∙ ap (places mark_of) (sym back)))
  where
    back : hand_of k numbers marks ≡ hand
    back = ap (λ n. hand_of n numbers marks) (sym e) ∙ ap₂ (hand_of (length hand)) p q ∙ hand-back hand (replicate (32 - length hand) 0) (replicate (32 - length hand) 0)

pub shows-length : (k : ℕ) (numbers marks : List ℕ) → Shows k numbers marks → (length numbers ≡ 32) × (length marks ≡ 32)
shows-length k numbers marks (h, p, q) =
    let hand = hand_of k numbers marks in
    let n = hand-length k numbers marks in
    (ap length p ∙ places-length number_in hand (omega arith), ap length q ∙ places-length mark_of hand (omega arith))

-- a value put on the place above the hand is its top
pub put-shows : (k : ℕ) (numbers marks numbers' marks' : List ℕ) (v : Value) → Shows k numbers marks → k < 32 → numbers' ≡ set numbers k (number_in v) →
    marks' ≡ set marks k (mark_of v) → (hand_of (suc k) numbers' marks' ≡ v ∷ hand_of k numbers marks) × Shows (suc k) numbers' marks'
put-shows k numbers marks numbers' marks' v (h, p, q) l a b =
    let hand = hand_of k numbers marks in
    let n = hand-length k numbers marks in
    let m : length hand < 32 = omega arith in
    shows (suc k) (v ∷ hand) numbers' marks' (ap suc n) l
    (a ∙ ap₂ (λ xs i. set xs i (number_in v)) p (sym n) ∙ places-put number_in hand v m)
    (b ∙ ap₂ (λ xs i. set xs i (mark_of v)) q (sym n) ∙ places-put mark_of hand v m)

-- the top taken from its place leaves what is under it
pub take-shows : (held i : ℕ) (numbers marks numbers' marks' : List ℕ) → held ≡ suc i → Shows held numbers marks → numbers' ≡ set numbers i 0 →
    marks' ≡ set marks i 0 → (hand_of held numbers marks ≡ value_of (get_or numbers i 0) (get_or marks i 0) ∷ hand_of i numbers' marks') × Shows i numbers' marks'
take-shows held i numbers marks numbers' marks' e s a b =
    let t = taken (subst (λ n. Shows n numbers marks) e s) in
    (ap (λ n. hand_of n numbers marks) e ∙ ap (λ hand. value_of (get_or numbers i 0) (get_or marks i 0) ∷ hand) (sym t.0), t.1)
  where
    taken : Shows (suc i) numbers marks → (hand_of i numbers' marks' ≡ hand_of i numbers marks) × Shows i numbers' marks'
    taken (h, p, q) =
        let hand = hand_of i numbers marks in
        let v = value_of (get_or numbers i 0) (get_or marks i 0) in
        let n = hand-length i numbers marks in
        let m : length hand < 32 = omega arith in
        shows i hand numbers' marks' n (omega arith)
        (a ∙ ap₂ (λ xs k. set xs k 0) p (sym n) ∙ places-take number_in hand v m)
        (b ∙ ap₂ (λ xs k. set xs k 0) q (sym n) ∙ places-take mark_of hand v m)

-- ---- a value put on the hand, and one taken from it

pub pushed
    : {held : ℕ} {numbers marks numbers' marks' : List ℕ} {hand : List Value} {v : Value} →
    hand_of held numbers marks ≡ hand → Shows held numbers marks → length hand < 32 →
    (numbers' ≡ set numbers held (number_in v)) × (marks' ≡ set marks held (mark_of v)) →
    (hand_of (held + 1) numbers' marks' ≡ v ∷ hand) × Shows (held + 1) numbers' marks'
pushed {held} {numbers} {marks} {numbers'} {marks'} {hand} {v} is s room (a, b) =
    let n = hand-length held numbers marks in
    let e = ap length is in
    let w = put-shows held numbers marks numbers' marks' v s (omega arith) a b in
    subst (λ k. (hand_of k numbers' marks' ≡ v ∷ hand) × Shows k numbers' marks') (sym (add-one held))
    (w.0 ∙ ap (λ hand. v ∷ hand) is, w.1)

pub popped
    : {held : ℕ} {numbers marks numbers' marks' : List ℕ} {hand : List Value} {v : Value} →
    hand_of held numbers marks ≡ hand → Shows held numbers marks → 0 < length hand →
    v ≡ value_of (get_or numbers (held - 1) 0) (get_or marks (held - 1) 0) →
    (numbers' ≡ set numbers (held - 1) 0) × (marks' ≡ set marks (held - 1) 0) →
    (hand ≡ v ∷ hand_of (held - 1) numbers' marks') × Shows (held - 1) numbers' marks'
    × (length (hand_of (held - 1) numbers' marks') < 32)
popped {held} {numbers} {marks} {numbers'} {marks'} {hand} {v} is s some top (a, b) =
    let n = hand-length held numbers marks in
    let l = hand-length (held - 1) numbers' marks' in
    let e = ap length is in
    let most = s.0 in
    let w = take-shows held (held - 1) numbers marks numbers' marks' (omega arith) s a b in
    (sym is ∙ w.0 ∙ ap (λ v. v ∷ hand_of (held - 1) numbers' marks') (sym top), w.1, omega arith)

-- and two, the right one first
pub both-popped
    : {held : ℕ} {numbers marks numbers' marks' numbers'' marks'' : List ℕ} {hand : List Value} {l r : Value} →
    hand_of held numbers marks ≡ hand → Shows held numbers marks → 2 ≤ length hand →
    r ≡ value_of (get_or numbers (held - 1) 0) (get_or marks (held - 1) 0) →
    (numbers' ≡ set numbers (held - 1) 0) × (marks' ≡ set marks (held - 1) 0) →
    l ≡ value_of (get_or numbers' (held - 2) 0) (get_or marks' (held - 2) 0) →
    (numbers'' ≡ set numbers' (held - 2) 0) × (marks'' ≡ set marks' (held - 2) 0) →
    (hand ≡ r ∷ l ∷ hand_of (held - 2) numbers'' marks'') × Shows (held - 2) numbers'' marks''
    × (length (hand_of (held - 2) numbers'' marks'') < 32)
both-popped {held} {numbers} {marks} {numbers'} {marks'} {numbers''} {marks''} {hand} {l} {r} is s two top (a, b) under (a', b') =
    let n = hand-length held numbers marks in
    let n' = hand-length (held - 1) numbers' marks' in
    let n'' = hand-length (held - 2) numbers'' marks'' in
    let e = ap length is in
    let most = s.0 in
    let p = popped {v = r} is s (omega arith) top (a, b) in
    let w = take-shows (held - 1) (held - 2) numbers' marks' numbers'' marks'' (omega arith) p.1 a' b' in
    (p.0 ∙ ap (λ hand. r ∷ hand) (w.0 ∙ ap (λ v. v ∷ hand_of (held - 2) numbers'' marks'') (sym under)), w.1, omega arith)
