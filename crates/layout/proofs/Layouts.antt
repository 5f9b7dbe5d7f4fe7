-- A block has an edition's layout exactly when each of seven tests holds, and it is sound exactly when each sentence
-- of `Told` is so.
-- Assumes nothing.
use mathlib.Core.Path.{◌≡◌, refl, ap, ap₂, sym, ◌∙◌}
use mathlib.Core.Logic.{◌↔◌, inl, inr}
use mathlib.Core.Bool.{true, false, ◌&&◌}
use mathlib.Core.List.{List}
use Prim.Native.Nat.{ℕ, ◌+◌, ◌-◌, ◌*◌, ◌≤◌, ◌<◌}
use native.Mathlib.Omega.{arith}
use borrow.Author.Tests.{eqb-true, eq-eqb, leb-true, le-leb}
use lib.Dec.{eqb, leb}
use lib.ListN.{length}
use Rattle.places.specs.Places.{every}
use Rattle.places.proofs.First.{holds-or-fails}
use Rattle.places.proofs.Every.{both-hold, every-at, every-of}
use Rattle.little.specs.Bytes.{byte_at}
use Rattle.little.specs.Zeros.{zeros}
use Rattle.little.proofs.Zeros.{zeros-at, zeros-of}
use Rattle.field.proofs.Marks.{well-marked-exactly}
use Rattle.layout.specs.Editions.{block_length, head_at, marks_at, check_at, Edition, one}
use Rattle.layout.specs.Layout.{count, edition, number_from, mark, place_well_marked, head_of, has_head, has_layout_as}
use Rattle.layout.specs.Sound.{fault_as}
use Rattle.layout.specs.Told.{LaidOutAs}
use Rattle.layout.proofs.Unused.{unused-numbers-zero, zero-unused-numbers, unused-marks-zero, zero-unused-marks}
use Rattle.layout.proofs.Faults.{sound-parts, sound-fault}

-- ---- the head

module _ (E : Edition) (b : List ℕ) where
  head-bytes : has_head E b ≡ true → (i : ℕ) → head_at ≤ i → i < E.first → byte_at b i ≡ byte_at (head_of E b) (i - head_at)
  unfolding has_head
  head-bytes h i l k =
      let e : head_at + (i - head_at) ≡ i = omega arith in
      let j : i - head_at < E.first - head_at = omega arith in
      ap (byte_at b) (sym e)
      ∙ eqb-true (byte_at b (head_at + (i - head_at))) (byte_at (head_of E b) (i - head_at))
      (every-at (λ i. eqb (byte_at b (head_at + i)) (byte_at (head_of E b) i)) (E.first - head_at) (i - head_at) h j)

  bytes-head
      : ((i : ℕ) → head_at ≤ i → i < E.first → byte_at b i ≡ byte_at (head_of E b) (i - head_at)) → has_head E b ≡ true
  unfolding has_head
  bytes-head h =
      every-of (λ i. eqb (byte_at b (head_at + i)) (byte_at (head_of E b) i)) (E.first - head_at)
      (λ i l.
      let e : head_at + i - head_at ≡ i = omega arith in
      eq-eqb (byte_at b (head_at + i)) (byte_at (head_of E b) i)
      (h (head_at + i) (omega arith) (omega arith) ∙ ap (byte_at (head_of E b)) e))

-- edition 1: 6..7 zero
pub head-of-one : (b : List ℕ) → has_head one b ≡ zeros head_at one.first b
unfolding has_head zeros every
head-of-one b = refl

-- ---- the seven tests

pub record Layout (E : Edition) (b : List ℕ) : Type 0 where
  pub editioned : eqb (edition b) E.tag ≡ true
  pub counted : leb (count b) E.most ≡ true
  pub headed : has_head E b ≡ true
  pub unused_numbers : zeros (E.first + 8 * count b) marks_at b ≡ true
  pub unused_marks : zeros (marks_at + count b) E.past b ≡ true
  pub zeros_past : zeros E.past check_at b ≡ true
  pub marked : every (place_well_marked E.first b) (count b) ≡ true

pub layout-parts : (E : Edition) (b : List ℕ) → has_layout_as E b ≡ true → Layout E b
unfolding has_layout_as
layout-parts E b h =
    let g = both-hold _ _ h in
    let f = both-hold _ _ g.0 in
    let e = both-hold _ _ f.0 in
    let d = both-hold _ _ e.0 in
    let c = both-hold _ _ d.0 in
    let a = both-hold _ _ c.0 in
    record {
      editioned = a.0;
      counted = a.1;
      headed = c.1;
      unused_numbers = d.1;
      unused_marks = e.1;
      zeros_past = f.1;
      marked = g.1;
    }

pub parts-layout : (E : Edition) (b : List ℕ) → Layout E b → has_layout_as E b ≡ true
unfolding has_layout_as
parts-layout E b l =
    ap₂ ◌&&◌
    (ap₂ ◌&&◌
    (ap₂ ◌&&◌ (ap₂ ◌&&◌ (ap₂ ◌&&◌ (ap₂ ◌&&◌ l.editioned l.counted) l.headed) l.unused_numbers)
    l.unused_marks) l.zeros_past) l.marked

-- where one of them fails
pub no-layout : (E : Edition) (b : List ℕ) → (Layout E b → ⊥) → has_layout_as E b ≡ false
no-layout E b n =
    elim (holds-or-fails (has_layout_as E b)) [
      | inl h ↦ absurd (n (layout-parts E b h))
      | inr f ↦ f
    ]

-- ---- the tests in propositions

pub sound-exactly : (E : Edition) (b : List ℕ) → (fault_as E b ≡ 0) ↔ LaidOutAs E b
sound-exactly E b = (only, back)
  where
    only : fault_as E b ≡ 0 → LaidOutAs E b
    only z =
        let p = sound-parts E b z in
        let l = layout-parts E b p.2 in
        record {
          whole = p.0;
          counted = leb-true (count b) E.most l.counted;
          editioned = eqb-true (edition b) E.tag l.editioned;
          headed = head-bytes E b l.headed;
          unused_numbers = unused-numbers-zero E b (count b) l.unused_numbers;
          unused_marks = unused-marks-zero E b (count b) l.unused_marks;
          marked =
              λ i h.
              (well-marked-exactly (mark b i) (number_from E.first b i)).0
              (every-at (place_well_marked E.first b) (count b) i l.marked h);
          zeros_past = zeros-at E.past check_at b l.zeros_past;
          checked = p.1;
        }

    tests : LaidOutAs E b → Layout E b
    tests l =
        record {
          editioned = eq-eqb (edition b) E.tag l.editioned;
          counted = le-leb (count b) E.most l.counted;
          headed = bytes-head E b l.headed;
          unused_numbers = zero-unused-numbers E b (count b) l.unused_numbers;
          unused_marks = zero-unused-marks E b (count b) l.unused_marks;
          zeros_past = zeros-of E.past check_at b l.zeros_past;
          marked =
              every-of (place_well_marked E.first b) (count b)
              (λ i h. (well-marked-exactly (mark b i) (number_from E.first b i)).1 (l.marked i h));
        }

    back : LaidOutAs E b → fault_as E b ≡ 0
    back l = sound-fault E b l.whole l.checked (parts-layout E b (tests l))

-- a sound block is 512 bytes and has at most as many values as its edition takes
pub sound-sizes : (E : Edition) (b : List ℕ) → fault_as E b ≡ 0 → (length b ≡ block_length) × (count b ≤ E.most)
sound-sizes E b z = let l = (sound-exactly E b).0 z in (l.whole, l.counted)
