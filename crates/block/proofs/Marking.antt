-- The marks of a block looked at: what the tests say of the layout.
-- Assumes nothing.
use mathlib.Core.Path.{◌≡◌, ap₂, sym, subst}
use mathlib.Core.Bool.{Bool, true, false, ◌&&◌}
use mathlib.Core.List.{List}
use Prim.Native.Nat.{ℕ, ◌+◌, ◌*◌, ◌≤◌, ◌<◌}
use native.Mathlib.Omega.{arith}
use borrow.Author.Tests.{leb-true}
use lib.Dec.{eqb, leb}
use lib.ListN.{length, get_or}
use Rattle.std.specs.Prelude.{MatchBool}
use Rattle.std.specs.List.{AllWithin, HoldsAt, range_with_len}
use Rattle.std.proofs.lemmas.List.FromFn.{length-range_with_len, get_or-range_with_len}
use Rattle.places.specs.Places.{every}
use Rattle.places.proofs.Every.{both-hold, same-truth, every-of, every-fails}
use Rattle.little.specs.Zeros.{zeros}
use Rattle.little.proofs.Zeros.{zeros-at, zeros-within, zeros-joined}
use Rattle.field.proofs.Marks.{marked-0}
use Rattle.layout.specs.Editions.{marks_at, check_at, Edition}
use Rattle.layout.specs.Layout.{edition, count, number_from, mark, place_well_marked, has_head, has_layout_as}
use Rattle.layout.proofs.Layouts.{layout-parts, parts-layout}
use Rattle.block.specs.Marks.{marks_fine}

-- no mark at all
pub unmarked
    : (from : ℕ) (b : List ℕ) (c : ℕ) → from + 8 * c ≤ marks_at → zeros marks_at check_at b ≡ true →
    true ≡ marks_fine from b c
unmarked from b c h z =
    sym
    (ap₂ ◌&&◌
    (zeros-within b marks_at check_at (marks_at + c) check_at (omega arith) (omega arith) z)
    (every-of (place_well_marked from b) c
    (λ i l.
    sym
    (marked-0 (mark b i) (number_from from b i)
    (zeros-at marks_at check_at b z (marks_at + i) (omega arith) (omega arith))))))

-- where the rest of an edition's layout is right, the marks decide
pub marks-decide
    : (E : Edition) (b : List ℕ) →
    eqb (edition b) E.tag ≡ true →
    leb (count b) E.most ≡ true →
    has_head E b ≡ true →
    zeros (E.first + 8 * count b) marks_at b ≡ true →
    marks_fine E.first b (count b) ≡ has_layout_as E b
marks-decide E b e c z n = same-truth (marks_fine E.first b (count b)) (has_layout_as E b) fine laid
  where
    fine : marks_fine E.first b (count b) ≡ true → has_layout_as E b ≡ true
    fine m =
        let p = both-hold (zeros (marks_at + count b) check_at b) (every (place_well_marked E.first b) (count b)) m in
        let l = leb-true (count b) E.most c in
        let within = zeros-within b (marks_at + count b) check_at in
        parts-layout E b (record {
          editioned = e;
          counted = c;
          headed = z;
          unused_numbers = n;
          unused_marks = within (marks_at + count b) E.past (omega arith) (omega arith) p.0;
          zeros_past = within E.past check_at (omega arith) (omega arith) p.0;
          marked = p.1;
        })

    laid : has_layout_as E b ≡ true → marks_fine E.first b (count b) ≡ true
    laid h =
        let l = layout-parts E b h in
        ap₂ ◌&&◌ (zeros-joined b (marks_at + count b) E.past check_at l.unused_marks l.zeros_past) l.marked

-- every place, where `all` looked at a range of them
pub all-of-range
    : (f : ℕ → Bool) (n : ℕ) (r : Bool) →
    MatchBool r
    (AllWithin (λ i. f i ≡ true) (range_with_len 0 n) 0 (length (range_with_len 0 n)))
    ((k : ℕ) × (k < length (range_with_len 0 n)) × HoldsAt (λ i. f i ≡ false) (range_with_len 0 n) k) →
    r ≡ every f n
all-of-range f n true h =
    sym
    (every-of f n
    (λ j l.
    subst (λ i. f i ≡ true) {x = get_or (range_with_len 0 n) j 0} {y = j}
    (omega (arith, get_or-range_with_len 0 n j 0 l))
    (h j 0 (omega arith) (omega (arith, length-range_with_len 0 n)))))
all-of-range f n false h =
    let l : h.0 < n = omega (arith, h.1, length-range_with_len 0 n) in
    sym
    (every-fails f n h.0 l
    (subst (λ i. f i ≡ false) {x = get_or (range_with_len 0 n) h.0 0} {y = h.0}
    (omega (arith, get_or-range_with_len 0 n h.0 0 l))
    (h.2 0)))
