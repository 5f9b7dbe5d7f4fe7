-- The scan of a level and the scan of the field that it was turned into agree: least with least, greatest with
-- greatest.
-- Assumes nothing.
use mathlib.Core.Path.{◌≡◌, ap, sym, ◌∙◌, subst}
use mathlib.Core.Bool.{true}
use mathlib.Core.List.{List}
use Prim.Native.Nat.{ℕ, ◌≤◌, ◌<◌}
use native.Mathlib.Omega.{arith}
use borrow.Author.Tests.{le-ltb, ltb-false}
use lib.ListN.{length, get_or, take}
use lib.Seq.{length-take-le, get_or-take}
use lib.Ieee.{Float, nan, binary32, of_bits}
use Rattle.reading.specs.Order.{rank_of, rank}
use Rattle.reading.proofs.Order.{no-nan, back-from-bits}
use Rattle.reading.proofs.Compare.{before-is}
use Rattle.level.specs.Extent.{bits_at, Readings}
use Rattle.level.specs.Scan as levels
use Rattle.level.proofs.Promises as leveled
use Rattle.field.specs.Range as field
use Rattle.field.proofs.Promises as fielded
use Rattle.turn.specs.Wholes.{is_whole, value_of, value_at}
use Rattle.turn.specs.Turning.{turning_of, numbers_after, marks_after}
use Rattle.turn.proofs.Values.{whole-orders}
use Rattle.turn.proofs.Standing.{whole-usable}
use Rattle.turn.proofs.Promises.{zero-given, numbers-turned, marks-zero, lengths-stay}

module _
    (level : List Float)
    (grounds numbers marks : List ℕ)
    (readings : Readings level)
    (given : (turning_of level grounds numbers marks).code ≡ 0)
  where
    abbrev n : ℕ
    n = length level

    -- the field that stands in the lent lists
    abbrev field_numbers : List ℕ
    field_numbers = take n (numbers_after level grounds numbers marks)

    abbrev field_marks : List ℕ
    field_marks = take n (marks_after level grounds numbers marks)

    abbrev of-level : levels.Scanned
    of-level = levels.scan_of level grounds

    abbrev of-field : field.Scanned
    of-field = field.scan_of field_numbers field_marks

    -- ---- both are given

    numbers_long : length field_numbers ≡ n
    numbers_long =
        let r = (zero-given level grounds numbers marks given).0 in
        let e = (lengths-stay level grounds numbers marks).0 in
        let l = r.numbers_long in
        length-take-le n (numbers_after level grounds numbers marks) (omega arith)

    marks_long : length field_marks ≡ n
    marks_long =
        let r = (zero-given level grounds numbers marks given).0 in
        let e = (lengths-stay level grounds numbers marks).1 in
        let l = r.marks_long in
        length-take-le n (marks_after level grounds numbers marks) (omega arith)

    number_at : (i : ℕ) → i < n → get_or field_numbers i 0 ≡ value_at level i
    number_at i h =
        get_or-take n (numbers_after level grounds numbers marks) i 0 h ∙ numbers-turned level grounds numbers marks given i h

    pub level-given : of-level.code ≡ 0
    level-given =
        let (r, f) = zero-given level grounds numbers marks given in
        (leveled.ranged-exactly level grounds).1
        (r.even, r.some, λ i h. ((f i h).0, whole-usable (get_or level i nan) (f i h).1))

    pub field-given : of-field.code ≡ 0
    field-given =
        let r = (zero-given level grounds numbers marks given).0 in
        let s = r.some in
        (fielded.ranged-exactly field_numbers field_marks).1
        (numbers_long ∙ sym marks_long, let e = numbers_long in omega arith, unmarked)
      where
        unmarked : (i : ℕ) → i < length field_numbers → get_or field_marks i 0 ≡ 0
        unmarked i h =
            let e = numbers_long in
            let k : i < n = omega arith in
            get_or-take n (marks_after level grounds numbers marks) i 0 k ∙ marks-zero level grounds numbers marks given i k

    -- ---- and agree

    whole-at : (i : ℕ) → i < n → is_whole (get_or level i nan) ≡ true
    whole-at i h = ((zero-given level grounds numbers marks given).1 i h).1

    -- in the order of sign and bits and by their values
    same-order
        : (i j : ℕ) → i < n → j < n → rank (get_or level i nan) ≤ rank (get_or level j nan) →
        value_at level i ≤ value_at level j
    same-order i j h k l =
        let x = get_or level i nan in
        let y = get_or level j nan in
        let u = no-nan x (whole-usable x (whole-at i h)) in
        let v = no-nan y (whole-usable y (whole-at j k)) in
        ltb-false (value_of y) (value_of x)
        (sym (whole-orders y x (whole-at j k) (whole-at i h))
        ∙ before-is y x (readings j) v (readings i) u
        ∙ le-ltb (rank y) (rank x) l)

    value-of-bits : (i : ℕ) (bits : ℕ) → bits_at level i ≡ bits → value_of (of_bits binary32 bits) ≡ value_at level i
    value-of-bits i bits e = ap value_of (ap (of_bits binary32) (sym e) ∙ back-from-bits (get_or level i nan) (readings i))

    pub least-agrees : of-field.least ≡ value_of (of_bits binary32 of-level.least)
    least-agrees =
        let (i, h, e, first) = leveled.least-earliest level grounds readings level-given in
        let (k, l, q) = fielded.least-among field_numbers field_marks field-given in
        let long = numbers_long in
        let kn : k < n = omega arith in
        let il : i < length field_numbers = omega arith in
        let bound = leveled.least-bounds level grounds readings level-given k kn in
        let r : rank (get_or level i nan) ≤ rank (get_or level k nan) = subst (λ b. rank_of b ≤ rank (get_or level k nan)) (sym e) bound in
        let a = same-order i k h kn r in
        let b = fielded.least-bounds field_numbers field_marks field-given i il in
        let c = number_at k kn in
        let d = number_at i h in
        let v = value-of-bits i of-level.least e in
        omega arith

    pub greatest-agrees : of-field.greatest ≡ value_of (of_bits binary32 of-level.greatest)
    greatest-agrees =
        let (i, h, e, first) = leveled.greatest-earliest level grounds readings level-given in
        let (k, l, q) = fielded.greatest-among field_numbers field_marks field-given in
        let long = numbers_long in
        let kn : k < n = omega arith in
        let il : i < length field_numbers = omega arith in
        let bound = leveled.greatest-bounds level grounds readings level-given k kn in
        let r : rank (get_or level k nan) ≤ rank (get_or level i nan) = subst (λ b. rank (get_or level k nan) ≤ rank_of b) (sym e) bound in
        let a = same-order k i kn h r in
        let b = fielded.greatest-bounds field_numbers field_marks field-given i il in
        let c = number_at k kn in
        let d = number_at i h in
        let v = value-of-bits i of-level.greatest e in
        omega arith
