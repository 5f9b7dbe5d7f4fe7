-- The layout of a block of an edition, which is 512 bytes. Of edition 1: 0..3 block number; 4 count c, 0 to 55; 5
-- edition, 1; 6..7 zero; 8..447 fifty-five numbers; 448..502 their marks; 503..507 zero; 508..511 the check. Unused
-- numbers and marks are zero.
-- Assumes nothing.
use Rattle.std.specs.Prelude.{Bool, ◌&&◌, List, ℕ, suc, ◌+◌, ◌-◌, ◌*◌, eqb, leb}
use Rattle.places.specs.Places.{every, total, table}
use Rattle.little.specs.Bytes.{byte_at, part, little}
use Rattle.little.specs.Zeros.{zeros}
use Rattle.field.specs.Field.{well_marked}
use Rattle.layout.specs.Editions.{head_at, marks_at, check_at, Edition, one}

-- ---- what stands where

unfoldable pub block_number : List ℕ → ℕ
block_number b = little (part 0 4 b)

abbrev pub count : List ℕ → ℕ
count b = byte_at b 4

abbrev pub edition : List ℕ → ℕ
edition b = byte_at b 5

-- number i, where the numbers begin at place `from`
unfoldable pub number_from : ℕ → List ℕ → ℕ → ℕ
number_from from b i = little (part (from + 8 * i) 8 b)

abbrev pub mark : List ℕ → ℕ → ℕ
mark b i = byte_at b (marks_at + i)

unfoldable pub check : List ℕ → ℕ
check b = little (part check_at 4 b)

-- the sum over i from 0 to 507 of (i + 1) times byte i, which the check is to be
abbrev pub weighed : List ℕ → ℕ → ℕ
weighed b i = suc i * byte_at b i

unfoldable pub check_sum : List ℕ → ℕ
check_sum b = total (weighed b) check_at

-- ---- the layout of an edition

-- where the numbers begin at place `from`
abbrev pub place_well_marked : ℕ → List ℕ → ℕ → Bool
place_well_marked from b i = well_marked (mark b i) (number_from from b i)

-- what the edition's head says of the values in use
abbrev pub head_of : Edition → List ℕ → List ℕ
head_of E b = E.head (table (number_from E.first b) (count b)) (table (mark b) (count b))

-- the bytes from place 6 up to the numbers are that
unfoldable pub has_head : Edition → List ℕ → Bool
has_head E b = every (λ i. eqb (byte_at b (head_at + i)) (byte_at (head_of E b) i)) (E.first - head_at)

-- edition and count; the head; unused numbers and marks; the zeros; the marks and numbers in use
unfoldable pub has_layout_as : Edition → List ℕ → Bool
has_layout_as E b =
    eqb (edition b) E.tag
    && leb (count b) E.most
    && has_head E b
    && zeros (E.first + 8 * count b) marks_at b
    && zeros (marks_at + count b) E.past b
    && zeros E.past check_at b
    && every (place_well_marked E.first b) (count b)

-- ---- by a block's own edition

-- the edition by which a block is looked at: there is one
abbrev pub edition_of : List ℕ → Edition
edition_of b = one

abbrev pub number : List ℕ → ℕ → ℕ
number b i = number_from (edition_of b).first b i

abbrev pub has_layout : List ℕ → Bool
has_layout b = has_layout_as (edition_of b) b
