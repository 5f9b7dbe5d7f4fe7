-- A field's blocks as a run: it is filled and numbered in order, and read block by block it gives the field back; and a
-- run that is so, written again from what was read, is the same bytes.
-- Assumes nothing.
use mathlib.Core.Path.{◌≡◌, refl, ap, ap₂, sym, ◌∙◌, subst}
use mathlib.Core.Logic.{◌⊎◌}
use mathlib.Core.List.{List}
use Prim.Native.Nat.{ℕ, suc, ◌+◌, ◌-◌, ◌*◌, ◌/◌, ◌%◌, ◌^◌, ◌≤◌, ◌<◌}
use native.Mathlib.Decide.{dec_lt}
use native.Mathlib.Nat.{div-add-mod', mod-lt, mul-le-mul_left}
use native.Mathlib.Omega.{arith}
use lib.ListN.{length, get_or, get_or-eq_default}
use Rattle.places.specs.Places.{chained}
use Rattle.places.proofs.Tables.{length-table, table-at}
use Rattle.places.proofs.Chains.{chained-same, length-chained, length-chained-last, chained-at, parts-are-all}
use Rattle.little.specs.Bytes.{Bytes}
use Rattle.little.proofs.Little.{part-at, part-bytes, little-part-below}
use Rattle.field.specs.Field.{mark_fault_at}
use Rattle.field.proofs.Promises.{mark-fault-0-exactly}
use Rattle.layout.specs.Editions.{block_length, Edition}
use Rattle.layout.specs.Layout.{block_number, count, number_from, mark}
use Rattle.layout.specs.Sound.{fault_as}
use Rattle.layout.specs.Runs.{blocks, block_at}
use Rattle.layout.proofs.Layouts.{sound-exactly}
use Rattle.layout.proofs.Runs.{whole-run, blocks-are}
use Rattle.written.specs.Block.{block_of, Writable, Values}
use Rattle.written.specs.Run.{blocks_for, held_at, field_block, run_for, numbers_in, marks_in, run_numbers, run_marks}
use Rattle.written.specs.Run.{InOrder}
use Rattle.written.specs.Writing.{GoodField, Sized}
use Rattle.written.proofs.Counts as counts
use Rattle.written.proofs.Sizes.{length-block}
use Rattle.written.proofs.Blocks as blocks
use Rattle.written.proofs.Back.{written-again}

-- ---- how long it is

module _
    (E : Edition) (takes : 0 < E.most) (first : ℕ) (numbers marks : List ℕ) (even : length numbers ≡ length marks)
  where
    abbrev run : List ℕ
    run = run_for E first numbers marks

    abbrev k : ℕ
    k = blocks_for E (length numbers)

    pub field-block-length : (p : ℕ) → length (field_block E first numbers marks p) ≡ block_length
    field-block-length p =
        length-block E (first + p) (held_at E p numbers) (held_at E p marks) (counts.held-at-most E takes numbers p)
        (sym (counts.held-even E takes numbers marks p even))

    pub run-length : length run ≡ block_length * k
    unfolding run_for
    run-length = length-chained (field_block E first numbers marks) block_length k (λ p h. field-block-length p)

    pub run-blocks : blocks run ≡ k
    run-blocks = blocks-are run k run-length

    -- the block at a position
    pub run-block : (p : ℕ) → p < k → block_at run p ≡ field_block E first numbers marks p
    unfolding run_for
    run-block p h =
        let m = k - 1 in
        let s : k ≡ suc m = omega arith in
        let f = field_block E first numbers marks in
        let l = field-block-length m in
        ap (λ n. block_at (chained f n) p) s
        ∙ chained-at f block_length m (λ q g. field-block-length q) (omega arith) p (omega arith)

-- ---- a field that can be written

module _
    (E : Edition)
    (w : Writable E)
    (first : ℕ)
    (numbers marks : List ℕ)
    (f : GoodField numbers marks)
    (sized : Sized numbers)
    (last : first + blocks_for E (length numbers) ≤ 2 ^ 32)
  where
    abbrev takes : 0 < E.most
    takes = w.takes

    abbrev r : List ℕ
    r = run_for E first numbers marks

    abbrev n : ℕ
    n = blocks_for E (length numbers)

    -- what each block is made of
    pub values : (p : ℕ) → p < n → Values E (first + p) (held_at E p numbers) (held_at E p marks)
    values p h =
        record {
          numbered = omega arith;
          counted = counts.held-at-most E takes numbers p;
          even = sym even;
          sized = held-sized;
          marked = held-marked;
        }
      where
        even : length (held_at E p numbers) ≡ length (held_at E p marks)
        even = counts.held-even E takes numbers marks p f.even

        held-sized : (i : ℕ) → get_or (held_at E p numbers) i 0 < 2 ^ 64
        held-sized i =
            elim (dec_lt i (length (held_at E p numbers))) [
              | yes l ↦
                  let e = counts.held-value E takes numbers p i l in
                  let g = sized (E.most * p + i) in omega arith
              | no l ↦ let e = get_or-eq_default (held_at E p numbers) 0 {n = i} (omega arith) in omega arith
            ]

        held-marked
            : (i : ℕ) → i < length (held_at E p numbers) →
            (get_or (held_at E p marks) i 0 ≡ 0)
            ⊎ ((get_or (held_at E p marks) i 0 ≡ 1) × (get_or (held_at E p numbers) i 0 ≡ 0))
        held-marked i l =
            let j = E.most * p + i in
            let within = counts.held-place E takes numbers p i l in
            let a = counts.held-value E takes numbers p i l in
            let e = even in
            let b = counts.held-value E takes marks p i (omega arith) in
            subst (λ m. (m ≡ 0) ⊎ ((m ≡ 1) × (get_or (held_at E p numbers) i 0 ≡ 0))) (sym b)
            (subst (λ m. (get_or marks j 0 ≡ 0) ⊎ ((get_or marks j 0 ≡ 1) × (m ≡ 0))) (sym a)
            ((mark-fault-0-exactly (get_or marks j 0) (get_or numbers j 0)).0 (f.well_marked j within)))

    -- ---- each block by itself

    at : (p : ℕ) → p < n → block_at r p ≡ field_block E first numbers marks p
    at p h = run-block E takes first numbers marks f.even p h

    pub block-sound : (p : ℕ) → p < n → fault_as E (block_at r p) ≡ 0
    block-sound p h =
        ap (fault_as E) (at p h)
        ∙ blocks.written-sound E w (first + p) (held_at E p numbers) (held_at E p marks) (values p h)

    pub block-numbered : (p : ℕ) → p < n → block_number (block_at r p) ≡ first + p
    block-numbered p h =
        ap block_number (at p h)
        ∙ blocks.written-number E w (first + p) (held_at E p numbers) (held_at E p marks) (values p h)

    pub block-counted : (p : ℕ) → p < n → count (block_at r p) ≡ length (held_at E p numbers)
    block-counted p h =
        ap count (at p h)
        ∙ blocks.written-count E w (first + p) (held_at E p numbers) (held_at E p marks) (values p h)

    pub block-numbers : (p : ℕ) → p < n → numbers_in E (block_at r p) ≡ held_at E p numbers
    block-numbers p h =
        ap (numbers_in E) (at p h)
        ∙ blocks.written-numbers E w (first + p) (held_at E p numbers) (held_at E p marks) (values p h)

    pub block-marks : (p : ℕ) → p < n → marks_in (block_at r p) ≡ held_at E p marks
    block-marks p h =
        ap marks_in (at p h)
        ∙ blocks.written-marks E w (first + p) (held_at E p numbers) (held_at E p marks) (values p h)

    -- place i of the block at position p
    pub block-mark
        : (p i : ℕ) → p < n → i < count (block_at r p) → mark (block_at r p) i ≡ get_or marks (E.most * p + i) 0
    block-mark p i h l =
        let c = block-counted p h in
        let g = values p h in
        ap (λ b. mark b i) (at p h)
        ∙ blocks.written-mark E w (first + p) (held_at E p numbers) (held_at E p marks) g i (omega arith)
        ∙ counts.held-value E takes marks p i (let e = g.even in omega arith)

    -- ---- the run

    pub in-order : InOrder E first r
    in-order =
        let b = run-blocks E takes first numbers marks f.even in
        record {
          whole = whole-run r n (run-length E takes first numbers marks f.even);
          some = let s = counts.blocks-some E takes (length numbers) f.some in omega arith;
          sound = λ p h. block-sound p (omega arith);
          numbered = λ p h. block-numbered p (omega arith);
          full =
              λ p h.
              block-counted p (omega arith) ∙ counts.held-full E takes numbers p (omega arith);
          last =
              λ p h.
              let l : p < n = omega arith in
              let c = block-counted p l in
              let s = counts.held-some E takes numbers p l in omega arith;
        }

    -- read block by block, the numbers and the marks of the field
    pub numbers-back : run_numbers E r ≡ numbers
    numbers-back =
        ap (chained (λ p. numbers_in E (block_at r p))) (run-blocks E takes first numbers marks f.even)
        ∙ chained-same (λ p. numbers_in E (block_at r p)) (λ p. held_at E p numbers) n block-numbers
        ∙ counts.held-all E takes numbers (length numbers) refl

    pub marks-back : run_marks r ≡ marks
    marks-back =
        ap (chained (λ p. marks_in (block_at r p))) (run-blocks E takes first numbers marks f.even)
        ∙ chained-same (λ p. marks_in (block_at r p)) (λ p. held_at E p marks) n block-marks
        ∙ counts.held-all E takes marks (length numbers) (sym f.even)

-- ---- a run in order, written again

module _
    (E : Edition) (takes : 0 < E.most) (first : ℕ) (run : List ℕ) (bytes : Bytes run) (o : InOrder E first run)
  where
    abbrev ns : List ℕ
    ns = run_numbers E run

    abbrev ms : List ℕ
    ms = run_marks run

    abbrev last-at : ℕ
    last-at = blocks run - 1

    counted : blocks run ≡ suc last-at
    counted = let s = o.some in omega arith

    numbers_long : (p : ℕ) → length (numbers_in E (block_at run p)) ≡ count (block_at run p)
    numbers_long p = length-table (number_from E.first (block_at run p)) (count (block_at run p))

    marks_long : (p : ℕ) → length (marks_in (block_at run p)) ≡ count (block_at run p)
    marks_long p = length-table (mark (block_at run p)) (count (block_at run p))

    few : (p : ℕ) → p < blocks run → count (block_at run p) ≤ E.most
    few p h = ((sound-exactly E (block_at run p)).0 (o.sound p h)).counted

    -- any list of the blocks' values: how long it is, and which of them belong to a block
    module _ (g : ℕ → List ℕ) (long : (p : ℕ) → length (g p) ≡ count (block_at run p)) where
      values-long : length (chained g (blocks run)) ≡ E.most * last-at + count (block_at run last-at)
      values-long =
          ap (λ n. length (chained g n)) counted
          ∙ length-chained-last g E.most last-at (λ p h. long p ∙ o.full p (let c = counted in omega arith))
          ∙ ap (λ n. E.most * last-at + n) (long last-at)

      values-held : (p : ℕ) → p < blocks run → held_at E p (chained g (blocks run)) ≡ g p
      values-held p h =
          let c = counted in
          let l = long last-at in
          let m = few last-at (omega arith) in
          ap (λ n. held_at E p (chained g n)) c
          ∙ chained-at g E.most last-at (λ q k. long q ∙ o.full q (omega arith)) (omega arith) p (omega arith)

    same-blocks : blocks_for E (length ns) ≡ blocks run
    same-blocks =
        let c = counted in
        let l = values-long (λ p. numbers_in E (block_at run p)) numbers_long in
        let m = few last-at (omega arith) in
        let s = o.last last-at (sym c) in
        let e : E.most * suc last-at ≡ E.most * last-at + E.most = omega arith in
        counts.blocks-is E takes (length ns) (suc last-at) (omega arith) (omega arith) ∙ sym c

    same-block : (p : ℕ) → p < blocks run → field_block E first ns ms p ≡ block_at run p
    same-block p h =
        let b = block_at run p in
        ap₂ (block_of E (first + p)) (values-held (λ p. numbers_in E (block_at run p)) numbers_long p h)
        (values-held (λ p. marks_in (block_at run p)) marks_long p h)
        ∙ ap (λ n. block_of E n (numbers_in E b) (marks_in b)) (sym (o.numbered p h))
        ∙ written-again E b (part-bytes (block_length * p) block_length run bytes) ((sound-exactly E b).0 (o.sound p h))

    pub run-again : run_for E first ns ms ≡ run
    unfolding run_for
    run-again =
        let whole = o.whole in
        ap (chained (field_block E first ns ms)) same-blocks
        ∙ chained-same (field_block E first ns ms) (block_at run) (blocks run) same-block
        ∙ parts-are-all block_length (blocks run) run (omega arith)

    -- ---- what was read can be written

    -- a place of the field is place j % most of the block at position j / most
    position : (j : ℕ) → j < length ns → j / E.most < blocks run
    position j h =
        let c = counted in
        let l = values-long (λ p. numbers_in E (block_at run p)) numbers_long in
        let m = few last-at (omega arith) in
        let d = div-add-mod' j E.most in
        elim (dec_lt (j / E.most) (blocks run)) [
          | yes g ↦ g
          | no g ↦
              let q : E.most * blocks run ≤ E.most * (j / E.most) = mul-le-mul_left E.most (omega arith) in
              let e = ap (λ n. E.most * n) c in absurd (omega arith)
        ]

    in-block : (j : ℕ) → j < length ns → j % E.most < count (block_at run (j / E.most))
    in-block j h =
        let c = counted in
        let l = values-long (λ p. numbers_in E (block_at run p)) numbers_long in
        let p = j / E.most in
        let d = div-add-mod' j E.most in
        let r = mod-lt j takes in
        let w = position j h in
        elim (dec_lt p last-at) [
          | yes g ↦ let f = o.full p (omega arith) in omega arith
          | no g ↦
              let e : p ≡ last-at = omega arith in
              let a = ap (λ q. E.most * q) e in
              let b = ap (λ q. count (block_at run q)) e in omega arith
        ]

    place-read
        : (g : ℕ → List ℕ) → ((p : ℕ) → length (g p) ≡ count (block_at run p)) → (j : ℕ) → j < length ns →
        get_or (chained g (blocks run)) j 0 ≡ get_or (g (j / E.most)) (j % E.most) 0
    place-read g long j h =
        let d = div-add-mod' j E.most in
        let e : E.most * (j / E.most) + j % E.most ≡ j = omega arith in
        ap (λ k. get_or (chained g (blocks run)) k 0) (sym e)
        ∙ sym (part-at (E.most * (j / E.most)) E.most (chained g (blocks run)) (j % E.most) (mod-lt j takes))
        ∙ ap (λ l. get_or l (j % E.most) 0) (values-held g long (j / E.most) (position j h))

    pub read-good-field : GoodField ns ms
    read-good-field =
        let c = counted in
        let a = values-long (λ p. numbers_in E (block_at run p)) numbers_long in
        let b = values-long (λ p. marks_in (block_at run p)) marks_long in
        let s = o.last last-at (sym c) in
        record { even = a ∙ sym b; some = omega arith; well_marked = well_marked }
      where
        well_marked : (j : ℕ) → j < length ns → mark_fault_at ns ms j ≡ 0
        well_marked j h =
            let p = j / E.most in
            let i = j % E.most in
            let b = block_at run p in
            let w = in-block j h in
            let l = (sound-exactly E b).0 (o.sound p (position j h)) in
            (mark-fault-0-exactly (get_or ms j 0) (get_or ns j 0)).1
            (subst (λ m. (m ≡ 0) ⊎ ((m ≡ 1) × (get_or ns j 0 ≡ 0)))
            (sym (place-read (λ p. marks_in (block_at run p)) marks_long j h ∙ table-at (mark b) (count b) i w))
            (subst (λ n. (mark b i ≡ 0) ⊎ ((mark b i ≡ 1) × (n ≡ 0)))
            (sym
            (place-read (λ p. numbers_in E (block_at run p)) numbers_long j h
            ∙ table-at (number_from E.first b) (count b) i w)) (l.marked i w)))

    -- a block number has four bytes
    pub read-numbered : first + blocks_for E (length ns) ≤ 2 ^ 32
    unfolding block_number
    read-numbered =
        let c = counted in
        let s = same-blocks in
        let e = o.numbered last-at (omega arith) in
        let b = block_at run last-at in
        let h = little-part-below 0 4 b (part-bytes (block_length * last-at) block_length run bytes) in omega arith

    pub read-length : block_length * blocks_for E (length ns) ≡ length run
    read-length = let s = same-blocks in let w = o.whole in omega arith
