-- A field's blocks laid one by one into a lent run: the values that a block takes, one turn, and the end.
-- Assumes nothing.
use mathlib.Core.Path.{◌≡◌, ap, ap₂, sym, ◌∙◌}
use mathlib.Core.List.{List, ◌++◌}
use Prim.Native.Nat.{ℕ, ◌+◌, ◌-◌, ◌*◌, ◌≤◌, ◌<◌, min}
use native.Mathlib.Decide.{dec_lt}
use native.Mathlib.Numerals.{add-one}
use native.Mathlib.Omega.{arith}
use lib.ListN.{length, take, drop, length-drop}
use lib.Seq.{take_all}
use Rattle.places.specs.Places.{chained, overlaid}
use Rattle.places.proofs.Overlaid.{overlaid-length}
use Rattle.places.proofs.Chains.{chained-none, chained-more, length-chained}
use Rattle.little.specs.Bytes.{put}
use Rattle.little.proofs.Parts.{length-part}
use Rattle.little.proofs.Stored.{put-between, laid-on}
use Rattle.layout.specs.Editions.{block_length, Edition}
use Rattle.written.specs.Block.{laid_over}
use Rattle.written.specs.Run.{blocks_for, held_at, field_block, run_for}
use Rattle.written.proofs.Counts.{held-at-most, held-even}
use Rattle.written.proofs.Runs.{field-block-length}
use Rattle.lay.proofs.Laid.{block-laid}

-- a list taken up to its end at most
taken : (k m : ℕ) (list : List ℕ) → m ≡ min k (length list) → take m list ≡ take k list
taken k m list e =
    elim (dec_lt (length list) k) [
      | yes h ↦ take_all m list (omega arith) ∙ sym (take_all k list (omega arith))
      | no h ↦ let same : m ≡ k = omega arith in ap (λ j. take j list) same
    ]

module _
    (E : Edition)
    (takes : 0 < E.most)
    (first : ℕ)
    (numbers marks old : List ℕ)
    (even : length marks ≡ length numbers)
  where
    abbrev f : ℕ → List ℕ
    f = field_block E first numbers marks

    -- the values of the block at position p, up to the end of the field
    held-taken
        : (list : List ℕ) (p end : ℕ) → end ≡ min (E.most * p + E.most) (length list) →
        take (end - E.most * p) (drop (E.most * p) list) ≡ held_at E p list
    held-taken list p end e =
        taken E.most (end - E.most * p) (drop (E.most * p) list) (omega (arith, length-drop (E.most * p) list))

    blocks-long : (p : ℕ) → length (chained f p) ≡ block_length * p
    blocks-long p =
        length-chained f block_length p (λ q h. field-block-length E takes first numbers marks (sym even) q)

    -- a run with p blocks laid over it is as long as it was
    pub overlaid-long
        : {run : List ℕ} (p : ℕ) → run ≡ overlaid (chained f p) old → block_length * p ≤ length old →
        length run ≡ length old
    overlaid-long p here h =
        let l = blocks-long p in ap length here ∙ overlaid-length old (chained f p) (omega arith)

    -- ---- no block, one block more, and all of them

    pub none-laid : old ≡ overlaid (chained f 0) old
    none-laid = ap (λ l. overlaid l old) (sym (chained-none f))

    -- the part that the block is laid over is put back in its place
    pub block-turn
        : {run part : List ℕ} (p end : ℕ) → run ≡ overlaid (chained f p) old →
        end ≡ min (E.most * p + E.most) (length numbers) →
        block_length * p + block_length ≤ length old →
        (let at = E.most * p in
        let from = block_length * p in
        let k = from + block_length - from in
        part
        ≡ laid_over E (first + p) (take (end - at) (drop at numbers)) (take (end - at) (drop at marks))
        (take k (drop from run)) →
        take from run ++ (part ++ drop k (drop from run)) ≡ overlaid (chained f (p + 1)) old)
    block-turn {run} {part} p end here e room over =
        let from = block_length * p in
        let k = from + block_length - from in
        let size : k ≡ block_length = omega arith in
        let long = overlaid-long p here (omega arith) in
        let blocks = blocks-long p in
        let block-long = field-block-length E takes first numbers marks (sym even) p in
        let before = take k (drop from run) in
        let whole : length before ≡ block_length = length-part from k run (omega arith) ∙ size in
        let block : part ≡ f p =
        over
        ∙ ap₂ (λ ns ms. laid_over E (first + p) ns ms before) (held-taken numbers p end e)
        (held-taken marks p end (e ∙ ap (min (E.most * p + E.most)) (sym even)))
        ∙ block-laid E (first + p) (held_at E p numbers) (held_at E p marks) before whole (held-at-most E takes numbers p)
        (held-even E takes marks numbers p even) in
        let fits : length part ≡ k = ap length block ∙ block-long ∙ sym size in
        laid-on from (chained f p) (f p) old here
        (put-between from k part run fits (omega arith) ∙ ap (λ l. put from l run) block) (sym blocks) (omega arith)
        ∙ ap (λ l. overlaid l old) (sym (chained-more f p))
        ∙ ap (λ n. overlaid (chained f n) old) (sym (add-one p))

    pub all-laid
        : {run : List ℕ} (p : ℕ) → run ≡ overlaid (chained f p) old → p ≡ blocks_for E (length numbers) →
        run ≡ overlaid (run_for E first numbers marks) old
    unfolding run_for
    all-laid p here e = here ∙ ap (λ k. overlaid (chained f k) old) e
