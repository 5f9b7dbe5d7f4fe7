-- `search::among` meets its contract. The outer invariant: every block before this one is passed, and nothing is found.
-- The inner one: no place before this one is overflowed.
-- Assumes nothing.
use mathlib.Core.Path.{◌≡◌, ap, sym, ◌∙◌, subst}
use mathlib.Core.List.{[], ◌∷◌, ◌++◌}
use Prim.Native.Nat.{◌+◌, ◌*◌, ◌<◌}
use native.Mathlib.Omega.{arith}
use borrow.Author.Tests.{eqb-false}
use lib.ListN.{length, length-append, drop}
use Rattle.std.specs.Prelude.{Ok}
use Rattle.std.specs.Iterator.Adapters.{enumerate_count, enumerate_source}
use Rattle.std.specs.Slice.Iter.{chunks_exact_rest, chunks_exact_size}
use Rattle.checked.specs.Paper.{number_of}
use Rattle.checked.specs.declared.refusal.RefusedAt.{RefusedAt}
use Rattle.checked.proofs.Unique.{not-zero}
use Rattle.places.specs.Faults.{NoFaultBefore}
use Rattle.places.proofs.Faults.{no-fault-before-more}
use Rattle.layout.specs.Editions.{block_length}
use Rattle.layout.specs.Layout.{edition_of}
use Rattle.layout.specs.Sound.{fault_of}
use Rattle.layout.proofs.Layouts.{sound-sizes}
use Rattle.layout.specs.Runs.{blocks, block_at}
use Rattle.search.specs.Answers.{searched}
use Rattle.search.specs.Search.{Searched, refused, end_at, Quiet, OverflowsFirstAt}
use Rattle.search.proofs.Walks.{no-marks-quiet, block-cut, bad-ends, found-ends, none-ends}
use Rattle.search.proofs.Ends.{passes-quiet}
use Rattle.search.proofs.search.among.Goals.{In-Some, In_default}
use Rattle.search.proofs.search.among.Goals as goal

abbrev told : RefusedAt → Searched
told e = refused (number_of e.refusal) e.place

-- the item is the block at its position in the run, no block before it ends the search, and what is left goes on after it
here
    : (c : In-Some) → let run = c.args.run.now in
    let p = c.in-Some.position in
    (p ≡ length c.search.yielded)
    × NoFaultBefore (end_at run) p
    × (c.in-Some.block.now ≡ block_at run p)
    × (chunks_exact_rest (enumerate_source c.next.new.self) ≡ drop (block_length * (p + 1)) run)
    × (p < blocks run)
here c =
    let run = c.args.run.now in
    let p = c.in-Some.position in
    let (passed, at, size, rest, _) = c.search.invariant in
    let (step, place, _, _) = c.in-Some.ensures.steps in
    let e : p ≡ length c.search.yielded = place ∙ at in
    let cut =
    block-cut run p (rest ∙ ap (λ k. drop (block_length * k) run) (sym e)) step.1.0 (step.1.1 ∙ size) in (
      e,
      subst (NoFaultBefore (end_at run)) (sym e) passed,
      cut.0,
      cut.1,
      cut.2,
    )

is-sound : (c : In_default) → fault_of c.in-Some.block.now ≡ 0
is-sound c = ap (λ s. s.code) (sym c.in_default.ensures)

-- after a quiet block the next one is where the outer invariant has it
kept
    : (c : In-Some) → Quiet c.in-Some.block.now →
    let run = c.args.run.now in
    let now = c.search.yielded ++ ((c.in-Some.position, c.in-Some.block) ∷ []) in
    NoFaultBefore (end_at run) (length now)
    × (enumerate_count c.next.new.self ≡ length now)
    × (chunks_exact_size (enumerate_source c.next.new.self) ≡ block_length)
    × (chunks_exact_rest (enumerate_source c.next.new.self) ≡ drop (block_length * length now) run)
kept c quiet =
    let run = c.args.run.now in
    let p = c.in-Some.position in
    let (e, passed, block, left, _) = here c in
    let (step, _, counted, _) = c.in-Some.ensures.steps in
    let more = no-fault-before-more (end_at run) p passed (passes-quiet (block_at run p) (subst Quiet block quiet)) in
    let n : length (c.search.yielded ++ (p, c.in-Some.block) ∷ []) ≡ p + 1 =
    omega (arith, length-append c.search.yielded ((p, c.in-Some.block) ∷ []), e) in (
      subst (NoFaultBefore (end_at run)) (sym n) more,
      omega (arith, counted, c.search.invariant.1, n, e),
      step.0 ∙ c.search.invariant.2,
      left ∙ ap (λ k. drop (block_length * k) run) (sym n),
    )

pub returns-in-Err : goal.returns-in-Err
returns-in-Err c =
    let r = c.in-Err.refusal in
    let (_, passed, block, _, within) = here (goal.at.returns-in-Err c).In-Some in
    let f : fault_of c.in-Some.block.now ≡ number_of r = ap (λ s. s.code) (sym c.in-Err.ensures) in
    ap told c.at.ensures
    ∙ bad-ends c.args.run.now c.requires c.in-Some.position passed (number_of r) within
    (ap fault_of (sym block) ∙ f) (eqb-false (number_of r) 0 (not-zero r))

pub bounds-block-place : goal.bounds-block-place
bounds-block-place c =
    let b = c.in-Some.block.now in
    omega (arith, sound-sizes (edition_of b) b (is-sound (goal.at.bounds-block-place c).In_default))

pub search-preserved-in-loop-place : goal.search-preserved-in-loop-place
search-preserved-in-loop-place c =
    let at = goal.at.search-preserved-in-loop-place c in
    let quiet : Quiet c.in-Some.block.now =
    (is-sound at.In_default, λ i h. c.loop-place.invariant.0 i (omega (arith, c.loop-place-test.false))) in
    let k = kept at.In-Some quiet in (k.0, k.1, k.2, k.3, c.loop-place.invariant.2)

pub search-preserved : goal.search-preserved
search-preserved c =
    let at = goal.at.search-preserved c in
    let quiet : Quiet c.in-Some.block.now =
    no-marks-quiet c.in-Some.block.now (is-sound at.In_default) (sym c.unmarked.ensures ∙ c.if-not-unmarked.false) in
    let k = kept at.In-Some quiet in (k.0, k.1, k.2, k.3, c.search.invariant.4)

pub returns-in-None : goal.returns-in-None
returns-in-None c =
    let (passed, _, size, rest, nothing) = c.search.invariant in
    let (step, _) = c.in-None.ensures.steps in
    ap (λ f. searched (Ok f)) nothing
    ∙ none-ends c.args.run.now c.requires (length c.search.yielded) passed
    (omega (arith, step.1.0, size, ap length rest))

pub returns-then-block-place-eq1 : goal.returns-then-block-place-eq1
returns-then-block-place-eq1 c =
    let at = goal.at.returns-then-block-place-eq1 c in
    let i = c.loop-place.place in
    let (_, passed, block, _, within) = here at.In-Some in
    let f : OverflowsFirstAt c.in-Some.block.now i =
    (c.loop-place-test.true, c.if-block-place-eq1.true, c.loop-place.invariant.0) in
    found-ends c.args.run.now c.requires c.in-Some.position passed i within
    (ap fault_of (sym block) ∙ is-sound at.In_default) (subst (λ b. OverflowsFirstAt b i) block f)
