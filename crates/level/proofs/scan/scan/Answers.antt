-- `scan::scan` meets its contract. The invariant: the extent is that of the readings passed, which have no fault.
-- Assumes nothing.
use mathlib.Core.Path.{◌≡◌, ap, sym, ◌∙◌}
use mathlib.Core.Bool.{false}
use Prim.Native.Nat.{◌+◌, ◌<◌}
use native.Mathlib.Omega.{arith}
use borrow.Author.Tests.{eqb-true, eqb-false}
use lib.ListN.{length}
use Rattle.places.specs.Places.{every}
use Rattle.places.specs.Faults.{first_fault}
use Rattle.places.proofs.Faults.{no-fault-before-0}
use Rattle.checked.specs.Paper.{number_of}
use Rattle.checked.specs.declared.refusal.RefusedAt.{RefusedAt}
use Rattle.reading.specs.Reading.{marked_at}
use Rattle.reading.specs.Level.{fault_at}
use Rattle.level.specs.Scan.{Scanned, refused}
use Rattle.level.proofs.Stages.{at-unequal, at-empty, at-fault, badly-marked, unusable-ahead}
use Rattle.level.proofs.Passing.{
  passed-none,
  Part,
  unusable-in,
  least-settles,
  greatest-settles,
  passed-part,
  passed-all,
}
use Rattle.level.proofs.scan.scan.Goals.{After-all_marked, After-ranked-ranks}
use Rattle.level.proofs.scan.scan.Goals as goal

abbrev told : RefusedAt → Scanned
told e = refused (number_of e.refusal) e.place

-- ---- what is known once the marks are looked at

marks-told
    : (c : After-all_marked) → let g = c.args in
    c.all_marked.result ≡ every (marked_at g.grounds.now) (length g.level.now)
marks-told c = c.all_marked.ensures ∙ ap (every (marked_at c.args.grounds.now)) (sym c.if-level-grounds.false)

badly
    : (c : After-all_marked) → c.all_marked.result ≡ false → let g = c.args in
    first_fault (fault_at g.level.now g.grounds.now) (length g.level.now) < length g.level.now
badly c n = let g = c.args in badly-marked g.level.now g.grounds.now (sym (marks-told c) ∙ n)

-- ---- a part

part
    : (c : After-ranked-ranks) → let g = c.args in
    let e = c.loop-at.extent in
    let r = c.ranked-ranks.result in
    Part g.level.now g.grounds.now e.least e.greatest c.loop-at.at (c.loop-at.at + c.min.result) r.least r.greatest
part c =
    record {
      passed = c.loop-at.invariant;
      forward = omega arith;
      within = omega arith;
      ranked = c.ranked-ranks.ensures;
    }

unusable
    : (c : After-ranked-ranks) → c.ranked-ranks.result.least ≡ 0 → let g = c.args in
    first_fault (fault_at g.level.now g.grounds.now) (length g.level.now) < length g.level.now
unusable c z =
    let g = c.args in
    let p = part c in
    unusable-ahead g.level.now g.grounds.now c.loop-at.at (c.loop-at.at + c.min.result) p.within
    (unusable-in p c.type_inv.level z)

-- ---- the goals

pub returns-then-level-grounds : goal.returns-then-level-grounds
returns-then-level-grounds c =
    let g = c.args in ap told c.at.ensures ∙ sym (at-unequal g.level.now g.grounds.now c.if-level-grounds.true)

pub returns-then-is_empty : goal.returns-then-is_empty
returns-then-is_empty c =
    let g = c.args in
    let none = eqb-true (length g.level.now) 0 (sym c.is_empty.ensures ∙ c.if-is_empty.true) in
    ap told c.at-then-is_empty.ensures ∙ sym (at-empty g.level.now g.grounds.now c.if-level-grounds.false none)

pub refuse-requires : goal.refuse-requires
refuse-requires c =
    record {
      level_len = c.if-level-grounds.false;
      no_fault_before = no-fault-before-0 (fault_at c.args.level.now c.args.grounds.now);
      level_in_bounds = badly (goal.at.refuse-requires c).After-all_marked c.if-not-all_marked.true;
    }

pub returns-then-not-all_marked : goal.returns-then-not-all_marked
returns-then-not-all_marked c =
    let g = c.args in
    c.refuse.ensures
    ∙ sym
    (at-fault g.level.now g.grounds.now c.if-level-grounds.false (eqb-false (length g.level.now) 0 (sym c.is_empty.ensures ∙ c.if-is_empty.false))
    (badly (goal.at.returns-then-not-all_marked c).After-all_marked c.if-not-all_marked.true))

pub loop-at-init : goal.loop-at-init
loop-at-init c = passed-none c.args.level.now c.args.grounds.now

pub refuse-requires-then-ranks-eq0 : goal.refuse-requires-then-ranks-eq0
refuse-requires-then-ranks-eq0 c =
    record {
      level_len = c.if-level-grounds.false;
      no_fault_before = c.loop-at.invariant.no-fault;
      level_in_bounds = unusable (goal.at.refuse-requires-then-ranks-eq0 c).After-ranked-ranks c.if-ranks-eq0.true;
    }

pub returns-then-ranks-eq0 : goal.returns-then-ranks-eq0
returns-then-ranks-eq0 c =
    let g = c.args in
    c.refuse-then-ranks-eq0.ensures
    ∙ sym
    (at-fault g.level.now g.grounds.now c.if-level-grounds.false (eqb-false (length g.level.now) 0 (sym c.is_empty.ensures ∙ c.if-is_empty.false))
    (unusable (goal.at.returns-then-ranks-eq0 c).After-ranked-ranks c.if-ranks-eq0.true))

pub settle-requires : goal.settle-requires
settle-requires c =
    (least-settles (part (goal.at.settle-requires c).After-ranked-ranks) c.if-ranks-eq0.false).asked

pub settle-requires-in-loop-at : goal.settle-requires-in-loop-at
settle-requires-in-loop-at c =
    (greatest-settles (part (goal.at.settle-requires-in-loop-at c).After-ranked-ranks) c.if-ranks-eq0.false).asked

pub loop-at-preserved : goal.loop-at-preserved
loop-at-preserved c =
    let a = (goal.at.loop-at-preserved c) in
    passed-part (part a.After-ranked-ranks) c.if-ranks-eq0.false
    (sym (marks-told a.After-all_marked) ∙ c.if-not-all_marked.false)
    c.settle.ensures c.settle-in-loop-at.ensures

pub returns : goal.returns
returns c =
    let g = c.args in
    passed-all g.level.now g.grounds.now c.if-level-grounds.false (eqb-false (length g.level.now) 0 (sym c.is_empty.ensures ∙ c.if-is_empty.false))
    c.loop-at-test.false c.loop-at.invariant
