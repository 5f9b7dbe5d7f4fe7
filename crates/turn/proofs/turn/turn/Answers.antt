-- `turn::turn` meets its contract.
-- Assumes nothing.
use mathlib.Core.Path.{ap, sym, ◌∙◌}
use mathlib.Core.Logic.{◌⊎◌, inl, inr}
use Prim.Native.Nat.{◌<◌}
use native.Mathlib.Omega.{arith}
use borrow.Author.Tests.{eqb-true, eqb-false}
use lib.ListN.{length}
use Rattle.places.specs.Faults.{first_fault}
use Rattle.checked.specs.Paper.{number_of}
use Rattle.checked.specs.declared.refusal.RefusedAt.{RefusedAt}
use Rattle.turn.specs.Turning.{Turning, fault_at, refused, Roomy}
use Rattle.turn.proofs.Stages.{does-unequal, does-empty, does-short, does-stop, does-turn}
use Rattle.turn.proofs.Stages.{stops-by-mark, stops-by-reading, goes-on}
use Rattle.turn.proofs.turn.turn.Goals.{Else-marks-level, Joined-then-not-all_marked}
use Rattle.turn.proofs.turn.turn.Goals.{then-numbers-level-via-then-numbers-level, then-numbers-level-via-else-numbers-level+then-marks-level}
use Rattle.turn.proofs.turn.turn.Goals.{then-not-all_marked-via-then-not-all_marked, then-not-all_marked-via-else-not-all_marked+then-not-all_whole}
use Rattle.turn.proofs.turn.turn.Goals as goal

abbrev told : RefusedAt → Turning
told e = refused (number_of e.refusal) e.place

-- ---- the lengths

pub returns-then-level-grounds : goal.returns-then-level-grounds
returns-then-level-grounds c =
    let g = c.args in
    let d = does-unequal g.level.now g.grounds.now g.numbers.now g.marks.now c.if-level-grounds.true in
    record { result_value = ap told c.at.ensures ∙ d.0; numbers_new = d.1.0; marks_new = d.1.1 }

pub returns-then-is_empty : goal.returns-then-is_empty
returns-then-is_empty c =
    let g = c.args in
    let even = c.if-level-grounds.false in
    let none = eqb-true (length g.level.now) 0 (sym c.is_empty.ensures ∙ c.if-is_empty.true) in
    let d = does-empty g.level.now g.grounds.now g.numbers.now g.marks.now even none in
    record { result_value = ap told c.at-then-is_empty.ensures ∙ d.0; numbers_new = d.1.0; marks_new = d.1.1 }

pub returns-then-numbers-level : goal.returns-then-numbers-level
returns-then-numbers-level c =
    let g = c.args in
    let even = c.if-level-grounds.false in
    let some = eqb-false (length g.level.now) 0 (sym c.is_empty.ensures ∙ c.if-is_empty.false) in
    let short : (length g.numbers.now < length g.level.now) ⊎ (length g.marks.now < length g.level.now) =
    elim c.then-numbers-level.branch [
      | then-numbers-level-via-then-numbers-level w ↦ inl w.if-numbers-level.true
      | then-numbers-level-via-else-numbers-level+then-marks-level w ↦ inr w.if-marks-level.true
    ] in
    let d = does-short g.level.now g.grounds.now g.numbers.now g.marks.now even some short in
    record { result_value = ap told c.at-then-numbers-level.ensures ∙ d.0; numbers_new = d.1.0; marks_new = d.1.1 }

-- ---- the places: the lists have their lengths, and there is room

roomy : (c : Else-marks-level) → let g = c.args in Roomy g.level.now g.grounds.now g.numbers.now g.marks.now
roomy c =
    let some = eqb-false (length c.args.level.now) 0 (sym c.is_empty.ensures ∙ c.if-is_empty.false) in
    record {
      even = c.if-level-grounds.false;
      some = omega arith;
      numbers_long = c.if-numbers-level.false;
      marks_long = c.if-marks-level.false;
    }

stops
    : (c : Joined-then-not-all_marked) → let g = c.args in
    first_fault (fault_at g.level.now g.grounds.now) (length g.level.now) < length g.level.now
stops c =
    let g = c.args in
    let even = c.if-level-grounds.false in
    elim c.then-not-all_marked.branch [
      | then-not-all_marked-via-then-not-all_marked w ↦
          stops-by-mark g.level.now g.grounds.now g.numbers.now g.marks.now even
          (sym c.all_marked.ensures ∙ w.if-not-all_marked.true)
      | then-not-all_marked-via-else-not-all_marked+then-not-all_whole w ↦
          stops-by-reading g.level.now g.grounds.now g.numbers.now g.marks.now even
          (sym w.all_whole.ensures ∙ w.if-not-all_whole.true)
    ]

pub refuse-requires : goal.refuse-requires
refuse-requires c =
    record {
      level_len = c.if-level-grounds.false;
      level_in_bounds = stops (goal.at.refuse-requires c).Joined-then-not-all_marked;
    }

pub returns-then-not-all_marked : goal.returns-then-not-all_marked
returns-then-not-all_marked c =
    let g = c.args in
    let a = goal.at.returns-then-not-all_marked c in
    let d =
    does-stop g.level.now g.grounds.now g.numbers.now g.marks.now (roomy a.Else-marks-level)
    (stops a.Joined-then-not-all_marked) c.refuse.ensures in
    record { result_value = d.0; numbers_new = d.1.0; marks_new = d.1.1 }

-- ---- no place has a fault

pub returns : goal.returns
returns c =
    let g = c.args in
    let marked = sym c.all_marked.ensures ∙ c.if-not-all_marked.false in
    let whole = sym c.all_whole.ensures ∙ c.if-not-all_whole.false in
    let on = goes-on g.level.now g.grounds.now g.numbers.now g.marks.now c.if-level-grounds.false marked whole in
    let d =
    does-turn g.level.now g.grounds.now g.numbers.now g.marks.now
    (roomy (goal.at.returns c).Else-marks-level) on in
    record {
      result_value = d.0;
      numbers_new = c.put_values.ensures ∙ d.1.0;
      marks_new = c.put_unmarked.ensures ∙ d.1.1;
    }
