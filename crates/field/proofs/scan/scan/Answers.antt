-- `scan::scan` meets its contract.
-- Assumes nothing.
use mathlib.Core.Path.{◌≡◌, ap, sym, ◌∙◌}
use native.Mathlib.Omega.{arith}
use borrow.Author.Tests.{eqb-true, eqb-false, tests}
use lib.ListN.{length}
use Rattle.std.proofs.Common.{rules}
use Rattle.std.proofs.lemmas.Iterator.{IsFirst-from_position, YieldsList-from_slice}
use Rattle.std.proofs.lemmas.Option.{MatchOption-at_some, MatchOption-at_none}
use Rattle.checked.specs.Paper.{number_of}
use Rattle.checked.specs.declared.refusal.RefusedAt.{RefusedAt}
use Rattle.little.proofs.Zeros.{zeros-of}
use Rattle.field.specs.Range.{Scanned, refused}
use Rattle.field.proofs.Scans.{at-unequal, at-empty, at-unmarked, at-marked}
use Rattle.field.proofs.scan.scan.Goals as goal
use Rattle.field.proofs.scan.scan.Goals.{then-not-all_zero+in_default, else-not-all_zero}

abbrev told : RefusedAt → Scanned
told e = refused (number_of e.refusal) e.place

pub returns-then-numbers-marks : goal.returns-then-numbers-marks
returns-then-numbers-marks c =
    let g = c.args in
    ap told c.at.ensures ∙ sym (at-unequal g.numbers.now g.marks.now c.if-numbers-marks.true)

pub returns-then-is_empty : goal.returns-then-is_empty
returns-then-is_empty c =
    let g = c.args in
    let none = eqb-true (length g.numbers.now) 0 (sym c.is_empty.ensures ∙ c.if-is_empty.true) in
    ap told c.at-then-is_empty.ensures ∙ sym (at-empty g.numbers.now g.marks.now c.if-numbers-marks.false none)

pub returns-in-Some : goal.returns-in-Some
returns-in-Some c =
    let ns = c.args.numbers.now in
    let ms = c.args.marks.now in
    let i = c.in-Some.place in
    let some = eqb-false (length ns) 0 (sym c.is_empty.ensures ∙ c.if-is_empty.false) in
    let first = MatchOption-at_some _ _ i c.in-Some.is
    (IsFirst-from_position _ _ _ (λ m. m ≡ 0 → ⊥) (λ m. m ≡ 0) c.position.ensures.ran (YieldsList-from_slice ms (cc))
    (λ x q k. search (rules, tests)) (λ x q k. search (rules, tests))) in
    let marked = first.1 0 in
    ap told c.at-in-Some.ensures
    ∙ ap (λ code. refused code i) c.fault.ensures
    ∙ sym
    (at-marked ns ms c.if-numbers-marks.false some i first.0 (omega arith) (zeros-of 0 i ms (λ j l h. first.2 j 0 l h)))

pub returns : goal.returns
returns c =
    let ns = c.args.numbers.now in
    let ms = c.args.marks.now in
    let some = eqb-false (length ns) 0 (sym c.is_empty.ensures ∙ c.if-is_empty.false) in
    c.range.ensures
    ∙ sym
    (at-unmarked ns ms c.if-numbers-marks.false some
    (elim c.if-not-all_zero.branch [
      | then-not-all_zero+in_default w ↦
          let none = MatchOption-at_none _ _ w.in_default.is
          (IsFirst-from_position _ _ _ (λ m. m ≡ 0 → ⊥) (λ m. m ≡ 0) w.position.ensures.ran (YieldsList-from_slice ms (cc))
          (λ x q k. search (rules, tests)) (λ x q k. search (rules, tests))) in
          zeros-of 0 (length ms) ms (λ j l h. none j 0 l h)
      | else-not-all_zero w ↦ sym c.all_zero.ensures ∙ w.if-not-all_zero.false
    ]))
