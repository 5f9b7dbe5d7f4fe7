-- `row::row` meets its contract. The invariant: the first i places of the three lists are written, and i is at most the
-- number of turns.
-- Assumes nothing.
use mathlib.Core.Path.{◌≡◌, refl, ap, sym, ◌∙◌}
use Prim.Native.Nat.{◌<◌}
use native.Mathlib.Omega.{arith}
use lib.ListN.{length}
use Rattle.rows.specs.Rows.{lists, element_at, code_for, numbers_after, marks_after, codes_after}
use Rattle.rows.specs.Turns.{cleared}
use Rattle.rows.proofs.Turns.{Inside, all-turns, stays, inside, turns, enough}
use Rattle.rows.proofs.Filling.{filled-first, filled-place, filled-last, marks_long, codes-long}
use Rattle.rows.proofs.row.row.Goals.{After-clear, In-loop-i, After-loop-i}
use Rattle.rows.proofs.row.row.Goals as goal

-- every operation has its turn, and marks and codes are cleared before the first
ready
    : (c : After-clear) → let g = c.args in
    let many = turns (lists g.kinds.now g.lefts.now g.rights.now) g.numbers.now g.marks.now g.codes.now in
    (length g.kinds.now ≡ many) × (c.clear.new.marks ≡ cleared many g.marks.now) × (c.clear.new.codes ≡ cleared many g.codes.now)
ready c =
    let g = c.args in
    let e = sym (all-turns (code_for (lists g.kinds.now g.lefts.now g.rights.now) g.numbers.now g.marks.now g.codes.now) (length g.kinds.now) (sym c.in_ok-begin.ensures)) in
    (e, c.clear.ensures.marks_new ∙ ap (λ k. cleared k g.marks.now) e, c.clear.ensures.codes_new ∙ ap (λ k. cleared k g.codes.now) e)

-- where a turn is taken, every list has its place
within
    : (c : In-loop-i) → let g = c.args in
    length c.args.kinds.now ≡ turns (lists g.kinds.now g.lefts.now g.rights.now) g.numbers.now g.marks.now g.codes.now →
    Inside (length g.kinds.now) (length g.lefts.now) (length g.rights.now) (length g.numbers.now) (length g.marks.now)
    (length g.codes.now) c.loop-i.i
within c e =
    let g = c.args in
    inside (length g.kinds.now) (length g.lefts.now) (length g.rights.now) (length g.numbers.now) (length g.marks.now)
    (length g.codes.now) c.loop-i.i (omega arith)

pub clear-requires : goal.clear-requires
clear-requires c =
    let g = c.args in
    let e = sym (all-turns (code_for (lists g.kinds.now g.lefts.now g.rights.now) g.numbers.now g.marks.now g.codes.now) (length g.kinds.now) (sym c.in_ok-begin.ensures)) in
    let n = enough (lists g.kinds.now g.lefts.now g.rights.now) g.numbers.now g.marks.now g.codes.now in (omega (arith, n.0), omega (arith, n.1))

pub loop-i-init : goal.loop-i-init
loop-i-init c =
    let g = c.args in
    filled-first (lists g.kinds.now g.lefts.now g.rights.now) g.numbers.now c.clear.new.marks
    c.clear.new.codes

pub offset_bounds-lefts-i : goal.offset_bounds-lefts-i
offset_bounds-lefts-i c =
    let at = goal.at.offset_bounds-lefts-i c in
    let few = (within at.In-loop-i (ready at.After-clear).0).few in record { fits = omega arith }

pub bounds-lefts-i : goal.bounds-lefts-i
bounds-lefts-i c =
    let at = goal.at.bounds-lefts-i c in (within at.In-loop-i (ready at.After-clear).0).lefts

pub offset_bounds-rights-i : goal.offset_bounds-rights-i
offset_bounds-rights-i c =
    let at = goal.at.offset_bounds-rights-i c in
    let few = (within at.In-loop-i (ready at.After-clear).0).few in record { fits = omega arith }

pub bounds-rights-i : goal.bounds-rights-i
bounds-rights-i c =
    let at = goal.at.bounds-rights-i c in (within at.In-loop-i (ready at.After-clear).0).rights

-- where a turn is taken, the three lists have its place
places
    : (c : In-loop-i) (t : length c.args.kinds.now ≡ turns (lists c.args.kinds.now c.args.lefts.now c.args.rights.now) c.args.numbers.now c.args.marks.now c.args.codes.now) (m : c.clear.new.marks ≡ cleared (turns (lists c.args.kinds.now c.args.lefts.now c.args.rights.now) c.args.numbers.now c.args.marks.now c.args.codes.now) c.args.marks.now)
    (k : c.clear.new.codes ≡ cleared (turns (lists c.args.kinds.now c.args.lefts.now c.args.rights.now) c.args.numbers.now c.args.marks.now c.args.codes.now) c.args.codes.now) →
    (c.loop-i.i < length c.loop-i.numbers) × (c.loop-i.i < length c.loop-i.marks) × (c.loop-i.i < length c.loop-i.codes)
places c t m k =
    let g = c.args in
    let o = lists g.kinds.now g.lefts.now g.rights.now in
    let f = c.loop-i.invariant in
    let taken : c.loop-i.i < turns o g.numbers.now g.marks.now g.codes.now = omega (arith, t) in
    let w =
    inside (length o.kinds) (length o.lefts) (length o.rights) (length g.numbers.now) (length g.marks.now)
    (length g.codes.now) c.loop-i.i taken in
    let n = f.in-numbers.as-long in
    let p = marks_long o g.numbers.now g.marks.now g.codes.now c.clear.new.marks c.clear.new.codes m k f in
    let q = codes-long o g.numbers.now g.marks.now g.codes.now c.clear.new.marks c.clear.new.codes m k f in
    let x = w.numbers in
    let y = w.marks in
    let z = w.codes in (omega arith, omega arith, omega arith)

pub bounds-numbers-i : goal.bounds-numbers-i
bounds-numbers-i c =
    let at = goal.at.bounds-numbers-i c in
    let r = ready at.After-clear in (places at.In-loop-i r.0 r.1 r.2).0

pub offset_bounds-numbers-i : goal.offset_bounds-numbers-i
offset_bounds-numbers-i c =
    let at = goal.at.offset_bounds-numbers-i c in
    let few = (within at.In-loop-i (ready at.After-clear).0).few in record { fits = omega arith }

pub bounds-marks-i : goal.bounds-marks-i
bounds-marks-i c =
    let at = goal.at.bounds-marks-i c in
    let r = ready at.After-clear in (places at.In-loop-i r.0 r.1 r.2).1

pub bounds-codes-i : goal.bounds-codes-i
bounds-codes-i c =
    let at = goal.at.bounds-codes-i c in
    let r = ready at.After-clear in (places at.In-loop-i r.0 r.1 r.2).2

pub loop-i-preserved : goal.loop-i-preserved
loop-i-preserved c =
    let g = c.args in
    let r = ready (goal.at.loop-i-preserved c).After-clear in
    let o = lists g.kinds.now g.lefts.now g.rights.now in
    let v = c.loop-i in
    let s = c.step in
    let taken : v.i < turns o g.numbers.now g.marks.now g.codes.now = omega (arith, r.0) in
    filled-place o g.numbers.now g.marks.now g.codes.now c.clear.new.marks c.clear.new.codes r.1 r.2 v.i
    v.numbers v.marks v.codes s.new.number s.new.mark s.new.code (element_at o v.i) v.invariant refl taken
    s.ensures.number_new s.ensures.mark_new s.ensures.code_new

-- after the last turn
last
    : (c : After-loop-i) (t : length c.args.kinds.now ≡ turns (lists c.args.kinds.now c.args.lefts.now c.args.rights.now) c.args.numbers.now c.args.marks.now c.args.codes.now) (m : c.clear.new.marks ≡ cleared (turns (lists c.args.kinds.now c.args.lefts.now c.args.rights.now) c.args.numbers.now c.args.marks.now c.args.codes.now) c.args.marks.now)
    (k : c.clear.new.codes ≡ cleared (turns (lists c.args.kinds.now c.args.lefts.now c.args.rights.now) c.args.numbers.now c.args.marks.now c.args.codes.now) c.args.codes.now) →
    (c.loop-i.numbers ≡ numbers_after (lists c.args.kinds.now c.args.lefts.now c.args.rights.now) c.args.numbers.now c.args.marks.now c.args.codes.now)
    × ((c.loop-i.marks ≡ marks_after (lists c.args.kinds.now c.args.lefts.now c.args.rights.now) c.args.numbers.now c.args.marks.now c.args.codes.now)
    × (c.loop-i.codes ≡ codes_after (lists c.args.kinds.now c.args.lefts.now c.args.rights.now) c.args.numbers.now c.args.marks.now c.args.codes.now))
last c t m k =
    let g = c.args in
    let l = c.loop-i in
    filled-last (lists g.kinds.now g.lefts.now g.rights.now) g.numbers.now g.marks.now g.codes.now c.clear.new.marks c.clear.new.codes m k l.i l.numbers l.marks l.codes
    l.invariant (omega arith)

pub returns-clause-numbers_new : goal.returns-clause-numbers_new
returns-clause-numbers_new c =
    let at = goal.at.returns-clause-numbers_new c in
    let r = ready at.After-clear in (last at.After-loop-i r.0 r.1 r.2).0

pub returns-clause-marks_new : goal.returns-clause-marks_new
returns-clause-marks_new c =
    let at = goal.at.returns-clause-marks_new c in
    let r = ready at.After-clear in (last at.After-loop-i r.0 r.1 r.2).1.0

pub returns-clause-codes_new : goal.returns-clause-codes_new
returns-clause-codes_new c =
    let at = goal.at.returns-clause-codes_new c in
    let r = ready at.After-clear in (last at.After-loop-i r.0 r.1 r.2).1.1

pub returns-in_err-begin-clause-numbers_new : goal.returns-in_err-begin-clause-numbers_new
returns-in_err-begin-clause-numbers_new c =
    let g = c.args in
    stays _ (length (lists g.kinds.now g.lefts.now g.rights.now).kinds) (λ i. (element_at (lists g.kinds.now g.lefts.now g.rights.now) i).number) g.numbers.now
    c.in_err-begin.ensures

pub returns-in_err-begin-clause-marks_new : goal.returns-in_err-begin-clause-marks_new
returns-in_err-begin-clause-marks_new c =
    let g = c.args in
    stays _ (length (lists g.kinds.now g.lefts.now g.rights.now).kinds) (λ i. (element_at (lists g.kinds.now g.lefts.now g.rights.now) i).mark) g.marks.now
    c.in_err-begin.ensures

pub returns-in_err-begin-clause-codes_new : goal.returns-in_err-begin-clause-codes_new
returns-in_err-begin-clause-codes_new c =
    let g = c.args in
    stays _ (length (lists g.kinds.now g.lefts.now g.rights.now).kinds) (λ i. (element_at (lists g.kinds.now g.lefts.now g.rights.now) i).code) g.codes.now
    c.in_err-begin.ensures
