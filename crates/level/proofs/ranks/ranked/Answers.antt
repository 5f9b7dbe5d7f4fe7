-- `ranks::ranked` meets its contract. The invariant: these are the ranks up to place i.
-- Assumes nothing.
use mathlib.Core.Path.{◌≡◌, ap, sym, ◌∙◌}
use mathlib.Core.Logic.{◌⊎◌, inl, inr}
use mathlib.Core.Bool.{true}
use Prim.Native.Nat.{ℕ}
use native.Mathlib.Omega.{arith}
use lib.ListN.{get_or}
use lib.Ieee.{Float, nan, is_nan}
use Rattle.reading.specs.declared.types.Reading.{Reading}
use Rattle.reading.specs.declared.types.Reading.TheVariants.{Air, Ground}
use Rattle.reading.specs.Reading.{usable, reading_of}
use Rattle.reading.specs.Order.{rank}
use Rattle.reading.proofs.Order.{no-nan}
use Rattle.reading.proofs.Told.{number-is, unusable-told}
use Rattle.level.proofs.Turns.{RankedAs, ranked-turn}
use Rattle.level.proofs.ranks.ranked.Goals.{Joined-seen, in-Unusable, in-Air2}
use Rattle.level.proofs.ranks.ranked.Goals as goal

-- what was seen as a number is usable, and that number
seen-number
    : (x : Float) (mark : ℕ) {seen : Reading} → seen ≡ reading_of x mark →
    (y : Float) → (seen ≡ Air y) ⊎ (seen ≡ Ground y) → (usable x ≡ true) × (y ≡ x)
seen-number x mark e y is =
    number-is x mark y
    (elim is [
      | inl a ↦ inl (sym e ∙ a)
      | inr a ↦ inr (sym e ∙ a)
    ])

rank-seen : (c : Joined-seen) → RankedAs (get_or c.args.level.now c.loop-i.i nan) c.match-seen.rank
rank-seen c =
    let reading = get_or c.args.level.now c.loop-i.i nan in
    let mark = get_or c.args.grounds.now c.loop-i.i 0 in
    elim c.match-seen.branch [
      | in-Unusable w ↦ inl (unusable-told reading mark (sym c.seen.ensures ∙ w.in-Unusable.is), w.rank-is)
      | in-Air2 w ↦
          let n = seen-number reading mark c.seen.ensures w.in-Air.x w.in-Air.is in
          inr (n.0, w.rank-is ∙ w.rank-rank.ensures ∙ ap rank n.1)
    ]

pub rank-rank-requires : goal.rank-rank-requires
rank-rank-requires c =
    let reading = get_or c.args.level.now c.loop-i.i nan in
    let mark = get_or c.args.grounds.now c.loop-i.i 0 in
    let n = seen-number reading mark c.seen.ensures c.in-Air.x c.in-Air.is in ap is_nan n.1 ∙ no-nan reading n.0

pub loop-i-preserved : goal.loop-i-preserved
loop-i-preserved c =
    let g = c.args in
    ranked-turn g.level.now g.from c.loop-i.i c.loop-i.least c.loop-i.greatest c.match-seen.rank
    c.min-least.result c.max-greatest.result (omega arith) c.loop-i.invariant
    (rank-seen (goal.at.loop-i-preserved c).Joined-seen) c.min-least.ensures c.max-greatest.ensures
