-- `sound::well_marked` meets its contract.
-- Assumes nothing.
use mathlib.Core.Path.{◌≡◌, refl, ap, ◌∙◌}
use mathlib.Core.List.{List}
use Prim.Native.Nat.{ℕ, ◌+◌, ◌*◌}
use lib.Dec.{eqb}
use Rattle.little.specs.Bytes.{byte_at, part, little}
use Rattle.layout.specs.Editions.{marks_at}
use Rattle.layout.specs.Layout.{number_from}
use Rattle.field.proofs.Marks.{marked-1}
use Rattle.block.proofs.sound.well_marked.Goals as goal

number-read : (from : ℕ) (b : List ℕ) (i : ℕ) → little (part (from + 8 * i) 8 b) ≡ number_from from b i
unfolding number_from
number-read from b i = refl

pub returns-then-mark-eq1 : goal.returns-then-mark-eq1
returns-then-mark-eq1 c =
    let a = c.args in
    ap (λ n. eqb n 0) (c.long_at.ensures ∙ number-read a.first a.b.now a.i)
    ∙ marked-1 (byte_at a.b.now (marks_at + a.i)) (number_from a.first a.b.now a.i) c.if-mark-eq1.true
