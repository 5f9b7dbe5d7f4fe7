-- `turn::put_unmarked` meets its contract: zeros are the marks of 0, one by one.
-- Assumes nothing.
use mathlib.Core.Path.{◌≡◌, ap, sym, ◌∙◌}
use mathlib.Core.List.{List, ◌++◌}
use Prim.Native.Nat.{ℕ}
use native.Mathlib.Omega.{arith}
use lib.ListN.{length, take, drop, replicate, length-replicate, get_or-replicate}
use lib.Seq.{length-take-le}
use Rattle.places.proofs.Tables.{table-is}
use Rattle.turn.proofs.turn.put_unmarked.Goals as goal

abbrev zeros : ℕ → List ℕ
zeros n = replicate n 0

pub returns : goal.returns
returns c =
    let old = c.args.marks.now in
    let n = c.args.count in
    let size : length (take n old) ≡ n = length-take-le n old (omega arith) in
    ap (λ l. l ++ drop n old)
    (c.fill.ensures.after (λ y h. h)
    ∙ ap zeros size
    ∙ sym (table-is (λ i. 0) (zeros n) n (length-replicate n 0) (λ i h. sym (get_or-replicate n i 0 0 h))))
