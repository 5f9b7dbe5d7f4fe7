-- `bytes::put_zeros` meets its contract: a list without room for so many bytes stays. The invariant: the first
-- i zeros are stored.
-- Assumes nothing.
use mathlib.Core.Path.{◌≡◌, ap, sym, ◌∙◌}
use mathlib.Core.List.{List}
use Prim.Native.Nat.{ℕ, ◌+◌, ◌<◌}
use native.Mathlib.Omega.{arith}
use lib.ListN.{length, get_or, set, replicate, length-replicate, get_or-replicate}
use lib.Seq.{sets}
use Rattle.places.proofs.Stores.{stored-none, stored-turn, stored-all, listed}
use Rattle.little.proofs.Stored.{put-stored, put-nowhere}
use Rattle.store.proofs.bytes.put_zeros.Goals as goal
use Rattle.store.proofs.bytes.put_zeros.Goals.{then-b-at-via-then-b-at, then-b-at-via-else-b-at+then-b-at-2}

abbrev zeros : ℕ → List ℕ
zeros n = replicate n 0

all-long : (n : ℕ) → length (zeros n) ≡ n
all-long n = length-replicate n 0

pub returns-then-b-at : goal.returns-then-b-at
returns-then-b-at c =
    let g = c.args in
    let size = all-long g.count in
    let full : length g.b.now < g.at + length (zeros g.count) = elim c.then-b-at.branch [
      | then-b-at-via-then-b-at w ↦ omega arith
      | then-b-at-via-else-b-at+then-b-at-2 w ↦ omega arith
    ] in
    sym (put-nowhere g.at (zeros g.count) g.b.now full)

pub loop-i-init : goal.loop-i-init
loop-i-init c = let g = c.args in stored-none (λ j. get_or (zeros g.count) j 0) g.at g.b.now

pub loop-i-preserved : goal.loop-i-preserved
loop-i-preserved c =
    let g = c.args in
    let l = c.loop-i in
    ap (set l.b (g.at + l.i)) (sym (get_or-replicate g.count l.i 0 0 (omega arith)))
    ∙ stored-turn (λ j. get_or (zeros g.count) j 0) g.at g.b.now l.i l.invariant

pub returns : goal.returns
returns c =
    let g = c.args in
    let l = c.loop-i in
    let size = all-long g.count in
    stored-all (λ j. get_or (zeros g.count) j 0) g.at g.b.now l.i g.count l.invariant (omega arith)
    ∙ ap (sets g.b.now g.at) (listed (zeros g.count) g.count size)
    ∙ sym (put-stored g.at (zeros g.count) g.b.now (omega arith))
