-- `bytes::put_bytes` meets its contract: a list without room for the bytes stays. The invariant: the first i bytes
-- are stored.
-- Assumes nothing.
use mathlib.Core.Path.{refl, ap, sym, ◌∙◌}
use Prim.Native.Nat.{◌+◌, ◌<◌}
use native.Mathlib.Omega.{arith}
use lib.ListN.{length, get_or}
use lib.Seq.{sets}
use Rattle.places.proofs.Stores.{stored-none, stored-turn, stored-all, listed}
use Rattle.little.proofs.Stored.{put-stored, put-nowhere}
use Rattle.store.proofs.bytes.put_bytes.Goals as goal
use Rattle.store.proofs.bytes.put_bytes.Goals.{then-b-at-via-then-b-at, then-b-at-via-else-b-at+then-b-at-2}

pub returns-then-b-at : goal.returns-then-b-at
returns-then-b-at c =
    let g = c.args in
    let full : length g.b.now < g.at + length g.bytes.now = elim c.then-b-at.branch [
      | then-b-at-via-then-b-at w ↦ omega arith
      | then-b-at-via-else-b-at+then-b-at-2 w ↦ omega arith
    ] in
    sym (put-nowhere g.at g.bytes.now g.b.now full)

pub loop-i-init : goal.loop-i-init
loop-i-init c = let g = c.args in stored-none (λ j. get_or g.bytes.now j 0) g.at g.b.now

pub loop-i-preserved : goal.loop-i-preserved
loop-i-preserved c =
    let g = c.args in
    let l = c.loop-i in
    stored-turn (λ j. get_or g.bytes.now j 0) g.at g.b.now l.i l.invariant

pub returns : goal.returns
returns c =
    let g = c.args in
    let l = c.loop-i in
    let n = length g.bytes.now in
    stored-all (λ j. get_or g.bytes.now j 0) g.at g.b.now l.i n l.invariant (omega arith)
    ∙ ap (sets g.b.now g.at) (listed g.bytes.now n refl)
    ∙ sym (put-stored g.at g.bytes.now g.b.now (omega arith))
