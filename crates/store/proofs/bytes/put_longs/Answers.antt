-- `bytes::put_longs` meets its contract. The invariant: the first i numbers are stored, and the list is as long as it
-- was.
-- Assumes nothing.
use mathlib.Core.Path.{sym, ◌∙◌}
use Prim.Native.Nat.{◌+◌, ◌*◌, ◌≤◌, ◌<◌}
use native.Mathlib.Omega.{arith}
use lib.ListN.{length, get_or}
use Rattle.little.specs.Bytes.{bytes_of, longs}
use Rattle.little.proofs.Little.{length-bytes, le-bytes-8}
use Rattle.little.proofs.Longs.{length-longs, longs-none, longs-turn, longs-all}
use Rattle.little.proofs.Stored.{put-mid, put-stored, put-nowhere}
use Rattle.store.proofs.bytes.put_longs.Goals as goal
use Rattle.store.proofs.bytes.put_longs.Goals.{then-b-at-via-then-b-at, then-b-at-via-else-b-at+then-b-at-2}

pub returns-then-b-at : goal.returns-then-b-at
returns-then-b-at c =
    let g = c.args in
    let ns = g.numbers.now in
    let full : length g.b.now < g.at + length (longs ns) = elim c.then-b-at.branch [
      | then-b-at-via-then-b-at w ↦ omega (arith, length-longs ns)
      | then-b-at-via-else-b-at+then-b-at-2 w ↦ omega (arith, length-longs ns)
    ] in
    sym (put-nowhere g.at (longs ns) g.b.now full)

pub loop-i-init : goal.loop-i-init
loop-i-init c =
    let g = c.args in longs-none g.at g.numbers.now g.b.now

pub loop-i-preserved : goal.loop-i-preserved
loop-i-preserved c =
    let g = c.args in
    let i = c.loop-i.i in
    let from = g.at + 8 * i in
    let long = bytes_of 8 (get_or g.numbers.now i 0) in
    let size = length-bytes 8 (get_or g.numbers.now i 0) in
    let room : from + 8 ≤ length c.loop-i.b = omega arith in
    put-mid from 8 long c.copy_from_slice.new.self c.loop-i.b
    (c.copy_from_slice.ensures.after ∙ c.to_le_bytes.ensures ∙ le-bytes-8 (get_or g.numbers.now i 0)) size room
    ∙ put-stored from long c.loop-i.b (omega arith)
    ∙ longs-turn g.at g.numbers.now g.b.now i c.loop-i.invariant (omega arith)

pub returns : goal.returns
returns c =
    let l = c.loop-i in
    let g = c.args in
    let ns = g.numbers.now in
    longs-all g.at ns g.b.now l.i l.invariant (omega arith)
    ∙ sym (put-stored g.at (longs ns) g.b.now (omega (arith, length-longs ns)))
