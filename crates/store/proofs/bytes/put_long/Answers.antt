-- `bytes::put_long` meets its contract: the bytes that are stored are the number's.
-- Assumes nothing.
use mathlib.Core.Path.{ap, ◌∙◌}
use Rattle.little.specs.Bytes.{put}
use Rattle.little.proofs.Little.{le-bytes-8}
use Rattle.store.proofs.bytes.put_long.Goals as goal

pub returns : goal.returns
returns c =
    let g = c.args in
    c.put_bytes.ensures ∙ ap (λ l. put g.at l g.b.now) (c.to_le_bytes-long.ensures ∙ le-bytes-8 g.number)
