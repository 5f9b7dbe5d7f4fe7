-- `search::among` meets its contract. The outer invariant: every block before this one is passed, and nothing is found.
-- The inner one: no place before this one is overflowed.
-- Assumes nothing.
use mathlib.Core.Path.{◌≡◌}
use Prim.Native.Nat.{◌*◌, ◌≤◌}
use Rattle.std.specs.Prelude.{None}
use lib.ListN.{length, drop}
use Rattle.std.specs.Iterator.Adapters.{enumerate_count, enumerate_source}
use Rattle.std.specs.Slice.Iter.{chunks_exact_rest, chunks_exact_size}
use Rattle.places.specs.Faults.{NoFaultBefore}
use Rattle.layout.specs.Editions.{block_length}
use Rattle.search.specs.Search.{end_at, NoneBefore}
use Rattle.search.proofs.search.among.Given as goal

abbrev pub invariant-search : goal.invariant-search
invariant-search l =
    NoFaultBefore (end_at l.run) (length l.yielded)
    × (enumerate_count l.position-iterator ≡ length l.yielded)
    × (chunks_exact_size (enumerate_source l.position-iterator) ≡ block_length)
    × (chunks_exact_rest (enumerate_source l.position-iterator) ≡ drop (block_length * length l.yielded) l.run)
    × (l.found ≡ None)

abbrev pub invariant-loop-place : goal.invariant-loop-place
invariant-loop-place l = NoneBefore l.block l.place × (l.place ≤ l.count) × (l.found ≡ None)
