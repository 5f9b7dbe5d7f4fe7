-- An entry's contract leaves one number to return and one content of each list that it was lent.
-- Assumes nothing.
use mathlib.Core.Path.{◌≡◌}
use mathlib.Core.List.{List}
use Prim.Native.Nat.{ℕ}
use lib.IntN.{ℤ}
use Rattle.signed.specs.Signed.{Answer}
use Rattle.layout.specs.Editions.{one}
use Rattle.layout.specs.Reading.{reading_of}
use Rattle.written.specs.Writing.{writing_of}
use Rattle.little.proofs.Unique.{value-unique}
use Rattle.entry.specs.Entry.{Told, answer_code, answer_list}
use Rattle.hosts.specs.Entry.{signed_code, signed_list}
use Rattle.hosts.specs.Answers.{of_reading, of_writing, numbers_beside, marks_beside, run_beside}
use Rattle.hosts.specs.Answers.{ReadsForHost, WritesForHost}

-- run, shape, scan and search: the number, and the list of the answer
pub host-entry-unique
    : (t : Told) (lent : List ℕ) (r s : ℕ) (now other : List ℕ) →
    (r ≡ answer_code t lent) × (now ≡ answer_list t lent) → (s ≡ answer_code t lent) × (other ≡ answer_list t lent) →
    (r ≡ s) × (now ≡ other)
host-entry-unique t lent r s now other g h =
    (value-unique r s (answer_code t lent) g.0 h.0, value-unique now other (answer_list t lent) g.1 h.1)

-- the reader: the number, the list of its answer, and the two lists that it fills
pub host-read-unique
    : (b numbers marks lent : List ℕ) (r s : ℕ) (now ns ms now' ns' ms' : List ℕ) →
    ReadsForHost b numbers marks lent r now ns ms → ReadsForHost b numbers marks lent s now' ns' ms' →
    (r ≡ s) × (now ≡ now') × (ns ≡ ns') × (ms ≡ ms')
host-read-unique b numbers marks lent r s now ns ms now' ns' ms' g h =
    let t = of_reading (reading_of b numbers marks) in (
      value-unique r s (answer_code t lent) g.0 h.0,
      value-unique now now' (answer_list t lent) g.1 h.1,
      value-unique ns ns' (numbers_beside b numbers marks lent) g.2 h.2,
      value-unique ms ms' (marks_beside b numbers marks lent) g.3 h.3,
    )

-- the writer: the number, the list of its answer, and the run
pub host-write-unique
    : (first : ℕ) (numbers marks run lent : List ℕ) (r s : ℕ) (now after now' after' : List ℕ) →
    WritesForHost first numbers marks run lent r now after → WritesForHost first numbers marks run lent s now' after' →
    (r ≡ s) × (now ≡ now') × (after ≡ after')
host-write-unique first numbers marks run lent r s now after now' after' g h =
    let t = of_writing (writing_of one first numbers marks run) in (
      value-unique r s (answer_code t lent) g.0 h.0,
      value-unique now now' (answer_list t lent) g.1 h.1,
      value-unique after after' (run_beside first numbers marks run lent) g.2 h.2,
    )

-- the signed quotient and remainder: the number that is returned, and the list of one signed number
pub host-signed-unique
    : (a : Answer) (lent : List ℤ) (r s : ℕ) (now other : List ℤ) →
    (r ≡ signed_code a lent) × (now ≡ signed_list a lent) →
    (s ≡ signed_code a lent) × (other ≡ signed_list a lent) → (r ≡ s) × (now ≡ other)
host-signed-unique a lent r s now other g h = (
  value-unique r s (signed_code a lent) g.0 h.0,
  value-unique now other (signed_list a lent) g.1 h.1,
)
