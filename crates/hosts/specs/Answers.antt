-- Each answer as an entry gives it: the number that is returned, and those that are written, a refusal's place first.
-- Assumes nothing.
use Rattle.std.specs.Prelude.{◌≡◌, cond, List, [], ◌∷◌, ◌++◌, ℕ, eqb, get_or}
use Rattle.checked.specs.Paper.{Paper}
use Rattle.little.specs.Bytes.{part, little}
use Rattle.shape.specs.Shape.{Verdict}
use Rattle.recipe.specs.Run.{Shown}
use Rattle.field.specs.Range.{Scanned}
use Rattle.layout.specs.Editions.{one}
use Rattle.layout.specs.Reading.{Reading, reading_of, numbers_after, marks_after}
use Rattle.written.specs.Writing.{Writing, writing_of, run_after}
use Rattle.search.specs.Search.{Searched}
use Rattle.entry.specs.Entry.{Told, answer_code, answer_list, besides}

abbrev pub of_shape : Verdict → Told
of_shape v = record { code = v.code; words = v.place ∷ v.limit ∷ [] }

abbrev pub of_scan : Scanned → Told
of_scan s = record { code = s.code; words = s.place ∷ s.least ∷ s.greatest ∷ s.width ∷ [] }

abbrev pub of_reading : Reading → Told
of_reading r = record { code = r.code; words = r.place ∷ r.number ∷ r.count ∷ [] }

-- the reader's two lists, which stay where its answer has no room
abbrev pub numbers_beside : (b numbers marks lent : List ℕ) → List ℕ
numbers_beside b numbers marks lent =
    besides (of_reading (reading_of b numbers marks)) lent (numbers_after b numbers marks) numbers

abbrev pub marks_beside : (b numbers marks lent : List ℕ) → List ℕ
marks_beside b numbers marks lent =
    besides (of_reading (reading_of b numbers marks)) lent (marks_after b numbers marks) marks

-- the reader's whole contract: the number, the list of its answer, and the two lists that it fills
abbrev pub ReadsForHost : (b numbers marks lent : List ℕ) → ℕ → List ℕ → List ℕ → List ℕ → Type 0
ReadsForHost b numbers marks lent r now ns ms =
    (r ≡ answer_code (of_reading (reading_of b numbers marks)) lent)
    × (now ≡ answer_list (of_reading (reading_of b numbers marks)) lent)
    × (ns ≡ numbers_beside b numbers marks lent)
    × (ms ≡ marks_beside b numbers marks lent)

abbrev pub of_writing : Writing → Told
of_writing w = record { code = w.code; words = w.place ∷ w.length ∷ [] }

-- the writer's run, which stays where its answer has no room
abbrev pub run_beside : (first : ℕ) → (numbers marks run lent : List ℕ) → List ℕ
run_beside first numbers marks run lent =
    besides (of_writing (writing_of one first numbers marks run)) lent (run_after one first numbers marks run) run

-- the writer's whole contract: the number, the list of its answer, and the run
abbrev pub WritesForHost : (first : ℕ) → (numbers marks run lent : List ℕ) → ℕ → List ℕ → List ℕ → Type 0
WritesForHost first numbers marks run lent r now after =
    (r ≡ answer_code (of_writing (writing_of one first numbers marks run)) lent)
    × (now ≡ answer_list (of_writing (writing_of one first numbers marks run)) lent)
    × (after ≡ run_beside first numbers marks run lent)

abbrev pub of_search : Searched → Told
of_search s = record { code = s.code; words = s.place ∷ s.found ∷ s.position ∷ s.within ∷ [] }

-- ---- a run

-- number j of a run's phase where it is this one, and 0 where it is another
abbrev pub of_phase : ℕ → List ℕ → ℕ → ℕ
of_phase which phase j = cond (eqb (get_or phase 0 0) which) (get_or phase j 0) 0

-- the phase, then a power's five numbers, then a logarithm's three
abbrev pub phase_words : List ℕ → List ℕ
phase_words phase =
    get_or phase 0 0
    ∷ of_phase 1 phase 1 ∷ of_phase 1 phase 2 ∷ of_phase 1 phase 3 ∷ of_phase 1 phase 4 ∷ of_phase 1 phase 5
    ∷ of_phase 2 phase 1 ∷ of_phase 2 phase 2 ∷ of_phase 2 phase 3 ∷ []

-- the 32 marks in four numbers of eight bytes, the lowest first: so they lie in memory as 32 bytes
abbrev pub mark_words : List ℕ → List ℕ
mark_words marks =
    little (part 0 8 marks) ∷ little (part 8 8 marks) ∷ little (part 16 8 marks) ∷ little (part 24 8 marks) ∷ []

-- an answer's place, mark and number, with the steps taken and the items done
abbrev pub head_of : Paper → ℕ → ℕ → List ℕ
head_of p steps done = p.place ∷ p.mark ∷ p.number ∷ steps ∷ done ∷ []

-- these, then the phase, and the hand's 32 marks and numbers, bottom first
abbrev pub of_run : Shown → Told
of_run s =
    record {
      code = s.answer.code;
      words =
          head_of s.answer s.steps s.done ++ phase_words s.phase ++ mark_words s.marks ++ s.numbers;
    }
