-- A run's answer in a lent list: how many numbers it has, and that its parts, stored in turn, are the whole.
-- Assumes nothing.
use mathlib.Core.Path.{◌≡◌, ap, ap₂, sym, ◌∙◌}
use mathlib.Core.List.{List, ◌++◌}
use Prim.Native.Nat.{ℕ, ◌+◌, ◌≤◌}
use native.Mathlib.Omega.{arith}
use lib.ListN.{length, get_or, take, drop, length-drop, take-append-drop}
use lib.Seq.{sets, take_all, drop-drop, length-take-le}
use Rattle.little.specs.Bytes.{Bytes, part, little, bytes_of}
use Rattle.little.proofs.Little.{bytes-little, part-bytes}
use Rattle.recipe.specs.Run.{Shown, run_of}
use Rattle.recipe.proofs.Promises.{places-shown, marks-shown}
use Rattle.hosts.specs.Answers.{head_of, phase_words, mark_words, of_run}

-- with 32 places there are 50 numbers
pub run-words : (s : Shown) → length s.numbers ≡ 32 → length (of_run s).words ≡ 50
run-words s n = omega arith

pub run-of-words : (W : ℕ) (ks ns : List ℕ) (k : ℕ) → length (of_run (run_of W ks ns k)).words ≡ 50
run-of-words W ks ns k = run-words (run_of W ks ns k) (places-shown W ks ns k).1

-- the answer, the phase, the marks and the numbers
pub run-stored
    : (s : Shown) (old answered phased marked all : List ℕ) →
    answered ≡ sets old 0 (head_of s.answer s.steps s.done) →
    phased ≡ sets answered 5 (phase_words s.phase) → marked ≡ sets phased 14 (mark_words s.marks) →
    all ≡ sets marked 18 s.numbers → all ≡ sets old 0 (of_run s).words
run-stored s old answered phased marked all a p m l =
    l
    ∙ ap (λ x. sets x 18 s.numbers) (m ∙ ap (λ x. sets x 14 (mark_words s.marks)) p)
    ∙ ap (λ x. sets (sets (sets x 5 (phase_words s.phase)) 14 (mark_words s.marks)) 18 s.numbers) a

-- ---- the marks

-- the parts of a list of 32
four-parts : (xs : List ℕ) → length xs ≡ 32 → part 0 8 xs ++ (part 8 8 xs ++ (part 16 8 xs ++ part 24 8 xs)) ≡ xs
four-parts xs e =
    let rest : take 8 (drop 24 xs) ≡ drop 24 xs = take_all 8 (drop 24 xs) (omega (arith, length-drop 24 xs)) in
    ap (λ l. part 0 8 xs ++ (part 8 8 xs ++ (part 16 8 xs ++ l))) rest
    ∙ ap (λ l. part 0 8 xs ++ (part 8 8 xs ++ l)) (seam 16)
    ∙ ap (λ l. part 0 8 xs ++ l) (seam 8)
    ∙ seam 0
  where
    seam : (k : ℕ) → take 8 (drop k xs) ++ drop (k + 8) xs ≡ drop k xs
    seam k = ap (λ l. take 8 (drop k xs) ++ l) (sym (drop-drop 8 k xs)) ∙ take-append-drop 8 (drop k xs)

-- of a run's four numbers of marks the bytes are the 32 marks, bottom first
pub marks-as-bytes
    : (W : ℕ) (ks ns : List ℕ) (k : ℕ) →
    let words = (of_run (run_of W ks ns k)).words in
    bytes_of 8 (get_or words 14 0)
    ++ (bytes_of 8 (get_or words 15 0) ++ (bytes_of 8 (get_or words 16 0) ++ bytes_of 8 (get_or words 17 0)))
    ≡ (run_of W ks ns k).marks
marks-as-bytes W ks ns k =
    ap₂ ◌++◌ (there 0 (omega arith)) (ap₂ ◌++◌ (there 8 (omega arith)) last)
    ∙ four-parts marks (places-shown W ks ns k).0
  where
    marks : List ℕ
    marks = (run_of W ks ns k).marks

    bytes : Bytes marks
    bytes i = let h = marks-shown W ks ns k i in omega arith

    there : (at : ℕ) → at + 8 ≤ 32 → bytes_of 8 (little (part at 8 marks)) ≡ part at 8 marks
    there at h =
        let room : 8 ≤ length (drop at marks) = omega (arith, length-drop at marks, (places-shown W ks ns k).0) in
        ap (λ n. bytes_of n (little (part at 8 marks))) (sym (length-take-le 8 (drop at marks) room))
        ∙ bytes-little (part at 8 marks) (part-bytes at 8 marks bytes)

    last
        : bytes_of 8 (little (part 16 8 marks)) ++ bytes_of 8 (little (part 24 8 marks))
        ≡ part 16 8 marks ++ part 24 8 marks
    last = ap₂ ◌++◌ (there 16 (omega arith)) (there 24 (omega arith))
