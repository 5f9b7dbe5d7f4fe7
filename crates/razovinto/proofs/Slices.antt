-- What is returned and what the slice has afterwards, of any answer p: where it is too short, where the answer is a
-- refusal, and where it is a value.
-- Assumes nothing.
use mathlib.Core.Path.{◌≡◌, sym, ap, ◌∙◌}
use mathlib.Core.Bool.{false, cond}
use mathlib.Core.List.{List, ◌++◌}
use Prim.Native.Nat.{ℕ, ◌≤◌, ◌<◌}
use native.Mathlib.Omega.{arith}
use borrow.Author.Tests.{lt-ltb, le-ltb, eq-eqb}
use lib.Dec.{eqb}
use lib.ListN.{length, drop}
use lib.Seq.{sets, length-sets, sets-eq}
use Rattle.checked.specs.declared.refusal.Refusal.{Refusal}
use Rattle.checked.specs.declared.types.Checked.TheVariants.{Fits, Overflowed}
use Rattle.checked.specs.Value.{Value}
use Rattle.checked.specs.Paper.{Paper, given, refused, number_of}
use Rattle.checked.proofs.Unique.{not-zero}
use Rattle.little.specs.Bytes.{bytes_of, put}
use Rattle.little.proofs.Stored.{put-stored, put-later-first}
use Rattle.razovinto.specs.Entry.{mark_bytes, result_bytes, returned, afterwards}

-- ---- what is returned

pub short-returns : (p : Paper) (result : List ℕ) → length result < 16 → 19 ≡ returned p result
unfolding returned
short-returns p result h = sym (ap (λ t. cond t 19 p.code) (lt-ltb (length result) 16 h))

pub roomy-returns : (p : Paper) (result : List ℕ) → 16 ≤ length result → p.code ≡ returned p result
unfolding returned
roomy-returns p result h = sym (ap (λ t. cond t 19 p.code) (le-ltb (length result) 16 h))

-- ---- what the slice has afterwards

pub refused-stays : (p : Paper) (result : List ℕ) → eqb (returned p result) 0 ≡ false → result ≡ afterwards p result
unfolding afterwards
refused-stays p result e = sym (ap (λ t. cond t (result_bytes p.number p.mark ++ drop 16 result) result) e)

pub answered-written : (p : Paper) (result : List ℕ) → returned p result ≡ 0 → result_bytes p.number p.mark ++ drop 16 result ≡ afterwards p result
unfolding afterwards
answered-written p result e =
    sym (ap (λ t. cond t (result_bytes p.number p.mark ++ drop 16 result) result) (eq-eqb (returned p result) 0 e))

-- ---- by the answer

pub short-stays : (p : Paper) (result : List ℕ) → length result < 16 → result ≡ afterwards p result
short-stays p result h = refused-stays p result (ap (λ n. eqb n 0) (sym (short-returns p result h)))

-- whatever the answer is, 19 is returned and the slice stays
pub short-gives : (p : Paper) (result : List ℕ) {r : ℕ} → length result < 16 → r ≡ 19 → (r ≡ returned p result) × (result ≡ afterwards p result)
short-gives p result h e = (e ∙ short-returns p result h, short-stays p result h)

-- a refusal's number is never 0
pub refusal-stays : (r : Refusal) (result : List ℕ) → 16 ≤ length result → result ≡ afterwards (refused (number_of r)) result
refusal-stays r result h =
    refused-stays (refused (number_of r)) result (ap (λ n. eqb n 0) (sym (roomy-returns (refused (number_of r)) result h)) ∙ not-zero r)

pub value-returns : (v : Value) (result : List ℕ) → 16 ≤ length result → 0 ≡ returned (given v) result
value-returns (Fits n) result h = roomy-returns (given (Fits n)) result h
value-returns Overflowed result h = roomy-returns (given Overflowed) result h

-- a number written, and then the mark 0, are a fitting value's 16 bytes
pub fitting-written
    : (n : ℕ) (result : List ℕ) {half whole : List ℕ} → 16 ≤ length result →
    half ≡ put 0 (bytes_of 8 n) result → whole ≡ put 8 (bytes_of 8 0) half → whole ≡ afterwards (given (Fits n)) result
unfolding bytes_of
fitting-written n result {half} h number mark =
    let first = number ∙ put-stored 0 (bytes_of 8 n) result (omega arith) in
    let room : 16 ≤ length half = omega (arith, ap length first, length-sets result 0 (bytes_of 8 n)) in
    mark
    ∙ put-stored 8 (mark_bytes 0) half (omega arith)
    ∙ ap (λ l. sets l 8 (mark_bytes 0)) first
    ∙ sets-eq (result_bytes n 0) result 0 h
    ∙ answered-written (given (Fits n)) result (sym (value-returns (Fits n) result h))

-- the mark 1 written, and then the number 0, are an overflowed value's
pub overflowed-written
    : (result : List ℕ) {half whole : List ℕ} → 16 ≤ length result →
    half ≡ put 8 (bytes_of 8 1) result → whole ≡ put 0 (bytes_of 8 0) half → whole ≡ afterwards (given Overflowed) result
unfolding bytes_of
overflowed-written result h mark number =
    number
    ∙ ap (put 0 (bytes_of 8 0)) mark
    ∙ put-later-first (bytes_of 8 0) (mark_bytes 1) result h
    ∙ answered-written (given Overflowed) result (sym (value-returns Overflowed result h))

-- ---- what is true of an answer is true of the answer that it equals

pub entry-gives
    : {p q : Paper} (result : List ℕ) {r : ℕ} {written : List ℕ} → p ≡ q → (r ≡ returned p result) × (written ≡ afterwards p result) → (r ≡ returned q result) × (written ≡ afterwards q result)
entry-gives result e g = (g.0 ∙ ap (λ p. returned p result) e, g.1 ∙ ap (λ p. afterwards p result) e)
