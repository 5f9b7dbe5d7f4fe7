-- What the writer promises, one named theorem for each promise. Its contract says that its answer is the one of
-- `writing_of one`, and the run afterwards `run_after one`, of which `written` says everything for any edition; what the
-- search finds in a written run is said here. `Unique` says that no other answer, and no other run, meets the contract.
-- Assumes nothing.
use mathlib.Core.Path.{◌≡◌, ap, sym, ◌∙◌, subst}
use mathlib.Core.Logic.{◌↔◌}
use mathlib.Core.List.{List}
use Prim.Native.Nat.{ℕ, ◌+◌, ◌*◌, ◌/◌, ◌%◌, ◌<◌}
use native.Mathlib.Omega.{arith}
use Rattle.layout.specs.Editions.{one}
use Rattle.search.specs.Search.{found_at, none, search_of}
use Rattle.written.specs.Run.{run_for}
use Rattle.written.specs.Writing.{writing_of, Sized}
use Rattle.written.proofs.Promises.{zero-given, one-writable}
use Rattle.write.specs.Overflowed.{FirstOverflowed, NoneOverflowed}
use Rattle.write.proofs.Searches.{found-at, found-none, overflowed, none-at-all, walk}
-- each refusal exactly, and no other number
pub use Rattle.written.proofs.Promises.{refused-6-exactly, refused-14-exactly, refused-15-exactly}
pub use Rattle.written.proofs.Promises.{refused-19-exactly, refused-21-exactly, length-given-exactly}
pub use Rattle.written.proofs.Promises.{only-codes, said-by-code}
-- what the run holds afterwards
pub use Rattle.written.proofs.Promises.{refused-stays, length-written, blocks-written, rest-stays}
-- how many blocks there are
pub use Rattle.written.proofs.Promises.{blocks-reach, blocks-needed, blocks-is}
-- reading what was written, and writing what was read
pub use Rattle.written.proofs.Promises.{written-in-order, reading-gives-back, block-read}
pub use Rattle.written.proofs.Promises.{writing-gives-back, read-then-written}
-- one answer and one content of the run
pub use Rattle.write.proofs.Unique.{answer-unique, write-unique}

-- ---- the search over what was written

module _
    (first : ℕ)
    (numbers marks run : List ℕ)
    (sized : Sized numbers)
    (z : (writing_of one first numbers marks run).code ≡ 0)
  where
    abbrev r : List ℕ
    r = run_for one first numbers marks

    found : (j : ℕ) → FirstOverflowed marks j → search_of r ≡ found_at (j / 55) (j % 55)
    found j f =
        let g = zero-given one first numbers marks run one-writable.takes z in
        found-at first numbers marks g.1 sized g.3 j f

    quiet : NoneOverflowed marks → search_of r ≡ none
    quiet f =
        let g = zero-given one first numbers marks run one-writable.takes z in
        found-none first numbers marks g.1 sized g.3 f

    -- place i of the block at position p is found exactly when it is the field's first overflowed place
    pub search-finds-exactly
        : (p i : ℕ) → i < 55 → (search_of r ≡ found_at p i) ↔ FirstOverflowed marks (55 * p + i)
    search-finds-exactly p i h = (only, back)
      where
        back : FirstOverflowed marks (55 * p + i) → search_of r ≡ found_at p i
        back f =
            let a : (55 * p + i) / 55 ≡ p = omega arith in
            let b : (55 * p + i) % 55 ≡ i = omega arith in
            found (55 * p + i) f ∙ ap (λ q. found_at q ((55 * p + i) % 55)) a ∙ ap (found_at p) b

        only : search_of r ≡ found_at p i → FirstOverflowed marks (55 * p + i)
        only e =
            elim (walk marks) [
              | overflowed j f ↦
                  let s = sym (found j f) ∙ e in
                  let a = ap (λ s. s.position) s in
                  let b = ap (λ s. s.within) s in
                  let q : j ≡ 55 * p + i = omega arith in subst (FirstOverflowed marks) q f
              | none-at-all f ↦ let c : ⊥ = omega (arith, ap (λ s. s.found) (sym (quiet f) ∙ e)) in absurd c
            ]

    -- none exactly when no place of the field is overflowed
    pub search-none-exactly : (search_of r ≡ none) ↔ NoneOverflowed marks
    search-none-exactly = (only, quiet)
      where
        only : search_of r ≡ none → NoneOverflowed marks
        only e =
            elim (walk marks) [
              | overflowed j f ↦ let c : ⊥ = omega (arith, ap (λ s. s.found) (sym (found j f) ∙ e)) in absurd c
              | none-at-all f ↦ f
            ]
