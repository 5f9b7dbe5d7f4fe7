-- What a row promises, one named theorem for each promise, of any operations os and any lent lists. The contracts of
-- the function and of the entry for plain lists say `Rows` of the lists, and that of the entry for records says `Rows`
-- of the lists of its fields; `Unique` says that nothing else meets it.
-- Assumes nothing.
use mathlib.Core.Path.{◌≡◌, refl, ap, sym, ◌∙◌}
use mathlib.Core.Logic.{◌↔◌, ◌⊎◌, inl, inr}
use mathlib.Core.List.{List, map}
use Prim.Native.Nat.{ℕ, ◌≤◌, ◌<◌}
use native.Mathlib.Omega.{arith}
use lib.ListN.{length, get_or, length-map}
use Rattle.checked.specs.declared.types.Checked.TheVariants.{Fits, Overflowed}
use Rattle.checked.specs.Value.{limit_of}
use Rattle.checked.specs.Paper.{Paper, given}
use Rattle.shape.specs.Items.{Operation, operation, kind_of}
use Rattle.meaning.specs.Meaning.{worth}
use Rattle.meaning.specs.Told.{ByZero, SmallBase}
use Rattle.little.specs.Bytes.{byte_at, part, little}
use Rattle.razovinto.specs.Six.{answer_of, Allowed}
use Rattle.razovinto.specs.Entry.{returned, afterwards}
use Rattle.razovinto.proofs.Operations.{code-0-exactly, code-1-exactly, code-2-exactly, code-below-3}
use Rattle.razovinto.proofs.Operations.{by-zero, below-two, valued, stage, fitting-given, overflowed-given}
use Rattle.razovinto.proofs.Slices.{roomy-returns}
use Rattle.razovinto.proofs.Promises as single
use Rattle.rows.specs.declared.types.OperationRecord.{OperationRecord}
use Rattle.rows.specs.Rows.{Operations, lists, alone, fields, element_of, element_at, code_for}
use Rattle.rows.specs.Rows.{numbers_after, marks_after, codes_after, Even, Counted, Short, Roomy, Rows}
use Rattle.rows.proofs.Elements.{known, other, which, element-as, other-kind, code-exactly}
use Rattle.rows.proofs.Lengths.{six, seven, nineteen, naught, only-these}
use Rattle.rows.proofs.After.{stays, written-at, past-at, as-long}
-- one answer and one content of each list
pub use Rattle.rows.proofs.Unique.{row-answer-unique, row-entry-unique, row-unique}

-- ---- an operation of a row

module _ (k l r : ℕ) where
  -- of a kind from 1 to 6: the single operation's own answer
  pub element-is-operation : (o : Operation) → kind_of k ≡ operation o → element_of k l r ≡ answer_of o l r
  element-is-operation o e = sym (element-as k l r (operation o) e refl)

  -- 8 exactly for any other kind
  pub element-8-exactly : ((element_of k l r).code ≡ 8) ↔ ((k ≡ 0) ⊎ (6 < k))
  element-8-exactly = (only, back)
    where
      only : (element_of k l r).code ≡ 8 → (k ≡ 0) ⊎ (6 < k)
      only c =
          elim (which k l r) [
            | known o e a ↦
                let b = code-below-3 o l r in let d = ap (λ p. p.code) a in let f : ⊥ = omega arith in absurd f
            | other h a ↦ h
          ]

      back : (k ≡ 0) ⊎ (6 < k) → (element_of k l r).code ≡ 8
      back h = ap (λ p. p.code) (other-kind k l r h)

  -- 1 exactly for a quotient or a remainder by 0
  pub element-1-exactly
      : ((element_of k l r).code ≡ 1) ↔ ((o : Operation) × ((kind_of k ≡ operation o) × ByZero o r))
  element-1-exactly = code-exactly k l r 1 (λ o. ByZero o r) (omega arith) (λ o. code-1-exactly o l r)

  -- 2 exactly for a logarithm in a base below 2
  pub element-2-exactly
      : ((element_of k l r).code ≡ 2) ↔ ((o : Operation) × ((kind_of k ≡ operation o) × SmallBase o l))
  element-2-exactly = code-exactly k l r 2 (λ o. SmallBase o l) (omega arith) (λ o. code-2-exactly o l r)

  -- a refused one has the number 0 and the mark 0
  pub element-refused : ((element_of k l r).code ≡ 0 → ⊥) → ((element_of k l r).number ≡ 0) × ((element_of k l r).mark ≡ 0)
  element-refused m =
      elim (which k l r) [
        | known o e a ↦
            elim (stage o l r) [
              | by-zero d g ↦ (ap (λ p. p.number) (a ∙ g), ap (λ p. p.mark) (a ∙ g))
              | below-two b g ↦ (ap (λ p. p.number) (a ∙ g), ap (λ p. p.mark) (a ∙ g))
              | valued w g ↦ absurd (m (ap (λ p. p.code) a ∙ (code-0-exactly o l r).1 w))
            ]
        | other h a ↦ (ap (λ p. p.number) a, ap (λ p. p.mark) a)
      ]

  -- no other code is given
  pub element-codes
      : ((element_of k l r).code ≡ 0)
      ⊎ (((element_of k l r).code ≡ 1) ⊎ (((element_of k l r).code ≡ 2) ⊎ ((element_of k l r).code ≡ 8)))
  element-codes =
      elim (which k l r) [
        | known o e a ↦
            elim (stage o l r) [
              | by-zero d g ↦ inr (inl (ap (λ p. p.code) (a ∙ g)))
              | below-two b g ↦ inr (inr (inl (ap (λ p. p.code) (a ∙ g))))
              | valued w g ↦ inl (ap (λ p. p.code) a ∙ (code-0-exactly o l r).1 w)
            ]
        | other h a ↦ inr (inr (inr (ap (λ p. p.code) a)))
      ]

  -- where nothing is refused: what it comes to over unlimited numbers, where that has 64 bits, or overflowed
  module _ (o : Operation) (e : kind_of k ≡ operation o) (allowed : Allowed o l r) where
    pub element-fitting : worth o l r ≤ limit_of 64 → element_of k l r ≡ given (Fits (worth o l r))
    element-fitting h = element-is-operation o e ∙ fitting-given o l r allowed h

    pub element-overflowed
        : l ≤ limit_of 64 → r ≤ limit_of 64 → limit_of 64 < worth o l r → element_of k l r ≡ given Overflowed
    element-overflowed left right h = element-is-operation o e ∙ overflowed-given o l r allowed left right h

-- ---- a row

module _ (os : Operations) (numbers marks codes : List ℕ) where
  abbrev code : ℕ
  code = code_for os numbers marks codes

  abbrev n : ℕ
  n = length os.kinds

  -- 6 exactly when kinds, lefts and rights aren't as many
  pub row-6-exactly : (code ≡ 6) ↔ (Even os → ⊥)
  row-6-exactly = six n (length os.lefts) (length os.rights) (length numbers) (length marks) (length codes)

  -- 7 exactly when they are, and there are 0 or above 4,096 operations
  pub row-7-exactly : (code ≡ 7) ↔ (Even os × ((n ≡ 0) ⊎ (4096 < n)))
  row-7-exactly = seven n (length os.lefts) (length os.rights) (length numbers) (length marks) (length codes)

  -- 19 exactly when there are from 1 to 4,096, and one of the three result lists is shorter
  pub row-19-exactly : (code ≡ 19) ↔ (Even os × Counted os × Short os numbers marks codes)
  row-19-exactly =
      nineteen n (length os.lefts) (length os.rights) (length numbers) (length marks) (length codes)

  -- 0 exactly otherwise
  pub row-0-exactly : (code ≡ 0) ↔ (Even os × Counted os × Roomy os numbers marks codes)
  row-0-exactly = naught n (length os.lefts) (length os.rights) (length numbers) (length marks) (length codes)

  -- no other number is returned
  pub row-codes : (code ≡ 0) ⊎ ((code ≡ 6) ⊎ ((code ≡ 7) ⊎ (code ≡ 19)))
  row-codes = only-these n (length os.lefts) (length os.rights) (length numbers) (length marks) (length codes)

  -- ---- what the lent lists hold afterwards

  abbrev numbers' : List ℕ
  numbers' = numbers_after os numbers marks codes

  abbrev marks' : List ℕ
  marks' = marks_after os numbers marks codes

  abbrev codes' : List ℕ
  codes' = codes_after os numbers marks codes

  -- on refusal all three stay
  pub refused-stays : (code ≡ 0 → ⊥) → (numbers' ≡ numbers) × (marks' ≡ marks) × (codes' ≡ codes)
  refused-stays m = (
    stays code n (λ i. (element_at os i).number) numbers m,
    stays code n (λ i. (element_at os i).mark) marks m,
    stays code n (λ i. (element_at os i).code) codes m,
  )

  -- with 0 element i of each is that of operation i, refused or not, whatever the others come to
  pub elements-written
      : code ≡ 0 → (i : ℕ) → i < n →
      (get_or numbers' i 0 ≡ (element_at os i).number)
      × (get_or marks' i 0 ≡ (element_at os i).mark)
      × (get_or codes' i 0 ≡ (element_at os i).code)
  elements-written z i h = (
    written-at code n (λ i. (element_at os i).number) numbers z i h,
    written-at code n (λ i. (element_at os i).mark) marks z i h,
    written-at code n (λ i. (element_at os i).code) codes z i h,
  )

  -- nothing past the last operation is written
  pub nothing-past
      : (i : ℕ) → n ≤ i →
      (get_or numbers' i 0 ≡ get_or numbers i 0) × (get_or marks' i 0 ≡ get_or marks i 0) × (get_or codes' i 0 ≡ get_or codes i 0)
  nothing-past i h = (
    past-at code n (λ i. (element_at os i).number) numbers i h,
    past-at code n (λ i. (element_at os i).mark) marks i h,
    past-at code n (λ i. (element_at os i).code) codes i h,
  )

  -- each is as long as before
  pub lengths-stay
      : (length numbers' ≡ length numbers) × (length marks' ≡ length marks) × (length codes' ≡ length codes)
  lengths-stay = (
    as-long code n (λ i. (element_at os i).number) numbers (λ z. (row-0-exactly.0 z).2.0),
    as-long code n (λ i. (element_at os i).mark) marks (λ z. (row-0-exactly.0 z).2.1),
    as-long code n (λ i. (element_at os i).code) codes (λ z. (row-0-exactly.0 z).2.2),
  )

-- ---- records

module _ (records : List OperationRecord) (numbers marks codes : List ℕ) where
  -- a row of records answers and leaves what the row of the lists of their fields does
  pub records-equal-lists
      : (r s : ℕ) (ns ms cs ns' ms' cs' : List ℕ) → Rows (fields records) numbers marks codes r ns ms cs →
      Rows
      (lists (map (λ o. o.kind) records) (map (λ o. o.left) records) (map (λ o. o.right) records))
      numbers marks codes s ns' ms' cs' →
      (r ≡ s) × (ns ≡ ns') × (ms ≡ ms') × (cs ≡ cs')
  records-equal-lists r s ns ms cs ns' ms' cs' =
      row-entry-unique (fields records) numbers marks codes ns ms cs ns' ms' cs' r s

  -- 6 is never given
  pub records-even : code_for (fields records) numbers marks codes ≡ 6 → ⊥
  records-even e =
      (row-6-exactly (fields records) numbers marks codes).0 e (
        length-map records (λ o. o.kind) ∙ sym (length-map records (λ o. o.left)),
        length-map records (λ o. o.kind) ∙ sym (length-map records (λ o. o.right)),
      )

-- ---- a row of one operation, beside the entry for that operation alone

module _ (k l r : ℕ) (o : Operation) (e : kind_of k ≡ operation o) (numbers marks codes result : List ℕ) where
  module _ (some : Roomy (alone k l r) numbers marks codes) (room : 16 ≤ length result) where
    abbrev one : Operations
    one = alone k l r

    abbrev single-answer : Paper
    single-answer = answer_of o l r

    -- it is never refused itself
    pub one-done : code_for one numbers marks codes ≡ 0
    one-done =
        (row-0-exactly one numbers marks codes).1
        ((refl, refl), (omega arith, omega arith), some)

    -- its code is what the entry returns
    pub one-code : get_or (codes_after one numbers marks codes) 0 0 ≡ returned single-answer result
    one-code =
        (elements-written one numbers marks codes one-done 0 (omega arith)).2
        ∙ ap (λ p. p.code) (element-is-operation k l r o e)
        ∙ roomy-returns single-answer result room

    -- with 0 its number and mark are what the entry writes
    pub one-value
        : l ≤ limit_of 64 → r ≤ limit_of 64 → returned single-answer result ≡ 0 →
        (get_or (numbers_after one numbers marks codes) 0 0 ≡ little (part 0 8 (afterwards single-answer result)))
        × (get_or (marks_after one numbers marks codes) 0 0 ≡ byte_at (afterwards single-answer result) 8)
    one-value left right z =
        let w = elements-written one numbers marks codes one-done 0 (omega arith) in
        let a = element-is-operation k l r o e in
        let allowed = ((single.returned-0-exactly o l r result).0 z).1 in (
          w.0 ∙ ap (λ p. p.number) a ∙ sym (single.number-read o l r result room allowed left right),
          w.1 ∙ ap (λ p. p.mark) a ∙ sym (single.mark-written o l r result room allowed),
        )

    -- and where the entry refuses, and writes nothing, both are 0
    pub one-refused
        : (returned single-answer result ≡ 0 → ⊥) →
        (get_or (numbers_after one numbers marks codes) 0 0 ≡ 0)
        × (get_or (marks_after one numbers marks codes) 0 0 ≡ 0)
        × (afterwards single-answer result ≡ result)
    one-refused m =
        let w = elements-written one numbers marks codes one-done 0 (omega arith) in
        let c : (element_of k l r).code ≡ returned single-answer result =
        ap (λ p. p.code) (element-is-operation k l r o e) ∙ roomy-returns single-answer result room in
        let z = element-refused k l r (λ h. m (sym c ∙ h)) in
        (w.0 ∙ z.0, w.1 ∙ z.1, single.refusal-changes-nothing o l r result m)
