-- What turning a level into a field promises, one named theorem for each promise. The contract says that the answer is
-- `turning_of`, and the lent lists afterwards `numbers_after` and `marks_after`; `Unique` says that nothing else meets it.
-- Assumes nothing.
use mathlib.Core.Path.{◌≡◌, ap, sym, ◌∙◌, subst}
use mathlib.Core.Logic.{◌↔◌, ◌⊎◌, inl, inr, ⊎_elim}
use mathlib.Core.Bool.{true, false, true≢false}
use mathlib.Core.List.{List}
use Prim.Native.Nat.{ℕ, ◌≤◌, ◌<◌}
use native.Mathlib.Decide.{ℕ_discrete}
use native.Mathlib.Omega.{arith}
use lib.Dec.{T}
use lib.IntN.{pos}
use lib.ListN.{length, get_or}
use lib.Ieee.{Float, nan, binary32, of_int, fits}
use Rattle.places.specs.Faults.{NoFaultBefore}
use Rattle.places.proofs.Tables.{over-at, over-past, length-over}
use Rattle.reading.specs.Reading.{usable, usable_at}
use Rattle.turn.specs.Wholes.{is_whole, value_at, value_of, Equals, negative_zero}
use Rattle.turn.specs.Turning.{fault_of, fault_at, Turning, refused, given, turning_of, numbers_after, marks_after}
use Rattle.turn.specs.Turning.{Roomy, BadMarkAt, UnusableAt, NotWholeAt, FineAt, Reached}
use Rattle.turn.proofs.Values.{equal-whole, whole-equal, value-is}
use Rattle.turn.proofs.Casts.{back-is}
use Rattle.turn.proofs.Standing.{badly-marked, not-usable, not-whole, fine, whole-usable}
use Rattle.turn.proofs.Standing.{fault-0, fault-15, fault-22, fault-23, which-fault}
use Rattle.turn.proofs.Stages.{stages, room-short, short-room, has-room, room-for}
use Rattle.turn.proofs.Stages.{after, numbers-are, marks-are, stays, written}
-- of whole numbers the machine's comparisons are those of their values
pub use Rattle.turn.proofs.Values.{whole-orders, whole-same}
-- one answer and one content of each list
pub use Rattle.turn.proofs.Unique.{answer-unique, turn-unique}

-- ---- a float, and a place

-- a float is taken exactly when it is a whole number from 0 to 16,777,215
pub whole-exactly : (x : Float) → (is_whole x ≡ true) ↔ ((n : ℕ) × (Equals x n × (n < 16777216)))
whole-exactly x = (λ w. (value_of x, whole-equal x w), λ q. equal-whole x q.0 q.1.0 q.1.1)

-- and its value is that number
pub value-exactly : (x : Float) (n : ℕ) → is_whole x ≡ true → (value_of x ≡ n) ↔ Equals x n
value-exactly x n w = (λ e. subst (Equals x) e (whole-equal x w).0, value-is x n)

module _ (x : Float) (mark : ℕ) where
  -- a place's fault is 15 exactly when its mark is neither 0 nor 1
  pub fault-15-exactly : (fault_of x mark ≡ 15) ↔ (1 < mark)
  fault-15-exactly = (fault-15 x mark, badly-marked x mark)

  -- 22 exactly when the mark is one of these and the reading is NaN or infinite
  pub fault-22-exactly : (fault_of x mark ≡ 22) ↔ ((mark ≤ 1) × (usable x ≡ false))
  fault-22-exactly = (fault-22 x mark, λ p. not-usable x mark p.0 p.1)

  -- 23 exactly when it is a number, and not whole and from 0 to 16,777,215
  pub fault-23-exactly : (fault_of x mark ≡ 23) ↔ ((mark ≤ 1) × (usable x ≡ true) × (is_whole x ≡ false))
  fault-23-exactly = (fault-23 x mark, λ p. not-whole x mark p.0 p.1 p.2)

  -- and none exactly when it is such a whole number
  pub fault-0-exactly : (fault_of x mark ≡ 0) ↔ ((mark ≤ 1) × (is_whole x ≡ true))
  fault-0-exactly = (fault-0 x mark, λ p. fine x mark p.0 p.1)

module _ (level : List Float) (grounds numbers marks : List ℕ) where
  abbrev answer : Turning
  answer = turning_of level grounds numbers marks

  abbrev n : ℕ
  n = length level

  abbrev faults : ℕ → ℕ
  faults = fault_at level grounds

  abbrev Room : Type 0
  Room = Roomy level grounds numbers marks

  -- ---- each refusal exactly

  -- 6 exactly when the lists differ in length
  pub refused-6-exactly : (answer ≡ refused 6 0) ↔ (n ≡ length grounds → ⊥)
  refused-6-exactly = (stages level grounds numbers marks).six

  -- 14 exactly when both are empty
  pub refused-14-exactly : (answer ≡ refused 14 0) ↔ ((n ≡ 0) × (length grounds ≡ 0))
  refused-14-exactly =
      let empty = (stages level grounds numbers marks).fourteen in
      (λ r. let (e, z) = empty.0 r in (z, sym e ∙ z), λ p. empty.1 (p.0 ∙ sym p.1, p.0))

  -- 19 exactly when they are as long and not empty, and either lent list is shorter
  pub refused-19-exactly
      : (answer ≡ refused 19 0) ↔ ((n ≡ length grounds) × (0 < n) × ((length numbers < n) ⊎ (length marks < n)))
  refused-19-exactly =
      let short = (stages level grounds numbers marks).nineteen in (
        λ r. let (e, h, o) = short.0 r in (e, h, short-room level grounds numbers marks o),
        λ p. short.1 (p.0, p.1, room-short level grounds numbers marks p.2),
      )

  -- no place before i has a fault, in words
  fine-before : (i : ℕ) → NoFaultBefore faults i ↔ ((j : ℕ) → j < i → FineAt level grounds j)
  fine-before i = (
    λ b j h. (fault-0-exactly (get_or level j nan) (get_or grounds j 0)).0 (b j h),
    λ b j h. (fault-0-exactly (get_or level j nan) (get_or grounds j 0)).1 (b j h),
  )

  -- with room for the field a refusal is the first fault, here in words
  refused-at
      : (c i : ℕ) (Words : Type 0) → (c ≡ 0 → ⊥) × (c ≡ 6 → ⊥) × (c ≡ 14 → ⊥) × (c ≡ 19 → ⊥) → (faults i ≡ c) ↔ Words →
      (answer ≡ refused c i) ↔ (Room × (Reached level grounds i × Words))
  refused-at c i Words apart words = (only, back)
    where
      back : Room × (Reached level grounds i × Words) → answer ≡ refused c i
      back (r, ((h, b), w)) =
          ((stages level grounds numbers marks).at c i apart).1
          (r.even, has-room level grounds numbers marks r, (h, words.1 w, (fine-before i).1 b))

      only : answer ≡ refused c i → Room × (Reached level grounds i × Words)
      only r =
          let (e, o, (h, f, b)) = ((stages level grounds numbers marks).at c i apart).0 r in
          (room-for level grounds numbers marks e (omega arith) o, ((h, (fine-before i).0 b), words.0 f))

  -- 15 at place i exactly when there is room, place i has a bad mark, and no place before it has a fault
  pub refused-15-exactly
      : (i : ℕ) → (answer ≡ refused 15 i) ↔ (Room × (Reached level grounds i × BadMarkAt grounds i))
  refused-15-exactly i =
      refused-at 15 i (BadMarkAt grounds i) (λ e. omega arith, λ e. omega arith, λ e. omega arith, λ e. omega arith)
      (fault-15-exactly (get_or level i nan) (get_or grounds i 0))

  -- 22 at place i exactly when its mark is fine and its reading is NaN or infinite
  pub refused-22-exactly
      : (i : ℕ) → (answer ≡ refused 22 i) ↔ (Room × (Reached level grounds i × UnusableAt level grounds i))
  refused-22-exactly i =
      refused-at 22 i (UnusableAt level grounds i) (λ e. omega arith, λ e. omega arith, λ e. omega arith, λ e. omega arith)
      (fault-22-exactly (get_or level i nan) (get_or grounds i 0))

  -- 23 at place i exactly when its mark is fine and its reading is a number, but not whole and from 0 to 16,777,215
  pub refused-23-exactly
      : (i : ℕ) → (answer ≡ refused 23 i) ↔ (Room × (Reached level grounds i × NotWholeAt level grounds i))
  refused-23-exactly i =
      refused-at 23 i (NotWholeAt level grounds i) (λ e. omega arith, λ e. omega arith, λ e. omega arith, λ e. omega arith)
      (fault-23-exactly (get_or level i nan) (get_or grounds i 0))

  -- where the number is 0 there is room, and every reading is such a whole number
  pub zero-given : answer.code ≡ 0 → Room × ((i : ℕ) → i < n → FineAt level grounds i)
  zero-given z =
      let (e, h, o, b) = (stages level grounds numbers marks).nothing.0 z in
      (room-for level grounds numbers marks e h o, (fine-before n).0 b)

  -- the field is given exactly when there is room for it and every reading is such a whole number
  pub given-exactly : (answer ≡ given) ↔ (Room × ((i : ℕ) → i < n → FineAt level grounds i))
  given-exactly = (
    λ r. zero-given (ap (λ w. w.code) r),
    λ p. let r = p.0 in
        let s = stages level grounds numbers marks in
        s.then-given (s.nothing.1 (r.even, r.some, has-room level grounds numbers marks r, (fine-before n).1 p.1)),
  )

  -- no other answer is given
  pub only-answers
      : (answer ≡ given)
      ⊎ ((answer ≡ refused 6 0)
      ⊎ ((answer ≡ refused 14 0)
      ⊎ ((answer ≡ refused 19 0)
      ⊎ ((i : ℕ) × ((answer ≡ refused 15 i) ⊎ ((answer ≡ refused 22 i) ⊎ (answer ≡ refused 23 i)))))))
  only-answers =
      ⊎_elim inl
      (⊎_elim (λ s. inr (inl s))
      (⊎_elim (λ s. inr (inr (inl s)))
      (⊎_elim (λ p. inr (inr (inr (inl p.1))))
      (λ (i, (m, s)).
      let named : (c : ℕ) → faults i ≡ c → answer ≡ refused c i = λ c e. s ∙ ap (λ c. refused c i) e in
      inr (inr (inr (inr (
        i,
        ⊎_elim (λ e. inl (named 15 e)) (⊎_elim (λ e. inr (inl (named 22 e))) (λ e. inr (inr (named 23 e))))
            (which-fault (get_or level i nan) (get_or grounds i 0) m),
      ))))))))
      (stages level grounds numbers marks).answers

  -- an unusable reading is never passed over: with one the level is refused
  pub never-passed-over : (i : ℕ) → i < n → usable_at level i ≡ false → answer.code ≡ 0 → ⊥
  never-passed-over i h u z =
      true≢false (sym (whole-usable (get_or level i nan) ((zero-given z).1 i h).1) ∙ u)

  -- ---- what the lent lists hold afterwards

  abbrev numbers' : List ℕ
  numbers' = numbers_after level grounds numbers marks

  abbrev marks' : List ℕ
  marks' = marks_after level grounds numbers marks

  -- on refusal they stay
  pub lists-stay : (answer.code ≡ 0 → ⊥) → (numbers' ≡ numbers) × (marks' ≡ marks)
  lists-stay m = (
    numbers-are level grounds numbers marks ∙ stays level grounds numbers marks (value_at level) numbers m,
    marks-are level grounds numbers marks ∙ stays level grounds numbers marks (λ i. 0) marks m,
  )

  module _ (f : ℕ → ℕ) (old : List ℕ) where
    abbrev list' : List ℕ
    list' = after level grounds numbers marks f old

    list-at : answer.code ≡ 0 → (i : ℕ) → i < n → get_or list' i 0 ≡ f i
    list-at z i h = ap (λ l. get_or l i 0) (written level grounds numbers marks f old z) ∙ over-at f old n i h

    list-past : (i : ℕ) → n ≤ i → get_or list' i 0 ≡ get_or old i 0
    list-past i h =
        elim (ℕ_discrete answer.code 0) [
          | yes z ↦ ap (λ l. get_or l i 0) (written level grounds numbers marks f old z) ∙ over-past f old n i h
          | no m ↦ ap (λ l. get_or l i 0) (stays level grounds numbers marks f old m)
        ]

    list-long : (Room → n ≤ length old) → length list' ≡ length old
    list-long r =
        elim (ℕ_discrete answer.code 0) [
          | yes z ↦
              ap length (written level grounds numbers marks f old z) ∙ length-over f old n (r (zero-given z).0)
          | no m ↦ ap length (stays level grounds numbers marks f old m)
        ]

  module _ (z : answer.code ≡ 0) (i : ℕ) (h : i < n) where
    abbrev x : Float
    x = get_or level i nan

    -- number i is the value of reading i
    pub numbers-turned : get_or numbers' i 0 ≡ value_at level i
    numbers-turned =
        ap (λ l. get_or l i 0) (numbers-are level grounds numbers marks) ∙ list-at (value_at level) numbers z i h

    -- in words: reading i is exactly that number, from 0 to 16,777,215
    pub numbers-exact : Equals x (get_or numbers' i 0) × (get_or numbers' i 0 < 16777216)
    numbers-exact =
        let w = whole-equal x ((zero-given z).1 i h).1 in
        subst (λ k. Equals x k × (k < 16777216)) (sym numbers-turned) w

    -- turned back into a float it is that reading, unless this is negative zero
    pub back-to-float : T (fits binary32 x) → (x ≡ negative_zero → ⊥) → of_int binary32 (pos (get_or numbers' i 0)) ≡ x
    back-to-float t m = back-is x (get_or numbers' i 0) t numbers-exact.0 numbers-exact.1 m

    -- which gives 0
    pub negative-zero-gives-0 : x ≡ negative_zero → get_or numbers' i 0 ≡ 0
    unfolding value_of
    negative-zero-gives-0 e = numbers-turned ∙ ap value_of e

    -- mark i is 0
    pub marks-zero : get_or marks' i 0 ≡ 0
    marks-zero = ap (λ l. get_or l i 0) (marks-are level grounds numbers marks) ∙ list-at (λ j. 0) marks z i h

  -- what is past the level's length stays
  pub nothing-past-numbers : (i : ℕ) → n ≤ i → get_or numbers' i 0 ≡ get_or numbers i 0
  nothing-past-numbers i h =
      ap (λ l. get_or l i 0) (numbers-are level grounds numbers marks) ∙ list-past (value_at level) numbers i h

  pub nothing-past-marks : (i : ℕ) → n ≤ i → get_or marks' i 0 ≡ get_or marks i 0
  nothing-past-marks i h =
      ap (λ l. get_or l i 0) (marks-are level grounds numbers marks) ∙ list-past (λ j. 0) marks i h

  -- and the lists are as long as they were
  pub lengths-stay : (length numbers' ≡ length numbers) × (length marks' ≡ length marks)
  lengths-stay = (
    ap length (numbers-are level grounds numbers marks) ∙ list-long (value_at level) numbers (λ r. r.numbers_long),
    ap length (marks-are level grounds numbers marks) ∙ list-long (λ j. 0) marks (λ r. r.marks_long),
  )
