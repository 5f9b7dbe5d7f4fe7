-- What turning a level into a field answers and leaves, stage by stage: the lists' lengths, the room, the earliest
-- fault.
-- Assumes nothing.
use mathlib.Core.Path.{◌≡◌, refl, ap, ap₂, sym, ◌∙◌, subst}
use mathlib.Core.Logic.{◌⊎◌, inl, inr}
use mathlib.Core.Bool.{Bool, true, false, cond, ◌&&◌, false≢true, and-false}
use mathlib.Core.List.{List}
use Prim.Native.Nat.{ℕ, ◌≤◌, ◌<◌}
use native.Mathlib.Decide.{dec_lt}
use native.Mathlib.Omega.{arith}
use borrow.Author.Tests.{eq-eqb, ne_eqb, le-leb, lt-leb, leb-true}
use lib.Dec.{eqb, leb}
use lib.ListN.{length, get_or}
use lib.Ieee.{Float, nan}
use Rattle.places.specs.Places.{every, over}
use Rattle.places.specs.Faults.{first_fault, NoFaultBefore}
use Rattle.places.proofs.Every.{both-hold, every-at, every-of}
use Rattle.places.proofs.Faults.{first-has-fault, fault-ahead}
use Rattle.reading.specs.Reading.{marked_at}
use Rattle.reading.proofs.Stages.{Exactly, exactly}
use Rattle.turn.specs.Wholes.{is_whole_at, value_at}
use Rattle.turn.specs.Turning.{fault_at, Turning, refused, given, turning_of, numbers_after, marks_after}
use Rattle.turn.specs.Turning.{Roomy, FineAt}
use Rattle.turn.proofs.Standing.{fine, fault-0, fault-other}

module _ (level : List Float) (grounds numbers marks : List ℕ) where
  abbrev n : ℕ
  n = length level

  abbrev answer : Turning
  answer = turning_of level grounds numbers marks

  abbrev faults : ℕ → ℕ
  faults = fault_at level grounds

  abbrev roomy : Bool
  roomy = leb n (length numbers) && leb n (length marks)

  -- ---- each stage exactly

  pub stages : Exactly refused given (λ t. t.code) (λ t. t.place) n (length grounds) roomy faults answer
  unfolding turning_of
  stages =
      exactly refused given (λ t. t.code) (λ t. t.place) (λ c i. refl) (λ c i. refl) refl n (length grounds) roomy faults
      (λ i. fault-other (get_or level i nan) (get_or grounds i 0))

  -- room for the field
  pub room-short : (length numbers < n) ⊎ (length marks < n) → roomy ≡ false
  room-short (inl h) = ap (λ t. t && leb n (length marks)) (lt-leb n (length numbers) h)
  room-short (inr h) =
      ap (λ t. leb n (length numbers) && t) (lt-leb n (length marks) h) ∙ and-false (leb n (length numbers))

  pub short-room : roomy ≡ false → (length numbers < n) ⊎ (length marks < n)
  short-room r =
      elim (dec_lt (length numbers) n) [
        | yes h ↦ inl h
        | no g ↦
            elim (dec_lt (length marks) n) [
              | yes h ↦ inr h
              | no h ↦ absurd (false≢true (sym r ∙ long (omega arith) (omega arith)))
            ]
      ]
    where
      long : n ≤ length numbers → n ≤ length marks → roomy ≡ true
      long g h = ap₂ ◌&&◌ (le-leb n (length numbers) g) (le-leb n (length marks) h)

  pub has-room : Roomy level grounds numbers marks → roomy ≡ true
  has-room r = ap₂ ◌&&◌ (le-leb n (length numbers) r.numbers_long) (le-leb n (length marks) r.marks_long)

  pub room-for : n ≡ length grounds → 0 < n → roomy ≡ true → Roomy level grounds numbers marks
  room-for e h r =
      let b = both-hold (leb n (length numbers)) (leb n (length marks)) r in
      record {
        even = e;
        some = h;
        numbers_long = leb-true n (length numbers) b.0;
        marks_long = leb-true n (length marks) b.1;
      }

  -- ---- what the lent lists hold afterwards

  -- either of them: where the field is given, f at each place
  abbrev pub after : (ℕ → ℕ) → List ℕ → List ℕ
  after f old = cond (eqb answer.code 0) (over f n old) old

  pub numbers-are : numbers_after level grounds numbers marks ≡ after (value_at level) numbers
  unfolding numbers_after
  numbers-are = refl

  pub marks-are : marks_after level grounds numbers marks ≡ after (λ i. 0) marks
  unfolding marks_after
  marks-are = refl

  module _ (f : ℕ → ℕ) (old : List ℕ) where
    pub stays : (answer.code ≡ 0 → ⊥) → after f old ≡ old
    stays m = ap (λ t. cond t (over f n old) old) (ne_eqb answer.code 0 m)

    pub written : answer.code ≡ 0 → after f old ≡ over f n old
    written z = ap (λ t. cond t (over f n old) old) (eq-eqb answer.code 0 z)

  -- ---- what the code does at each stage

  -- what it answers, and what it leaves
  abbrev Does : Turning → List ℕ → List ℕ → Type 0
  Does t ns ms =
      (t ≡ answer) × ((ns ≡ numbers_after level grounds numbers marks) × (ms ≡ marks_after level grounds numbers marks))

  does-refuse : {c i : ℕ} → answer ≡ refused c i → (c ≡ 0 → ⊥) → Does (refused c i) numbers marks
  does-refuse e m =
      let f : answer.code ≡ 0 → ⊥ = λ z. m (ap (λ t. t.code) (sym e) ∙ z) in
      (sym e, (sym (numbers-are ∙ stays (value_at level) numbers f), sym (marks-are ∙ stays (λ i. 0) marks f)))

  pub does-unequal : (n ≡ length grounds → ⊥) → Does (refused 6 0) numbers marks
  does-unequal m = does-refuse (stages.six.1 m) (λ z. omega arith)

  module _ (even : n ≡ length grounds) where
    pub does-empty : n ≡ 0 → Does (refused 14 0) numbers marks
    does-empty z = does-refuse (stages.fourteen.1 (even, z)) (λ z. omega arith)

    pub does-short
        : (n ≡ 0 → ⊥) → (length numbers < n) ⊎ (length marks < n) → Does (refused 19 0) numbers marks
    does-short some s = does-refuse (stages.nineteen.1 (even, omega arith, room-short s)) (λ z. omega arith)

  module _ (r : Roomy level grounds numbers marks) where
    -- at the earliest fault, where there is one
    pub does-stop
        : {t : Turning} → first_fault faults n < n → t ≡ refused (faults (first_fault faults n)) (first_fault faults n) →
        Does t numbers marks
    does-stop {t} h e =
        subst (λ t. Does t numbers marks) (sym e)
        (does-refuse (stages.first r.even (has-room r) h) (first-has-fault faults n h))

    pub does-turn
        : NoFaultBefore faults n → Does given (over (value_at level) n numbers) (over (λ i. 0) n marks)
    does-turn b =
        let e = stages.then-given (stages.nothing.1 (r.even, r.some, has-room r, b)) in
        let z = ap (λ t. t.code) e in
        (sym e, (sym (numbers-are ∙ written (value_at level) numbers z), sym (marks-are ∙ written (λ i. 0) marks z)))

  -- ---- whether there is a fault, by the marks and the readings by themselves

  none-fine : NoFaultBefore faults n → (j : ℕ) → j < n → FineAt level grounds j
  none-fine b j h = fault-0 (get_or level j nan) (get_or grounds j 0) (b j h)

  module _ (even : n ≡ length grounds) where
    pub stops-by-mark : every (marked_at grounds) (length grounds) ≡ false → first_fault faults n < n
    stops-by-mark e =
        fault-ahead faults n (λ b.
        let all = every-of (marked_at grounds) (length grounds) (λ j h.
        le-leb (get_or grounds j 0) 1 (none-fine b j (omega arith)).0) in
        false≢true (sym e ∙ all))

    pub stops-by-reading : every (is_whole_at level) n ≡ false → first_fault faults n < n
    stops-by-reading e = fault-ahead faults n (λ b. false≢true (sym e ∙ every-of (is_whole_at level) n (λ j h. (none-fine b j h).1)))

    pub goes-on
        : every (marked_at grounds) (length grounds) ≡ true → every (is_whole_at level) n ≡ true → NoFaultBefore faults n
    goes-on m w j h =
        let k : j < length grounds = omega arith in
        fine (get_or level j nan) (get_or grounds j 0)
        (leb-true (get_or grounds j 0) 1 (every-at (marked_at grounds) (length grounds) j m k))
        (every-at (is_whole_at level) n j w h)
