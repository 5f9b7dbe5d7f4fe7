-- What is answered of a list of readings and one of marks by stages: 6 where the lists aren't equally long, 14 where
-- they are empty, 19 where there is no room for what would be written, then the fault at the earliest place that has
-- one, or what is given. Each exactly, whatever the answers are.
-- Assumes nothing.
use mathlib.Core.Path.{◌≡◌, ap, sym, ◌∙◌, subst}
use mathlib.Core.Logic.{◌↔◌, ◌⊎◌, inl, inr}
use mathlib.Core.Bool.{Bool, true, false, cond}
use Prim.Native.Nat.{ℕ, ◌<◌}
use native.Mathlib.Decide.{ℕ_discrete}
use native.Mathlib.Omega.{arith}
use borrow.Author.Tests.{eq-eqb, ne_eqb, lt-ltb}
use lib.Dec.{eqb}
use Rattle.places.specs.Faults.{first_fault, at_first_fault, NoFaultBefore, FirstFault}
use Rattle.places.proofs.First.{holds-or-fails}
use Rattle.places.proofs.Faults.{faulty-at, faultless, walk, answer-at, answer-none}

-- what the stages mean for an answer, each exactly; n and k are the lists' lengths
pub record Exactly
    {A : Type 0} (refused : ℕ → ℕ → A) (given : A) (code place : A → ℕ) (n k : ℕ) (room : Bool) (fault : ℕ →
    ℕ) (answer : A)
    : Type 0
  where
    pub six : (answer ≡ refused 6 0) ↔ (n ≡ k → ⊥)
    pub fourteen : (answer ≡ refused 14 0) ↔ ((n ≡ k) × (n ≡ 0))
    pub nineteen : (answer ≡ refused 19 0) ↔ ((n ≡ k) × (0 < n) × (room ≡ false))
    -- a place's fault, which is none of these three
    pub at
        : (c i : ℕ) → (c ≡ 0 → ⊥) × (c ≡ 6 → ⊥) × (c ≡ 14 → ⊥) × (c ≡ 19 → ⊥) →
        (answer ≡ refused c i) ↔ ((n ≡ k) × (room ≡ true) × FirstFault fault n c i)
    -- the earliest of the places' faults, where one has one
    pub first
        : n ≡ k → room ≡ true → first_fault fault n < n →
        answer ≡ refused (fault (first_fault fault n)) (first_fault fault n)
    -- nothing is refused, and then it is what is given
    pub nothing : (code answer ≡ 0) ↔ ((n ≡ k) × (0 < n) × (room ≡ true) × NoFaultBefore fault n)
    pub then-given : code answer ≡ 0 → answer ≡ given
    -- no other is given
    pub answers
        : (answer ≡ given)
        ⊎ ((answer ≡ refused 6 0)
        ⊎ ((answer ≡ refused 14 0)
        ⊎ (((room ≡ false) × (answer ≡ refused 19 0))
        ⊎ ((i : ℕ) × ((fault i ≡ 0 → ⊥) × (answer ≡ refused (fault i) i))))))

-- an answer is a refusal's number and place, or what is given; its number and place can be read off it
module _
    {A : Type 0}
    (refused : ℕ → ℕ → A)
    (given : A)
    (code place : A → ℕ)
    (code_of_lem : (c i : ℕ) → code (refused c i) ≡ c)
    (place_of : (c i : ℕ) → place (refused c i) ≡ i)
    (code-of-given : code given ≡ 0)
    (n k : ℕ)
    (room : Bool)
    (fault : ℕ → ℕ)
    (other : (i : ℕ) → (fault i ≡ 6 → ⊥) × (fault i ≡ 14 → ⊥) × (fault i ≡ 19 → ⊥))
  where
    abbrev roomed : A
    roomed = cond room (at_first_fault fault n refused given) (refused 19 0)

    abbrev pub staged : A
    staged = cond (eqb n k) (cond (eqb n 0) (refused 14 0) roomed) (refused 6 0)

    -- ---- which stage it is

    at-unequal : (n ≡ k → ⊥) → staged ≡ refused 6 0
    at-unequal d =
        ap (λ t. cond t (cond (eqb n 0) (refused 14 0) roomed) (refused 6 0))
        (ne_eqb n k d)

    module _ (e : n ≡ k) where
      at-equal : staged ≡ cond (eqb n 0) (refused 14 0) roomed
      at-equal =
          ap (λ t. cond t (cond (eqb n 0) (refused 14 0) roomed) (refused 6 0))
          (eq-eqb n k e)

      at-empty : n ≡ 0 → staged ≡ refused 14 0
      at-empty z =
          at-equal
          ∙ ap (λ t. cond t (refused 14 0) roomed) (eq-eqb n 0 z)

      at-some
          : (n ≡ 0 → ⊥) → (t : Bool) → room ≡ t → staged ≡ cond t (at_first_fault fault n refused given) (refused 19 0)
      at-some s t r =
          at-equal
          ∙ ap (λ t. cond t (refused 14 0) roomed) (ne_eqb n 0 s)
          ∙ ap (λ t. cond t (at_first_fault fault n refused given) (refused 19 0)) r

    data Stage : Type 0 where
      unequal : (n ≡ k → ⊥) → staged ≡ refused 6 0 → Stage
      empty : n ≡ k → n ≡ 0 → staged ≡ refused 14 0 → Stage
      short : n ≡ k → 0 < n → room ≡ false → staged ≡ refused 19 0 → Stage
      ended
          : n ≡ k → room ≡ true → (i : ℕ) → (fault i ≡ 0 → ⊥) → FirstFault fault n (fault i) i →
          staged ≡ refused (fault i) i → Stage
      whole : n ≡ k → 0 < n → room ≡ true → NoFaultBefore fault n → staged ≡ given → Stage

    stage : Stage
    stage =
        elim (ℕ_discrete n k) [
          | no d ↦ unequal d (at-unequal d)
          | yes e ↦
              elim (ℕ_discrete n 0) [
                | yes z ↦ empty e z (at-empty e z)
                | no s ↦
                    elim (holds-or-fails room) [
                      | inr r ↦ short e (omega arith) r (at-some e s false r)
                      | inl r ↦
                          elim (walk fault n) [
                            | faulty-at i m f ↦
                                ended e r i m f
                                (at-some e s true r ∙ answer-at fault n refused given (fault i) i m f)
                            | faultless b ↦
                                whole e (omega arith) r b (at-some e s true r ∙ answer-none fault n refused given b)
                          ]
                    ]
              ]
        ]

    -- ---- each answer exactly

    -- two refusals of one answer have the same number
    same-code : (c d i j : ℕ) → staged ≡ refused c i → staged ≡ refused d j → c ≡ d
    same-code c d i j p q = sym (code_of_lem c i) ∙ ap code (sym p ∙ q) ∙ code_of_lem d j

    not-given : (c i : ℕ) → (c ≡ 0 → ⊥) → staged ≡ refused c i → staged ≡ given → ⊥
    not-given c i z p q = z (sym (code_of_lem c i) ∙ ap code (sym p ∙ q) ∙ code-of-given)

    staged-6-exactly : (staged ≡ refused 6 0) ↔ (n ≡ k → ⊥)
    staged-6-exactly = (only, at-unequal)
      where
        only : staged ≡ refused 6 0 → n ≡ k → ⊥
        only r q =
            elim stage [
              | unequal d s ↦ d q
              | empty e z s ↦ omega (arith, same-code 6 14 0 0 r s)
              | short e h o s ↦ omega (arith, same-code 6 19 0 0 r s)
              | ended e o i m f s ↦ (other i).0 (sym (same-code 6 (fault i) 0 i r s))
              | whole e h o b s ↦ not-given 6 0 (λ z. omega arith) r s
            ]

    staged-14-exactly : (staged ≡ refused 14 0) ↔ ((n ≡ k) × (n ≡ 0))
    staged-14-exactly = (only, λ p. at-empty p.0 p.1)
      where
        only : staged ≡ refused 14 0 → (n ≡ k) × (n ≡ 0)
        only r =
            elim stage [
              | unequal d s ↦ let f : ⊥ = omega (arith, same-code 14 6 0 0 r s) in absurd f
              | empty e z s ↦ (e, z)
              | short e h o s ↦ let f : ⊥ = omega (arith, same-code 14 19 0 0 r s) in absurd f
              | ended e o i m f s ↦ absurd ((other i).1 (sym (same-code 14 (fault i) 0 i r s)))
              | whole e h o b s ↦ absurd (not-given 14 0 (λ z. omega arith) r s)
            ]

    staged-19-exactly : (staged ≡ refused 19 0) ↔ ((n ≡ k) × (0 < n) × (room ≡ false))
    staged-19-exactly = (only, λ p. let h = p.1 in at-some p.0 (λ z. omega arith) false p.2)
      where
        only : staged ≡ refused 19 0 → (n ≡ k) × (0 < n) × (room ≡ false)
        only r =
            elim stage [
              | unequal d s ↦ let f : ⊥ = omega (arith, same-code 19 6 0 0 r s) in absurd f
              | empty e z s ↦ let f : ⊥ = omega (arith, same-code 19 14 0 0 r s) in absurd f
              | short e h o s ↦ (e, h, o)
              | ended e o i m f s ↦ absurd ((other i).2 (sym (same-code 19 (fault i) 0 i r s)))
              | whole e h o b s ↦ absurd (not-given 19 0 (λ z. omega arith) r s)
            ]

    -- a place's fault, which is none of these three
    staged-at-exactly
        : (c i : ℕ) → (c ≡ 0 → ⊥) × (c ≡ 6 → ⊥) × (c ≡ 14 → ⊥) × (c ≡ 19 → ⊥) →
        (staged ≡ refused c i) ↔ ((n ≡ k) × (room ≡ true) × FirstFault fault n c i)
    staged-at-exactly c i apart = (only, given-there)
      where
        given-there : (n ≡ k) × (room ≡ true) × FirstFault fault n c i → staged ≡ refused c i
        given-there (e, r, f) =
            let h = f.0 in
            at-some e (λ z. omega arith) true r ∙ answer-at fault n refused given c i apart.0 f

        only : staged ≡ refused c i → (n ≡ k) × (room ≡ true) × FirstFault fault n c i
        only r =
            elim stage [
              | unequal d s ↦ absurd (apart.1 (same-code c 6 i 0 r s))
              | empty e z s ↦ absurd (apart.2 (same-code c 14 i 0 r s))
              | short e h o s ↦ absurd (apart.3 (same-code c 19 i 0 r s))
              | ended e o j m f s ↦
                  let p : j ≡ i = sym (place_of (fault j) j) ∙ ap place (sym s ∙ r) ∙ place_of c i in
                  let q : fault j ≡ c = same-code (fault j) c j i s r in
                  (e, o, subst (FirstFault fault n c) p (f.0, q, f.2))
              | whole e h o b s ↦ absurd (not-given c i apart.0 r s)
            ]

    -- nothing is refused, and then it is what is given
    given-exactly : (code staged ≡ 0) ↔ ((n ≡ k) × (0 < n) × (room ≡ true) × NoFaultBefore fault n)
    given-exactly = (only, back)
      where
        refusal : (c i : ℕ) → (c ≡ 0 → ⊥) → code staged ≡ 0 → staged ≡ refused c i → ⊥
        refusal c i m z s = m (sym (code_of_lem c i) ∙ ap code (sym s) ∙ z)

        only : code staged ≡ 0 → (n ≡ k) × (0 < n) × (room ≡ true) × NoFaultBefore fault n
        only z =
            elim stage [
              | unequal d s ↦ absurd (refusal 6 0 (λ z. omega arith) z s)
              | empty e o s ↦ absurd (refusal 14 0 (λ z. omega arith) z s)
              | short e h o s ↦ absurd (refusal 19 0 (λ z. omega arith) z s)
              | ended e o i m f s ↦ absurd (refusal (fault i) i m z s)
              | whole e h o b s ↦ (e, h, o, b)
            ]

        back : (n ≡ k) × (0 < n) × (room ≡ true) × NoFaultBefore fault n → code staged ≡ 0
        back (e, h, r, b) =
            ap code (at-some e (λ z. omega arith) true r ∙ answer-none fault n refused given b) ∙ code-of-given

    given-is : code staged ≡ 0 → staged ≡ given
    given-is z =
        let (e, h, r, b) = given-exactly.0 z in
        at-some e (λ z. omega arith) true r ∙ answer-none fault n refused given b

    at-first
        : n ≡ k → room ≡ true → first_fault fault n < n →
        staged ≡ refused (fault (first_fault fault n)) (first_fault fault n)
    at-first e r h =
        let p = first_fault fault n in
        at-some e (λ z. omega arith) true r ∙ ap (λ t. cond t (refused (fault p) p) given) (lt-ltb p n h)

    all-answers
        : (staged ≡ given)
        ⊎ ((staged ≡ refused 6 0)
        ⊎ ((staged ≡ refused 14 0)
        ⊎ (((room ≡ false) × (staged ≡ refused 19 0))
        ⊎ ((i : ℕ) × ((fault i ≡ 0 → ⊥) × (staged ≡ refused (fault i) i))))))
    all-answers =
        elim stage [
          | unequal d s ↦ inr (inl s)
          | empty e z s ↦ inr (inr (inl s))
          | short e h o s ↦ inr (inr (inr (inl (o, s))))
          | ended e o i m f s ↦ inr (inr (inr (inr (i, (m, s)))))
          | whole e h o b s ↦ inl s
        ]

    pub exactly : Exactly refused given code place n k room fault staged
    exactly =
        record {
          six = staged-6-exactly;
          fourteen = staged-14-exactly;
          nineteen = staged-19-exactly;
          at = staged-at-exactly;
          first = at-first;
          nothing = given-exactly;
          then-given = given-is;
          answers = all-answers;
        }
