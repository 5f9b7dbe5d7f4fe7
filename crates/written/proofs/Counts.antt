-- How many blocks a field takes, and how many values each holds.
-- Assumes nothing.
use mathlib.Core.Path.{◌≡◌, ap}
use mathlib.Core.List.{List}
use Prim.Native.Nat.{ℕ, suc, ◌+◌, ◌-◌, ◌*◌, ◌≤◌, ◌<◌}
use native.Mathlib.Decide.{dec_lt}
use native.Mathlib.Nat.{div-add-mod', mod-lt, mul-le-mul_left}
use native.Mathlib.Omega.{arith}
use lib.ListN.{length, get_or, drop, length-take, length-drop}
use Rattle.places.specs.Places.{chained}
use Rattle.places.proofs.Chains.{parts-are-all}
use Rattle.little.proofs.Little.{part-at}
use Rattle.layout.specs.Editions.{Edition}
use Rattle.written.specs.Run.{blocks_for, held_at}

module _ (E : Edition) (takes : 0 < E.most) where
  -- ---- the number of blocks

  -- they have room for the values, and without the last they haven't
  pub blocks-reach : (n : ℕ) → n ≤ E.most * blocks_for E n
  unfolding blocks_for
  blocks-reach n =
      let x = n + (E.most - 1) in
      let e = div-add-mod' x E.most in
      let m = mod-lt x takes in omega arith

  pub blocks-needed : (n : ℕ) → E.most * blocks_for E n < n + E.most
  unfolding blocks_for
  blocks-needed n =
      let x = n + (E.most - 1) in
      let e = div-add-mod' x E.most in
      let m = mod-lt x takes in omega arith

  -- that says which number it is
  pub blocks-is : (n k : ℕ) → n ≤ E.most * k → E.most * k < n + E.most → blocks_for E n ≡ k
  blocks-is n k reach needed =
      let r = blocks-reach n in
      let m = blocks-needed n in
      elim (dec_lt k (blocks_for E n)) [
        | yes h ↦
            let p : E.most * suc k ≤ E.most * blocks_for E n = mul-le-mul_left E.most h in
            absurd (omega arith)
        | no h ↦
            elim (dec_lt (blocks_for E n) k) [
              | yes g ↦
                  let p : E.most * suc (blocks_for E n) ≤ E.most * k = mul-le-mul_left E.most g in
                  absurd (omega arith)
              | no g ↦ omega arith
            ]
      ]

  -- a field that isn't empty has a block
  pub blocks-some : (n : ℕ) → 0 < n → 0 < blocks_for E n
  blocks-some n h =
      let r = blocks-reach n in
      elim (dec_lt 0 (blocks_for E n)) [
        | yes g ↦ g
        | no g ↦
            let z : blocks_for E n ≡ 0 = omega arith in
            let e = ap (λ k. E.most * k) z in absurd (omega arith)
      ]

  -- a block has values of the field
  pub begins-within : (n p : ℕ) → p < blocks_for E n → E.most * p < n
  begins-within n p h =
      let m = blocks-needed n in
      let l : E.most * suc p ≤ E.most * blocks_for E n = mul-le-mul_left E.most h in omega arith

  -- ---- the values of a block

  pub held-full : (list : List ℕ) (p : ℕ) → suc p < blocks_for E (length list) → length (held_at E p list) ≡ E.most
  held-full list p h =
      let b = begins-within (length list) (suc p) h in
      omega (arith, length-take E.most (drop (E.most * p) list), length-drop (E.most * p) list)

  pub held-some : (list : List ℕ) (p : ℕ) → p < blocks_for E (length list) → 0 < length (held_at E p list)
  held-some list p h =
      let b = begins-within (length list) p h in
      omega (arith, length-take E.most (drop (E.most * p) list), length-drop (E.most * p) list)

  pub held-at-most : (list : List ℕ) (p : ℕ) → length (held_at E p list) ≤ E.most
  held-at-most list p = omega (arith, length-take E.most (drop (E.most * p) list))

  -- a field's two lists are held alike
  pub held-even : (xs ys : List ℕ) (p : ℕ) → length xs ≡ length ys → length (held_at E p xs) ≡ length (held_at E p ys)
  held-even xs ys p e =
      omega (
        arith,
        length-take E.most (drop (E.most * p) xs),
        length-drop (E.most * p) xs,
        length-take E.most (drop (E.most * p) ys),
        length-drop (E.most * p) ys,
      )

  -- place i of the block at position p is this place of the field
  pub held-place
      : (list : List ℕ) (p i : ℕ) → i < length (held_at E p list) → E.most * p + i < length list
  held-place list p i h =
      omega (arith, length-take E.most (drop (E.most * p) list), length-drop (E.most * p) list)

  pub held-value
      : (list : List ℕ) (p i : ℕ) → i < length (held_at E p list) →
      get_or (held_at E p list) i 0 ≡ get_or list (E.most * p + i) 0
  held-value list p i h =
      part-at (E.most * p) E.most list i
      (omega (arith, length-take E.most (drop (E.most * p) list)))

  -- the blocks' values one after the other are the field's
  pub held-all
      : (list : List ℕ) (n : ℕ) → length list ≡ n → chained (λ p. held_at E p list) (blocks_for E n) ≡ list
  held-all list n e =
      let r = blocks-reach n in
      parts-are-all E.most (blocks_for E n) list (omega arith)
