-- A whole float cast to an integer is its value; zeros aside, which aren't cast. That integer as a float is the float
-- again, negative zero aside.
-- Assumes nothing.
use mathlib.Core.Path.{◌≡◌, refl, ap, ap₂, sym, ◌∙◌, subst}
use mathlib.Core.Logic.{inl, inr}
use mathlib.Core.Bool.{Bool, true, false, ◌&&◌, true≢false, false≢true}
use Prim.Native.Nat.{ℕ, ◌*◌, ◌/◌, ◌%◌, ◌<◌}
use native.Mathlib.Nat.{zero-mul}
use native.Mathlib.Omega.{arith}
use borrow.Author.Tests.{eq-eqb, lt-ltb, le-leb, eqb-true, eqb-false}
use denote.Floats.{passes}
use lib.Dec.{T, eqb}
use lib.IntN.{ℤ, pos}
use lib.Ieee.{Float, nan, inf, fin, binary32, up, down, eq, round, whole, in_unsigned, to_unsigned, of_int, fits}
use lib.Ieee.Fits.{up_pos, round-fits}
use lib.Ieee.Casts.{to_unsigned_cut}
use lib.Ieee.Back.{round_whole, whole_unique}
use Rattle.turn.specs.Wholes.{is_whole, value_of, Equals, negative_zero}
use Rattle.turn.proofs.Values.{nought, no-parts, one-zero, whole-equal, numbers-eq, parts-over}

module _ (x : Float) (w : is_whole x ≡ true) where
  zero-test : eq x nought ≡ eqb (value_of x) 0
  zero-test = numbers-eq x nought (value_of x) 0 (whole-equal x w).0 (refl, inl refl)

  pub zero-value : eq x nought ≡ true → 0 ≡ value_of x
  zero-value e = sym (eqb-true (value_of x) 0 (sym zero-test ∙ e))

pub cast-defined : (x : Float) → is_whole x ≡ true → eq x nought ≡ false → T (in_unsigned binary32 32 x)
unfolding in_unsigned whole value_of is_whole
cast-defined nan w e = absurd (false≢true w)
cast-defined (inf s) w e = absurd (false≢true w)
cast-defined (fin s m d) w e = cast s w e (whole-equal (fin s m d) w)
  where
    cast
        : (s : Bool) → is_whole (fin s m d) ≡ true → eq (fin s m d) nought ≡ false →
        Equals (fin s m d) (value_of (fin s m d)) × (value_of (fin s m d) < 16777216) →
        T (in_unsigned binary32 32 (fin s m d))
    cast true w e ((v, inl f), h) = absurd (true≢false f)
    cast true w e ((v, inr z), h) =
        absurd (eqb-false (value_of (fin true m d)) 0 (sym (zero-test (fin true m d) w) ∙ e) z)
    cast false w e ((v, z), h) =
        let q = m * up d / down d in
        let over = eq-eqb (m * up d % down d) 0 (parts-over (m * up d) q d v) in
        passes (in_unsigned binary32 32 (fin false m d))
        (ap₂ (λ s t. s && true && t) (ap₂ ◌&&◌ over (le-leb q 16777216 (omega arith)))
        (lt-ltb q 4294967296 (omega arith)))

pub cast-is : (x : Float) → is_whole x ≡ true → eq x nought ≡ false → to_unsigned 32 x ≡ value_of x
unfolding value_of is_whole
cast-is nan w e = absurd (false≢true w)
cast-is (inf s) w e = absurd (false≢true w)
cast-is (fin s m d) w e = to_unsigned_cut binary32 32 s m d (cast-defined (fin s m d) w e)

-- ---- and back

negative-zero
    : (m n : ℕ) (e : ℤ) → T (fits binary32 (fin true m e)) → m * up e ≡ n * down e → n ≡ 0 →
    fin true m e ≡ negative_zero
negative-zero m n e t v z =
    let o = no-parts m (up e) (up_pos e) (v ∙ ap (λ n. n * down e) z ∙ zero-mul (down e)) in
    ap (λ m. fin true m e) o ∙ ap (fin true 0) (one-zero true e (subst (λ m. T (fits binary32 (fin true m e))) o t))

pub back-is
    : (x : Float) (n : ℕ) → T (fits binary32 x) → Equals x n → n < 16777216 → (x ≡ negative_zero → ⊥) →
    of_int binary32 (pos n) ≡ x
unfolding of_int
back-is nan n t q h m = absurd q
back-is (inf s) n t q h m = absurd q
back-is (fin true k e) n t (v, inl f) h m = absurd (true≢false f)
back-is (fin true k e) n t (v, inr z) h m = absurd (m (negative-zero k n e t v z))
back-is (fin false k e) n t (v, z) h m =
    whole_unique binary32 (round binary32 false n 1) (fin false k e) false n (round-fits binary32 false n 1) t
    (round_whole binary32 false n (omega arith)) (refl, omega arith)
