-- `limited::checked_pow` meets its contract. The invariant: first * second ^ left is base ^ exponent, first is not 0
-- unless second is, and first * second is at most second * second. The measure is the exponent that is left.
-- Assumes nothing.
use mathlib.Core.Path.{◌≡◌, ap, ap₂, sym, ◌∙◌, subst}
use Prim.Native.Nat.{◌*◌, ◌/◌, ◌^◌, ◌<◌}
use native.Mathlib.Omega.{arith}
use Rattle.checked.specs.Value.{checked_of}
use Rattle.checked.proofs.Limit.{over}
use Rattle.checked.proofs.Standing.{is-fitting, is-overflowed}
use Rattle.checked.proofs.Squares.{last-digit-left, digit-kept, square-beyond}
use Rattle.checked.proofs.Squares.{digit-within, digit-positive}
use Rattle.checked.proofs.limited.checked_pow.Goals.{In-Fits}
use Rattle.checked.proofs.limited.checked_pow.Goals as goal

squared-is
    : (c : In-Fits) →
    c.in-Fits.squared
    ≡ c.loop-left.second * c.loop-left.second
squared-is c =
    let k = c in
    let g = k.args in
    let s = k.loop-left.second in
    sym (is-fitting g.limit (s * s) c.in-Fits.squared (sym c.in-Fits.ensures))

pub with_digit-first-requires : goal.with_digit-first-requires
with_digit-first-requires c =
    let l = c.loop-left in
    omega (arith, l.invariant.2, squared-is (goal.at.with_digit-first-requires c).In-Fits)

pub loop-left-preserved : goal.loop-left-preserved
loop-left-preserved c =
    let l = c.loop-left in
    let e = squared-is (goal.at.loop-left-preserved c).In-Fits in
    let d = c.with_digit-first.ensures in (
      ap₂ (λ f s. f * s ^ (l.left / 2)) d e ∙ digit-kept l.first l.second l.left ∙ l.invariant.0,
      λ h. omega (arith, digit-positive l.first l.second l.left l.invariant.1 (omega (arith, e, h)), d),
      let w = digit-within l.first l.second l.left l.invariant.2 in
          omega (arith, w, ap₂ (λ f s. f * s) d e, ap₂ (λ s t. s * t) e e),
    )

pub returns-in-Overflowed : goal.returns-in-Overflowed
returns-in-Overflowed c =
    let k = c in
    let g = k.args in
    let l = k.loop-left in
    let e = sym c.in-Overflowed.ensures in
    let b = is-overflowed g.limit (l.second * l.second) e in
    let s = square-beyond g.limit l.first l.second l.left k.loop-left-test.true l.invariant.1 b in
    over g.limit (g.base ^ g.exponent) (subst (λ n. g.limit < n) l.invariant.0 s)

pub returns-then-left-eq1 : goal.returns-then-left-eq1
returns-then-left-eq1 c =
    let g = c.args in
    let l = c.loop-left in
    let d = last-digit-left l.first l.second l.left c.if-left-eq1.true in
    c.checked_mul.ensures ∙ ap (checked_of g.limit) (d ∙ l.invariant.0)
