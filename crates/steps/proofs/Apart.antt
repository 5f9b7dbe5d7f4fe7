-- A power and a logarithm with an overflowed operand enter no phase: they have the answer of checked values at once.
-- Assumes nothing.
use mathlib.Core.Path.{◌≡◌, refl}
use Prim.Native.Nat.{ℕ}
use Rattle.checked.specs.declared.types.Checked.TheVariants.{Fits, Overflowed}
use Rattle.checked.specs.Value.{Value, OneOverflowed}
use Rattle.checked.specs.Paper.{power_of, logarithm_of}
use Rattle.checked.proofs.Refused.{neither}
use Rattle.shape.specs.Items.{power, logarithm}
use Rattle.steps.specs.Steps.{at_once, entered}

pub power-apart : (M : ℕ) (a b : Value) → OneOverflowed a b → entered M power a b ≡ at_once (power_of M a b)
power-apart M (Fits l) (Fits r) o = absurd (neither l r o)
power-apart M (Fits l) Overflowed o = refl
power-apart M Overflowed b o = refl

pub logarithm-apart : (M : ℕ) (a b : Value) → OneOverflowed a b → entered M logarithm a b ≡ at_once (logarithm_of a b)
logarithm-apart M (Fits l) (Fits r) o = absurd (neither l r o)
logarithm-apart M (Fits l) Overflowed o = refl
logarithm-apart M Overflowed b o = refl
