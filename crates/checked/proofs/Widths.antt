-- One law for every width: an operation on two values that were widened, worked out at 64 bits and made narrow again is the
-- operation at the width, where its number is within the limit for numbers within it, as a logarithm is. Of the other
-- operations the check finds it.
-- Assumes nothing.
use mathlib.Core.Path.{◌≡◌, refl, ap, sym, ◌∙◌, subst}
use mathlib.Core.Bool.{Bool, true, false, cond}
use Prim.Native.Nat.{ℕ, ◌≤◌, zero-le}
use native.Mathlib.Nat.{le_trans}
use borrow.Author.Tests.{ltb-false}
use lib.Dec.{ltb}
use Rattle.std.specs.Prelude.{Result, Ok, Err}
use Rattle.whole.specs.Logarithm.{log_of}
use Rattle.checked.specs.declared.refusal.Refusal.{Refusal}
use Rattle.checked.specs.declared.types.Checked.TheVariants.{Fits, Overflowed}
use Rattle.checked.specs.Value.{Value, Within}
use Rattle.checked.specs.Paper.{Paper, paper, given, refused, logarithm_of}
use Rattle.checked.specs.Widths.{Wide, clamped_of}
use Rattle.checked.proofs.Limit.{fits}
use Rattle.checked.proofs.Logarithms.{log-at-most}

-- ---- answers

-- an answer whose number is at most M is the same at M
clamped-same : (M : ℕ) (x : Result Value Refusal) → (paper x).number ≤ M → clamped_of M x ≡ paper x
clamped-same M (Ok (Fits n)) h = ap given (sym (fits M n h))
clamped-same M (Ok Overflowed) h = refl
clamped-same M (Err r) h = refl

-- an operation keeps within M where its number does for every two values within M
abbrev pub Keeps : ℕ → (Value → Value → Paper) → Type 0
Keeps M f = (a b : Value) → Within M a → Within M b → (f a b).number ≤ M

pub answer-at
    : (M : ℕ) (f : Value → Value → Paper) → Keeps M f → (x : Result Value Refusal) {a b a' b' : Value} {p : Paper} → p ≡ clamped_of M x → paper x ≡ f a' b' → Wide M a a' → Wide M b b' → p ≡ f a b
answer-at M f k x {a} {b} {a'} {b'} narrowed e wa wb =
    let same : paper x ≡ f a b = e ∙ ap (λ v. f v b') wa.same ∙ ap (f a) wb.same in
    narrowed ∙ clamped-same M x (subst (λ q. q.number ≤ M) (sym same) (k a b wa.within wb.within)) ∙ same

-- ---- a logarithm keeps within M

picked : (M k n : ℕ) (t : Bool) → (t ≡ false → n ≤ M) → (cond t (refused k) (given (Fits n))).number ≤ M
picked M k n true h = zero-le
picked M k n false h = h refl

pub logarithm-keeps : (M : ℕ) → Keeps M logarithm_of
logarithm-keeps M Overflowed Overflowed h k = zero-le
logarithm-keeps M Overflowed (Fits r) h k = zero-le
logarithm-keeps M (Fits l) Overflowed h k = zero-le
logarithm-keeps M (Fits l) (Fits r) h k = picked M 2 (log_of l r) (ltb l 2) (λ e. le_trans (log-at-most l r (ltb-false l 2 e)) k)
