-- When an entry with one signed number returns which number.
-- Assumes nothing.
use mathlib.Core.Path.{◌≡◌, sym, ap, ◌∙◌}
use mathlib.Core.Logic.{◌↔◌}
use mathlib.Core.List.{List}
use Prim.Native.Nat.{ℕ, ◌≤◌}
use native.Mathlib.Decide.{ℕ_discrete}
use native.Mathlib.Omega.{arith}
use lib.IntN.{ℤ}
use lib.ListN.{length}
use Rattle.signed.specs.Signed.{Answer, refused}
use Rattle.hosts.specs.Entry.{signed_code}
use Rattle.hosts.proofs.Signed.{short-signed-returned, roomy-signed-returned}

module _ (a : Answer) (lent : List ℤ) where
  -- any number but 19 exactly when there is room and it is the answer's own
  pub signed-code-exactly
      : (n : ℕ) → (n ≡ 19 → ⊥) → (signed_code a lent ≡ n) ↔ ((1 ≤ length lent) × (a.code ≡ n))
  signed-code-exactly n other = (only, λ p. roomy-signed-returned a lent p.0 ∙ p.1)
    where
      only : signed_code a lent ≡ n → (1 ≤ length lent) × (a.code ≡ n)
      only e =
          elim (ℕ_discrete (length lent) 0) [
            | yes h ↦ absurd (other (sym e ∙ short-signed-returned a lent h))
            | no m ↦ let r : 1 ≤ length lent = omega arith in (r, sym (roomy-signed-returned a lent r) ∙ e)
          ]

-- 19 exactly when the list is empty, where the answer never has it
pub signed-no-room-exactly
    : (a : Answer) (lent : List ℤ) → (a.code ≡ 19 → ⊥) → (signed_code a lent ≡ 19) ↔ (length lent ≡ 0)
signed-no-room-exactly a lent never = (only, short-signed-returned a lent)
  where
    only : signed_code a lent ≡ 19 → length lent ≡ 0
    only e =
        elim (ℕ_discrete (length lent) 0) [
          | yes h ↦ h
          | no m ↦ absurd (never (sym (roomy-signed-returned a lent (omega arith)) ∙ e))
        ]

-- from when an answer is refused with n to when the entry returns n
pub signed-exactly
    : {P : Type 0} (a : Answer) (lent : List ℤ) (n : ℕ) → (n ≡ 19 → ⊥) → (a ≡ refused n) ↔ P →
    (a.code ≡ n → a ≡ refused n) → (signed_code a lent ≡ n) ↔ ((1 ≤ length lent) × P)
signed-exactly a lent n other when told =
    let c = signed-code-exactly a lent n other in
    (λ e. ((c.0 e).0, when.0 (told (c.0 e).1)), λ p. c.1 (p.0, ap (λ x. x.code) (when.1 p.1)))
