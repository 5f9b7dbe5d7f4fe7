-- The same for an answer of one signed number: with too short a list, a refusal, and a number.
-- Assumes nothing.
use mathlib.Core.Path.{◌≡◌, refl, sym, ap, ◌∙◌}
use mathlib.Core.Bool.{false, cond}
use mathlib.Core.List.{List, [], ◌∷◌}
use Prim.Native.Nat.{ℕ, ◌≤◌, ◌<◌}
use native.Mathlib.Omega.{arith}
use borrow.Author.Tests.{eq-eqb, ne_eqb}
use lib.Dec.{eqb}
use lib.IntN.{ℤ}
use lib.ListN.{length, drop, set}
use Rattle.checked.specs.declared.refusal.Refusal.{Refusal}
use Rattle.checked.specs.Paper.{number_of}
use Rattle.checked.proofs.Unique.{not-zero}
use Rattle.signed.specs.Signed.{Answer, number, refused, quotient_of, remainder_of}
use Rattle.signed.proofs.Answers.{quotient, by-0, too-large, fitting, remainder, left-by-0, leaving}
use Rattle.hosts.specs.Entry.{signed_code, signed_list}

module _ (a : Answer) (lent : List ℤ) where
  pub short-signed-returned : length lent ≡ 0 → signed_code a lent ≡ 19
  unfolding signed_code
  short-signed-returned h = ap (λ t. cond t 19 a.code) (eq-eqb (length lent) 0 h)

  pub roomy-signed-returned : 1 ≤ length lent → signed_code a lent ≡ a.code
  unfolding signed_code
  roomy-signed-returned h =
      ap (λ t. cond t 19 a.code) (ne_eqb (length lent) 0 (λ e. let f : ⊥ = omega arith in f))

  pub refused-signed-stays : eqb (signed_code a lent) 0 ≡ false → signed_list a lent ≡ lent
  unfolding signed_list
  refused-signed-stays e = ap (λ t. cond t (a.number ∷ drop 1 lent) lent) e

  pub number-signed-written : signed_code a lent ≡ 0 → signed_list a lent ≡ a.number ∷ drop 1 lent
  unfolding signed_list
  number-signed-written e = ap (λ t. cond t (a.number ∷ drop 1 lent) lent) (eq-eqb (signed_code a lent) 0 e)

  pub short-signed-gives
      : {r : ℕ} → length lent < 1 → r ≡ 19 → (r ≡ signed_code a lent) × (lent ≡ signed_list a lent)
  short-signed-gives h e =
      let s = short-signed-returned (omega arith) in
      (e ∙ sym s, sym (refused-signed-stays (ap (λ n. eqb n 0) s)))

-- the first place of a list that has one
first-set : (z : ℤ) (lent : List ℤ) → 1 ≤ length lent → set lent 0 z ≡ z ∷ drop 1 lent
first-set z [] h = absurd (omega arith)
first-set z (y ∷ ys) h = refl

pub number-signed-gives
    : (z : ℤ) (lent : List ℤ) → 1 ≤ length lent →
    (0 ≡ signed_code (number z) lent) × (set lent 0 z ≡ signed_list (number z) lent)
number-signed-gives z lent h =
    let e = roomy-signed-returned (number z) lent h in
    (sym e, first-set z lent h ∙ sym (number-signed-written (number z) lent e))

pub refusal-signed-gives
    : (r : Refusal) (lent : List ℤ) → 1 ≤ length lent →
    (number_of r ≡ signed_code (refused (number_of r)) lent) × (lent ≡ signed_list (refused (number_of r)) lent)
refusal-signed-gives r lent h =
    let e = roomy-signed-returned (refused (number_of r)) lent h in
    (sym e, sym (refused-signed-stays (refused (number_of r)) lent (ap (λ n. eqb n 0) e ∙ not-zero r)))

-- what is said of an answer, said of the definition that it equals
pub signed-gives
    : (lent : List ℤ) {a wanted : Answer} {r : ℕ} {now : List ℤ} → a ≡ wanted →
    (r ≡ signed_code a lent) × (now ≡ signed_list a lent) →
    (r ≡ signed_code wanted lent) × (now ≡ signed_list wanted lent)
signed-gives lent e g = (g.0 ∙ ap (λ a. signed_code a lent) e, g.1 ∙ ap (λ a. signed_list a lent) e)

-- ---- an answer with a refusal's code is that refusal

pub quotient-refused
    : (W : ℕ) (a b : ℤ) (n : ℕ) → 0 < n → (quotient_of W a b).code ≡ n → quotient_of W a b ≡ refused n
quotient-refused W a b n h e =
    elim (quotient W a b) [
      | by-0 z s ↦ s ∙ ap refused (sym (ap (λ x. x.code) s) ∙ e)
      | too-large r s ↦ s ∙ ap refused (sym (ap (λ x. x.code) s) ∙ e)
      | fitting m r s ↦ let f : ⊥ = omega (arith, ap (λ x. x.code) s) in absurd f
    ]

pub remainder-refused
    : (a b : ℤ) (n : ℕ) → 0 < n → (remainder_of a b).code ≡ n → remainder_of a b ≡ refused n
remainder-refused a b n h e =
    elim (remainder a b) [
      | left-by-0 z s ↦ s ∙ ap refused (sym (ap (λ x. x.code) s) ∙ e)
      | leaving m s ↦ let f : ⊥ = omega (arith, ap (λ x. x.code) s) in absurd f
    ]
