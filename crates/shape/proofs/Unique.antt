-- No two answers are the same in numbers, and a code has one kind or refusal: so the contracts leave one possible answer.
-- Assumes nothing.
use mathlib.Core.Path.{◌≡◌, refl, ap, sym, ◌∙◌}
use Rattle.std.specs.Prelude.{ℕ, Option, Some, None, Result, Ok, Err}
use Rattle.checked.specs.declared.refusal.Refusal.{Refusal}
use Rattle.checked.specs.declared.refusal.Refusal.TheVariants.{UnknownWidth, UnknownKind}
use Rattle.checked.specs.declared.refusal.RefusedAt.{RefusedAt}
use Rattle.checked.proofs.Unique.{gives, refuses, told-apart}
use Rattle.shape.specs.declared.kind.Operation.{Operation}
use Rattle.shape.specs.declared.kind.Operation.TheVariants as declared
use Rattle.shape.specs.declared.kind.Kind.{Kind}
use Rattle.shape.specs.declared.kind.Kind.TheVariants as kind
use Rattle.shape.specs.Items as items
use Rattle.shape.specs.Kinds.{operation_meant, kind_meant, Decodes}
use Rattle.shape.specs.Answers.{verdict, limit_verdict}

pub shape-unique : (a b : Result ℕ RefusedAt) → verdict a ≡ verdict b → a ≡ b
shape-unique =
    told-apart (λ v. v.code) (λ v. Ok v.limit) (λ v r. Err (record { refusal = r; place = v.place })) verdict
    (elim [ Ok M ↦ gives refl refl | Err e ↦ refuses e.refusal refl refl ])

pub limit-unique : (a b : Option ℕ) → limit_verdict a ≡ limit_verdict b → a ≡ b
limit-unique =
    told-apart (λ v. v.code) (λ v. Some v.limit) (λ v r. None) limit_verdict
    (elim [ Some M ↦ gives refl refl | None ↦ refuses UnknownWidth refl refl ])

-- ---- the kind of a code

operation_back : items.Operation → Operation
operation_back items.sum = declared.Sum
operation_back items.product = declared.Product
operation_back items.quotient = declared.Quotient
operation_back items.remainder = declared.Remainder
operation_back items.power = declared.Power
operation_back items.logarithm = declared.Logarithm

kind_back : items.Kind → Result Kind Refusal
kind_back items.literal = Ok kind.Literal
kind_back (items.operation o) = Ok (kind.Operation (operation_back o))
kind_back items.unknown = Err UnknownKind

operation-back : (o : Operation) → operation_back (operation_meant o) ≡ o
unfolding operation_back
operation-back declared.Sum = refl
operation-back declared.Product = refl
operation-back declared.Quotient = refl
operation-back declared.Remainder = refl
operation-back declared.Power = refl
operation-back declared.Logarithm = refl

kind-back : (k : Kind) → kind_back (kind_meant k) ≡ Ok k
unfolding kind_back
kind-back kind.Literal = refl
kind-back (kind.Operation o) = ap (λ p. Ok (kind.Operation p)) (operation-back o)

decoded : (code : ℕ) (r : Result Kind Refusal) → Decodes code r → kind_back (items.kind_of code) ≡ r
unfolding kind_back
decoded code (Ok k) d = ap kind_back d ∙ kind-back k
decoded code (Err e) d = ap kind_back d.1 ∙ sym (ap Err d.0)

pub kind-unique : (code : ℕ) (r s : Result Kind Refusal) → Decodes code r → Decodes code s → r ≡ s
kind-unique code r s d e = sym (decoded code r d) ∙ decoded code s e
