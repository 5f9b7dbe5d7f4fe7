-- What the enums of kinds and of operations mean: the kinds and the operations of a recipe's items.
-- Assumes nothing.
use Rattle.std.specs.Prelude.{◌≡◌, ℕ, Result, MatchResult}
use Rattle.checked.specs.declared.refusal.Refusal.{Refusal}
use Rattle.checked.specs.declared.refusal.Refusal.TheVariants.{UnknownKind}
use Rattle.shape.specs.declared.kind.Operation.{Operation}
use Rattle.shape.specs.declared.kind.Operation.TheVariants as declared
use Rattle.shape.specs.declared.kind.Kind.{Kind}
use Rattle.shape.specs.declared.kind.Kind.TheVariants as kind
use Rattle.shape.specs.Items as items

abbrev pub operation_meant : Operation → items.Operation
operation_meant declared.Sum = items.sum
operation_meant declared.Product = items.product
operation_meant declared.Quotient = items.quotient
operation_meant declared.Remainder = items.remainder
operation_meant declared.Power = items.power
operation_meant declared.Logarithm = items.logarithm

abbrev pub kind_meant : Kind → items.Kind
kind_meant kind.Literal = items.literal
kind_meant (kind.Operation o) = items.operation (operation_meant o)

-- the result is the kind with this code, or the refusal with 8 of a code that no kind has
abbrev pub Decodes : ℕ → Result Kind Refusal → Type 0
Decodes code r = MatchResult r (λ k. items.kind_of code ≡ kind_meant k) (λ e. (e ≡ UnknownKind) × (items.kind_of code ≡ items.unknown))
