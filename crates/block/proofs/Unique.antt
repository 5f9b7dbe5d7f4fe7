-- No two answers are the same in numbers: so the contracts leave one possible answer, and the reader's one content of
-- each list.
-- Assumes nothing.
use mathlib.Core.Path.{◌≡◌, refl, sym, ◌∙◌}
use mathlib.Core.List.{List}
use Prim.Native.Nat.{ℕ}
use Rattle.std.specs.Prelude.{Result, Ok, Err}
use Rattle.checked.specs.declared.refusal.Refusal.{Refusal}
use Rattle.checked.proofs.Unique.{gives, refuses, told-apart}
use Rattle.little.proofs.Unique.{value-unique}
use Rattle.layout.specs.Reading.{numbers_after, marks_after}
use Rattle.block.specs.declared.types.Head.{Head}
use Rattle.block.specs.Answers.{looked, reading, Reads}

pub sound-unique : (a b : Result (Unit {0}) Refusal) → looked a ≡ looked b → a ≡ b
sound-unique =
    told-apart (λ l. l.code) (λ l. Ok tt) (λ l r. Err r) looked
    (elim [ Ok u ↦ gives refl refl | Err r ↦ refuses r refl refl ])

answer-unique : (a b : Result Head Refusal) → reading a ≡ reading b → a ≡ b
answer-unique =
    told-apart (λ r. r.code) (λ r. Ok (record { number = r.number; count = r.count })) (λ s r. Err r) reading
    (elim [ Ok h ↦ gives refl refl | Err r ↦ refuses r refl refl ])

-- two answers that meet the contract, each with its two lists, are the same answer with the same lists
pub read-unique
    : (block numbers marks : List ℕ) (a b : Result Head Refusal) (ns ms ns' ms' : List ℕ) →
    Reads block numbers marks a ns ms → Reads block numbers marks b ns' ms' →
    (a ≡ b) × (ns ≡ ns') × (ms ≡ ms')
read-unique block numbers marks a b ns ms ns' ms' p q = (
  answer-unique a b (p.0 ∙ sym q.0),
  value-unique ns ns' (numbers_after block numbers marks) p.1 q.1,
  value-unique ms ms' (marks_after block numbers marks) p.2 q.2,
)
