-- No two answers are the same in numbers: so a row's contract leaves one possible answer, and one content of each list.
-- Assumes nothing.
use mathlib.Core.Path.{◌≡◌, refl, sym, ◌∙◌}
use mathlib.Core.List.{List}
use Prim.Native.Nat.{ℕ}
use Rattle.checked.proofs.Unique.{gives, refuses, told-apart}
use Rattle.std.specs.Prelude.{Result, Ok, Err}
use Rattle.checked.specs.declared.refusal.Refusal.{Refusal}
use Rattle.rows.specs.Rows.{Operations, Rows}
use Rattle.rows.specs.Answers.{rowed}

pub row-answer-unique : (a b : Result Unit Refusal) → rowed a ≡ rowed b → a ≡ b
row-answer-unique =
    told-apart (λ n. n) (λ n. Ok tt) (λ n r. Err r) rowed
    (elim [
      | Ok u ↦ gives refl refl
      | Err r ↦ refuses r refl refl
    ])

module _ (os : Operations) (numbers marks codes : List ℕ) (ns ms cs ns' ms' cs' : List ℕ) where
  -- of an entry, whether its operations are plain lists or records
  pub row-entry-unique
      : (r s : ℕ) → Rows os numbers marks codes r ns ms cs → Rows os numbers marks codes s ns' ms' cs' →
      (r ≡ s) × (ns ≡ ns') × (ms ≡ ms') × (cs ≡ cs')
  row-entry-unique r s g h = (g.0 ∙ sym h.0, g.1 ∙ sym h.1, g.2 ∙ sym h.2, g.3 ∙ sym h.3)

  pub row-unique
      : (a b : Result Unit Refusal) → Rows os numbers marks codes (rowed a) ns ms cs →
      Rows os numbers marks codes (rowed b) ns' ms' cs' →
      (a ≡ b) × (ns ≡ ns') × (ms ≡ ms') × (cs ≡ cs')
  row-unique a b g h =
      let u = row-entry-unique (rowed a) (rowed b) g h in (row-answer-unique a b u.0, u.1, u.2, u.3)
