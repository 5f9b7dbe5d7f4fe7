-- What looking at a width, at an item and at a recipe's shape answers, in numbers.
-- Assumes nothing.
use Rattle.std.specs.Prelude.{cond, ℕ, eqb, Option, Some, None, Result, Ok, Err}
use Rattle.checked.specs.declared.refusal.Refusal.{Refusal}
use Rattle.checked.specs.declared.refusal.RefusedAt.{RefusedAt}
use Rattle.checked.specs.Value.{limit_of}
use Rattle.checked.specs.Paper.{number_of}
use Rattle.shape.specs.Items.{Kind}
use Rattle.shape.specs.Shape.{Verdict, refused, well_formed, fault_of, held_after, known_width}

abbrev pub verdict : Result ℕ RefusedAt → Verdict
verdict (Ok M) = well_formed M
verdict (Err e) = refused (number_of e.refusal) e.place

abbrev pub limit_verdict : Option ℕ → Verdict
limit_verdict (Some M) = well_formed M
limit_verdict None = refused 5 0

-- a known width has its limit, any other 5
unfoldable pub limit_for : ℕ → Verdict
limit_for W = cond (known_width W) (well_formed (limit_of W)) (refused 5 0)

-- a fault's number; or 0, and how many values are on hand after the item
pub record Passed : Type 0 where
  pub code : ℕ
  pub held : ℕ

abbrev pub held_verdict : Result ℕ Refusal → Passed
held_verdict (Ok held) = record { code = 0; held = held }
held_verdict (Err r) = record { code = number_of r; held = 0 }

abbrev pub held_for : ℕ → ℕ → Kind → ℕ → Passed
held_for M held kind number =
    cond (eqb (fault_of M held kind number) 0)
    (record { code = 0; held = held_after held kind })
    (record { code = fault_of M held kind number; held = 0 })
