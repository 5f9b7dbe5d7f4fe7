-- Upstream's `overflow.rs` at 8, 16 and 32 bits: its clauses (`Clauses` of `checked`) hold of each width's type, whose
-- functions' `ensures` are the clauses' hypotheses. The numbers of each width are whole numbers here, so that it is the
-- limit alone in which the three differ.
-- Assumes nothing.
use Prim.Native.Nat.{ℕ}
use Rattle.std.specs.Prelude.{Option, Result}
use Rattle.checked.specs.declared.refusal.Refusal.{Refusal}
use Rattle.checked.specs.declared.types.Checked.{Checked}
use Rattle.checked.specs.Value.{limit_of}
use Rattle.checked.specs.Clauses.{Clauses}
use Rattle.checked.proofs.Overflow.{clauses, seen_plain}

-- the clauses of a width of so many bits
abbrev pub ClausesAt : ℕ → Type 0
ClausesAt bits = Clauses (Checked ℕ) (Result ℕ Refusal) (Option ℕ) seen_plain (limit_of bits)

pub clauses8 : ClausesAt 8
clauses8 = clauses (Checked ℕ) (Result ℕ Refusal) (Option ℕ) seen_plain (limit_of 8)

pub clauses16 : ClausesAt 16
clauses16 = clauses (Checked ℕ) (Result ℕ Refusal) (Option ℕ) seen_plain (limit_of 16)

pub clauses32 : ClausesAt 32
clauses32 = clauses (Checked ℕ) (Result ℕ Refusal) (Option ℕ) seen_plain (limit_of 32)
