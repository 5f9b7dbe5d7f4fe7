-- `read::read` meets its contract.
-- Assumes nothing.
use mathlib.Core.Path.{◌≡◌, ap, sym, ◌∙◌}
use borrow.Author.Tests.{eqb-false}
use Rattle.std.proofs.lemmas.Result.{err_from_is_err_and}
use Rattle.checked.specs.Paper.{number_of}
use Rattle.checked.proofs.Unique.{not-zero}
use Rattle.layout.specs.Layout.{edition_of}
use Rattle.layout.specs.Sound.{fault_of}
use Rattle.layout.proofs.Faults.{read-fault}
use Rattle.block.proofs.Readings.{refused-so}
use Rattle.block.proofs.read.read.Goals as goal

pub returns-in_err-sound : goal.returns-in_err-sound
returns-in_err-sound c =
    let a = c.args in
    let b = a.block.now in
    let r = c.in_err-sound.field-0.0 in
    let f : fault_of b ≡ number_of r = ap (λ s. s.code) (sym c.in_err-sound.ensures) in
    let n : number_of r ≡ 0 → ⊥ = eqb-false (number_of r) 0 (not-zero r) in
    let d =
    refused-so (edition_of b) b a.numbers.now a.marks.now (number_of r)
    (read-fault (edition_of b) b a.numbers.now a.marks.now (λ z. n (sym f ∙ z)) ∙ f) n in
    let p = err_from_is_err_and c.from_residual.result c.from_residual.ensures.1 in
    record { result_value = rw (p.1, p.2) d.0; numbers_new = d.1.0; marks_new = d.1.1 }
