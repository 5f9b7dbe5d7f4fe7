-- `recipes::razovinto_run` meets its contract.
-- Assumes nothing.
use mathlib.Core.Path.{◌≡◌, refl}
use Prim.Native.Nat.{◌≤◌, ◌<◌}
use native.Mathlib.Omega.{arith}
use lib.ListN.{length}
use Rattle.recipe.specs.Run.{paper, run_of}
use Rattle.hosts.specs.Answers.{of_run}
use Rattle.entry.proofs.Entries.{short-gives, arm}
use Rattle.hosts.proofs.Runs.{run-words, run-of-words}
use borrow.Author.Rules.{rules}
use Rattle.hosts.proofs.recipes.razovinto_run.Goals as goal

pub returns-then-answer-lt-RUN_LENGTH : goal.returns-then-answer-lt-RUN_LENGTH
returns-then-answer-lt-RUN_LENGTH c =
    let g = c.args in
    let t = of_run (run_of g.width g.kinds.now g.numbers.now g.allowance) in
    let h = c.if-answer-lt-RUN_LENGTH.true in
    let w = run-of-words g.width g.kinds.now g.numbers.now g.allowance in
    let short : length g.answer.now < length t.words = omega arith in
    let w = short-gives t g.answer.now short c.too_short.ensures in
    record { value = w.0; answer_new = w.1 }

pub returns : goal.returns
returns c =
    let g = c.args in
    let h = c.if-answer-lt-RUN_LENGTH.false in
    let r = c.run in
    let s = c.put_run.ensures in
    let n : length r.result.numbers ≡ 32 = search rules in
    let w = run-words (paper r.result) n in
    let room : length (of_run (paper r.result)).words ≤ length g.answer.now = omega arith in
    let w = arm paper of_run g.answer.now {x = r.result} room s.value s.lent_new refl r.ensures in
    record { value = w.0; answer_new = w.1 }
