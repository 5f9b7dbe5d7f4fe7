-- `entries::razovinto_quotient` meets its contract.
-- Assumes nothing.
use Rattle.checked.specs.Paper.{divided_by}
use native.Mathlib.Omega.{arith}
use Rattle.razovinto.proofs.Slices.{short-gives}
use Rattle.razovinto.proofs.entries.razovinto_quotient.Goals as goal

pub returns-then-res-lt-RESULT_LENGTH-clause-value : goal.returns-then-res-lt-RESULT_LENGTH-clause-value
returns-then-res-lt-RESULT_LENGTH-clause-value c = let g = c.args in (short-gives (divided_by g.left g.right) g.res.now (omega arith) c.too_short.ensures).0

pub returns-then-res-lt-RESULT_LENGTH-clause-res_new : goal.returns-then-res-lt-RESULT_LENGTH-clause-res_new
returns-then-res-lt-RESULT_LENGTH-clause-res_new c = let g = c.args in (short-gives (divided_by g.left g.right) g.res.now (omega arith) c.too_short.ensures).1
