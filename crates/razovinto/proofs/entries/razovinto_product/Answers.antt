-- `entries::razovinto_product` meets its contract.
-- Assumes nothing.
use Rattle.checked.specs.Value.{limit_of}
use Rattle.checked.specs.Paper.{products_of}
use native.Mathlib.Omega.{arith}
use Rattle.razovinto.proofs.Slices.{short-gives}
use Rattle.razovinto.proofs.entries.razovinto_product.Goals as goal

pub returns-then-res-lt-RESULT_LENGTH-clause-value : goal.returns-then-res-lt-RESULT_LENGTH-clause-value
returns-then-res-lt-RESULT_LENGTH-clause-value c = let g = c.args in (short-gives (products_of (limit_of 64) g.left g.right) g.res.now (omega arith) c.too_short.ensures).0

pub returns-then-res-lt-RESULT_LENGTH-clause-res_new : goal.returns-then-res-lt-RESULT_LENGTH-clause-res_new
returns-then-res-lt-RESULT_LENGTH-clause-res_new c = let g = c.args in (short-gives (products_of (limit_of 64) g.left g.right) g.res.now (omega arith) c.too_short.ensures).1
