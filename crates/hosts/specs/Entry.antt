-- What an entry for hosts with one signed number returns, and what its lent list holds afterwards.
-- Assumes nothing.
use Rattle.std.specs.Prelude.{cond, List, ◌∷◌, ℕ, eqb, length, drop, ℤ}
use Rattle.signed.specs.Signed.{Answer}

unfoldable pub signed_code : Answer → List ℤ → ℕ
signed_code a lent = cond (eqb (length lent) 0) 19 a.code

-- with 0 the number is written and later places stay; otherwise all stay
unfoldable pub signed_list : Answer → List ℤ → List ℤ
signed_list a lent = cond (eqb (signed_code a lent) 0) (a.number ∷ drop 1 lent) lent
