-- What every entry with an answer of several numbers promises, whatever the answer is.
-- Assumes nothing.
use mathlib.Core.Path.{◌≡◌, ap, ◌∙◌}
use mathlib.Core.List.{List, ◌++◌}
use Prim.Native.Nat.{ℕ, ◌+◌, ◌<◌}
use native.Mathlib.Decide.{dec_lt}
use native.Mathlib.Omega.{arith}
use lib.ListN.{length, drop}
use Rattle.little.proofs.Stored.{put-there, put-nowhere, length-put}
use Rattle.entry.specs.Entry.{Told, Room, answer_code, answer_list}
use Rattle.entry.proofs.Entries.{short-returned}
-- 19 exactly when there is no room, or it is the answer's own number; any other number exactly when there is room and
-- it is the answer's own
pub use Rattle.entry.proofs.Exactly.{answer-19-exactly, answer-code-exactly}

module _ (t : Told) (lent : List ℕ) where
  -- whatever the answer is, a list without room for it is refused with 19, and stays
  pub no-room-refused-first : length lent < length t.words → (answer_code t lent ≡ 19) × (answer_list t lent ≡ lent)
  no-room-refused-first h = (short-returned t lent h, put-nowhere 0 t.words lent (omega arith))

  -- where there is room the answer's numbers stand in the first places, on a refusal too, and later ones stay
  pub answer-written : Room t lent → answer_list t lent ≡ t.words ++ drop (length t.words) lent
  answer-written h =
      put-there 0 t.words lent (omega arith)
      ∙ ap (λ k. t.words ++ drop k lent) (let e : 0 + length t.words ≡ length t.words = omega arith in e)

  -- the list gets neither longer nor shorter
  pub answer-length-stays : length (answer_list t lent) ≡ length lent
  answer-length-stays =
      elim (dec_lt (length lent) (length t.words)) [
        | yes h ↦ ap length (put-nowhere 0 t.words lent (omega arith))
        | no n ↦ length-put 0 t.words lent (omega arith)
      ]
