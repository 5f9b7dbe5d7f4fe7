-- When an entry returns which number, by the room for its answer and the answer's own number.
-- Assumes nothing.
use mathlib.Core.Path.{◌≡◌, sym, ◌∙◌}
use mathlib.Core.Logic.{◌↔◌, ◌⊎◌, inl, inr, ⊎_elim}
use mathlib.Core.List.{List}
use Prim.Native.Nat.{ℕ, ◌<◌}
use native.Mathlib.Decide.{dec_lt}
use native.Mathlib.Omega.{arith}
use lib.ListN.{length}
use Rattle.entry.specs.Entry.{Told, Room, answer_code}
use Rattle.entry.proofs.Entries.{short-returned, roomy-returned}

module _ (t : Told) (lent : List ℕ) where
  -- 19 exactly when there is no room, or it is the answer's own number
  pub answer-19-exactly : (answer_code t lent ≡ 19) ↔ ((length lent < length t.words) ⊎ (t.code ≡ 19))
  answer-19-exactly = (only, ⊎_elim (short-returned t lent) back)
    where
      only : answer_code t lent ≡ 19 → (length lent < length t.words) ⊎ (t.code ≡ 19)
      only e =
          elim (dec_lt (length lent) (length t.words)) [
            | yes h ↦ inl h
            | no n ↦ inr (sym (roomy-returned t lent (omega arith)) ∙ e)
          ]

      back : t.code ≡ 19 → answer_code t lent ≡ 19
      back e =
          elim (dec_lt (length lent) (length t.words)) [
            | yes h ↦ short-returned t lent h
            | no n ↦ roomy-returned t lent (omega arith) ∙ e
          ]

  -- any other number exactly when there is room and it is the answer's own
  pub answer-code-exactly : (n : ℕ) → (n ≡ 19 → ⊥) → (answer_code t lent ≡ n) ↔ (Room t lent × (t.code ≡ n))
  answer-code-exactly n other = (only, λ p. roomy-returned t lent p.0 ∙ p.1)
    where
      only : answer_code t lent ≡ n → Room t lent × (t.code ≡ n)
      only e =
          elim (dec_lt (length lent) (length t.words)) [
            | yes h ↦ absurd (other (sym e ∙ short-returned t lent h))
            | no m ↦ let r : Room t lent = omega arith in (r, sym (roomy-returned t lent r) ∙ e)
          ]

-- 19 exactly when the list has fewer places than the answer has numbers, where the answer never has it
pub no-room-exactly
    : (t : Told) (lent : List ℕ) (size : ℕ) → length t.words ≡ size → (t.code ≡ 19 → ⊥) →
    (answer_code t lent ≡ 19) ↔ (length lent < size)
no-room-exactly t lent size l never = (only, λ h. short-returned t lent (omega arith))
  where
    only : answer_code t lent ≡ 19 → length lent < size
    only e = ⊎_elim (λ h. omega arith) (λ c. absurd (never c)) ((answer-19-exactly t lent).0 e)
