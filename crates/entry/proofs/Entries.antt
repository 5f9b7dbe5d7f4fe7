-- What an entry returns and what its lists hold, where the list of its answer is too short and where it has room.
-- Assumes nothing.
use mathlib.Core.Path.{◌≡◌, sym, ap, ◌∙◌}
use mathlib.Core.Bool.{cond}
use mathlib.Core.List.{List}
use Prim.Native.Nat.{ℕ, ◌≤◌, ◌<◌}
use native.Mathlib.Omega.{arith}
use borrow.Author.Tests.{lt-ltb, le-ltb}
use lib.ListN.{length}
use lib.Seq.{sets}
use Rattle.little.proofs.Stored.{put-stored, put-nowhere}
use Rattle.entry.specs.Entry.{Told, answer_code, answer_list, besides}

module _ (t : Told) (lent : List ℕ) where
  pub short-returned : length lent < length t.words → answer_code t lent ≡ 19
  unfolding answer_code
  short-returned h = ap (λ b. cond b 19 t.code) (lt-ltb (length lent) (length t.words) h)

  pub roomy-returned : length t.words ≤ length lent → answer_code t lent ≡ t.code
  unfolding answer_code
  roomy-returned h = ap (λ b. cond b 19 t.code) (le-ltb (length lent) (length t.words) h)

  pub short-beside
      : {A : Type 0} (written old : List A) → length lent < length t.words → besides t lent written old ≡ old
  unfolding besides
  short-beside written old h = ap (λ b. cond b old written) (lt-ltb (length lent) (length t.words) h)

  pub roomy-beside
      : {A : Type 0} (written old : List A) → length t.words ≤ length lent → besides t lent written old ≡ written
  unfolding besides
  roomy-beside written old h = ap (λ b. cond b old written) (le-ltb (length lent) (length t.words) h)

  -- whatever the answer is, 19 is returned and the list stays
  pub short-gives
      : {r : ℕ} → length lent < length t.words → r ≡ 19 → (r ≡ answer_code t lent) × (lent ≡ answer_list t lent)
  short-gives h e = (e ∙ sym (short-returned h), sym (put-nowhere 0 t.words lent (omega arith)))

  -- the numbers stored one after the other
  pub roomy-gives
      : {r : ℕ} {now : List ℕ} → length t.words ≤ length lent → r ≡ t.code → now ≡ sets lent 0 t.words →
      (r ≡ answer_code t lent) × (now ≡ answer_list t lent)
  roomy-gives h e s = (e ∙ sym (roomy-returned h), s ∙ sym (put-stored 0 t.words lent (omega arith)))

-- in an arm of a `match` on an answer, which is x there
pub arm
    : {A B : Type 0} (shown : A → B) (told : B → Told) (lent : List ℕ) {x answer : A} {wanted : B} {r : ℕ}
    {now : List ℕ} → length (told (shown x)).words ≤ length lent → r ≡ (told (shown x)).code →
    now ≡ sets lent 0 (told (shown x)).words → answer ≡ x → shown answer ≡ wanted →
    (r ≡ answer_code (told wanted) lent) × (now ≡ answer_list (told wanted) lent)
arm shown told lent {x} {answer} {wanted} room e s is ensured =
    let w : shown x ≡ wanted = ap shown (sym is) ∙ ensured in
    let g = roomy-gives (told (shown x)) lent room e s in
    (g.0 ∙ ap (λ b. answer_code (told b) lent) w, g.1 ∙ ap (λ b. answer_list (told b) lent) w)
