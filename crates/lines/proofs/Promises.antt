-- What putting a text into a line promises, one named theorem for each promise. A function's contract says that it gives the place `after` and leaves the line `written`; for a number
-- the text is `decimal`.
-- Assumes nothing.
use mathlib.Core.Path.{◌≡◌, refl, ap, sym, ◌∙◌}
use mathlib.Core.List.{List, [], ◌∷◌, ◌++◌}
use Prim.Native.Nat.{ℕ, ◌+◌, ◌≤◌, ◌<◌}
use native.Mathlib.Decide.{dec_le}
use native.Mathlib.Nat.{le_refl}
use native.Mathlib.Omega.{arith}
use lib.ListN.{length, take, drop}
use lib.Seq.{length-paste, take-paste, drop-paste}
use Rattle.whole.specs.DivMod.{◌/ℤ◌}
use Rattle.whole.specs.Logarithm.{log_of, log, log_within, ends}
use Rattle.lines.specs.Line.{decimal, after, written}
use Rattle.lines.proofs.Rooms.{Puts, room-puts, no-room-puts}

module _ (at : ℕ) (text line : List ℕ) where
  -- where there is room, the text stands from the place on, what was before it stays, and the place given is the one after it
  pub text-stands : at + length text ≤ length line → (take (after at text line) (written at text line) ≡ take at line ++ take (length text) text) × (after at text line ≡ at + length text)
  text-stands h =
      let p = room-puts at text line h in
      (ap (λ k. take k (written at text line)) (sym p.0) ∙ ap (take (at + length text)) (sym p.1) ∙ take-paste line at text (length text) (omega arith) (le_refl (length text)), sym p.0)

  -- what comes after the text stays
  pub rest-stays : at + length text ≤ length line → drop (at + length text) (written at text line) ≡ drop (at + length text) line
  rest-stays h = ap (drop (at + length text)) (sym (room-puts at text line h).1) ∙ drop-paste line at text (length text) (omega arith) (le_refl (length text))

  -- where there is no room, nothing is written and the place stays
  pub no-room-stays : length line < at + length text → (after at text line ≡ at) × (written at text line ≡ line)
  no-room-stays h = let p = no-room-puts at text line h in (sym p.0, sym p.1)

  pub length-stays : length (written at text line) ≡ length line
  length-stays =
      elim (dec_le (at + length text) (length line)) [
        | yes h ↦ ap length (sym (room-puts at text line h).1) ∙ length-paste line at text (length text) h (le_refl (length text))
        | no n ↦ ap length (no-room-stays (omega arith)).1
      ]

-- a contract leaves one place and one line
pub put-unique : (at : ℕ) (text line : List ℕ) {p q : ℕ} {one other : List ℕ} → Puts at text line p one → Puts at text line q other → (p ≡ q) × (one ≡ other)
put-unique at text line g h = (g.0 ∙ sym h.0, g.1 ∙ sym h.1)

-- the digits of 0, 255 and 1000
pub small-numbers : (decimal 0 ≡ 48 ∷ []) × (decimal 255 ≡ 50 ∷ 53 ∷ 53 ∷ []) × (decimal 1000 ≡ 49 ∷ 48 ∷ 48 ∷ 48 ∷ [])
unfolding log_of log log_within ends ◌/ℤ◌
small-numbers = (refl, refl, refl)
