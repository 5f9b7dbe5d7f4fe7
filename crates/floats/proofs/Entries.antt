-- What the entries on levels return and what their lists hold: where a list is too short, and in each arm of the
-- answer.
-- Assumes nothing.
use mathlib.Core.Path.{◌≡◌, refl, sym, ap, ◌∙◌}
use mathlib.Core.Bool.{cond}
use mathlib.Core.List.{List, [], ◌∷◌, map}
use Prim.Native.Nat.{ℕ, zero, suc, ◌≤◌, ◌<◌}
use native.Mathlib.Omega.{arith}
use borrow.Author.Tests.{eq-eqb, ne_eqb, lt-ltb, le-ltb, eqb-false}
use lib.ListN.{length, length-map, set}
use lib.Seq.{sets}
use lib.Ieee.{Float}
use Rattle.std.specs.Prelude.{Result, Ok, Err}
use Rattle.checked.specs.declared.refusal.RefusedAt.{RefusedAt}
use Rattle.checked.specs.Paper.{number_of}
use Rattle.checked.proofs.Unique.{not-zero}
use Rattle.little.specs.Bytes.{put}
use Rattle.little.proofs.Stored.{put-stored}
use Rattle.reading.specs.Order.{bits_of}
use Rattle.level.specs.declared.types.Extent.{Extent}
use Rattle.level.specs.Scan.{Scanned, refused, scan_of}
use Rattle.level.specs.Answers.{scanned}
use Rattle.turn.specs.Turning.{turning_of, numbers_after, marks_after}
use Rattle.turn.specs.Answers.{turned}
use Rattle.entry.specs.Entry.{Told, answer_code, answer_list}
use Rattle.entry.proofs.Entries.{short-gives, roomy-gives, short-beside, roomy-beside, arm}
use Rattle.floats.specs.Levels.{bits_in, scan_for, of_level_scan, extent_after, extent_beside}
use Rattle.floats.specs.Levels.{of_turning, turned_beside, unmarked_beside}

-- ---- the scan

map-set : {A B : Type 0} (f : A → B) (xs : List A) (i : ℕ) (y : A) → map f (set xs i y) ≡ set (map f xs) i (f y)
map-set f [] i y = refl
map-set f (x ∷ xs) zero y = refl
map-set f (x ∷ xs) (suc i) y = ap (λ l. f x ∷ l) (map-set f xs i y)

-- two floats stored one after the other, by their bits
both-stored
    : (extent : List Float) (l g : Float) → 2 ≤ length extent →
    bits_in (set (set extent 0 l) 1 g) ≡ put 0 (bits_of l ∷ bits_of g ∷ []) (bits_in extent)
both-stored extent l g h =
    map-set bits_of (set extent 0 l) 1 g
    ∙ ap (λ b. set b 1 (bits_of g)) (map-set bits_of extent 0 l)
    ∙ sym (put-stored 0 (bits_of l ∷ bits_of g ∷ []) (bits_in extent) (let e = length-map extent bits_of in omega arith))

module _ (s : Scanned) (extent : List Float) where
  pub no-room-for-extent : length extent < 2 → scan_for extent s ≡ refused 19 0
  unfolding scan_for
  no-room-for-extent h = ap (λ t. cond t (refused 19 0) s) (lt-ltb (length extent) 2 h)

  pub room-for-extent : 2 ≤ length extent → scan_for extent s ≡ s
  unfolding scan_for
  room-for-extent h = ap (λ t. cond t (refused 19 0) s) (le-ltb (length extent) 2 h)

  pub extent-given : s.code ≡ 0 → extent_after s extent ≡ put 0 (s.least ∷ s.greatest ∷ []) (bits_in extent)
  unfolding extent_after
  extent-given z =
      ap (λ t. cond t (put 0 (s.least ∷ s.greatest ∷ []) (bits_in extent)) (bits_in extent)) (eq-eqb s.code 0 z)

  pub extent-stays : (s.code ≡ 0 → ⊥) → extent_after s extent ≡ bits_in extent
  unfolding extent_after
  extent-stays n =
      ap (λ t. cond t (put 0 (s.least ∷ s.greatest ∷ []) (bits_in extent)) (bits_in extent)) (ne_eqb s.code 0 n)

module _ (level : List Float) (grounds : List ℕ) (extent : List Float) (lent : List ℕ) where
  abbrev scan-told : Told
  scan-told = of_level_scan (scan_for extent (scan_of level grounds))

  abbrev Gives : ℕ → List ℕ → List ℕ → Type 0
  Gives r now after =
      (r ≡ answer_code scan-told lent)
      × ((now ≡ answer_list scan-told lent) × (after ≡ extent_beside level grounds extent lent))

  pub scan-short-gives : {r : ℕ} → length lent < 1 → r ≡ 19 → Gives r lent (bits_in extent)
  scan-short-gives h e =
      let s = short-gives scan-told lent h e in
      let b = short-beside scan-told lent (extent_after (scan_for extent (scan_of level grounds)) extent) (bits_in extent) h in
      (s.0, (s.1, sym b))

  -- where the answer has room
  module _ (room : 1 ≤ length lent) where
    -- what is answered is x, and the list of the least and the greatest is as x says
    roomy-scan-gives
        : (x : Scanned) {r : ℕ} {now after : List ℕ} → x ≡ scan_for extent (scan_of level grounds) → r ≡ x.code →
        now ≡ sets lent 0 (x.place ∷ []) → after ≡ extent_after x extent → Gives r now after
    roomy-scan-gives x is e s a =
        let g = roomy-gives (of_level_scan x) lent room e s in
        let b = roomy-beside scan-told lent (extent_after (scan_for extent (scan_of level grounds)) extent) (bits_in extent) room in (
          g.0 ∙ ap (λ x. answer_code (of_level_scan x) lent) is,
          (g.1 ∙ ap (λ x. answer_list (of_level_scan x) lent) is, a ∙ ap (λ x. extent_after x extent) is ∙ sym b),
        )

    pub no-extent-gives : {r : ℕ} → length extent < 2 → r ≡ 19 → Gives r (set lent 0 0) (bits_in extent)
    no-extent-gives h e =
        roomy-scan-gives (refused 19 0) (sym (no-room-for-extent (scan_of level grounds) extent h)) e refl
        (sym (extent-stays (refused 19 0) extent (λ z. omega arith)))

    module _ (wide : 2 ≤ length extent) {answer : Result Extent RefusedAt} (ensured : scanned answer ≡ scan_of level grounds) where
      scanned-is : {x : Result Extent RefusedAt} → answer ≡ x → scanned x ≡ scan_for extent (scan_of level grounds)
      scanned-is is = ap scanned (sym is) ∙ ensured ∙ sym (room-for-extent (scan_of level grounds) extent wide)

      pub ranged-gives
          : {found : Extent} → answer ≡ Ok found →
          Gives 0 (set lent 0 0) (bits_in (set (set extent 0 found.least) 1 found.greatest))
      ranged-gives {found} is =
          roomy-scan-gives (scanned (Ok found)) (scanned-is is) refl refl
          (both-stored extent found.least found.greatest wide ∙ sym (extent-given (scanned (Ok found)) extent refl))

      pub refused-gives
          : {e : RefusedAt} {r : ℕ} → answer ≡ Err e → r ≡ number_of e.refusal →
          Gives r (set lent 0 e.place) (bits_in extent)
      refused-gives {e} is n =
          roomy-scan-gives (scanned (Err e)) (scanned-is is) n refl
          (sym (extent-stays (scanned (Err e)) extent (eqb-false (number_of e.refusal) 0 (not-zero e.refusal))))

-- ---- a level turned into a field

module _ (level : List Float) (grounds numbers marks lent : List ℕ) where
  abbrev turn-told : Told
  turn-told = of_turning (turning_of level grounds numbers marks)

  abbrev Turns : ℕ → List ℕ → List ℕ → List ℕ → Type 0
  Turns r now ns ms =
      (r ≡ answer_code turn-told lent)
      × ((now ≡ answer_list turn-told lent)
      × ((ns ≡ turned_beside level grounds numbers marks lent) × (ms ≡ unmarked_beside level grounds numbers marks lent)))

  pub turn-short-gives : {r : ℕ} → length lent < 1 → r ≡ 19 → Turns r lent numbers marks
  turn-short-gives h e =
      let s = short-gives turn-told lent h e in
      let n = short-beside turn-told lent (numbers_after level grounds numbers marks) numbers h in
      let m = short-beside turn-told lent (marks_after level grounds numbers marks) marks h in
      (s.0, (s.1, (sym n, sym m)))

  -- in an arm of the `match` on the answer, which is x there
  pub turn-gives
      : {x answer : Result (Unit {0}) RefusedAt} {r : ℕ} {now ns ms : List ℕ} → 1 ≤ length lent → r ≡ (turned x).code →
      now ≡ sets lent 0 ((turned x).place ∷ []) → answer ≡ x → turned answer ≡ turning_of level grounds numbers marks →
      ns ≡ numbers_after level grounds numbers marks → ms ≡ marks_after level grounds numbers marks → Turns r now ns ms
  turn-gives {x} h e s is ensured filled unmarked =
      let g = arm turned of_turning lent {x = x} h e s is ensured in
      let n = roomy-beside turn-told lent (numbers_after level grounds numbers marks) numbers h in
      let m = roomy-beside turn-told lent (marks_after level grounds numbers marks) marks h in
      (g.0, (g.1, (filled ∙ sym n, unmarked ∙ sym m)))
