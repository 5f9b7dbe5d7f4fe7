-- A turn of the loop over the numbers, and what it has found at its end.
-- Assumes nothing.
use mathlib.Core.Path.{◌≡◌, ap, sym, ◌∙◌}
use mathlib.Core.List.{List}
use Prim.Native.Nat.{ℕ, ◌+◌, ◌-◌, ◌≤◌, ◌<◌, min, max}
use native.Mathlib.Numerals.{add-one}
use lib.ListN.{length, get_or, drop, drop_of_length-le}
use Rattle.field.specs.Range.{kept_from, kept, least, greatest, packing_width, ranged, range_of}
use Rattle.field.proofs.Ranges.{kept-at, kept-end}

pub kept-turn
    : (keep : ℕ → ℕ → ℕ) (numbers : List ℕ) (i m : ℕ) → i < length numbers → kept_from keep m (drop i numbers) ≡ kept keep numbers →
    {after : ℕ} → after ≡ keep m (get_or numbers i 0) → kept_from keep after (drop (i + 1) numbers) ≡ kept keep numbers
kept-turn keep numbers i m h e q = simp (q, add-one) (sym (kept-at keep m numbers i h) ∙ e)

-- past the last place
module _ (numbers : List ℕ) (i : ℕ) (past : length numbers ≤ i) where
  kept-found : (keep : ℕ → ℕ → ℕ) (m : ℕ) → kept_from keep m (drop i numbers) ≡ kept keep numbers → m ≡ kept keep numbers
  kept-found keep m e = sym (ap (kept_from keep m) (drop_of_length-le numbers past) ∙ kept-end keep m) ∙ e

  pub range-found
      : {l g w : ℕ} →
      kept_from min l (drop i numbers) ≡ least numbers →
      kept_from max g (drop i numbers) ≡ greatest numbers →
      w ≡ packing_width (g - l) →
      ranged l g w ≡ range_of numbers
  range-found {l} {g} {w} a b c =
      let p = kept-found min l a in
      let q = kept-found max g b in
      let r = c ∙ ap (λ l. packing_width (g - l)) p ∙ ap (λ g. packing_width (g - least numbers)) q in
      ap (λ l. ranged l g w) p ∙ ap (λ g. ranged (least numbers) g w) q ∙ ap (ranged (least numbers) (greatest numbers)) r
