-- The loop of a row: what the three lists hold before turn i, one turn, and the end. Plain lists and records share it.
-- Assumes nothing.
use mathlib.Core.Path.{◌≡◌, ap, ◌∙◌}
use mathlib.Core.List.{List}
use Prim.Native.Nat.{ℕ, ◌+◌, ◌<◌}
use lib.ListN.{length, get_or, set}
use Rattle.checked.specs.Paper.{Paper}
use Rattle.rows.specs.Rows.{Operations, element_at, code_for, numbers_after, marks_after, codes_after}
use Rattle.rows.specs.Turns.{cleared, kept, noted}
use Rattle.rows.proofs.Turns.{inside, turns, enough, over-turns}
use Rattle.rows.proofs.Noted.{kept-noted, Written, nothing-written, one-more, all-written, blank-long, one-noted, all-noted}

-- what the three lists hold before turn i: marks and codes, bm and bc, were blank before the first
pub record Filled (os : Operations) (numbers bm bc : List ℕ) (i : ℕ) (ns ms cs : List ℕ) : Type 0 where
  pub in-numbers : Written (λ i. (element_at os i).number) numbers i ns
  pub in-marks : Written (λ i. (element_at os i).mark) bm i ms
  pub in-codes : Written (λ i. (element_at os i).code) bc i cs

pub filled-first : (os : Operations) (numbers bm bc : List ℕ) → Filled os numbers bm bc 0 numbers bm bc
filled-first os numbers bm bc = record {
  in-numbers = nothing-written (λ i. (element_at os i).number) numbers;
  in-marks = nothing-written (λ i. (element_at os i).mark) bm;
  in-codes = nothing-written (λ i. (element_at os i).code) bc;
}

module _ (os : Operations) (numbers marks codes : List ℕ) where
  abbrev n : ℕ
  n = turns os numbers marks codes

  abbrev number_at : ℕ → ℕ
  number_at i = (element_at os i).number

  abbrev mark_at : ℕ → ℕ
  mark_at i = (element_at os i).mark

  abbrev code_at : ℕ → ℕ
  code_at i = (element_at os i).code

  module _ (bm bc : List ℕ) (m : bm ≡ cleared n marks) (c : bc ≡ cleared n codes) where
    -- the lists are as long as they were
    pub marks_long : {i : ℕ} {ns ms cs : List ℕ} → Filled os numbers bm bc i ns ms cs → length ms ≡ length marks
    marks_long w = w.in-marks.as-long ∙ blank-long mark_at n marks bm (enough os numbers marks codes).0 m

    pub codes-long : {i : ℕ} {ns ms cs : List ℕ} → Filled os numbers bm bc i ns ms cs → length cs ≡ length codes
    codes-long w = w.in-codes.as-long ∙ blank-long code_at n codes bc (enough os numbers marks codes).1 c

    -- a turn that writes what the operation at i comes to
    pub filled-turn
        : (i : ℕ) (ns ms cs ns' ms' cs' : List ℕ) (p : Paper) → Filled os numbers bm bc i ns ms cs →
        p ≡ element_at os i → i < n →
        (ns' ≡ set ns i p.number) × ((ms' ≡ noted i p.mark ms) × (cs' ≡ noted i p.code cs)) →
        Filled os numbers bm bc (i + 1) ns' ms' cs'
    filled-turn i ns ms cs ns' ms' cs' p w e h s =
        let there =
        inside (length os.kinds) (length os.lefts) (length os.rights) (length numbers) (length marks)
        (length codes) i h in
        let (x, y) = enough os numbers marks codes in
        record {
          in-numbers = one-more number_at numbers i ns ns' w.in-numbers (s.0 ∙ ap (λ q. set ns i q.number) e)
              there.numbers;
          in-marks = one-noted mark_at n marks bm x m i ms ms' w.in-marks
              (s.1.0 ∙ ap (λ q. noted i q.mark ms) e) h;
          in-codes = one-noted code_at n codes bc y c i cs cs' w.in-codes
              (s.1.1 ∙ ap (λ q. noted i q.code cs) e) h;
        }

    -- the same where each place is written by itself
    pub filled-place
        : (i : ℕ) (ns ms cs : List ℕ) (x y z : ℕ) (p : Paper) → Filled os numbers bm bc i ns ms cs →
        p ≡ element_at os i → i < n → x ≡ p.number → y ≡ kept p.mark (get_or ms i 0) →
        z ≡ kept p.code (get_or cs i 0) → Filled os numbers bm bc (i + 1) (set ns i x) (set ms i y) (set cs i z)
    filled-place i ns ms cs x y z p w e h a b d =
        filled-turn i ns ms cs (set ns i x) (set ms i y) (set cs i z) p w e h
        (ap (set ns i) a, (ap (set ms i) b ∙ kept-noted i p.mark ms, ap (set cs i) d ∙ kept-noted i p.code cs))

    -- after the last turn
    pub filled-last
        : (i : ℕ) (ns ms cs : List ℕ) → Filled os numbers bm bc i ns ms cs → i ≡ n →
        (ns ≡ numbers_after os numbers marks codes)
        × ((ms ≡ marks_after os numbers marks codes) × (cs ≡ codes_after os numbers marks codes))
    filled-last i ns ms cs w e =
        let code = code_for os numbers marks codes in
        let k = length os.kinds in
        let (x, y) = enough os numbers marks codes in (
          all-written number_at numbers n i ns w.in-numbers e ∙ over-turns code k number_at numbers,
          (
            all-noted mark_at n marks bm x m i ms w.in-marks e ∙ over-turns code k mark_at marks,
            all-noted code_at n codes bc y c i cs w.in-codes e ∙ over-turns code k code_at codes,
          ),
        )
