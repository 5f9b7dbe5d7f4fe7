-- Upstream's `overflow.rs`: its clauses (`Clauses`) hold of any type that is seen as values over M. Of the four widths,
-- 64 bits is here, and 8, 16 and 32 bits are in `narrow`.
-- Assumes nothing.
use mathlib.Core.Path.{◌≡◌, refl, ap, sym, ◌∙◌, subst}
use mathlib.Core.Bool.{true, true≢false}
use mathlib.Core.Logic.{◌↔◌}
use Prim.Native.Nat.{ℕ, ◌+◌, ◌*◌, ◌≤◌, ◌<◌}
use native.Mathlib.Omega.{arith}
use mir.Syntax.{Width}
use mir.Val as machine
use Rattle.std.specs.Prelude.{Option, Some, None, Result, Ok, Err}
use Rattle.checked.specs.declared.refusal.Refusal.{Refusal}
use Rattle.checked.specs.declared.refusal.Refusal.TheVariants as refusal
use Rattle.checked.specs.declared.types.Checked.{Checked}
use Rattle.checked.specs.declared.types.Checked.TheVariants.{Fits, Overflowed}
use Rattle.checked.specs.Value.{Value, limit_of, Stands, is_overflowed, value_by, checked_of, least, option_by}
use Rattle.checked.specs.Paper.{plain_by, plain_of}
use Rattle.checked.specs.Clauses.{Seen, Clauses}
use Rattle.checked.proofs.Limit.{fits, over}
use Rattle.checked.proofs.Promises.{limit-is-largest, sum-stands, product-stands}
use Rattle.checked.proofs.Standing.{stands, standing, least-stands}
use Rattle.checked.proofs.Unique.{plain-unique, option-unique}

-- ---- what is true of every value and number

-- what the language knows of a number of an unsigned type of w bits: it is from 0 to MAX
pub typed-number : (w : Width) (n : ℕ) → machine.Fits w n → n ≤ limit_of (machine.bits w)
typed-number w n h = (limit-is-largest (machine.bits w) n).1 h.fits

-- well_formed: a fitting value stands for its number alone, an overflowed one for numbers above M alone
pub well-formed-fits : (M v i : ℕ) → Stands M (Fits v) i → i ≡ v
well-formed-fits M v i h = h.0

pub well-formed-overflowed : (M i : ℕ) → Stands M Overflowed i → M < i
well-formed-overflowed M i h = h

-- checked_add and checked_mul, which upstream calls and whose contracts it does not show: Some of the sum or product
-- if it is at most MAX, else None
pub checked-add-is : (M a b : ℕ) → Stands M (checked_of M (a + b)) (a + b)
checked-add-is M a b = stands M (a + b)

pub checked-mul-is : (M a b : ℕ) → Stands M (checked_of M (a * b)) (a * b)
checked-mul-is M a b = stands M (a * b)

-- what a value says of a number that it stands for
tells : (M : ℕ) (c : Value) (i : ℕ) → Stands M c i → (is_overflowed c ≡ true) ↔ (M < i)
tells M (Fits v) i (e, h) = (λ f. absurd (true≢false (sym f)), λ l. let f : ⊥ = omega arith in absurd f)
tells M Overflowed i h = (λ e. h, λ l. refl)

-- ---- the clauses, once

module _ (C P O : Type 0) (T : Seen C P O) (M : ℕ) where
  -- a value that is seen as one that stands for i stands for i
  as-seen : {c d : Value} (i : ℕ) → c ≡ d → Stands M d i → Stands M c i
  as-seen i e = subst (λ c. Stands M c i) (sym e)

  pub clauses : Clauses C P O T M
  clauses =
      record {
        every-value-stands = λ c. (least M (T.value c.0), least-stands M (T.value c.0) c.1);
        new-is = λ v r e. as-seen v.0 e (refl, v.1);
        new-overflowed-is = λ i h r e. as-seen i e h;
        is-overflowed-is =
            λ self i known r e. let t = tells M (T.value self) i known in (λ f. t.0 (sym e ∙ f), λ h. e ∙ t.1 h);
        unwrap-gives =
            λ self i known r e h.
            T.plain-unique r (T.number i)
            (e ∙ ap plain_of (standing M (T.value self) i known ∙ sym (fits M i h)) ∙ sym (T.number-seen i));
        unwrap-refuses =
            λ self i known r e h.
            T.plain-unique r T.refusal-3
            (e ∙ ap plain_of (standing M (T.value self) i known ∙ sym (over M i h)) ∙ sym T.refusal-3-seen);
        some-is =
            λ self i known r e v f.
            let w = as-seen i (sym (T.some-seen v) ∙ ap T.option (sym f) ∙ e) known in
            (w.0, subst (λ n. n ≤ M) w.0 w.1);
        none-is = λ self i known r e f. as-seen i (sym T.none-seen ∙ ap T.option (sym f) ∙ e) known;
        some-given =
            λ self i known r e h.
            T.option-unique r (T.some i)
            (e ∙ standing M (T.value self) i known ∙ sym (fits M i h) ∙ sym (T.some-seen i));
        none-given =
            λ self i known r e h.
            T.option-unique r T.none
            (e ∙ standing M (T.value self) i known ∙ sym (over M i h) ∙ sym T.none-seen);
        add-value-is =
            λ self i known v r e.
            as-seen (i + v.0) e (sum-stands M (T.value self) (Fits v.0) i v.0 known (refl, v.1));
        mul-value-is =
            λ self i known v r e.
            as-seen (i * v.0) e (product-stands M (T.value self) (Fits v.0) i v.0 known (refl, v.1));
        add-checked-is =
            λ self v i j known other r e.
            as-seen (i + j) e (sum-stands M (T.value self) (T.value v) i j known other);
        mul-checked-is =
            λ self v i j known other r e.
            as-seen (i * j) e (product-stands M (T.value self) (T.value v) i j known other);
      }

-- ---- checked numbers of any type, whose numbers are told apart by the whole numbers that they are, and which has one
-- for each whole number that is asked for

module _ (N : Type 0) (number : N → ℕ) (apart : (x y : N) → number x ≡ number y → x ≡ y) (of : ℕ → N) (back : (n : ℕ) → number (of n) ≡ n) where
  abbrev pub seen : Seen (Checked N) (Result N Refusal) (Option N)
  seen =
      record {
        value = value_by number;
        plain = plain_by number;
        option = option_by number;
        number = λ n. Ok (of n);
        number-seen = λ n. ap (λ m. plain_by (λ k. k) (Ok m)) (back n);
        refusal-3 = Err refusal.Overflowed;
        refusal-3-seen = refl;
        plain-unique = plain-unique number apart;
        some = λ n. Some (of n);
        some-seen = λ n. ap Fits (back n);
        none = None;
        none-seen = refl;
        option-unique = option-unique number apart;
      }

-- the numbers of each width are whole numbers
abbrev pub seen_plain : Seen Value (Result ℕ Refusal) (Option ℕ)
seen_plain = seen ℕ (λ n. n) (λ x y e. e) (λ n. n) (λ n. refl)

-- ---- 64 bits

pub clauses64 : Clauses Value (Result ℕ Refusal) (Option ℕ) seen_plain (limit_of 64)
clauses64 = clauses Value (Result ℕ Refusal) (Option ℕ) seen_plain (limit_of 64)
