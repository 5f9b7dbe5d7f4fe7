-- Upstream's `overflow.rs` on a type of checked values: each clause of its contracts, with the `ensures` of the
-- function here as its hypothesis. Where upstream has a ghost number `self@`, a value here stands for numbers, and the
-- clause holds of each of them. `$uty::MAX` is the limit M.
-- Assumes nothing.
use Rattle.std.specs.Prelude.{◌≡◌, ◌↔◌, Bool, true, ℕ, ◌+◌, ◌*◌, ◌≤◌, ◌<◌}
use Rattle.checked.specs.declared.types.Checked.TheVariants.{Fits, Overflowed}
use Rattle.checked.specs.Value.{Value, Stands, UpTo, Typed, is_overflowed, sum_of, product_of}
use Rattle.checked.specs.Paper.{Paper, given, refused, plain_of}

-- a type C of checked values, with the types P and O that `unwrap` and `to_option` give out: how each is seen, the
-- cases of the last two, and that what is seen tells them apart
pub record Seen (C P O : Type 0) : Type 0 where
  pub value : C → Value
  pub plain : P → Paper
  pub option : O → Value
  pub number : ℕ → P
  pub number-seen : (n : ℕ) → plain (number n) ≡ given (Fits n)
  pub refusal-3 : P
  pub refusal-3-seen : plain refusal-3 ≡ refused 3
  pub plain-unique : (x y : P) → plain x ≡ plain y → x ≡ y
  pub some : ℕ → O
  pub some-seen : (n : ℕ) → option (some n) ≡ Fits n
  pub none : O
  pub none-seen : option none ≡ Overflowed
  pub option-unique : (x y : O) → option x ≡ option y → x ≡ y

pub record Clauses (C P O : Type 0) (T : Seen C P O) (M : ℕ) : Type 0 where
  -- well_formed, of every value: it stands for a number
  pub every-value-stands : (c : Typed M T.value) → (i : ℕ) × Stands M (T.value c.0) i
  -- new: result@ == v
  pub new-is : (v : UpTo M) (r : C) → T.value r ≡ Fits v.0 → Stands M (T.value r) v.0
  -- new_overflowed: result@ == i, for any i > MAX
  pub new-overflowed-is : (i : ℕ) → M < i → (r : C) → T.value r ≡ Overflowed → Stands M (T.value r) i
  -- is_overflowed: result == (self@ > MAX)
  pub is-overflowed-is
      : (self : C) (i : ℕ) → Stands M (T.value self) i → (r : Bool) → r ≡ is_overflowed (T.value self) →
      (r ≡ true) ↔ (M < i)
  -- unwrap: result == self@ where self is not overflowed; and refusal 3 where it is
  pub unwrap-gives
      : (self : C) (i : ℕ) → Stands M (T.value self) i → (r : P) → T.plain r ≡ plain_of (T.value self) → i ≤ M →
      r ≡ T.number i
  pub unwrap-refuses
      : (self : C) (i : ℕ) → Stands M (T.value self) i → (r : P) → T.plain r ≡ plain_of (T.value self) → M < i →
      r ≡ T.refusal-3
  -- to_option: Some(v) => self@ == v && v <= MAX, None => self@ > MAX
  pub some-is
      : (self : C) (i : ℕ) → Stands M (T.value self) i → (r : O) → T.option r ≡ T.value self → (v : ℕ) →
      r ≡ T.some v → (i ≡ v) × (v ≤ M)
  pub none-is
      : (self : C) (i : ℕ) → Stands M (T.value self) i → (r : O) → T.option r ≡ T.value self → r ≡ T.none →
      M < i
  -- and so Some of the number exactly where that is at most MAX
  pub some-given
      : (self : C) (i : ℕ) → Stands M (T.value self) i → (r : O) → T.option r ≡ T.value self → i ≤ M →
      r ≡ T.some i
  pub none-given
      : (self : C) (i : ℕ) → Stands M (T.value self) i → (r : O) → T.option r ≡ T.value self → M < i →
      r ≡ T.none
  -- add_value: result@ == self@ + v2
  pub add-value-is
      : (self : C) (i : ℕ) → Stands M (T.value self) i → (v : UpTo M) (r : C) →
      T.value r ≡ sum_of M (T.value self) (Fits v.0) → Stands M (T.value r) (i + v.0)
  -- mul_value: result@ == self@ * v2
  pub mul-value-is
      : (self : C) (i : ℕ) → Stands M (T.value self) i → (v : UpTo M) (r : C) →
      T.value r ≡ product_of M (T.value self) (Fits v.0) → Stands M (T.value r) (i * v.0)
  -- add_checked: result@ == self@ + v2@
  pub add-checked-is
      : (self v : C) (i j : ℕ) → Stands M (T.value self) i → Stands M (T.value v) j → (r : C) →
      T.value r ≡ sum_of M (T.value self) (T.value v) → Stands M (T.value r) (i + j)
  -- mul_checked: result@ == self@ * v2@
  pub mul-checked-is
      : (self v : C) (i j : ℕ) → Stands M (T.value self) i → Stands M (T.value v) j → (r : C) →
      T.value r ≡ product_of M (T.value self) (T.value v) → Stands M (T.value r) (i * j)
