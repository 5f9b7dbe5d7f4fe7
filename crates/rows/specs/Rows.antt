-- A row of single operations at 64 bits: what each comes to, what the row answers, and what the three lent lists hold
-- afterwards.
-- Assumes nothing.
use Rattle.std.specs.Prelude.{◌≡◌, ◌⊎◌, Bool, cond, ◌&&◌, List, [], ◌∷◌, map, ℕ, ◌≤◌, ◌<◌, eqb, leb, length, get_or}
use Rattle.checked.specs.Paper.{Paper, refused}
use Rattle.places.specs.Places.{over}
use Rattle.shape.specs.Items.{Kind, literal, operation, unknown, kind_of}
use Rattle.razovinto.specs.Six.{answer_of}
use Rattle.rows.specs.declared.types.OperationRecord.{OperationRecord}

-- ---- one operation

-- the single operation's own answer, and 8 for a kind that is none of the six
abbrev pub answer_as : Kind → ℕ → ℕ → Paper
answer_as literal l r = refused 8
answer_as (operation o) l r = answer_of o l r
answer_as unknown l r = refused 8

unfoldable pub element_of : ℕ → ℕ → ℕ → Paper
element_of kind l r = answer_as (kind_of kind) l r

-- ---- the operations of a row

pub record Operations : Type 0 where
  pub kinds : List ℕ
  pub lefts : List ℕ
  pub rights : List ℕ

abbrev pub lists : List ℕ → List ℕ → List ℕ → Operations
lists kinds lefts rights = record { kinds = kinds; lefts = lefts; rights = rights }

-- a row of one operation
abbrev pub alone : (kind l r : ℕ) → Operations
alone kind l r = lists (kind ∷ []) (l ∷ []) (r ∷ [])

-- the lists of the fields of a list of records
abbrev pub fields : List OperationRecord → Operations
fields records = lists (map (λ o. o.kind) records) (map (λ o. o.left) records) (map (λ o. o.right) records)

abbrev pub element_at : Operations → ℕ → Paper
element_at os i = element_of (get_or os.kinds i 0) (get_or os.lefts i 0) (get_or os.rights i 0)

-- ---- the answer

-- kinds, lefts and rights are as many; there is an operation, and at most 4,096; the lists for numbers, marks and codes
-- have room for as many
abbrev pub even : (kinds lefts rights : ℕ) → Bool
even kinds lefts rights = eqb kinds lefts && eqb kinds rights

abbrev pub counted : ℕ → Bool
counted kinds = leb 1 kinds && leb kinds 4096

abbrev pub roomy : (kinds numbers marks codes : ℕ) → Bool
roomy kinds numbers marks codes = leb kinds numbers && (leb kinds marks && leb kinds codes)

-- by the lists' lengths: 6, 7 or 19 where the first, the second or the third of these fails, in this order; or 0
unfoldable pub code_of : (kinds lefts rights numbers marks codes : ℕ) → ℕ
code_of kinds lefts rights numbers marks codes =
    cond (even kinds lefts rights) (cond (counted kinds) (cond (roomy kinds numbers marks codes) 0 19) 7) 6

abbrev pub code_for : Operations → (numbers marks codes : List ℕ) → ℕ
code_for os numbers marks codes =
    code_of (length os.kinds) (length os.lefts) (length os.rights) (length numbers) (length marks)
    (length codes)

-- ---- the lent lists

-- with 0 the first n places are written over, and nothing past them; otherwise all stay
unfoldable pub after : (code n : ℕ) → (ℕ → ℕ) → List ℕ → List ℕ
after code n f old = cond (eqb code 0) (over f n old) old

abbrev pub numbers_after : Operations → (numbers marks codes : List ℕ) → List ℕ
numbers_after os numbers marks codes =
    after (code_for os numbers marks codes) (length os.kinds) (λ i. (element_at os i).number) numbers

abbrev pub marks_after : Operations → (numbers marks codes : List ℕ) → List ℕ
marks_after os numbers marks codes =
    after (code_for os numbers marks codes) (length os.kinds) (λ i. (element_at os i).mark) marks

abbrev pub codes_after : Operations → (numbers marks codes : List ℕ) → List ℕ
codes_after os numbers marks codes =
    after (code_for os numbers marks codes) (length os.kinds) (λ i. (element_at os i).code) codes

-- ---- in the words of the promises

-- the three lists of operations are as long as each other
abbrev pub Even : Operations → Type 0
Even os = (length os.kinds ≡ length os.lefts) × (length os.kinds ≡ length os.rights)

-- from 1 to 4,096 operations
abbrev pub Counted : Operations → Type 0
Counted os = (1 ≤ length os.kinds) × (length os.kinds ≤ 4096)

-- one of the three result lists is shorter
abbrev pub Short : Operations → (numbers marks codes : List ℕ) → Type 0
Short os numbers marks codes =
    (length numbers < length os.kinds)
    ⊎ ((length marks < length os.kinds) ⊎ (length codes < length os.kinds))

-- or none is
abbrev pub Roomy : Operations → (numbers marks codes : List ℕ) → Type 0
Roomy os numbers marks codes =
    (length os.kinds ≤ length numbers)
    × (length os.kinds ≤ length marks)
    × (length os.kinds ≤ length codes)

-- the whole contract: what is returned, and what the three lent lists hold afterwards
abbrev pub Rows : Operations → (numbers marks codes : List ℕ) → ℕ → (ns ms cs : List ℕ) → Type 0
Rows os numbers marks codes r ns ms cs =
    (r ≡ code_for os numbers marks codes)
    × (ns ≡ numbers_after os numbers marks codes)
    × (ms ≡ marks_after os numbers marks codes)
    × (cs ≡ codes_after os numbers marks codes)
