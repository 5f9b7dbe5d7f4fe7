-- The lists of the fields of a list of records.
-- Assumes nothing.
use mathlib.Core.Path.{◌≡◌, sym}
use mathlib.Core.List.{List}
use Prim.Native.Nat.{ℕ}
use lib.ListN.{length, get_or, length-map, get_or-map}
use Rattle.rows.specs.declared.types.OperationRecord.{OperationRecord}
use Rattle.rows.specs.Rows.{fields, element_of, element_at, code_of, code_for}

abbrev pub no-record : OperationRecord
no-record = record { kind = 0; left = 0; right = 0 }

module _ (records : List OperationRecord) where
  -- the operation at i of a list of records
  pub record-at
      : (i : ℕ) →
      element_of (get_or records i no-record).kind (get_or records i no-record).left (get_or records i no-record).right
      ≡ element_at (fields records) i
  record-at i =
      let k = get_or-map (λ o. o.kind) records i no-record in
      let l = get_or-map (λ o. o.left) records i no-record in
      let r = get_or-map (λ o. o.right) records i no-record in
      sym (λ t. element_of (k t) (l t) (r t))

  -- its lists are as long
  pub records-code
      : (numbers marks codes : List ℕ) →
      code_of (length records) (length records) (length records) (length numbers) (length marks) (length codes)
      ≡ code_for (fields records) numbers marks codes
  records-code numbers marks codes =
      let k = length-map records (λ o. o.kind) in
      let l = length-map records (λ o. o.left) in
      let r = length-map records (λ o. o.right) in
      sym (λ t. code_of (k t) (l t) (r t) (length numbers) (length marks) (length codes))
