-- Where a contract says which value is given, or which list is left, no other meets it.
-- Assumes nothing.
use mathlib.Core.Path.{◌≡◌, sym, ◌∙◌}

pub value-unique : {A : Type 0} (a b wanted : A) → a ≡ wanted → b ≡ wanted → a ≡ b
value-unique a b wanted p q = p ∙ sym q
