-- Quotient and remainder of whole numbers of both signs: Euclid's, written /ℤ and %ℤ, and the truncating ones that Rust's operators give, `rust_div` and `rust_rem`.
-- Upstream's `/` and `%` are Euclid's. By 0 the remainder is the dividend, and nothing is promised of the quotient.
-- Assumes nothing.
use Rattle.std.specs.Prelude.{◌≡◌, ◌↔◌, zero, suc, ◌/◌, ℤ, pos, negsuc, neg_ℤ, nat_abs, ◌-ℤ◌, ◌*ℤ◌, ◌≤ℤ◌, ◌<ℤ◌}

infixl 7 ◌/ℤ◌ ◌%ℤ◌
infix 50 ◌below◌
-- 0 ≤ r < d
abbrev pub ◌below◌ : ℤ → ℤ → Type 0
r below d = (pos 0 ≤ℤ r) × (r <ℤ d)

-- |d|
abbrev pub ∣◌∣ : ℤ → ℤ
∣ d ∣ = pos (nat_abs d)

-- Euclid's quotient: a negative dividend is rounded away from 0, so that the remainder is never negative.
-- `negsuc a` is -(a + 1), and -(a + 1) = d * -(a / d + 1) + (d - 1 - a % d).
unfoldable pub ◌/ℤ◌ : ℤ → ℤ → ℤ
pos a /ℤ pos d = pos (a / d)
pos a /ℤ negsuc d = neg_ℤ (pos (a / suc d))
negsuc a /ℤ pos d = negsuc (a / d)
negsuc a /ℤ negsuc d = pos (suc (a / suc d))

-- what the quotient leaves
unfoldable pub ◌%ℤ◌ : ℤ → ℤ → ℤ
x %ℤ d = x -ℤ d *ℤ (x /ℤ d)

-- upstream: x % m == y % m <==> (x - y) % m == 0. It holds of every x, y and m (`Closed.mod-equivalent-always`)
abbrev pub is_mod_equivalent : ℤ → ℤ → ℤ → Type 0
is_mod_equivalent x y m = (x %ℤ m ≡ y %ℤ m) ↔ ((x -ℤ y) %ℤ m ≡ pos 0)

-- upstream: if a == 0 { 0 } else if a > 0 { a / b } else { -((-a) / b) }
unfoldable pub rust_div : ℤ → ℤ → ℤ
rust_div (pos zero) b = pos 0
rust_div (pos (suc a)) b = pos (suc a) /ℤ b
rust_div (negsuc a) b = neg_ℤ (pos (suc a) /ℤ b)

-- upstream: if a == 0 { 0 } else if a > 0 { a % b } else { -((-a) % b) }
unfoldable pub rust_rem : ℤ → ℤ → ℤ
rust_rem (pos zero) b = pos 0
rust_rem (pos (suc a)) b = pos (suc a) %ℤ b
rust_rem (negsuc a) b = neg_ℤ (pos (suc a) %ℤ b)
