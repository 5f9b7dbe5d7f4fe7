-- `limited::floor_log` meets its contract. The invariant: `power` is the power after base ^ count, and count is at most
-- the logarithm. Where the loop ends, that power is above n, so that count is the logarithm.
-- Assumes nothing.
use Prim.Native.Nat.{suc, ◌+◌, ◌^◌, ◌≤◌, ◌<◌}
use native.Mathlib.Omega.{arith}
use Rattle.whole.specs.Logarithm.{log_of}
use Rattle.whole.proofs.Naturals.{log-of-largest}
use Rattle.checked.proofs.Limit.{product-beyond}
use Rattle.checked.proofs.Squares.{power-one}
use Rattle.checked.proofs.Logarithms.{next-power, log-before, log-at-most}
use Rattle.checked.proofs.limited.floor_log.Goals.{In-loop-power}
use Rattle.checked.proofs.limited.floor_log.Goals as goal

more
    : (c : In-loop-power) →
    c.loop-power.count < log_of c.args.base c.args.n
more c =
    let s = c in
    let l = c.loop-power in
    let within : s.args.base ^ suc l.count ≤ s.args.n = omega (arith, l.invariant.0, c.loop-power-test.true) in
    log-of-largest s.args.base s.args.n (suc l.count) s.requires within

pub loop-power-init : goal.loop-power-init
loop-power-init c = (power-one c.args.base, omega arith)

pub overflow_add-count : goal.overflow_add-count
overflow_add-count c =
    let s = c in omega (arith, more (goal.at.overflow_add-count c).In-loop-power, log-at-most s.args.base s.args.n s.requires, s.ranges.n)

pub returns-then-base-power : goal.returns-then-base-power
returns-then-base-power c =
    let s = c in
    let g = s.args in
    let l = c.loop-power in
    let b = product-beyond 18446744073709551615 g.base l.power (λ z. omega (arith, s.requires)) c.if-base-power.true in
    let next = next-power g.base l.power l.count l.invariant.0 in
    let beyond : g.n < g.base ^ suc (l.count + 1) = omega (arith, b, next, s.ranges.n) in
    omega (arith, more (goal.at.returns-then-base-power c).In-loop-power, log-before g.base g.n (l.count + 1) s.requires beyond)

pub loop-power-smaller : goal.loop-power-smaller
loop-power-smaller c = omega (arith, more (goal.at.loop-power-smaller c).In-loop-power)

pub loop-power-preserved : goal.loop-power-preserved
loop-power-preserved c =
    let g = c.args in
    let l = c.loop-power in
    (next-power g.base l.power l.count l.invariant.0, omega (arith, more (goal.at.loop-power-preserved c).In-loop-power))

pub returns : goal.returns
returns c =
    let s = c in
    let g = s.args in
    let l = c.loop-power in
    let beyond : g.n < g.base ^ suc l.count = omega (arith, l.invariant.0, c.loop-power-test.false) in
    omega (arith, l.invariant.1, log-before g.base g.n l.count s.requires beyond)
