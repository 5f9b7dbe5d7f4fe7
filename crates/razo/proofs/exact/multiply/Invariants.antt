-- Each digit's place is left with at most a tenth of what came to it, so the carry stays below 2^32.
use Rattle.std.proofs.Common.{◌<◌}
use Rattle.razo.proofs.exact.multiply.Given as goal

abbrev pub invariant-loop-digit : goal.invariant-loop-digit
invariant-loop-digit l = l.carry < 4294967296
