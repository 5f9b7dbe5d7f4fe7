-- `limited::times_overflowed` meets its contract.
-- Assumes nothing.
use mathlib.Core.Path.{◌∙◌}
use Rattle.checked.specs.declared.types.Checked.TheVariants.{Fits, Overflowed}
use Rattle.checked.specs.Value.{product_of}
use Rattle.checked.proofs.Arms.{at}
use Rattle.checked.proofs.Limit.{product-commutes, product-overflowed-both}
use Rattle.checked.proofs.limited.times_overflowed.Goals as goal

pub returns-in-Fits : goal.returns-in-Fits
returns-in-Fits c = λ M. at (λ v. product_of M v Overflowed) (c.overflowed_times.ensures M ∙ product-commutes M Overflowed (Fits c.in-Fits.m)) c.in-Fits.is

pub returns-in-Overflowed : goal.returns-in-Overflowed
returns-in-Overflowed c = λ M. at (λ v. product_of M v Overflowed) (product-overflowed-both M) c.in-Overflowed.is
