-- `hand::Hand::push` meets its contract.
-- Assumes nothing.
use Rattle.recipe.proofs.Places.{pushed}
use Rattle.recipe.proofs.hand.Hand.push.Goals as goal

pub invariant_of-self : goal.invariant_of-self
invariant_of-self c = let h = c.self.view_is in let k = c.self.invariant in (pushed c.self.view_is c.self.invariant c.requires c.put.ensures).1

pub returns : goal.returns
returns c = (pushed c.self.view_is c.self.invariant c.requires c.put.ensures).0
