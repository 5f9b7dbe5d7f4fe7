-- `hand::Hand::pop` meets its contract.
-- Assumes nothing.
use Rattle.recipe.proofs.Places.{popped}
use Rattle.recipe.proofs.hand.Hand.pop.Goals as goal

pub invariant_of-self : goal.invariant_of-self
invariant_of-self c =
    (popped c.self.view_is c.self.invariant c.requires c.take.ensures.value c.take.ensures.places_new).1

pub returns-clause-value : goal.returns-clause-value
returns-clause-value c =
    (popped c.self.view_is c.self.invariant c.requires c.take.ensures.value c.take.ensures.places_new).0

pub returns-clause-room : goal.returns-clause-room
returns-clause-room c =
    (popped c.self.view_is c.self.invariant c.requires c.take.ensures.value c.take.ensures.places_new).2
