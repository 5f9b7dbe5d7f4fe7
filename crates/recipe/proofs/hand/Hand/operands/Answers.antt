-- `hand::Hand::operands` meets its contract.
-- Assumes nothing.
use Rattle.recipe.proofs.Places.{both-popped}
use Rattle.recipe.proofs.hand.Hand.operands.Goals as goal

pub invariant_of-self : goal.invariant_of-self
invariant_of-self c =
    (both-popped c.self.view_is c.self.invariant c.requires c.take-right.ensures.value c.take-right.ensures.places_new
    c.take-left.ensures.value c.take-left.ensures.places_new).1

pub returns-clause-value : goal.returns-clause-value
returns-clause-value c =
    (both-popped c.self.view_is c.self.invariant c.requires c.take-right.ensures.value c.take-right.ensures.places_new
    c.take-left.ensures.value c.take-left.ensures.places_new).0

pub returns-clause-room : goal.returns-clause-room
returns-clause-room c =
    (both-popped c.self.view_is c.self.invariant c.requires c.take-right.ensures.value c.take-right.ensures.places_new
    c.take-left.ensures.value c.take-left.ensures.places_new).2
