-- The task after an offer is the rule's, for each task that offers.
use Rattle.scheduling.proofs.offers.after_offer.Goals as goal

pub after_child-requires-clause-child : goal.after_child-requires-clause-child
after_child-requires-clause-child c = c.requires.admits c.in-Opens.node c.in-Admitting.child c.in-Opens.opening c.in-Opens.is c.in-Admitting.is
