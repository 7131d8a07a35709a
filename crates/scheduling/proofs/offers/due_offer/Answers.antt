-- Each task that offers a node names it, and to whom.
use Rattle.scheduling.proofs.offers.due_offer.Goals as goal

pub offered_to-requires : goal.offered_to-requires
offered_to-requires c = (c.requires.admits c.in-Opens.node c.in-Admitting.child c.in-Opens.opening c.in-Opens.is c.in-Admitting.is).inside
