use Rattle.workers.specs.Leading.{AreLedFrom}
use Rattle.workers.proofs.kept_place.take_back.Given as goal

abbrev pub invariant-loop-kept : goal.invariant-loop-kept
invariant-loop-kept g l = record {
  next : (goal.iterator-loop-kept g).can_next l.kept-iterator;
  finite : (goal.iterator-loop-kept g).is_finite l.kept-iterator;
  led : AreLedFrom g.K.Place.led g.M.PlacesBrand.came l.places;
}
