use Rattle.std.proofs.Common.{◌≡◌, ◌≤◌, vec_len, vec_capacity}
use Rattle.workers.specs.Leading.{AreLedFrom}
use Rattle.workers.proofs.kept_place.lend_places.Given as goal

abbrev pub invariant-loop-number : goal.invariant-loop-number
invariant-loop-number g l = record {
  led : AreLedFrom g.K.Place.led g.M.PlacesBrand.came l.places;
  many : vec_len l.lent ≡ l.number;
  room : l.number-end ≤ vec_capacity l.lent;
}
