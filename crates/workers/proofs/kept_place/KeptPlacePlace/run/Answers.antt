-- What led to the place leads on, by the job that it was asked for.
use Rattle.std.proofs.Math.Logic.{∥∥₁_map}
use Rattle.workers.proofs.kept_place.KeptPlacePlace.run.Goals as goal

pub invariant_of-self : goal.invariant_of-self
invariant_of-self g c = record {
  led = ∥∥₁_map c.args.self.now.led (λ it. record { first = it.first; stood = it.stood; led_to = c.run.ensures.led it.first it.led_to });
}
