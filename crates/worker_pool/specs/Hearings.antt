-- What the listeners of a run have heard, each at its place.
use Rattle.std.specs.Prelude.{[], List}
use Rattle.plan_events.specs.declared.event.Event.{Event}
use Rattle.plan_events.specs.Texts.{TextParts}
use Rattle.listeners.specs.Listeners.{Telling, tellings_of, HasHeardMore, EachPlace}

module _ {L : Type 0} (heard : L → List Telling → Type 0) where
  -- the listener at each place is that which was there, and has heard these events after what it had heard, each with its text
  abbrev pub HaveHeard : TextParts → List Event → (old new : List L) → Type 0
  HaveHeard texts events old new = EachPlace (λ a b. HasHeardMore heard (tellings_of texts events) a b) old new

  -- the listener at each place is that which was there, and has heard nothing more
  abbrev pub HaveHeardNothing : (old new : List L) → Type 0
  HaveHeardNothing old new = EachPlace (λ a b. HasHeardMore heard [] a b) old new
