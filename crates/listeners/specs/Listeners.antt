-- What contracts see of a listener that keeps events.
use Rattle.std.specs.Prelude.{ℕ, ◌<◌, ◌++◌, List, length, map, slice_index_or, Option, None}
use Rattle.plan_events.specs.declared.event.Event.{Event}
use Rattle.plan_events.specs.declared.event.EventKind.{EventKind}
use Rattle.plan_events.specs.declared.event.EventKind.TheVariants.{Started, Finished, Skipped, Registered}
use Rattle.plan_events.specs.Texts.{TextParts, text_at}

-- what a listener was told, in order, and how many more events it can be told without taking memory
pub record Heard : Type 0 where
  pub got : List Event
  pub room : ℕ

-- what stands with an event of this kind: the text of its node where it was skipped or finished
abbrev pub text_by : EventKind → Option (List ℕ) → Option (List ℕ)
text_by Started text = None
text_by Finished text = text
text_by Skipped text = text
text_by Registered text = None

-- what is told with an event
abbrev pub text_told : TextParts → Event → Option (List ℕ)
text_told texts e = text_by e.kind (text_at texts e.node)

-- an event and the text that is told with it
pub record Telling : Type 0 where
  pub event : Event
  pub text : Option (List ℕ)

-- an event with the text that goes with it
abbrev pub telling : TextParts → Event → Telling
telling texts e = record { event = e; text = text_told texts e }

-- these events, each with the text that goes with it
abbrev pub tellings_of : TextParts → List Event → List Telling
tellings_of texts events = map (telling texts) events

-- b has heard what a had, and this besides; `heard` says what a listener has heard
abbrev pub HasHeardMore : {L : Type 0} → (L → List Telling → Type 0) → List Telling → L → L → Type 0
HasHeardMore heard more a b = (before : List Telling) → heard a before → heard b (before ++ more)

-- what stood at each place and what stands there now are in relation
abbrev pub EachPlace : {L : Type 0} → (L → L → Type 0) → List L → List L → Type 0
EachPlace {L} relation old new = (k : ℕ) (d : L) → k < length old → relation (slice_index_or old k d) (slice_index_or new k d)
