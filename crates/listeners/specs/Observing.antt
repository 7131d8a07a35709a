-- What an observer of a run has seen.
use Rattle.std.specs.Prelude.{◌≡◌, ◌≤◌, ◌-◌, ◌++◌, ℕ, List, length, map}
use Rattle.std.specs.List.{All}
use Rattle.plan_events.specs.declared.event.Event.{Event}
use Rattle.resource_locks.specs.Plans.{PlanParts}
use Rattle.listeners.specs.Listeners.{Telling, HasHeardMore, EachPlace}

module _ {L : Type 0} (saw : PlanParts → L → L → List Telling → Type 0) where
  -- b has seen of this plan what a had, and this besides, whoever it was at first
  abbrev pub HasSeenMore : PlanParts → List Telling → (a b : L) → Type 0
  HasSeenMore p more a b = (first : L) → HasHeardMore (saw p first) more a b

  -- whatever a has seen of any plan, whoever it was at first, b has seen
  abbrev pub KeepsSight : (a b : L) → Type 0
  KeepsSight a b = (p : PlanParts) (first : L) (seen : List Telling) → saw p first a seen → saw p first b seen

-- the events of these
abbrev pub events_of : List Telling → List Event
events_of ts = map (λ t. t.event) ts

module _ {L : Type 0} (got : L → List Event) (room : L → ℕ) (heard : L → List Telling → Type 0) where
  -- each listener is that which was at its place, has got these events after what it had got, has heard them, and has room for so many less
  pub record HaveGot (first now : List L) (ts : List Telling) : Type 0 where
    pub many : length now ≡ length first
    pub lists : map got now ≡ map (λ (before : List Event). before ++ events_of ts) (map got first)
    pub rooms : map room now ≡ map (λ n. n - length ts) (map room first)
    pub listened : EachPlace (λ a b. HasHeardMore heard ts a b) first now

  -- so it is if each had room for them
  abbrev pub HaveSeen : (first now : List L) (ts : List Telling) → Type 0
  HaveSeen first now ts = All (λ l. length ts ≤ room l) first → HaveGot first now ts
