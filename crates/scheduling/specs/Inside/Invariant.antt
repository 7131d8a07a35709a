-- What each state of the core keeps: there are stages of which the state is the picture. Only proofs need this file.
use Rattle.std.specs.Prelude.{◌≡◌, ℕ, zero, suc, ◌+◌, ◌<◌, ◌≤◌, Bool, true, false, ◌&&◌, ◌==◌, List, ◌++◌, length, Option, Some, None, slice_get, slice_index_or, ◌⊎◌}
use Rattle.descriptor.specs.declared.lock_mode.LockMode.{LockMode}
use Rattle.descriptor.specs.declared.lock_mode.LockMode.TheVariants.{Read, ReadWrite}
use Rattle.descriptor.specs.Nodes.{bit, size, parent_of, IsChild, is_child, count_below, is_spare_at, is_disabled}
use Rattle.plan_events.specs.declared.event.EventKind.{EventKind}
use Rattle.plan_events.specs.declared.status.Status.{Status}
use Rattle.plan_events.specs.declared.status.Status.TheVariants.{Successful}
use Rattle.plan_events.specs.declared.event.Event.{Event}
use Rattle.plan_events.specs.declared.outcome.Reply.{Reply}
use Rattle.resource_locks.specs.Plans.{PlanParts, limit_of}
use Rattle.event_history.specs.Plans.{IsPlanTree, Leaf, Maker, IsElder, sort_of, is_same, rank, pulls_job}
use Rattle.event_history.specs.Places.{has}
use Rattle.event_history.specs.Results.{Jobs, NoJob, Around, jobs_of, HasAnswer, Ends}
use Rattle.event_history.specs.Order.{goes_first}
use Rattle.event_history.specs.Failures.{failures, known, up_to}
use Rattle.event_history.specs.Inside.Failing.{fails_last}
use Rattle.event_history.specs.Inside.Following.{started_by, registered_in}
use Rattle.event_history.specs.Published.{IsPublished}
use Rattle.scheduling.specs.declared.lock_word.LockWord.{LockWord}
use Rattle.scheduling.specs.declared.lock_word.LockWord.TheVariants.{Readers, Written}
use Rattle.scheduling.specs.declared.task.Opening.{Opening}
use Rattle.scheduling.specs.declared.task.Opening.TheVariants.{Registering, Noticing, Locking, Weighed, Backing, Beginning, Awaiting, Admitting, Guarding}
use Rattle.scheduling.specs.declared.task.Closing.{Closing}
use Rattle.scheduling.specs.declared.task.Closing.TheVariants.{AwaitingAfter, Ending, Raising, Giving, Looking, Passing, CountingOff}
use Rattle.scheduling.specs.declared.task.Task.{Task}
use Rattle.scheduling.specs.declared.task.Task.TheVariants.{Free, Opens, Closes}
use Rattle.scheduling.specs.declared.seat.Hand.{Hand}
use Rattle.scheduling.specs.declared.seat.Seat.{Seat}
use Rattle.scheduling.specs.State.{State, status_at, counter_at, result_at, lock_at}
use Rattle.scheduling.specs.Choices.{in_batch, key_at, mode_at, keys_count, admits_at, ending}
use Rattle.scheduling.specs.Inside.Stages.{How, Gave, Kept, Skips, Stage, OpenedBy, InHand, Waiting, ClosedBy, Below, Shut, Runs, Past, picture, has_mark, starter_of, is_unseen, is_pending, is_past, is_unsettled, is_owned, is_over, raises, is_bold, brings}

-- what the core asks of a plan's tree, and what every tree of nodes has: besides, its nodes have numbers of events, and the
-- children of a factory are spares
pub record IsCorePlan (p : PlanParts) : Type 0 where
  pub plan : IsPlanTree p.tree
  pub few : size p.tree ≤ 16384
  pub makers : (f c : ℕ) → IsChild p.tree f c → sort_of p.tree f ≡ Maker → is_spare_at p.tree c ≡ true

-- Words.
-- how many children of a are still to be counted off
abbrev pub pends_at : PlanParts → (ℕ → Stage) → ℕ → ℕ → Bool
pends_at p g a c = is_child p.tree a c && is_pending (is_spare_at p.tree c) (g c)

unfoldable pub pending : PlanParts → (ℕ → Stage) → ℕ → ℕ
pending p g a = count_below (pends_at p g a) (size p.tree)

-- how many nodes have the key at place k in this mode
abbrev pub same_mode : LockMode → LockMode → Bool
same_mode Read Read = true
same_mode ReadWrite ReadWrite = true
same_mode _ _ = false

abbrev pub is_key : PlanParts → ℕ → LockMode → ℕ → ℕ → Bool
is_key p k mode n i = (key_at p n i == k) && same_mode (mode_at p n i) mode

unfoldable pub keys_in : PlanParts → ℕ → LockMode → ℕ → ℕ → ℕ
keys_in p k mode n many = count_below (is_key p k mode n) many

abbrev pub sum_below : (ℕ → ℕ) → ℕ → ℕ
sum_below f zero = 0
sum_below f (suc n) = f n + sum_below f n

unfoldable pub holders : PlanParts → (ℕ → Stage) → ℕ → LockMode → ℕ
holders p g k mode = sum_below (λ n. keys_in p k mode n (picture p n (g n)).keys) (size p.tree)

abbrev pub holders_by : LockMode → LockWord → ℕ
holders_by Read (Readers n) = n
holders_by Read Written = 0
holders_by ReadWrite (Readers n) = 0
holders_by ReadWrite Written = 1

abbrev pub WordsOk : PlanParts → State → (ℕ → Stage) → Type 0
WordsOk p s g = (n : ℕ) → n < size p.tree → status_at s n ≡ (picture p n (g n)).word

abbrev pub CountersOk : PlanParts → State → (ℕ → Stage) → Type 0
CountersOk p s g = (n : ℕ) → n < size p.tree → counter_at s n ≡ (picture p n (g n)).guard + pending p g n

abbrev pub ResultsOk : PlanParts → State → (ℕ → Stage) → Type 0
ResultsOk p s g = (n c : ℕ) (r : Status) → n < size p.tree → g n ≡ Waiting c r → result_at s n ≡ r

-- what the words of the keys say
pub record KeysCount (p : PlanParts) (locks : List LockWord) (g : ℕ → Stage) : Type 0 where
  -- so many nodes have the key in this mode
  pub counted : (k : ℕ) (mode : LockMode) → holders p g k mode ≡ holders_by mode (slice_index_or locks k (Readers 0))
  -- and no more read it than its limit says
  pub limited : (k : ℕ) → 0 < limit_of p k → holders_by Read (slice_index_or locks k (Readers 0)) ≤ limit_of p k

abbrev pub LocksOk : PlanParts → State → (ℕ → Stage) → Type 0
LocksOk p s g = KeysCount p s.locks g

-- The history.
-- it has an event exactly where the stage says so
abbrev pub FlagsOk : PlanParts → List Event → (ℕ → Stage) → Type 0
FlagsOk p h g = (k : EventKind) (n : ℕ) → n < size p.tree → has k n h ≡ has_mark (is_spare_at p.tree n) k (picture p n (g n)).mark

-- who claimed a node that has started, and not finished, has started it
abbrev pub StartersOk : PlanParts → List Event → (ℕ → Stage) → Type 0
StartersOk p h g = (n c : ℕ) → n < size p.tree → starter_of (picture p n (g n)) ≡ Some c → started_by n (c + 1) h ≡ true

-- Shape: what is known of node n at its stage.
-- its job was successful, and its children run
abbrev pub GoesOn : (ℕ → List Reply) → Jobs → Type 0
GoesOn replies NoJob = Unit {0}
GoesOn replies (Around body after) = (text : Option (List ℕ)) × HasAnswer replies body Successful text
GoesOn replies _ = ⊥

abbrev pub SkipReason : PlanParts → List Event → ℕ → Type 0
SkipReason p h n = (is_disabled p.tree n ≡ true) ⊎ ((p.fail_fast ≡ true) × (p.tolerated < failures h))

-- a node that kept its guard has no children, or is stopped; one that gave it up is not stopped
abbrev pub EndsSo : PlanParts → ℕ → How → (stopped : Bool) → Type 0
EndsSo p n Gave false = Unit {0}
EndsSo p n Gave true = ⊥
EndsSo p n Kept false = sort_of p.tree n ≡ Leaf
EndsSo p n Kept true = Unit {0}
EndsSo p n Skips stopped = ⊥

-- it is to finish with this status, a lawful one
pub record IsEnding (p : PlanParts) (replies : ℕ → List Reply) (h : List Event) (n : ℕ) (how : How) (status : Status) : Type 0 where
  pub stopped : Bool
  pub so : EndsSo p n how stopped
  pub text : Option (List ℕ)
  pub lawful : Ends replies (jobs_of p n) stopped (registered_in p h n) status text

-- it gave its guard up, and has an after-body
pub record IsAfter (p : PlanParts) (replies : ℕ → List Reply) (n : ℕ) (how : How) : Type 0 where
  pub gave : how ≡ Gave
  pub body : Option ℕ
  pub after : ℕ
  pub jobs : jobs_of p n ≡ Around body (Some after)
  pub text : Option (List ℕ)
  pub answers : HasAnswer replies body Successful text

-- m is the next SAME_THREAD sibling of n
pub record IsNextSame (p : PlanParts) (n m : ℕ) : Type 0 where
  pub elder : IsElder p.tree n m
  pub same : is_same p n ≡ true
  pub plain : is_spare_at p.tree n ≡ false
  pub next_same : is_same p m ≡ true
  pub next_plain : is_spare_at p.tree m ≡ false
  pub between : (a : ℕ) → n < a → a < m → IsElder p.tree a m → is_same p a ≡ true → ⊥

abbrev pub OpeningOk : PlanParts → (ℕ → List Reply) → List Event → ℕ → Opening → Type 0
OpeningOk p replies h n Registering = (is_spare_at p.tree n && pulls_job p (parent_of p.tree n)) ≡ true
OpeningOk p replies h n Noticing = (p.fail_fast ≡ true) × (0 < n) × (is_disabled p.tree n ≡ false)
OpeningOk p replies h n (Locking i) = (i < keys_count p n) × (is_disabled p.tree n ≡ false)
OpeningOk p replies h n (Weighed i word) = (i < keys_count p n) × (is_disabled p.tree n ≡ false) × (admits_at p n i word ≡ true)
OpeningOk p replies h n (Backing i) = i ≤ keys_count p n
OpeningOk p replies h n (Beginning true) = (0 < n) × SkipReason p h n
OpeningOk p replies h n (Beginning false) = is_disabled p.tree n ≡ false
OpeningOk p replies h n Awaiting = pulls_job p n ≡ false
OpeningOk p replies h n (Admitting c) = GoesOn replies (jobs_of p n) × (c < size p.tree) × (in_batch p n c ≡ true)
OpeningOk p replies h n Guarding = GoesOn replies (jobs_of p n)
OpeningOk p replies h n _ = Unit {0}

abbrev pub ClosingOk : PlanParts → (ℕ → List Reply) → List Event → ℕ → Closing → How → Type 0
ClosingOk p replies h n AwaitingAfter how = IsAfter p replies n how
ClosingOk p replies h n (Ending status) how = IsEnding p replies h n how status
ClosingOk p replies h n Raising how = p.fail_fast ≡ true
ClosingOk p replies h n (Giving i) how = i ≤ keys_count p n
ClosingOk p replies h n (Looking m) how = IsNextSame p n m
ClosingOk p replies h n (Passing m o) how = IsNextSame p n m
ClosingOk p replies h n CountingOff how = 0 < n
ClosingOk p replies h n _ how = Unit {0}

abbrev pub ShapeOk : PlanParts → (ℕ → List Reply) → List Event → ℕ → Stage → Type 0
ShapeOk p replies h n (OpenedBy w d) = OpeningOk p replies h n d
ShapeOk p replies h n (InHand w) = pulls_job p n ≡ true
ShapeOk p replies h n (Waiting c result) = ClosingOk p replies h n (ending p n result) Gave
ShapeOk p replies h n (ClosedBy w c d how) = ClosingOk p replies h n d how
ShapeOk p replies h n _ = Unit {0}

-- Parent and child.
-- a child of a node whose children its claimer o runs: of those to be admitted, it is unseen from this number on; and a
-- SAME_THREAD child is o's
pub record RunsSo (p : PlanParts) (a c o from : ℕ) (stage : Stage) : Type 0 where
  pub rest : in_batch p a c ≡ true → from ≤ c → is_unseen stage ≡ true
  pub owned : is_same p c ≡ true → is_owned o stage ≡ true

abbrev pub Fits : PlanParts → Below → ℕ → ℕ → Stage → Type 0
Fits p Shut a c stage = is_unseen stage ≡ true
Fits p (Runs o from) a c stage = RunsSo p a c o from stage
Fits p Past a c stage = is_over (is_spare_at p.tree c) stage ≡ true

abbrev pub EdgesOk : PlanParts → (ℕ → Stage) → Type 0
EdgesOk p g = (a c : ℕ) → IsChild p.tree a c → Fits p (picture p a (g a)).below a c (g c)

-- Same thread: an elder that goes first is settled, and has passed the turn on, before a younger one is seen.
abbrev pub EldersOk : PlanParts → (ℕ → Stage) → Type 0
EldersOk p g = (a b : ℕ) → IsElder p.tree a b → goes_first p a b ≡ true → is_unseen (g b) ≡ false → is_past (g a) ≡ true

-- Workers.
-- the stage of the node that a task is about names the worker and the task
abbrev pub TaskOk : PlanParts → (ℕ → Stage) → ℕ → Task → Type 0
TaskOk p g w Free = Unit {0}
TaskOk p g w (Opens n d) = (n < size p.tree) × (g n ≡ OpenedBy w d)
TaskOk p g w (Closes n d) = (n < size p.tree) × ((c : ℕ) × (how : How) × (g n ≡ ClosedBy w c d how))

-- the factory in hand: the number of its registered spares; each SAME_THREAD spare that is not settled is waited for
pub record IsInHand (p : PlanParts) (g : ℕ → Stage) (h : List Event) (w : ℕ) (hand : Hand) : Type 0 where
  pub inside : hand.factory < size p.tree
  pub at : g hand.factory ≡ InHand w
  pub count : registered_in p h hand.factory ≡ hand.registered
  pub waits : (c : ℕ) → IsChild p.tree hand.factory c → (is_spare_at p.tree c && is_same p c) ≡ true → is_unsettled (g c) ≡ true → hand.waiting ≡ Some c

abbrev pub HandOk : PlanParts → (ℕ → Stage) → List Event → ℕ → Option Hand → Type 0
HandOk p g h w None = Unit {0}
HandOk p g h w (Some hand) = IsInHand p g h w hand

-- a spare that the worker brings in is the next of the factory in its hand
pub record IsBrought (p : PlanParts) (n : ℕ) (d : Opening) (hand : Option Hand) : Type 0 where
  pub held : Hand
  pub is : hand ≡ Some held
  pub parent : parent_of p.tree n ≡ held.factory
  pub child : 0 < n
  pub waits : (held.waiting ≡ None) ⊎ (held.waiting ≡ Some n)
  pub next : d ≡ Registering → rank p n ≡ held.registered

abbrev pub BringsOk : PlanParts → Task → Option Hand → Type 0
BringsOk p (Opens n d) hand = brings d ≡ true → IsBrought p n d hand
BringsOk p _ hand = Unit {0}

pub record SeatOk (p : PlanParts) (g : ℕ → Stage) (h : List Event) (w : ℕ) (seat : Seat) : Type 0 where
  pub task : TaskOk p g w seat.task
  pub hand : HandOk p g h w seat.hand
  pub brought : BringsOk p seat.task seat.hand
  -- a failure that is to be raised is the last event that was drawn by this worker
  pub failed : raises seat.task ≡ true → fails_last (w + 1) h ≡ true
  -- fail-fast: who is about to start a node without a look at the cancel word knew, at its last event, of no more failures than are
  -- tolerated
  pub quits : p.fail_fast ≡ true → is_bold seat.task ≡ true → known (w + 1) (up_to (w + 1) h) ≤ p.tolerated

abbrev pub SeatsOk : PlanParts → (ℕ → Stage) → List Event → List Seat → Type 0
SeatsOk p g h seats = (w : ℕ) (seat : Seat) → slice_get seats w ≡ Some seat → SeatOk p g h w seat

-- how many failures were drawn and are still to be raised
abbrev pub raising_in : Option Seat → ℕ
raising_in None = 0
raising_in (Some seat) = bit (raises seat.task)

abbrev pub raising_at : List Seat → ℕ → ℕ
raising_at seats w = raising_in (slice_get seats w)

unfoldable pub still_raising : List Seat → ℕ
still_raising seats = sum_below (raising_at seats) (length seats)

-- and the other way round: whoever is at a node has it as its task
abbrev pub HeldBy : List Seat → ℕ → Stage → Type 0
HeldBy seats n (OpenedBy w d) = (seat : Seat) × (slice_get seats w ≡ Some seat) × (seat.task ≡ Opens n d)
HeldBy seats n (ClosedBy w c d how) = (seat : Seat) × (slice_get seats w ≡ Some seat) × (seat.task ≡ Closes n d)
HeldBy seats n _ = Unit {0}

-- What is given is the beginning of what is published, and was shown.
pub record IsGiven (s : State) : Type 0 where
  pub rest : List Event
  pub front : s.given ++ rest ≡ s.published
  pub shown : (i : ℕ) → i < length s.given → slice_get s.shown i ≡ Some true

-- The state is the picture of these stages.
pub record Holds (p : PlanParts) (replies : ℕ → List Reply) (s : State) (g : ℕ → Stage) : Type 0 where
  pub workers_few : length s.seats ≤ 64
  pub statuses_len : length s.statuses ≡ size p.tree
  pub counters_len : length s.counters ≡ size p.tree
  pub results_len : length s.results ≡ size p.tree
  pub shown_len : length s.shown ≡ length s.published
  pub words : WordsOk p s g
  pub counters : CountersOk p s g
  pub results : ResultsOk p s g
  pub locks : LocksOk p s g
  pub flags : FlagsOk p s.published g
  pub starters : StartersOk p s.published g
  pub shapes : (n : ℕ) → n < size p.tree → ShapeOk p replies s.published n (g n)
  pub edges : EdgesOk p g
  pub elders : EldersOk p g
  pub seats : SeatsOk p g s.published s.seats
  pub held : (n : ℕ) → n < size p.tree → HeldBy s.seats n (g n)
  -- fail-fast: each failure was raised, or is to be
  pub raised : p.fail_fast ≡ true → s.cancel + still_raising s.seats ≡ failures s.published
  pub published : IsPublished p replies (length s.seats) s.published
  pub given : IsGiven s

-- the core's invariant
abbrev pub IsKept : PlanParts → (ℕ → List Reply) → State → Type 0
IsKept p replies s = (g : ℕ → Stage) × Holds p replies s g
