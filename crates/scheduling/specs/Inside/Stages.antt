-- Each node has a stage, which no code holds. This file says, by cases on the stage, what it means for the words, the
-- keys, the history and the children of its node. Only proofs need it.
use Rattle.std.specs.Prelude.{ℕ, Bool, true, false, ◌==◌, not, Option, Some, None}
use Rattle.descriptor.specs.Nodes.{size}
use Rattle.plan_events.specs.declared.event.EventKind.{EventKind}
use Rattle.plan_events.specs.declared.event.EventKind.TheVariants.{Started, Finished, Skipped, Registered}
use Rattle.plan_events.specs.declared.status.Status.{Status}
use Rattle.event_history.specs.Places.{is_failed_or}
use Rattle.resource_locks.specs.Plans.{PlanParts}
use Rattle.scheduling.specs.declared.status.NodeStatus.{NodeStatus}
use Rattle.scheduling.specs.declared.status.NodeStatus.TheVariants.{Hidden, Ready, Claimed, Settled}
use Rattle.scheduling.specs.declared.task.Opening.{Opening}
use Rattle.scheduling.specs.declared.task.Opening.TheVariants.{Registering, RegisteredAt, Offering, Noticing, Locking, Weighed, Backing, Beginning, StartedAt, Awaiting, Admitting, Guarding}
use Rattle.scheduling.specs.declared.task.Closing.{Closing}
use Rattle.scheduling.specs.declared.task.Closing.TheVariants.{AwaitingAfter, Ending, FinishedAt, SkippedAt, Raising, Giving, Settling, Looking, Passing, CountingOff}
use Rattle.scheduling.specs.declared.task.Task.{Task}
use Rattle.scheduling.specs.declared.task.Task.TheVariants.{Opens, Closes}
use Rattle.scheduling.specs.Choices.{keys_count}

-- how a node ended: with its guard given up; with its guard kept (a test, or a container that is stopped); skipped
pub data How : Type 0 where
  Gave : How
  Kept : How
  Skips : How

-- Nobody has come to it; it is offered; worker w, who claimed it, is at it; it is the factory in w's hand; claimed by c, it
-- waits for what is outstanding, with this result; worker w is at it, and c claimed it; it is counted off.
pub data Stage : Type 0 where
  Unseen : Stage
  Offered : Option ℕ → Stage
  OpenedBy : (w : ℕ) → Opening → Stage
  InHand : (w : ℕ) → Stage
  Waiting : (c : ℕ) → Status → Stage
  ClosedBy : (w c : ℕ) → Closing → How → Stage
  Over : How → Stage

-- the events of a node: none; that it is registered, if it is a spare; and its start; and its finish; or that it is skipped
pub data Mark : Type 0 where
  Blank : Mark
  Known : Mark
  Begun : Mark
  Ended : Mark
  Passed : Mark

-- what may be below a node: nothing that was seen, not yet or never again; what the node's claimer runs, where of the
-- children to be admitted those from this number on are not admitted; what is counted off, and spares that were never seen
pub data Below : Type 0 where
  Shut : Below
  Runs : (claimer from : ℕ) → Below
  Past : Below

-- what a stage means
pub record Picture : Type 0 where
  -- the node's status word
  pub word : NodeStatus
  -- the events that are drawn for it
  pub mark : Mark
  -- how much of its counter its own guard is
  pub guard : ℕ
  -- how many of its keys are held, from the first on
  pub keys : ℕ
  -- what may be below it
  pub below : Below

abbrev pub looks : NodeStatus → Mark → ℕ → ℕ → Below → Picture
looks word mark guard keys below = record { word = word; mark = mark; guard = guard; keys = keys; below = below }

-- of worker w, who claimed node n
abbrev pub opening_picture : PlanParts → ℕ → ℕ → Opening → Picture
opening_picture p n w Registering = looks Hidden Blank 1 0 Shut
opening_picture p n w (RegisteredAt i) = looks Hidden Known 1 0 Shut
opening_picture p n w Offering = looks Hidden Known 1 0 Shut
opening_picture p n w Noticing = looks (Claimed w) Known 1 0 Shut
opening_picture p n w (Locking i) = looks (Claimed w) Known 1 i Shut
opening_picture p n w (Weighed i word) = looks (Claimed w) Known 1 i Shut
opening_picture p n w (Backing i) = looks (Claimed w) Known 1 i Shut
opening_picture p n w (Beginning true) = looks (Claimed w) Known 1 0 Shut
opening_picture p n w (Beginning false) = looks (Claimed w) Known 1 (keys_count p n) Shut
opening_picture p n w (StartedAt i) = looks (Claimed w) Begun 1 (keys_count p n) Shut
opening_picture p n w Awaiting = looks (Claimed w) Begun 1 (keys_count p n) Shut
opening_picture p n w (Admitting c) = looks (Claimed w) Begun 1 (keys_count p n) (Runs w c)
opening_picture p n w Guarding = looks (Claimed w) Begun 1 (keys_count p n) (Runs w (size p.tree))

abbrev pub mark_of : How → Mark
mark_of Gave = Ended
mark_of Kept = Ended
mark_of Skips = Passed

abbrev pub guard_of : How → ℕ
guard_of Gave = 0
guard_of Kept = 1
guard_of Skips = 1

abbrev pub below_of : How → Below
below_of Gave = Past
below_of Kept = Shut
below_of Skips = Shut

-- of a worker that ends node n, which c claimed
abbrev pub closing_picture : PlanParts → ℕ → ℕ → Closing → How → Picture
closing_picture p n c AwaitingAfter how = looks (Claimed c) Begun (guard_of how) (keys_count p n) (below_of how)
closing_picture p n c (Ending status) how = looks (Claimed c) Begun (guard_of how) (keys_count p n) (below_of how)
closing_picture p n c (FinishedAt i status) how = looks (Claimed c) (mark_of how) (guard_of how) (keys_count p n) (below_of how)
closing_picture p n c (SkippedAt i) how = looks (Claimed c) (mark_of how) (guard_of how) 0 (below_of how)
closing_picture p n c Raising how = looks (Claimed c) (mark_of how) (guard_of how) (keys_count p n) (below_of how)
closing_picture p n c (Giving i) how = looks (Claimed c) (mark_of how) (guard_of how) i (below_of how)
closing_picture p n c Settling how = looks (Claimed c) (mark_of how) (guard_of how) 0 (below_of how)
closing_picture p n c (Looking m) how = looks Settled (mark_of how) (guard_of how) 0 (below_of how)
closing_picture p n c (Passing m o) how = looks Settled (mark_of how) (guard_of how) 0 (below_of how)
closing_picture p n c CountingOff how = looks Settled (mark_of how) (guard_of how) 0 (below_of how)

abbrev pub picture : PlanParts → ℕ → Stage → Picture
picture p n Unseen = looks Hidden Blank 1 0 Shut
picture p n (Offered o) = looks (Ready o) Known 1 0 Shut
picture p n (OpenedBy w d) = opening_picture p n w d
picture p n (InHand w) = looks (Claimed w) Begun 1 (keys_count p n) (Runs w (size p.tree))
picture p n (Waiting c result) = looks (Claimed c) Begun 0 (keys_count p n) (Runs c (size p.tree))
picture p n (ClosedBy w c d how) = closing_picture p n c d how
picture p n (Over how) = looks Settled (mark_of how) (guard_of how) 0 (below_of how)

-- whether an event of this kind is drawn for a node
abbrev pub has_mark : (spare : Bool) → EventKind → Mark → Bool
has_mark spare Started Begun = true
has_mark spare Started Ended = true
has_mark spare Started _ = false
has_mark spare Finished Ended = true
has_mark spare Finished _ = false
has_mark spare Skipped Passed = true
has_mark spare Skipped _ = false
has_mark spare Registered Blank = false
has_mark spare Registered _ = spare

-- who runs the node's children
abbrev pub runner_of : Below → Option ℕ
runner_of (Runs c from) = Some c
runner_of _ = None

-- who started the node, until it finishes: it is who claimed it
abbrev pub claimer_by : NodeStatus → Option ℕ
claimer_by (Claimed c) = Some c
claimer_by _ = None

abbrev pub starter_by : Mark → NodeStatus → Option ℕ
starter_by Begun word = claimer_by word
starter_by _ word = None

abbrev pub starter_of : Picture → Option ℕ
starter_of look = starter_by look.mark look.word

-- the worker that is at the node, or has it in hand
abbrev pub who : Stage → Option ℕ
who (OpenedBy w d) = Some w
who (InHand w) = Some w
who (ClosedBy w c d how) = Some w
who _ = None

abbrev pub is_unseen : Stage → Bool
is_unseen Unseen = true
is_unseen _ = false

-- whether the node is neither unseen nor counted off
abbrev pub is_live : Stage → Bool
is_live Unseen = false
is_live (Over how) = false
is_live _ = true

-- whether it is still to be counted off at its parent: a spare only where it was seen
abbrev pub is_pending : (spare : Bool) → Stage → Bool
is_pending spare Unseen = not spare
is_pending spare (Over how) = false
is_pending spare _ = true

-- whether it is settled
abbrev pub closing_past : Closing → Bool
closing_past (Looking m) = true
closing_past (Passing m o) = true
closing_past CountingOff = true
closing_past _ = false

-- whether it is settled, and has passed the turn on to its next sibling
abbrev pub closing_passed : Closing → Bool
closing_passed CountingOff = true
closing_passed _ = false

abbrev pub is_past : Stage → Bool
is_past (ClosedBy w c d how) = closing_passed d
is_past (Over how) = true
is_past _ = false

-- whether it was offered and is not settled
abbrev pub opening_offered : Opening → Bool
opening_offered Registering = false
opening_offered (RegisteredAt i) = false
opening_offered Offering = false
opening_offered _ = true

abbrev pub is_unsettled : Stage → Bool
is_unsettled Unseen = false
is_unsettled (Offered o) = true
is_unsettled (OpenedBy w d) = opening_offered d
is_unsettled (InHand w) = true
is_unsettled (Waiting c result) = true
is_unsettled (ClosedBy w c d how) = not (closing_past d)
is_unsettled (Over how) = false

-- whether the stage of a SAME_THREAD child is one that its parent's claimer o brought about
abbrev pub is_offer_to : ℕ → Option ℕ → Bool
is_offer_to o None = false
is_offer_to o (Some w) = w == o

abbrev pub passes_to : ℕ → Closing → Bool
passes_to o (Passing m w) = w == o
passes_to o _ = true

abbrev pub is_owned : ℕ → Stage → Bool
is_owned o (Offered to) = is_offer_to o to
is_owned o (OpenedBy w d) = w == o
is_owned o (InHand w) = w == o
is_owned o (ClosedBy w c d how) = passes_to o d
is_owned o _ = true

-- whether a child is counted off, or is a spare that was never seen
abbrev pub is_over : (spare : Bool) → Stage → Bool
is_over spare Unseen = spare
is_over spare (Over how) = true
is_over spare _ = false

-- whether the task is a failure that is not raised yet, and whether it leads to a start with no further look
abbrev pub raises : Task → Bool
raises (Closes n (FinishedAt i status)) = is_failed_or (Some status)
raises (Closes n Raising) = true
raises _ = false

abbrev pub is_bold : Task → Bool
is_bold (Opens n (Locking i)) = true
is_bold (Opens n (Weighed i word)) = true
is_bold (Opens n (Backing i)) = true
is_bold (Opens n (Beginning false)) = true
is_bold _ = false

-- whether the task brings a spare in
abbrev pub brings : Opening → Bool
brings Registering = true
brings (RegisteredAt i) = true
brings Offering = true
brings _ = false
