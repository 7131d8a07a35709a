-- A moment of a run, at which the dispatcher reads or a worker looks: how the table stands then, and what is known of it.
use Rattle.std.specs.Prelude.{◌≡◌, ℕ, ◌+◌, ◌<◌, max, nat_lt, Bool, List, [], get_or}
use mathlib.Core.Option.{some}
use lib.ListN.{get_elem?}
use Rattle.atomic_table.specs.Table.{State as TableState, Me, Step}
use Rattle.plan_events.specs.declared.event.Event.{Event}
use Rattle.plan_events.specs.declared.outcome.Reply.{Reply}
use Rattle.resource_locks.specs.Declarations.{declared_of}
use Rattle.resource_locks.specs.Hoisted.{IsGuarded}
use Rattle.resource_locks.specs.Plans.{PlanParts}
use Rattle.event_history.specs.Apart.{IsApart}
use Rattle.event_history.specs.History.{IsLegal}
use Rattle.scheduling.specs.Runs.{opening, IsRight}
use Rattle.scheduling.specs.declared.status.NodeStatus.{NodeStatus}
use Rattle.scheduling.specs.State.{State, status_at}
use Rattle.table_rule.specs.declared.view.About.{About}
use Rattle.table_rule.specs.declared.view.DispatcherFacts.{DispatcherFacts}
use Rattle.table_rule.specs.declared.view.SeatOwner.TheVariants.{Worker, Dispatcher}
use Rattle.table_rule.specs.declared.view.Slot.{Slot}
use Rattle.table_rule.specs.declared.view.View.{View}
use Rattle.table_rule.specs.declared.view.WorkerFacts.{WorkerFacts}
use Rattle.table_rule.specs.Endings.{IsNotStuckWithin}
use Rattle.table_rule.specs.Picture.{Dealt, AreAmong, AnswerOnce, IsPictureOf, replies_of}
use Rattle.table_rule.specs.Plays.{dispatcher}
use Rattle.table_rule.specs.Published.{IsTold}
use Rattle.table_rule.specs.Reached.{IsReached}
use Rattle.table_rule.specs.Slots.{slot_count, fresh}

-- Where the plan holds for its nodes what they declare, as every hoisted plan does, nodes never overlap that declared locks or isolation
-- keep apart.
abbrev pub KeepsApart : PlanParts → List Event → Type 0
KeepsApart p events = IsGuarded (declared_of p.tree) p → IsApart p events

module _ {B : Type 0} where
  -- The table is the picture of a state of the core, in which just this is given. What is published there is right, by the replies that
  -- the jobs may give, and keeps declared locks and isolation apart; what is read is legal, and a beginning of it, and what comes behind
  -- stands in the ring or with the worker that has drawn it; and from there the run can still end, with a ring of so many words, by
  -- steps of the dispatcher and of the workers that have been dealt a seat, so many; of the first one, where none has.
  pub record IsMoment (replies : ℕ → List Reply) (key : About B) (seats : ℕ) (read : List Event) : Type 0 where
    pub table : TableState (Slot B) (View B)
    pub core : State
    pub dealt : Dealt
    -- what the jobs have answered so far, each once at most
    pub told : ℕ → List Reply
    pub among : AreAmong told replies
    pub once : AnswerOnce told
    pub is : IsPictureOf told key core dealt table
    pub reached : IsReached key.plan key.workers told core
    pub given : core.given ≡ read
    pub right : IsRight key.plan replies key.workers core
    pub apart : KeepsApart key.plan core.published
    pub shown : IsTold key.plan key.ring core.seats table.words read core.published
    pub legal : IsLegal key.plan replies key.workers read
    pub many : dealt.many ≡ seats
    pub not_stuck : IsNotStuckWithin key.plan key.ring (max 1 seats) told core

  -- The start of a run: nothing is read, the state is the opening one, and each job stands in the slot of its body.
  pub record IsStart (replies : ℕ → List Reply) (key : About B) : Type 0 where
    pub moment : IsMoment replies key 0 []
    pub opens : moment.core ≡ opening key.plan key.workers
    pub jobs : (k : ℕ) → k < slot_count key.plan → get_elem? moment.table.homes k ≡ some (some (fresh key k))

  -- of what the dispatcher has read whose view this is
  abbrev pub IsMomentOf : (B → List Reply) → View B → Type 0
  IsMomentOf answers v = (d : DispatcherFacts) → v.owner ≡ Dispatcher d → IsMoment (replies_of answers v.about) v.about d.dealt d.read

  abbrev pub IsMomentAt : (B → List Reply) → View B → Type 0
  IsMomentAt answers v = IsMoment (replies_of answers v.about) v.about (dispatcher v).dealt (dispatcher v).read

  -- a step that tells this, and how the table stands after it
  abbrev pub at_moment : (B → List Reply) → (Step (Slot B) → Me (Slot B) (View B) → ℕ → Me (Slot B) (View B) → Type 0) → Step (Slot B) → Me (Slot B) (View B) → ℕ → Me (Slot B) (View B) → Type 0
  at_moment answers tells st m r n = tells st m r n × IsMomentOf answers n.0

  -- A moment at which a seat with this view is at the table: then the table is the picture of a state of the core.
  pub record IsSight (replies : ℕ → List Reply) (key : About B) (v : View B) : Type 0 where
    pub table : TableState (Slot B) (View B)
    pub core : State
    pub dealt : Dealt
    pub told : ℕ → List Reply
    pub among : AreAmong told replies
    pub once : AnswerOnce told
    pub is : IsPictureOf told key core dealt table
    pub reached : IsReached key.plan key.workers told core
    pub id : ℕ
    pub here : get_elem? table.views id ≡ some v

  -- what a worker has found by a look at node n: so it stood in the state of such a moment
  pub record HasFound (answers : B → List Reply) (v : View B) (n : ℕ) (status : NodeStatus) : Type 0 where
    pub sight : IsSight (replies_of answers v.about) v.about v
    pub status_is : status_at sight.core n ≡ status

  -- and by a look for room for place i: whether that was then less than a ring ahead of what the dispatcher had told that it has read
  pub record HasFoundRoom (answers : B → List Reply) (v : View B) (i : ℕ) (room : Bool) : Type 0 where
    pub sight : IsSight (replies_of answers v.about) v.about v
    pub room_is : room ≡ nat_lt i (sight.dealt.ring.count + v.about.ring)

  -- this stood in a word at such a moment, if the view is a worker's
  abbrev pub FindsWord : (B → List Reply) → View B → (i word : ℕ) → Type 0
  FindsWord answers v i word = (w : WorkerFacts) → v.owner ≡ Worker w → (x : IsSight (replies_of answers v.about) v.about v) × (get_or x.table.words i 0 ≡ word)

  -- a look that tells this, and that its word stood so
  abbrev pub at_sight : (B → List Reply) → (Step (Slot B) → Me (Slot B) (View B) → ℕ → Me (Slot B) (View B) → Type 0) → Step (Slot B) → Me (Slot B) (View B) → ℕ → Me (Slot B) (View B) → Type 0
  at_sight answers tells st m r n = tells st m r n × FindsWord answers n.0 st.word r
