-- What is due of a worker's task, and what the seat is once that is done. How a runner keeps its state is not told here.
use Rattle.std.specs.Prelude.{◌≡◌, ℕ, suc, Bool, true, false, cond, [], Option, Some, None}
use Rattle.plan_events.specs.declared.event.Event.{Event}
use Rattle.plan_events.specs.declared.event.EventKind.TheVariants.{Started, Finished, Skipped, Registered}
use Rattle.plan_events.specs.declared.outcome.Reply.{Reply}
use Rattle.plan_events.specs.declared.status.Status.{Status}
use Rattle.plan_events.specs.declared.status.Status.TheVariants.{Successful}
use Rattle.resource_locks.specs.Plans.{PlanParts}
use Rattle.scheduling.specs.declared.answer.Answer.{Answer}
use Rattle.scheduling.specs.declared.task.Opening.TheVariants.{Registering, RegisteredAt, Offering, Locking, Backing, Beginning, StartedAt, Admitting, Guarding}
use Rattle.scheduling.specs.declared.task.Closing.TheVariants.{Ending, FinishedAt, SkippedAt, Giving, Settling, Passing, CountingOff}
use Rattle.scheduling.specs.declared.task.Task.{Task}
use Rattle.scheduling.specs.declared.task.Task.TheVariants.{Opens, Closes, Free}
use Rattle.scheduling.specs.declared.seat.Hand.{Hand}
use Rattle.scheduling.specs.declared.seat.Seat.{Seat}
use Rattle.scheduling.specs.Answers.{reply_by}
use Rattle.scheduling.specs.Choices.{lock_from, claims, giving, admit_from, after_settle, offered_to, after_finish, is_pulled, pulled_result, next_spare, event_of}
use Rattle.scheduling.specs.Rows.{with_task, ends_or_free, after_start, one_more, waits_for, waits_no_more}

-- a task, and what is in hand
abbrev pub seated : Task → Option Hand → Seat
seated task hand = record { task = task; hand = hand }

-- once the seat has claimed a node
abbrev pub claimed_seat : PlanParts → Seat → ℕ → Seat
claimed_seat p seat n = with_task seat (Opens n (claims p n))

-- the event that the task of worker w draws, and the seat once it stands at a place
abbrev pub event_due : ℕ → Task → Option Event
event_due w (Opens n Registering) = Some (event_of Registered n None w)
event_due w (Opens n (Beginning true)) = Some (event_of Skipped n None w)
event_due w (Opens n (Beginning false)) = Some (event_of Started n None w)
event_due w (Closes n (Ending status)) = Some (event_of Finished n (Some status) w)
event_due w _ = None

abbrev pub drawn_seat : ℕ → Seat → Task → Seat
drawn_seat place seat (Opens n Registering) = record { task = Opens n (RegisteredAt place); hand = one_more seat.hand }
drawn_seat place seat (Opens n (Beginning true)) = with_task seat (Closes n (SkippedAt place))
drawn_seat place seat (Opens n (Beginning false)) = with_task seat (Opens n (StartedAt place))
drawn_seat place seat (Closes n (Ending status)) = with_task seat (Closes n (FinishedAt place status))
drawn_seat place seat _ = seat

-- the seat once what it drew is shown
abbrev pub shown_seat : PlanParts → Seat → Task → Seat
shown_seat p seat (Opens n (RegisteredAt i)) = with_task seat (Opens n Offering)
shown_seat p seat (Opens n (StartedAt i)) = after_start p seat n
shown_seat p seat (Closes n (SkippedAt i)) = with_task seat (Closes n Settling)
shown_seat p seat (Closes n (FinishedAt i status)) = with_task seat (Closes n (after_finish p n status))
shown_seat p seat _ = seat

-- A node that is offered, to any or to the worker at a place.
pub record Offer : Type 0 where
  pub node : ℕ
  pub to : Option ℕ

abbrev pub offer_to : ℕ → Option ℕ → Offer
offer_to node to = record { node = node; to = to }

-- the one that the task of worker w offers, and the seat after that
abbrev pub offer_due : PlanParts → ℕ → Task → Option Offer
offer_due p w (Opens n (Admitting c)) = Some (record { node = c; to = offered_to p w c })
offer_due p w (Opens c Offering) = Some (record { node = c; to = offered_to p w c })
offer_due p w (Closes n (Passing m o)) = Some (record { node = m; to = Some o })
offer_due p w _ = None

abbrev pub admitted_seat : PlanParts → Seat → Task → Seat
admitted_seat p seat (Opens n (Admitting c)) = with_task seat (Opens n (admit_from p n (suc c)))
admitted_seat p seat (Opens c Offering) = record { task = Free; hand = waits_for p c seat.hand }
admitted_seat p seat (Closes n (Passing m o)) = with_task seat (Closes n CountingOff)
admitted_seat p seat _ = seat

-- the seat once its node is settled
abbrev pub settled_seat : PlanParts → Seat → ℕ → Seat
settled_seat p seat n = record { task = after_settle p n; hand = waits_no_more n seat.hand }

-- the seat once it has tried to take a key
abbrev pub tried_task : PlanParts → ℕ → ℕ → Bool → Task
tried_task p n i hit = Opens n (cond hit (lock_from p n (suc i)) (Locking i))

-- A key that is given back: at this place of those of this node.
pub record Back : Type 0 where
  pub node : ℕ
  pub place : ℕ

abbrev pub back_at : (node place : ℕ) → Back
back_at node place = record { node = node; place = place }

-- the one that the task gives back, and the seat after that
abbrev pub back_due : Task → Option Back
back_due (Opens n (Backing (suc i))) = Some (record { node = n; place = i })
back_due (Closes n (Giving (suc i))) = Some (record { node = n; place = i })
back_due _ = None

abbrev pub given_seat : Seat → Task → Seat
given_seat seat (Opens n (Backing (suc i))) = with_task seat (Opens n (Backing i))
given_seat seat (Closes n (Giving (suc i))) = with_task seat (Closes n (giving i))
given_seat seat _ = seat

-- A guard that is given up: of this node, which then has this result, and what is in hand after that.
pub record Guard : Type 0 where
  pub node : ℕ
  pub result : Status
  pub hand : Option Hand

abbrev pub guard_to : ℕ → Status → Option Hand → Guard
guard_to node result hand = record { node = node; result = result; hand = hand }

-- that of the factory in hand, where it waits for no spare and is pulled
abbrev pub pulled_guard : PlanParts → ℕ → ℕ → Option ℕ → Reply → Option Guard
pulled_guard p f k (Some c) reply = None
pulled_guard p f k None reply = cond (is_pulled p f k reply) (Some (record { node = f; result = pulled_result k reply; hand = None })) None

abbrev pub hand_guard : PlanParts → Option Hand → Option Reply → Option Guard
hand_guard p None answer = None
hand_guard p (Some hand) None = None
hand_guard p (Some hand) (Some reply) = pulled_guard p hand.factory hand.registered hand.waiting reply

-- the one that the task gives up: the node's own where its children are all offered, or that of the factory in hand
abbrev pub guard_due : PlanParts → Option Reply → Seat → Task → Option Guard
guard_due p answer seat (Opens n Guarding) = Some (record { node = n; result = Successful; hand = seat.hand })
guard_due p answer seat Free = hand_guard p seat.hand answer
guard_due p answer seat _ = None

-- the seat after that, by what was outstanding: whoever takes the last one off ends the node
abbrev pub ended_seat : PlanParts → Guard → ℕ → Seat
ended_seat p g outstanding = record { task = ends_or_free p g.node g.result outstanding; hand = g.hand }

-- the dynamic test n that is registered next: a free task has this factory in hand, which waits for none
abbrev pub IsChildDue : PlanParts → Task → Option Hand → Hand → ℕ → Type 0
IsChildDue p task hand h n = (task ≡ Free) × (hand ≡ Some h) × (h.waiting ≡ None) × (next_spare p h.factory h.registered ≡ Some n)

-- a reply of which a step knows this, if there is one
abbrev pub reply_in : Option Answer → Option Reply
reply_in None = None
reply_in (Some answer) = Some (reply_by answer)

-- Where no job is awaited, no reply is asked for: this one stands for it.
abbrev pub unasked : Reply
unasked = record { pulls = 0; outcome = record { status = Successful; text = [] } }
