-- What each step makes of the state: None where it is not enabled. One definition a step, by the worker's task.
use Rattle.std.specs.Prelude.{ℕ, zero, suc, ◌+◌, ◌-◌, Bool, true, false, ◌&&◌, ◌==◌, nat_lt, cond, List, [], ◌∷◌, ◌++◌, length, Option, Some, None, slice_get, slice_set, slice_index_or, option_and_then}
use Rattle.descriptor.specs.Nodes.{parent_of, is_child}
use Rattle.plan_events.specs.declared.status.Status.{Status}
use Rattle.plan_events.specs.declared.status.Status.TheVariants.{Successful}
use Rattle.plan_events.specs.declared.outcome.Reply.{Reply}
use Rattle.plan_events.specs.declared.event.Event.{Event}
use Rattle.plan_events.specs.declared.event.EventKind.TheVariants.{Started, Finished, Skipped, Registered}
use Rattle.resource_locks.specs.Plans.{PlanParts}
use Rattle.event_history.specs.Plans.{is_same, pulls_job}
use Rattle.scheduling.specs.declared.status.NodeStatus.{NodeStatus}
use Rattle.scheduling.specs.declared.status.NodeStatus.TheVariants.{Ready, Claimed, Settled}
use Rattle.scheduling.specs.declared.lock_word.LockWord.{LockWord}
use Rattle.scheduling.specs.declared.task.Opening.{Opening}
use Rattle.scheduling.specs.declared.task.Opening.TheVariants.{Registering, RegisteredAt, Offering, Noticing, Locking, Weighed, Backing, Beginning, StartedAt, Awaiting, Admitting, Guarding}
use Rattle.scheduling.specs.declared.task.Closing.TheVariants.{Ending, FinishedAt, SkippedAt, Raising, Giving, Settling, Looking, Passing, CountingOff}
use Rattle.scheduling.specs.declared.task.Task.{Task}
use Rattle.scheduling.specs.declared.task.Task.TheVariants.{Free, Opens, Closes}
use Rattle.scheduling.specs.declared.seat.Hand.{Hand}
use Rattle.scheduling.specs.declared.seat.Seat.{Seat}
use Rattle.scheduling.specs.declared.step.Action.{Action}
use Rattle.scheduling.specs.declared.step.Action.TheVariants.{Claim, Own, Notice, Weigh, Take, Give, GiveUp, Draw, Show, Admit, AddChild, Done, Settle, Look, Raise}
use Rattle.scheduling.specs.State.{State, status_at, counter_at, result_at, lock_at}
use Rattle.scheduling.specs.Choices.{next_spare, admit_from, after_settle, offered_to, key_at, mode_at, admits_at, taken, given_back, same_word, keys_count, lock_from, begins, claims, giving, after_finish, decided, ending, is_pulled, pulled_result, event_of}

-- the worker's next task
abbrev pub with_task : Seat → Task → Seat
with_task seat t = record seat { task = t }

abbrev pub goes_to : State → ℕ → Seat → List Seat
goes_to s w seat = slice_set s.seats w seat

-- claim, own
abbrev pub is_free : Task → Bool
is_free Free = true
is_free _ = false

abbrev pub same_offer : Option ℕ → Option ℕ → Bool
same_offer None None = true
same_offer (Some a) (Some b) = a == b
same_offer _ _ = false

abbrev pub is_ready_for : Option ℕ → NodeStatus → Bool
is_ready_for o (Ready to) = same_offer to o
is_ready_for o _ = false

abbrev pub is_empty : Option Hand → Bool
is_empty None = true
is_empty (Some hand) = false

-- whether the node is a spare of the factory in hand, if there is one
abbrev pub is_of_hand : PlanParts → Option Hand → ℕ → Bool
is_of_hand p None n = true
is_of_hand p (Some hand) n = is_child p.tree hand.factory n

abbrev pub claimed : PlanParts → State → ℕ → Seat → ℕ → State
claimed p s w seat n = record s { statuses = slice_set s.statuses n (Claimed w); seats = goes_to s w (with_task seat (Opens n (claims p n))) }

abbrev pub claim_row : PlanParts → State → ℕ → Seat → ℕ → Option State
claim_row p s w seat n = cond (is_free seat.task && (is_empty seat.hand && is_ready_for None (status_at s n))) (Some (claimed p s w seat n)) None

abbrev pub own_row : PlanParts → State → ℕ → Seat → ℕ → Option State
own_row p s w seat n = cond (is_free seat.task && (is_of_hand p seat.hand n && is_ready_for (Some w) (status_at s n))) (Some (claimed p s w seat n)) None

-- notice, raise: whether more failures were raised than are tolerated
abbrev pub is_cancelled : PlanParts → State → Bool
is_cancelled p s = nat_lt p.tolerated s.cancel

abbrev pub goes : State → ℕ → Seat → Task → State
goes s w seat t = record s { seats = goes_to s w (with_task seat t) }

abbrev pub notice_row : PlanParts → State → ℕ → Seat → Task → Option State
notice_row p s w seat (Opens n Noticing) = Some (goes s w seat (Opens n (begins p n (is_cancelled p s))))
notice_row p s w seat _ = None

abbrev pub raised : PlanParts → State → ℕ → Seat → ℕ → State
raised p s w seat n = record s { cancel = s.cancel + 1; seats = goes_to s w (with_task seat (Closes n (giving (keys_count p n)))) }

abbrev pub raise_row : PlanParts → State → ℕ → Seat → Task → Option State
raise_row p s w seat (Closes n Raising) = Some (raised p s w seat n)
raise_row p s w seat _ = None

-- weigh, take, give, give_up
abbrev pub weighed : PlanParts → ℕ → ℕ → LockWord → Opening
weighed p n i word = cond (admits_at p n i word) (Weighed i word) (Backing i)

abbrev pub weigh_row : PlanParts → State → ℕ → Seat → Task → Option State
weigh_row p s w seat (Opens n (Locking i)) = Some (goes s w seat (Opens n (weighed p n i (lock_at s (key_at p n i)))))
weigh_row p s w seat _ = None

-- a key's word changes, and the worker goes on
abbrev pub puts_word : State → ℕ → Seat → Task → ℕ → LockWord → State
puts_word s w seat t k word = record s { locks = slice_set s.locks k word; seats = goes_to s w (with_task seat t) }

abbrev pub take_found : PlanParts → State → ℕ → Seat → ℕ → ℕ → LockWord → Option LockWord → Option State
take_found p s w seat n i v None = None
take_found p s w seat n i v (Some word) =
    cond (same_word word v) (Some (puts_word s w seat (Opens n (lock_from p n (suc i))) (key_at p n i) (taken (mode_at p n i) word))) (Some (goes s w seat (Opens n (Locking i))))

abbrev pub take_row : PlanParts → State → ℕ → Seat → Task → Option State
take_row p s w seat (Opens n (Weighed i v)) = take_found p s w seat n i v (slice_get s.locks (key_at p n i))
take_row p s w seat _ = None

-- the key at place i of those of n is given back
abbrev pub gives_key : PlanParts → State → ℕ → Seat → Task → ℕ → ℕ → Option LockWord → Option State
gives_key p s w seat t n i None = None
gives_key p s w seat t n i (Some word) = Some (puts_word s w seat t (key_at p n i) (given_back (mode_at p n i) word))

abbrev pub give_row : PlanParts → State → ℕ → Seat → Task → Option State
give_row p s w seat (Opens n (Backing (suc i))) = gives_key p s w seat (Opens n (Backing i)) n i (slice_get s.locks (key_at p n i))
give_row p s w seat (Closes n (Giving (suc i))) = gives_key p s w seat (Closes n (giving i)) n i (slice_get s.locks (key_at p n i))
give_row p s w seat _ = None

-- node 0 has no parent, and is offered to any
abbrev pub back_to : PlanParts → ℕ → ℕ → Option ℕ
back_to p w zero = None
back_to p w (suc n) = offered_to p w (suc n)

abbrev pub given_up : PlanParts → State → ℕ → Seat → ℕ → State
given_up p s w seat n = record s { statuses = slice_set s.statuses n (Ready (back_to p w n)); seats = goes_to s w (with_task seat Free) }

abbrev pub give_up_row : PlanParts → State → ℕ → Seat → Task → Option State
give_up_row p s w seat (Opens n (Backing zero)) = Some (given_up p s w seat n)
give_up_row p s w seat _ = None

-- draw: the event stands at the next place, not shown yet
abbrev pub drawn : State → ℕ → Event → Seat → State
drawn s w e seat = record s { published = s.published ++ e ∷ []; shown = s.shown ++ false ∷ []; seats = goes_to s w seat }

abbrev pub one_more : Option Hand → Option Hand
one_more None = None
one_more (Some hand) = Some (record hand { registered = hand.registered + 1 })

abbrev pub draw_row : State → ℕ → Seat → Task → Option State
draw_row s w seat (Opens n Registering) = Some (drawn s w (event_of Registered n None w) (record { task = Opens n (RegisteredAt (length s.published)); hand = one_more seat.hand }))
draw_row s w seat (Opens n (Beginning true)) = Some (drawn s w (event_of Skipped n None w) (with_task seat (Closes n (SkippedAt (length s.published)))))
draw_row s w seat (Opens n (Beginning false)) = Some (drawn s w (event_of Started n None w) (with_task seat (Opens n (StartedAt (length s.published)))))
draw_row s w seat (Closes n (Ending status)) = Some (drawn s w (event_of Finished n (Some status) w) (with_task seat (Closes n (FinishedAt (length s.published) status))))
draw_row s w seat _ = None

-- show: what was drawn is shown, and the worker goes on; a factory with a job is taken in hand
abbrev pub shows : State → ℕ → Seat → ℕ → State
shows s w seat i = record s { shown = slice_set s.shown i true; seats = goes_to s w seat }

abbrev pub after_start : PlanParts → Seat → ℕ → Seat
after_start p seat n = cond (pulls_job p n) (record { task = Free; hand = Some (record { factory = n; registered = 0; waiting = None }) }) (with_task seat (Opens n Awaiting))

abbrev pub show_row : PlanParts → State → ℕ → Seat → Task → Option State
show_row p s w seat (Opens n (RegisteredAt i)) = Some (shows s w (with_task seat (Opens n Offering)) i)
show_row p s w seat (Opens n (StartedAt i)) = Some (shows s w (after_start p seat n) i)
show_row p s w seat (Closes n (SkippedAt i)) = Some (shows s w (with_task seat (Closes n Settling)) i)
show_row p s w seat (Closes n (FinishedAt i status)) = Some (shows s w (with_task seat (Closes n (after_finish p n status))) i)
show_row p s w seat _ = None

-- admit: a node is offered
abbrev pub offers : State → ℕ → Seat → ℕ → Option ℕ → State
offers s w seat c o = record s { statuses = slice_set s.statuses c (Ready o); seats = goes_to s w seat }

abbrev pub waits_for : PlanParts → ℕ → Option Hand → Option Hand
waits_for p c None = None
waits_for p c (Some hand) = Some (record hand { waiting = cond (is_same p c) (Some c) hand.waiting })

abbrev pub admit_row : PlanParts → State → ℕ → Seat → Task → Option State
admit_row p s w seat (Opens n (Admitting c)) = Some (offers s w (with_task seat (Opens n (admit_from p n (suc c)))) c (offered_to p w c))
admit_row p s w seat (Opens c Offering) = Some (offers s w (record { task = Free; hand = waits_for p c seat.hand }) c (offered_to p w c))
admit_row p s w seat (Closes n (Passing m o)) = Some (offers s w (with_task seat (Closes n CountingOff)) m (Some o))
admit_row p s w seat _ = None

-- add_child: the factory's next spare is to be registered
abbrev pub child_added : State → ℕ → Seat → ℕ → Option ℕ → Option State
child_added s w seat f None = None
child_added s w seat f (Some c) = Some (record s { counters = slice_set s.counters f (counter_at s f + 1); seats = goes_to s w (with_task seat (Opens c Registering)) })

abbrev pub add_by_hand : PlanParts → State → ℕ → Seat → Reply → ℕ → ℕ → Option ℕ → Option State
add_by_hand p s w seat reply f k (Some c) = None
add_by_hand p s w seat reply f k None = cond (nat_lt k reply.pulls) (child_added s w seat f (next_spare p f k)) None

abbrev pub add_child_hand : PlanParts → State → ℕ → Seat → Reply → Option Hand → Option State
add_child_hand p s w seat reply None = None
add_child_hand p s w seat reply (Some hand) = add_by_hand p s w seat reply hand.factory hand.registered hand.waiting

abbrev pub add_child_row : PlanParts → State → ℕ → Seat → Reply → Task → Option State
add_child_row p s w seat reply Free = add_child_hand p s w seat reply seat.hand
add_child_row p s w seat reply _ = None

-- done: node n has one thing less outstanding; whoever takes the last one off ends it
abbrev pub ends_or_free : PlanParts → ℕ → Status → ℕ → Task
ends_or_free p n result outstanding = cond (outstanding == 1) (Closes n (ending p n result)) Free

abbrev pub guard_given : PlanParts → State → ℕ → Option Hand → ℕ → Status → State
guard_given p s w hand n result = record s {
  counters = slice_set s.counters n (counter_at s n - 1);
  results = slice_set s.results n result;
  seats = goes_to s w (record { task = ends_or_free p n result (counter_at s n); hand = hand });
}

abbrev pub counted_off : PlanParts → State → ℕ → Seat → ℕ → State
counted_off p s w seat a = record s { counters = slice_set s.counters a (counter_at s a - 1); seats = goes_to s w (with_task seat (ends_or_free p a (result_at s a) (counter_at s a))) }

abbrev pub done_by_hand : PlanParts → State → ℕ → Reply → ℕ → ℕ → Option ℕ → Option State
done_by_hand p s w reply f k (Some c) = None
done_by_hand p s w reply f k None = cond (is_pulled p f k reply) (Some (guard_given p s w None f (pulled_result k reply))) None

abbrev pub done_hand : PlanParts → State → ℕ → Reply → Option Hand → Option State
done_hand p s w reply None = None
done_hand p s w reply (Some hand) = done_by_hand p s w reply hand.factory hand.registered hand.waiting

abbrev pub done_row : PlanParts → State → ℕ → Seat → Reply → Task → Option State
done_row p s w seat reply (Opens n Guarding) = Some (guard_given p s w seat.hand n Successful)
done_row p s w seat reply (Closes c CountingOff) = Some (counted_off p s w seat (parent_of p.tree c))
done_row p s w seat reply Free = done_hand p s w reply seat.hand
done_row p s w seat reply _ = None

-- settle: the node is settled, and no factory waits for it any more
abbrev pub waited_out : ℕ → Option ℕ → Option ℕ
waited_out n None = None
waited_out n (Some c) = cond (c == n) None (Some c)

abbrev pub waits_no_more : ℕ → Option Hand → Option Hand
waits_no_more n None = None
waits_no_more n (Some hand) = Some (record hand { waiting = waited_out n hand.waiting })

abbrev pub settle_row : PlanParts → State → ℕ → Seat → Task → Option State
settle_row p s w seat (Closes n Settling) = Some (record s { statuses = slice_set s.statuses n Settled; seats = goes_to s w (record { task = after_settle p n; hand = waits_no_more n seat.hand }) })
settle_row p s w seat _ = None

-- look: who claimed the parent takes the next sibling; a free worker finds nothing to do
abbrev pub look_found : State → ℕ → Seat → ℕ → ℕ → NodeStatus → Option State
look_found s w seat n m (Claimed o) = Some (goes s w seat (Closes n (Passing m o)))
look_found s w seat n m _ = None

abbrev pub look_row : PlanParts → State → ℕ → Seat → Task → Option State
look_row p s w seat (Closes n (Looking m)) = look_found s w seat n m (status_at s (parent_of p.tree n))
look_row p s w seat Free = Some s
look_row p s w seat _ = None

-- the step of the worker at place w, whose task the reply has decided
abbrev pub row : PlanParts → State → ℕ → Seat → Reply → Action → Option State
row p s w seat reply (Claim n) = claim_row p s w seat n
row p s w seat reply (Own n) = own_row p s w seat n
row p s w seat reply Notice = notice_row p s w seat seat.task
row p s w seat reply Weigh = weigh_row p s w seat seat.task
row p s w seat reply Take = take_row p s w seat seat.task
row p s w seat reply Give = give_row p s w seat seat.task
row p s w seat reply GiveUp = give_up_row p s w seat seat.task
row p s w seat reply Draw = draw_row s w seat seat.task
row p s w seat reply Show = show_row p s w seat seat.task
row p s w seat reply Admit = admit_row p s w seat seat.task
row p s w seat reply AddChild = add_child_row p s w seat reply seat.task
row p s w seat reply Done = done_row p s w seat reply seat.task
row p s w seat reply Settle = settle_row p s w seat seat.task
row p s w seat reply Look = look_row p s w seat seat.task
row p s w seat reply Raise = raise_row p s w seat seat.task

-- read: the dispatcher gives the next event, where it is shown
abbrev pub read_event : State → Bool → Option Event → Option State
read_event s true (Some e) = Some (record s { given = s.given ++ e ∷ [] })
read_event s _ _ = None

abbrev pub read_row : State → Option State
read_row s = read_event s (slice_index_or s.shown (length s.given) false) (slice_get s.published (length s.given))

-- a step of a worker, with the reply that its task awaits; or of the dispatcher
pub data Step : Type 0 where
  Works : (w : ℕ) → Action → Reply → Step
  Dispatches : Step

-- the reply decides the task, and then the row says what the step makes
abbrev pub decided_seat : PlanParts → Reply → Seat → Seat
decided_seat p reply seat = with_task seat (decided p reply seat.task)

abbrev pub after_seat : PlanParts → State → ℕ → Action → Reply → Seat → Option State
after_seat p s w a reply seat = row p (record s { seats = goes_to s w (decided_seat p reply seat) }) w (decided_seat p reply seat) reply a

abbrev pub after : PlanParts → State → Step → Option State
after p s (Works w a reply) = option_and_then (after_seat p s w a reply) (slice_get s.seats w)
after p s Dispatches = read_row s
