-- What the plan decides: the next child, the next sibling, the next spare, the next key, and how a node goes on.
use Rattle.std.specs.Prelude.{ℕ, zero, suc, ◌+◌, ◌-◌, Bool, true, false, ◌&&◌, ◌||◌, ◌==◌, not, nat_lt, cond, List, [], length, Option, Some, None, slice_index_or}
use Rattle.descriptor.specs.declared.lock.Lock.{Lock}
use Rattle.descriptor.specs.declared.lock_mode.LockMode.{LockMode}
use Rattle.descriptor.specs.declared.lock_mode.LockMode.TheVariants.{Read, ReadWrite}
use Rattle.descriptor.specs.Nodes.{size, parent_of, is_child, count_below, is_spare_at, is_disabled, body_of}
use Rattle.plan_events.specs.declared.status.Status.{Status}
use Rattle.plan_events.specs.declared.status.Status.TheVariants.{Successful, Failed}
use Rattle.plan_events.specs.declared.outcome.Reply.{Reply}
use Rattle.plan_events.specs.declared.event.Event.{Event}
use Rattle.plan_events.specs.declared.event.EventKind.{EventKind}
use Rattle.plan_events.specs.Statuses.{is_successful}
use Rattle.event_history.specs.Places.{is_failed_or}
use Rattle.resource_locks.specs.Plans.{number_of, limit_of, PlanParts, held_of}
use Rattle.event_history.specs.Plans.{Sort, Leaf, sort_of, is_same, is_spare_of, spare_count, rank}
use Rattle.event_history.specs.Results.{Jobs, Around, jobs_of}
use Rattle.scheduling.specs.declared.lock_word.LockWord.{LockWord}
use Rattle.scheduling.specs.declared.lock_word.LockWord.TheVariants.{Readers, Written}
use Rattle.scheduling.specs.declared.task.Opening.{Opening}
use Rattle.scheduling.specs.declared.task.Opening.TheVariants.{Locking, Noticing, Beginning, Awaiting, Admitting, Guarding}
use Rattle.scheduling.specs.declared.task.Closing.{Closing}
use Rattle.scheduling.specs.declared.task.Closing.TheVariants.{AwaitingAfter, Ending, Raising, Giving, Settling, Looking, CountingOff}
use Rattle.scheduling.specs.declared.task.Task.{Task}
use Rattle.scheduling.specs.declared.task.Task.TheVariants.{Free, Opens, Closes}
use Rattle.scheduling.specs.declared.seat.Hand.{Hand}
use Rattle.scheduling.specs.declared.seat.Seat.{Seat}

-- the least number from `from` on, among the next `many`, that passes
abbrev pub find : (ℕ → Bool) → (from many : ℕ) → Option ℕ
find q from zero = None
find q from (suc many) = cond (q from) (Some from) (find q (suc from) many)

-- the least one from `from` on and below `size`
abbrev pub first_from : (ℕ → Bool) → (from size : ℕ) → Option ℕ
first_from q from size = find q from (size - from)

-- whether c is a child of n, is no spare, and is CONCURRENT or the first SAME_THREAD child
abbrev pub in_batch : PlanParts → ℕ → ℕ → Bool
in_batch p n c = is_child p.tree n c && (not (is_spare_at p.tree c) && (not (is_same p c) || (count_below (λ d. is_child p.tree n d && is_same p d) c == 0)))

-- whether m is a SAME_THREAD sibling of n, and no spare
abbrev pub is_same_sibling : PlanParts → ℕ → ℕ → Bool
is_same_sibling p n m = is_child p.tree (parent_of p.tree n) m && (is_same p m && not (is_spare_at p.tree m))

-- whether c is the spare of f before which k others stand
abbrev pub is_spare_ranked : PlanParts → ℕ → ℕ → ℕ → Bool
is_spare_ranked p f k c = is_spare_of p f c && (rank p c == k)

abbrev pub next_spare : PlanParts → ℕ → ℕ → Option ℕ
next_spare p f k = first_from (is_spare_ranked p f k) 0 (size p.tree)

-- how n goes on where its children from number `from` on are to be admitted
abbrev pub admit_next : Option ℕ → Opening
admit_next None = Guarding
admit_next (Some c) = Admitting c

abbrev pub admit_from : PlanParts → ℕ → ℕ → Opening
admit_from p n from = admit_next (first_from (in_batch p n) from (size p.tree))

-- how a node that is settled goes on: a SAME_THREAD node that is no spare looks for its next SAME_THREAD sibling
abbrev pub pass_to : Option ℕ → Closing
pass_to None = CountingOff
pass_to (Some m) = Looking m

abbrev pub after_settle : PlanParts → ℕ → Task
after_settle p zero = Free
after_settle p (suc n) = Closes (suc n) (cond (is_same p (suc n) && not (is_spare_at p.tree (suc n))) (pass_to (first_from (is_same_sibling p (suc n)) (suc (suc n)) (size p.tree))) CountingOff)

-- to whom a child is offered by worker w
abbrev pub offered_to : PlanParts → ℕ → ℕ → Option ℕ
offered_to p w c = cond (is_same p c) (Some w) None

-- the key at place i of those that n holds: its place, and the mode
abbrev pub lock_of : PlanParts → ℕ → ℕ → Lock
lock_of p n i = slice_index_or (held_of p n) i (record { key = []; mode = Read })

-- the place of a key among those of the plan
unfoldable pub key_place : PlanParts → List ℕ → ℕ
key_place p key = number_of p.keys key

abbrev pub key_at : PlanParts → ℕ → ℕ → ℕ
key_at p n i = key_place p (lock_of p n i).key

abbrev pub mode_at : PlanParts → ℕ → ℕ → LockMode
mode_at p n i = (lock_of p n i).mode

abbrev pub keys_count : PlanParts → ℕ → ℕ
keys_count p n = length (held_of p n)

-- how many nodes may hold it at once; 0 where that is not limited
abbrev pub limit_at : PlanParts → ℕ → ℕ → ℕ
limit_at p n i = limit_of p (key_at p n i)

-- whether the word lets the key be taken in this mode, where so many may hold it
abbrev pub admits : ℕ → LockMode → LockWord → Bool
admits limit Read (Readers n) = limit == 0 || nat_lt n limit
admits limit Read Written = false
admits limit ReadWrite (Readers n) = n == 0
admits limit ReadWrite Written = false

-- whether it lets node n take the key at place i of those that it holds
abbrev pub admits_at : PlanParts → ℕ → ℕ → LockWord → Bool
admits_at p n i word = admits (limit_at p n i) (mode_at p n i) word

-- the word after the key is taken in this mode, and after it is given back
abbrev pub taken : LockMode → LockWord → LockWord
taken Read (Readers n) = Readers (n + 1)
taken Read Written = Written
taken ReadWrite word = Written

abbrev pub less_one : ℕ → ℕ
less_one zero = zero
less_one (suc n) = n

abbrev pub given_back : LockMode → LockWord → LockWord
given_back Read (Readers n) = Readers (less_one n)
given_back Read Written = Written
given_back ReadWrite word = Readers 0

abbrev pub same_word : LockWord → LockWord → Bool
same_word (Readers a) (Readers b) = a == b
same_word Written Written = true
same_word _ _ = false

-- how a node that is claimed goes on: in a plan that fails fast it is asked first whether the plan is cancelled
abbrev pub lock_from : PlanParts → ℕ → ℕ → Opening
lock_from p n i = cond (nat_lt i (keys_count p n)) (Locking i) (Beginning false)

abbrev pub begins : PlanParts → ℕ → (skip : Bool) → Opening
begins p n skip = cond skip (Beginning true) (lock_from p n 0)

abbrev pub notices : PlanParts → ℕ → Bool
notices p n = p.fail_fast && (nat_lt 0 n && not (is_disabled p.tree n))

abbrev pub claims : PlanParts → ℕ → Opening
claims p n = cond (notices p n) Noticing (begins p n (is_disabled p.tree n))

-- how it goes on where i keys are left to give back
abbrev pub giving : ℕ → Closing
giving zero = Settling
giving (suc i) = Giving (suc i)

-- and after its finish
abbrev pub after_finish : PlanParts → ℕ → Status → Closing
after_finish p n status = cond (p.fail_fast && is_failed_or (Some status)) Raising (giving (keys_count p n))

-- the status that the reply gives a node with this body
abbrev pub status_by : Option ℕ → Reply → Status
status_by None reply = Successful
status_by (Some job) reply = reply.outcome.status

abbrev pub is_leaf : Sort → Bool
is_leaf Leaf = true
is_leaf _ = false

-- the reply's decision: a test ends with it, and so does a container that it stops; another one admits its children
abbrev pub answered : PlanParts → ℕ → Reply → Task
answered p n reply = cond (is_leaf (sort_of p.tree n) || not (is_successful (status_by (body_of p.tree n) reply))) (Closes n (Ending (status_by (body_of p.tree n) reply))) (Opens n (admit_from p n 0))

-- a task that awaits a reply, as the reply decides it
abbrev pub decided : PlanParts → Reply → Task → Task
decided p reply (Opens n Awaiting) = answered p n reply
decided p reply (Closes n AwaitingAfter) = Closes n (Ending reply.outcome.status)
decided p reply t = t

-- the job whose reply the task awaits
abbrev pub after_job : Jobs → Option ℕ
after_job (Around body after) = after
after_job _ = None

abbrev pub hand_job : PlanParts → Option Hand → Option ℕ
hand_job p None = None
hand_job p (Some hand) = body_of p.tree hand.factory

abbrev pub awaited : PlanParts → Seat → Task → Option ℕ
awaited p seat Free = hand_job p seat.hand
awaited p seat (Opens n Awaiting) = body_of p.tree n
awaited p seat (Closes n AwaitingAfter) = after_job (jobs_of p n)
awaited p seat _ = None

-- how a node ends that has nothing outstanding any more: its after-body is run, or it has this result
abbrev pub ending_by : Jobs → Status → Closing
ending_by (Around body (Some after)) result = AwaitingAfter
ending_by _ result = Ending result

abbrev pub ending : PlanParts → ℕ → Status → Closing
ending p n result = ending_by (jobs_of p n) result

-- whether a factory may be done that has k registered spares, and with which result
abbrev pub is_pulled : PlanParts → ℕ → ℕ → Reply → Bool
is_pulled p f k reply = (reply.pulls == k) || ((k == spare_count p f) && nat_lt k reply.pulls)

abbrev pub pulled_result : ℕ → Reply → Status
pulled_result k reply = cond (nat_lt k reply.pulls) Failed reply.outcome.status

-- the events
abbrev pub event_of : EventKind → ℕ → Option Status → ℕ → Event
event_of kind n status w = record { kind = kind; node = n; status = status; worker = w + 1 }
