-- No step changes how many workers and how many words of keys there are.
use Rattle.std.specs.Prelude.{option_and_then}
use Rattle.std.proofs.Common.{◌≡◌, ℕ, zero, suc, Bool, true, false, cond, ◌&&◌, nat_lt, List, [], ◌∷◌, length, Option, Some, None, slice_get, slice_index_or, refl, ◌∙◌, length-set}
use Rattle.std.proofs.lemmas.List.{length-replicate}
use Rattle.descriptor.specs.Nodes.{parent_of}
use Rattle.plan_events.specs.declared.event.Event.{Event}
use Rattle.plan_events.specs.declared.outcome.Reply.{Reply}
use Rattle.resource_locks.specs.Plans.{PlanParts}
use Rattle.scheduling.specs.declared.status.NodeStatus.{NodeStatus}
use Rattle.scheduling.specs.declared.status.NodeStatus.TheVariants.{Hidden, Ready, Claimed, Settled}
use Rattle.scheduling.specs.declared.lock_word.LockWord.{LockWord}
use Rattle.scheduling.specs.declared.lock_word.LockWord.TheVariants.{Readers}
use Rattle.scheduling.specs.declared.task.Opening.TheVariants.{Registering, RegisteredAt, Offering, Noticing, Locking, Weighed, Backing, Beginning, StartedAt, Admitting, Guarding}
use Rattle.scheduling.specs.declared.task.Closing.TheVariants.{Ending, FinishedAt, SkippedAt, Raising, Giving, Settling, Looking, Passing, CountingOff}
use Rattle.scheduling.specs.declared.task.Task.{Task}
use Rattle.scheduling.specs.declared.task.Task.TheVariants.{Free, Opens, Closes}
use Rattle.scheduling.specs.declared.seat.Hand.{Hand}
use Rattle.scheduling.specs.declared.seat.Seat.{Seat}
use Rattle.scheduling.specs.State.{State, status_at, counter_at}
use Rattle.scheduling.specs.Choices.{next_spare, is_pulled, pulled_result, same_word, key_at, mode_at, taken, given_back, lock_from, claims}
use Rattle.scheduling.specs.declared.step.Action.{Action}
use Rattle.scheduling.specs.declared.step.Action.TheVariants.{Claim, Own, Notice, Weigh, Take, Give, GiveUp, Draw, Show, Admit, AddChild, Done, Settle, Look, Raise}
use Rattle.scheduling.specs.Rows.{with_task, goes, puts_word, claimed, guard_given, ends_or_free, row, is_free, is_empty, is_of_hand, is_ready_for, notice_row, weigh_row, take_found, take_row, gives_key, give_row, give_up_row, draw_row, show_row, admit_row, child_added, add_by_hand, add_child_hand, add_child_row, done_by_hand, done_hand, done_row, settle_row, look_found, look_row, raise_row, goes_to, decided_seat, after_seat, after, Step, Works, Dispatches, read_event}
use Rattle.scheduling.specs.Runs.{or_stays, next, run, opening}

-- a state with as many seats as s, and as many words of keys
abbrev pub SameWorkers : State → Option State → Type 0
SameWorkers s None = Unit {0}
SameWorkers s (Some t) = (length t.seats ≡ length s.seats) × (length t.locks ≡ length s.locks)

cond_same_workers : (s : State) (b : Bool) (x y : Option State) → SameWorkers s x → SameWorkers s y → SameWorkers s (cond b x y)
cond_same_workers s true x y a b = a
cond_same_workers s false x y a b = b

module _ (p : PlanParts) (s : State) (w : ℕ) (seat : Seat) (reply : Reply) where
  set_seat : (other : Seat) → length (goes_to s w other) ≡ length s.seats
  set_seat other = length-set s.seats w other

  set_same_workers : (other : Seat) → (length (goes_to s w other) ≡ length s.seats) × (length s.locks ≡ length s.locks)
  set_same_workers other = (set_seat other, refl)

  take_same_workers : (n i : ℕ) (v : LockWord) (found : Option LockWord) → SameWorkers s (take_found p s w seat n i v found)
  take_same_workers n i v None = tt
  take_same_workers n i v (Some word) =
      cond_same_workers s (same_word word v) (Some (puts_word s w seat (Opens n (lock_from p n (suc i))) (key_at p n i) (taken (mode_at p n i) word))) (Some (goes s w seat (Opens n (Locking i)))) (set_seat (with_task seat (Opens n (lock_from p n (suc i)))), length-set s.locks (key_at p n i) (taken (mode_at p n i) word)) (set_same_workers (with_task seat (Opens n (Locking i))))

  give_same_workers : (t : Task) (n i : ℕ) (found : Option LockWord) → SameWorkers s (gives_key p s w seat t n i found)
  give_same_workers t n i None = tt
  give_same_workers t n i (Some word) = (set_seat _, length-set s.locks (key_at p n i) (given_back (mode_at p n i) word))

  added_same_workers : (f : ℕ) (found : Option ℕ) → SameWorkers s (child_added s w seat f found)
  added_same_workers f None = tt
  added_same_workers f (Some c) = set_same_workers _

  add_same_workers : (f k : ℕ) (waiting : Option ℕ) → SameWorkers s (add_by_hand p s w seat reply f k waiting)
  add_same_workers f k None = cond_same_workers s (nat_lt k reply.pulls) (child_added s w seat f (next_spare p f k)) None (added_same_workers f (next_spare p f k)) tt
  add_same_workers f k (Some c) = tt

  hand_same_workers : (hand : Option Hand) → SameWorkers s (add_child_hand p s w seat reply hand)
  hand_same_workers None = tt
  hand_same_workers (Some hand) = add_same_workers hand.factory hand.registered hand.waiting

  done_same_workers : (f k : ℕ) (waiting : Option ℕ) → SameWorkers s (done_by_hand p s w reply f k waiting)
  done_same_workers f k None = cond_same_workers s (is_pulled p f k reply) (Some (guard_given p s w None f (pulled_result k reply))) None (set_same_workers (record { task = ends_or_free p f (pulled_result k reply) (counter_at s f); hand = None })) tt
  done_same_workers f k (Some c) = tt

  done_hand_same_workers : (hand : Option Hand) → SameWorkers s (done_hand p s w reply hand)
  done_hand_same_workers None = tt
  done_hand_same_workers (Some hand) = done_same_workers hand.factory hand.registered hand.waiting

  look_same_workers : (n m : ℕ) (status : NodeStatus) → SameWorkers s (look_found s w seat n m status)
  look_same_workers n m (Claimed o) = set_same_workers _
  look_same_workers n m Hidden = tt
  look_same_workers n m (Ready o) = tt
  look_same_workers n m Settled = tt

  notice_c : (t : Task) → SameWorkers s (notice_row p s w seat t)
  notice_c (Opens n Noticing) = set_same_workers _
  notice_c _ = tt

  weigh_c : (t : Task) → SameWorkers s (weigh_row p s w seat t)
  weigh_c (Opens n (Locking i)) = set_same_workers _
  weigh_c _ = tt

  take_c : (t : Task) → SameWorkers s (take_row p s w seat t)
  take_c (Opens n (Weighed i v)) = take_same_workers n i v (slice_get s.locks (key_at p n i))
  take_c _ = tt

  give_c : (t : Task) → SameWorkers s (give_row p s w seat t)
  give_c (Opens n (Backing (suc i))) = give_same_workers _ n i (slice_get s.locks (key_at p n i))
  give_c (Closes n (Giving (suc i))) = give_same_workers _ n i (slice_get s.locks (key_at p n i))
  give_c _ = tt

  give_up_c : (t : Task) → SameWorkers s (give_up_row p s w seat t)
  give_up_c (Opens n (Backing zero)) = set_same_workers _
  give_up_c _ = tt

  draw_c : (t : Task) → SameWorkers s (draw_row s w seat t)
  draw_c (Opens n Registering) = set_same_workers _
  draw_c (Opens n (Beginning true)) = set_same_workers _
  draw_c (Opens n (Beginning false)) = set_same_workers _
  draw_c (Closes n (Ending status)) = set_same_workers _
  draw_c _ = tt

  show_c : (t : Task) → SameWorkers s (show_row p s w seat t)
  show_c (Opens n (RegisteredAt i)) = set_same_workers _
  show_c (Opens n (StartedAt i)) = set_same_workers _
  show_c (Closes n (SkippedAt i)) = set_same_workers _
  show_c (Closes n (FinishedAt i status)) = set_same_workers _
  show_c _ = tt

  admit_c : (t : Task) → SameWorkers s (admit_row p s w seat t)
  admit_c (Opens n (Admitting c)) = set_same_workers _
  admit_c (Opens c Offering) = set_same_workers _
  admit_c (Closes n (Passing m o)) = set_same_workers _
  admit_c _ = tt

  add_c : (t : Task) → SameWorkers s (add_child_row p s w seat reply t)
  add_c Free = hand_same_workers seat.hand
  add_c _ = tt

  done_c : (t : Task) → SameWorkers s (done_row p s w seat reply t)
  done_c (Opens n Guarding) = set_same_workers _
  done_c (Closes c CountingOff) = set_same_workers _
  done_c Free = done_hand_same_workers seat.hand
  done_c _ = tt

  settle_c : (t : Task) → SameWorkers s (settle_row p s w seat t)
  settle_c (Closes n Settling) = set_same_workers _
  settle_c _ = tt

  look_c : (t : Task) → SameWorkers s (look_row p s w seat t)
  look_c (Closes n (Looking m)) = look_same_workers n m (status_at s (parent_of p.tree n))
  look_c Free = (refl, refl)
  look_c _ = tt

  raise_c : (t : Task) → SameWorkers s (raise_row p s w seat t)
  raise_c (Closes n Raising) = set_same_workers _
  raise_c _ = tt

  claim_c : (b : Bool) (n : ℕ) → SameWorkers s (cond b (Some (claimed p s w seat n)) None)
  claim_c b n = cond_same_workers s b (Some (claimed p s w seat n)) None (set_same_workers (with_task seat (Opens n (claims p n)))) tt

  row_same_workers : (a : Action) → SameWorkers s (row p s w seat reply a)
  row_same_workers (Claim n) = claim_c (is_free seat.task && (is_empty seat.hand && is_ready_for None (status_at s n))) n
  row_same_workers (Own n) = claim_c (is_free seat.task && (is_of_hand p seat.hand n && is_ready_for (Some w) (status_at s n))) n
  row_same_workers Notice = notice_c seat.task
  row_same_workers Weigh = weigh_c seat.task
  row_same_workers Take = take_c seat.task
  row_same_workers Give = give_c seat.task
  row_same_workers GiveUp = give_up_c seat.task
  row_same_workers Draw = draw_c seat.task
  row_same_workers Show = show_c seat.task
  row_same_workers Admit = admit_c seat.task
  row_same_workers AddChild = add_c seat.task
  row_same_workers Done = done_c seat.task
  row_same_workers Settle = settle_c seat.task
  row_same_workers Look = look_c seat.task
  row_same_workers Raise = raise_c seat.task

-- with other seats, as many
workers_on : (s t : State) (found : Option State) → SameWorkers s (Some t) → SameWorkers t found → SameWorkers s found
workers_on s t None e c = tt
workers_on s t (Some u) e c = (c.0 ∙ e.0, c.1 ∙ e.1)

pub after_same_workers : (p : PlanParts) (s : State) (a : Step) → SameWorkers s (after p s a)
after_same_workers p s Dispatches = go (slice_index_or s.shown (length s.given) false) (slice_get s.published (length s.given))
  where
    go : (b : Bool) (e : Option Event) → SameWorkers s (read_event s b e)
    go true (Some e) = (refl, refl)
    go true None = tt
    go false e = tt
after_same_workers p s (Works w a reply) = go (slice_get s.seats w)
  where
    go : (found : Option Seat) → SameWorkers s (option_and_then (after_seat p s w a reply) found)
    go None = tt
    go (Some seat) = workers_on s (record s { seats = goes_to s w (decided_seat p reply seat) }) (row p (record s { seats = goes_to s w (decided_seat p reply seat) }) w (decided_seat p reply seat) reply a) (length-set s.seats w (decided_seat p reply seat), refl)
        (row_same_workers p (record s { seats = goes_to s w (decided_seat p reply seat) }) w (decided_seat p reply seat) reply a)

next_same_workers : (s : State) (found : Option State) → SameWorkers s found → SameWorkers s (Some (or_stays s found))
next_same_workers s None c = (refl, refl)
next_same_workers s (Some t) c = c

run_same_workers : (p : PlanParts) (s : State) (list : List Step) → SameWorkers s (Some (run p s list))
run_same_workers p s [] = (refl, refl)
run_same_workers p s (a ∷ list) = workers_on s (next p s a) (Some (run p (next p s a) list)) (next_same_workers s (after p s a) (after_same_workers p s a)) (run_same_workers p (next p s a) list)

pub all_workers : (p : PlanParts) (workers : ℕ) (list : List Step) → length (run p (opening p workers) list).seats ≡ workers
all_workers p workers list = (run_same_workers p (opening p workers) list).0 ∙ length-replicate workers (record { task = Free; hand = None })

pub opening_words : (p : PlanParts) (workers : ℕ) → length (opening p workers).locks ≡ length p.keys
opening_words p workers = length-replicate (length p.keys) (Readers 0)
