-- The decided seat need not be written first: a row writes the worker's seat itself.
use Rattle.std.specs.Prelude.{option_and_then}
use Rattle.std.proofs.Common.{◌≡◌, ℕ, zero, suc, ◌+◌, ◌-◌, Bool, true, false, cond, ◌&&◌, ◌||◌, not, nat_lt, List, [], ◌∷◌, ◌++◌, set, Option, Some, None, slice_get, refl, sym, ap, ◌∙◌}
use Rattle.descriptor.specs.Nodes.{parent_of, body_of}
use Rattle.plan_events.specs.declared.event.Event.{Event}
use Rattle.plan_events.specs.declared.outcome.Reply.{Reply}
use Rattle.plan_events.specs.Statuses.{is_successful}
use Rattle.resource_locks.specs.Plans.{PlanParts}
use Rattle.event_history.specs.Plans.{sort_of}
use Rattle.scheduling.specs.declared.status.NodeStatus.{NodeStatus}
use Rattle.scheduling.specs.declared.status.NodeStatus.TheVariants.{Hidden, Ready, Claimed, Settled}
use Rattle.scheduling.specs.declared.lock_word.LockWord.{LockWord}
use Rattle.scheduling.specs.declared.task.Opening.TheVariants.{Registering, RegisteredAt, Offering, Noticing, Locking, Weighed, Backing, Beginning, StartedAt, Awaiting, Admitting, Guarding}
use Rattle.scheduling.specs.declared.task.Closing.TheVariants.{Ending, FinishedAt, SkippedAt, Raising, Giving, Settling, Looking, Passing, CountingOff}
use Rattle.scheduling.specs.declared.task.Task.{Task}
use Rattle.scheduling.specs.declared.task.Task.TheVariants.{Free, Opens, Closes}
use Rattle.scheduling.specs.declared.seat.Hand.{Hand}
use Rattle.scheduling.specs.declared.seat.Seat.{Seat}
use Rattle.scheduling.specs.State.{State, status_at, counter_at}
use Rattle.scheduling.specs.Choices.{next_spare, is_leaf, status_by, is_pulled, same_word, key_at, mode_at, taken, given_back, offered_to, admit_from, decided}
use Rattle.scheduling.specs.declared.step.Action.{Action}
use Rattle.scheduling.specs.declared.step.Action.TheVariants.{Claim, Own, Notice, Weigh, Take, Give, GiveUp, Draw, Show, Admit, AddChild, Done, Settle, Look, Raise}
use Rattle.scheduling.specs.Rows.{with_task, claimed, row, is_free, is_empty, is_of_hand, is_ready_for, notice_row, weigh_row, take_found, take_row, gives_key, give_row, back_to, give_up_row, draw_row, show_row, admit_row, child_added, add_by_hand, add_child_hand, add_child_row, done_by_hand, done_hand, done_row, settle_row, look_found, look_row, raise_row, decided_seat, after_seat, after, Works}
use Rattle.scheduling.proofs.Basics.{set_get, set_twice}
use Rattle.scheduling.proofs.RowsOne.{by_cond}

-- the state with these seats
abbrev seated : State → List Seat → State
seated s l = record s { seats = l }

cond_both : {X : Type 0} (b : Bool) (x y u v : X) → x ≡ u → y ≡ v → cond b x y ≡ cond b u v
cond_both true x y u v a c = a
cond_both false x y u v a c = c

-- with other seats that differ at the worker's place alone, each row but a free worker's look makes the same state
module _ (p : PlanParts) (s : State) (w : ℕ) (seat : Seat) (reply : Reply) (l : List Seat) (same : (other : Seat) → set l w other ≡ set s.seats w other) where
  writes : (m : State) (other : Seat) → Some (seated m (set l w other)) ≡ Some (seated m (set s.seats w other))
  writes m other = ap (λ (k : List Seat). Some (seated m k)) (same other)

  claim_d : (b : Bool) (n : ℕ) → cond b (Some (claimed p (seated s l) w seat n)) None ≡ cond b (Some (claimed p s w seat n)) None
  claim_d b n = ap (λ (o : Option State). cond b o None) (writes (record s { statuses = set s.statuses n (Claimed w) }) _)

  take_found_d : (n i : ℕ) (v : LockWord) (found : Option LockWord) → take_found p (seated s l) w seat n i v found ≡ take_found p s w seat n i v found
  take_found_d n i v None = refl
  take_found_d n i v (Some word) = cond_both (same_word word v) _ _ _ _ (writes (record s { locks = set s.locks (key_at p n i) (taken (mode_at p n i) word) }) _) (writes s _)

  gives_d : (t : Task) (n i : ℕ) (found : Option LockWord) → gives_key p (seated s l) w seat t n i found ≡ gives_key p s w seat t n i found
  gives_d t n i None = refl
  gives_d t n i (Some word) = writes (record s { locks = set s.locks (key_at p n i) (given_back (mode_at p n i) word) }) _

  added_d : (f : ℕ) (found : Option ℕ) → child_added (seated s l) w seat f found ≡ child_added s w seat f found
  added_d f None = refl
  added_d f (Some c) = writes (record s { counters = set s.counters f (counter_at s f + 1) }) _

  add_d : (f k : ℕ) (waiting : Option ℕ) → add_by_hand p (seated s l) w seat reply f k waiting ≡ add_by_hand p s w seat reply f k waiting
  add_d f k None = ap (λ (o : Option State). cond (nat_lt k reply.pulls) o None) (added_d f (next_spare p f k))
  add_d f k (Some c) = refl

  add_hand_d : (hand : Option Hand) → add_child_hand p (seated s l) w seat reply hand ≡ add_child_hand p s w seat reply hand
  add_hand_d None = refl
  add_hand_d (Some hand) = add_d hand.factory hand.registered hand.waiting

  done_d : (f k : ℕ) (waiting : Option ℕ) → done_by_hand p (seated s l) w reply f k waiting ≡ done_by_hand p s w reply f k waiting
  done_d f k None = ap (λ (o : Option State). cond (is_pulled p f k reply) o None) (writes (record s { counters = set s.counters f (counter_at s f - 1); results = set s.results f _ }) _)
  done_d f k (Some c) = refl

  done_hand_d : (hand : Option Hand) → done_hand p (seated s l) w reply hand ≡ done_hand p s w reply hand
  done_hand_d None = refl
  done_hand_d (Some hand) = done_d hand.factory hand.registered hand.waiting

  look_found_d : (n m : ℕ) (status : NodeStatus) → look_found (seated s l) w seat n m status ≡ look_found s w seat n m status
  look_found_d n m (Claimed o) = writes s _
  look_found_d n m Hidden = refl
  look_found_d n m (Ready o) = refl
  look_found_d n m Settled = refl

  notice_d : (t : Task) → notice_row p (seated s l) w seat t ≡ notice_row p s w seat t
  notice_d (Opens n Noticing) = writes s _
  notice_d _ = refl

  weigh_d : (t : Task) → weigh_row p (seated s l) w seat t ≡ weigh_row p s w seat t
  weigh_d (Opens n (Locking i)) = writes s _
  weigh_d _ = refl

  take_d : (t : Task) → take_row p (seated s l) w seat t ≡ take_row p s w seat t
  take_d (Opens n (Weighed i v)) = take_found_d n i v (slice_get s.locks (key_at p n i))
  take_d _ = refl

  give_d : (t : Task) → give_row p (seated s l) w seat t ≡ give_row p s w seat t
  give_d (Opens n (Backing (suc i))) = gives_d _ n i (slice_get s.locks (key_at p n i))
  give_d (Closes n (Giving (suc i))) = gives_d _ n i (slice_get s.locks (key_at p n i))
  give_d _ = refl

  give_up_d : (t : Task) → give_up_row p (seated s l) w seat t ≡ give_up_row p s w seat t
  give_up_d (Opens n (Backing zero)) = writes (record s { statuses = set s.statuses n (Ready (back_to p w n)) }) _
  give_up_d _ = refl

  draws_d : (e : Event) (other : Seat) → Some (seated (record s { published = s.published ++ e ∷ []; shown = s.shown ++ false ∷ [] }) (set l w other)) ≡ Some (seated (record s { published = s.published ++ e ∷ []; shown = s.shown ++ false ∷ [] }) (set s.seats w other))
  draws_d e other = writes (record s { published = s.published ++ e ∷ []; shown = s.shown ++ false ∷ [] }) other

  draw_d : (t : Task) → draw_row (seated s l) w seat t ≡ draw_row s w seat t
  draw_d (Opens n Registering) = draws_d _ _
  draw_d (Opens n (Beginning true)) = draws_d _ _
  draw_d (Opens n (Beginning false)) = draws_d _ _
  draw_d (Closes n (Ending status)) = draws_d _ _
  draw_d _ = refl

  show_d : (t : Task) → show_row p (seated s l) w seat t ≡ show_row p s w seat t
  show_d (Opens n (RegisteredAt i)) = writes (record s { shown = set s.shown i true }) _
  show_d (Opens n (StartedAt i)) = writes (record s { shown = set s.shown i true }) _
  show_d (Closes n (SkippedAt i)) = writes (record s { shown = set s.shown i true }) _
  show_d (Closes n (FinishedAt i status)) = writes (record s { shown = set s.shown i true }) _
  show_d _ = refl

  admit_d : (t : Task) → admit_row p (seated s l) w seat t ≡ admit_row p s w seat t
  admit_d (Opens n (Admitting c)) = writes (record s { statuses = set s.statuses c (Ready (offered_to p w c)) }) _
  admit_d (Opens c Offering) = writes (record s { statuses = set s.statuses c (Ready (offered_to p w c)) }) _
  admit_d (Closes n (Passing m o)) = writes (record s { statuses = set s.statuses m (Ready (Some o)) }) _
  admit_d _ = refl

  add_child_d : (t : Task) → add_child_row p (seated s l) w seat reply t ≡ add_child_row p s w seat reply t
  add_child_d Free = add_hand_d seat.hand
  add_child_d _ = refl

  done_row_d : (t : Task) → done_row p (seated s l) w seat reply t ≡ done_row p s w seat reply t
  done_row_d (Opens n Guarding) = writes (record s { counters = set s.counters n (counter_at s n - 1); results = set s.results n _ }) _
  done_row_d (Closes c CountingOff) = writes (record s { counters = set s.counters (parent_of p.tree c) (counter_at s (parent_of p.tree c) - 1) }) _
  done_row_d Free = done_hand_d seat.hand
  done_row_d _ = refl

  settle_d : (t : Task) → settle_row p (seated s l) w seat t ≡ settle_row p s w seat t
  settle_d (Closes n Settling) = writes (record s { statuses = set s.statuses n Settled }) _
  settle_d _ = refl

  raise_d : (t : Task) → raise_row p (seated s l) w seat t ≡ raise_row p s w seat t
  raise_d (Closes n Raising) = writes (record s { cancel = s.cancel + 1 }) _
  raise_d _ = refl

  looks_d : (n m : ℕ) → look_row p (seated s l) w seat (Closes n (Looking m)) ≡ look_row p s w seat (Closes n (Looking m))
  looks_d n m = look_found_d n m (status_at s (parent_of p.tree n))

  -- a look where the reply has decided the task: who was free has changed no seat
  look_d : (t : Task) → (t ≡ Free → l ≡ s.seats) → look_row p (seated s l) w seat (decided p reply t) ≡ look_row p s w seat (decided p reply t)
  look_d Free free = ap (λ (k : List Seat). Some (seated s k)) (free refl)
  look_d (Opens n Awaiting) free =
      by_cond (λ (d : Task). look_row p (seated s l) w seat d ≡ look_row p s w seat d) (is_leaf (sort_of p.tree n) || not (is_successful (status_by (body_of p.tree n) reply))) (Closes n (Ending (status_by (body_of p.tree n) reply))) (Opens n (admit_from p n 0)) (λ _. refl) (λ _. refl)
  look_d (Closes n (Looking m)) free = looks_d n m
  look_d _ free = refl

  row_direct : look_row p (seated s l) w seat seat.task ≡ look_row p s w seat seat.task → (a : Action) → row p (seated s l) w seat reply a ≡ row p s w seat reply a
  row_direct look (Claim n) = claim_d (is_free seat.task && (is_empty seat.hand && is_ready_for None (status_at s n))) n
  row_direct look (Own n) = claim_d (is_free seat.task && (is_of_hand p seat.hand n && is_ready_for (Some w) (status_at s n))) n
  row_direct look Notice = notice_d seat.task
  row_direct look Weigh = weigh_d seat.task
  row_direct look Take = take_d seat.task
  row_direct look Give = give_d seat.task
  row_direct look GiveUp = give_up_d seat.task
  row_direct look Draw = draw_d seat.task
  row_direct look Show = show_d seat.task
  row_direct look Admit = admit_d seat.task
  row_direct look AddChild = add_child_d seat.task
  row_direct look Done = done_row_d seat.task
  row_direct look Settle = settle_d seat.task
  row_direct look Look = look
  row_direct look Raise = raise_d seat.task

-- A worker's step is the row of its decided seat.
pub after_direct : (p : PlanParts) (s : State) (w : ℕ) (a : Action) (reply : Reply) (seat : Seat) → slice_get s.seats w ≡ Some seat → after p s (Works w a reply) ≡ row p s w (decided_seat p reply seat) reply a
after_direct p s w a reply seat is =
    let d : Seat = decided_seat p reply seat in
    let l : List Seat = set s.seats w d in
    let same : (other : Seat) → set l w other ≡ set s.seats w other = λ other. set_twice s.seats w d other in
    let unchanged : seat.task ≡ Free → l ≡ s.seats = λ free. set_get s.seats w d (is ∙ ap Some (sym (stays free))) in
    ap (option_and_then (after_seat p s w a reply)) is ∙ row_direct p s w d reply l same (look_d p s w d reply l same seat.task unchanged) a
  where
    stays : seat.task ≡ Free → decided_seat p reply seat ≡ seat
    stays free = ap (λ (t : Task). with_task seat (decided p reply t)) free ∙ ap (with_task seat) (sym free)
