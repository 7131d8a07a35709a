-- In every run, what was drawn stands at the place that its worker's task names, and is not shown yet.
use Rattle.std.specs.Prelude.{option_and_then}
use Rattle.std.proofs.Common.{◌≡◌, ℕ, zero, suc, Bool, true, false, cond, ◌&&◌, ◌||◌, ◌==◌, not, nat_lt, List, [], ◌∷◌, length, Option, Some, None, slice_get, slice_index_or, refl, sym, ap, ◌∙◌, subst, set}
use Rattle.std.proofs.lemmas.Bool.{and_parts, false≢true}
use Rattle.std.proofs.lemmas.Option.{none-some}
use Rattle.descriptor.specs.Nodes.{size, parent_of, body_of, is_disabled, is_spare_at}
use Rattle.plan_events.specs.declared.event.Event.{Event}
use Rattle.plan_events.specs.declared.outcome.Reply.{Reply}
use Rattle.plan_events.specs.declared.event.EventKind.TheVariants.{Started, Finished, Skipped, Registered}
use Rattle.plan_events.specs.declared.status.Status.{Status}
use Rattle.plan_events.specs.declared.status.Status.TheVariants.{Successful}
use Rattle.plan_events.specs.Statuses.{is_successful}
use Rattle.resource_locks.specs.Plans.{PlanParts}
use Rattle.event_history.specs.Plans.{is_same, pulls_job, sort_of}
use Rattle.event_history.specs.Places.{is_failed_or}
use Rattle.event_history.specs.Results.{jobs_of}
use Rattle.scheduling.specs.declared.status.NodeStatus.{NodeStatus}
use Rattle.scheduling.specs.declared.status.NodeStatus.TheVariants.{Hidden, Ready, Claimed, Settled}
use Rattle.scheduling.specs.declared.lock_word.LockWord.{LockWord}
use Rattle.scheduling.specs.declared.task.Opening.TheVariants.{Registering, RegisteredAt, Offering, Noticing, Locking, Weighed, Backing, Beginning, StartedAt, Awaiting, Admitting, Guarding}
use Rattle.scheduling.specs.declared.task.Closing.TheVariants.{AwaitingAfter, Ending, FinishedAt, SkippedAt, Raising, Giving, Settling, Looking, Passing, CountingOff}
use Rattle.scheduling.specs.declared.task.Task.{Task}
use Rattle.scheduling.specs.declared.task.Task.TheVariants.{Free, Opens, Closes}
use Rattle.scheduling.specs.declared.seat.Hand.{Hand}
use Rattle.scheduling.specs.declared.seat.Seat.{Seat}
use Rattle.scheduling.specs.State.{State, status_at, counter_at, result_at, lock_at}
use Rattle.scheduling.specs.Choices.{answered, keys_count, in_batch, is_same_sibling, first_from, notices, is_leaf, status_by, admits_at, event_of, next_spare, is_pulled, pulled_result, same_word, key_at, mode_at, taken, lock_from, begins, claims, giving, after_finish, after_settle, pass_to, admit_next, admit_from, ending, decided}
use Rattle.scheduling.specs.declared.step.Action.{Action}
use Rattle.scheduling.specs.declared.step.Action.TheVariants.{Claim, Own, Notice, Weigh, Take, Give, GiveUp, Draw, Show, Admit, AddChild, Done, Settle, Look, Raise}
use Rattle.scheduling.specs.Rows.{one_more, waits_for, waits_no_more, with_task, goes, puts_word, weighed, claimed, guard_given, ends_or_free, after_start, row, is_free, is_empty, is_of_hand, is_ready_for, notice_row, weigh_row, take_found, take_row, gives_key, give_row, give_up_row, draw_row, show_row, admit_row, child_added, add_by_hand, add_child_hand, add_child_row, done_by_hand, done_hand, done_row, settle_row, look_found, look_row, raise_row, goes_to, decided_seat, after_seat, after, Step, Works, Dispatches, read_event, is_cancelled}
use Rattle.scheduling.specs.Runs.{or_stays, next, run, opening}
use Rattle.scheduling.specs.Shown.{named, IsPlaced}
use Rattle.scheduling.proofs.Basics.{get_set_same, set_get}
use Rattle.scheduling.proofs.FirstState.{get_replicate}
use Rattle.scheduling.proofs.RowsOne.{by_cond}
use Rattle.scheduling.proofs.RowsBelow.{ending_is}
use Rattle.scheduling.proofs.Shown.{Quiet, Draws, Shows, Changes, changes_keep, reseat_keeps}

-- Tasks that name no place.
module _ (p : PlanParts) (w n : ℕ) where
  lock_unnamed : (i : ℕ) → named w (Opens n (lock_from p n i)) ≡ None
  lock_unnamed i = by_cond (λ d. named w (Opens n d) ≡ None) (nat_lt i (keys_count p n)) (Locking i) (Beginning false) (λ _. refl) (λ _. refl)

  begins_unnamed : (skip : Bool) → named w (Opens n (begins p n skip)) ≡ None
  begins_unnamed skip = by_cond (λ d. named w (Opens n d) ≡ None) skip (Beginning true) (lock_from p n 0) (λ _. refl) (λ _. lock_unnamed 0)

  claims_unnamed : named w (Opens n (claims p n)) ≡ None
  claims_unnamed = by_cond (λ d. named w (Opens n d) ≡ None) (notices p n) Noticing (begins p n (is_disabled p.tree n)) (λ _. refl) (λ _. begins_unnamed (is_disabled p.tree n))

  weighed_unnamed : (i : ℕ) (word : LockWord) → named w (Opens n (weighed p n i word)) ≡ None
  weighed_unnamed i word = by_cond (λ d. named w (Opens n d) ≡ None) (admits_at p n i word) (Weighed i word) (Backing i) (λ _. refl) (λ _. refl)

  admit_unnamed : (found : Option ℕ) → named w (Opens n (admit_next found)) ≡ None
  admit_unnamed None = refl
  admit_unnamed (Some c) = refl

  giving_unnamed : (i : ℕ) → named w (Closes n (giving i)) ≡ None
  giving_unnamed zero = refl
  giving_unnamed (suc i) = refl

  finish_unnamed : (status : Status) → named w (Closes n (after_finish p n status)) ≡ None
  finish_unnamed status =
      by_cond (λ d. named w (Closes n d) ≡ None) (p.fail_fast && is_failed_or (Some status)) Raising (giving (keys_count p n)) (λ _. refl) (λ _. giving_unnamed (keys_count p n))

  pass_unnamed : (found : Option ℕ) → named w (Closes n (pass_to found)) ≡ None
  pass_unnamed None = refl
  pass_unnamed (Some m) = refl

  ends_unnamed : (result : Status) (outstanding : ℕ) → named w (ends_or_free p n result outstanding) ≡ None
  ends_unnamed result outstanding =
      by_cond (λ t. named w t ≡ None) (outstanding == 1) (Closes n (ending p n result)) Free (λ _. ending_is (λ d. named w (Closes n d) ≡ None) refl (λ r. refl) (jobs_of p n) result) (λ _. refl)

  start_unnamed : (seat : Seat) → named w (after_start p seat n).task ≡ None
  start_unnamed seat =
      by_cond (λ (x : Seat). named w x.task ≡ None) (pulls_job p n) (record { task = Free; hand = Some (record { factory = n; registered = 0; waiting = None }) }) (with_task seat (Opens n Awaiting)) (λ _. refl) (λ _. refl)

  answered_unnamed : (reply : Reply) → named w (answered p n reply) ≡ None
  answered_unnamed reply =
      by_cond (λ t. named w t ≡ None) (is_leaf (sort_of p.tree n) || not (is_successful (status_by (body_of p.tree n) reply))) (Closes n (Ending (status_by (body_of p.tree n) reply)))
      (Opens n (admit_from p n 0)) (λ _. refl) (λ _. admit_unnamed (first_from (in_batch p n) 0 (size p.tree)))

settle_unnamed : (p : PlanParts) (w n : ℕ) → named w (after_settle p n) ≡ None
settle_unnamed p w zero = refl
settle_unnamed p w (suc n) =
    let found = first_from (is_same_sibling p (suc n)) (suc (suc n)) (size p.tree) in
    by_cond (λ d. named w (Closes (suc n) d) ≡ None) (is_same p (suc n) && not (is_spare_at p.tree (suc n))) (pass_to found) CountingOff (λ _. pass_unnamed p w (suc n) found) (λ _. refl)

-- a reply changes nothing of this
pub decided_named : (p : PlanParts) (w : ℕ) (reply : Reply) (t : Task) → named w (decided p reply t) ≡ named w t
decided_named p w reply (Opens n Awaiting) = answered_unnamed p w n reply
decided_named p w reply (Closes n AwaitingAfter) = refl
decided_named p w reply _ = refl

free_unnamed : (w : ℕ) (t : Task) → is_free t ≡ true → named w t ≡ None
free_unnamed w Free q = refl
free_unnamed w (Opens n d) q = absurd (false≢true q)
free_unnamed w (Closes n d) q = absurd (false≢true q)

-- What each step changes.
abbrev pub Moves : State → ℕ → Task → Option State → Type 0
Moves s w old None = Unit {0}
Moves s w old (Some t) = Changes s w old t

quiet : (s t : State) (w : ℕ) (old : Task) (new : Seat) → t.seats ≡ set s.seats w new → t.published ≡ s.published → t.shown ≡ s.shown → named w old ≡ None → named w new.task ≡ None → Changes s w old t
quiet s t w old new seats published shown a b = record { new = new; seats = seats; effect = Quiet; does = (published, shown, a, b) }

module _ (p : PlanParts) (s : State) (w : ℕ) (seat : Seat) (is : slice_get s.seats w ≡ Some seat) (reply : Reply) where
  if_moves : (old : Task) (b : Bool) (x y : Option State) → (b ≡ true → Moves s w old x) → (b ≡ false → Moves s w old y) → Moves s w old (cond b x y)
  if_moves old b x y = by_cond (Moves s w old) b x y

  claim_moves : (b : Bool) (n : ℕ) → Moves s w seat.task (cond (is_free seat.task && b) (Some (claimed p s w seat n)) None)
  claim_moves b n =
      if_moves seat.task (is_free seat.task && b) (Some (claimed p s w seat n)) None
      (λ q. quiet s (claimed p s w seat n) w seat.task (with_task seat (Opens n (claims p n))) refl refl refl (free_unnamed w seat.task (and_parts (is_free seat.task) b q).0) (claims_unnamed p w n)) (λ _. tt)

  notice_moves : (t : Task) → Moves s w t (notice_row p s w seat t)
  notice_moves (Opens n Noticing) = quiet s _ w _ (with_task seat (Opens n (begins p n (is_cancelled p s)))) refl refl refl refl (begins_unnamed p w n (is_cancelled p s))
  notice_moves _ = tt

  raise_moves : (t : Task) → Moves s w t (raise_row p s w seat t)
  raise_moves (Closes n Raising) = quiet s _ w _ (with_task seat (Closes n (giving (keys_count p n)))) refl refl refl refl (giving_unnamed p w n (keys_count p n))
  raise_moves _ = tt

  weigh_moves : (t : Task) → Moves s w t (weigh_row p s w seat t)
  weigh_moves (Opens n (Locking i)) = quiet s _ w _ (with_task seat (Opens n (weighed p n i (lock_at s (key_at p n i))))) refl refl refl refl (weighed_unnamed p w n i (lock_at s (key_at p n i)))
  weigh_moves _ = tt

  take_found_moves : (n i : ℕ) (v : LockWord) (found : Option LockWord) → Moves s w (Opens n (Weighed i v)) (take_found p s w seat n i v found)
  take_found_moves n i v None = tt
  take_found_moves n i v (Some word) =
      if_moves (Opens n (Weighed i v)) (same_word word v) (Some (puts_word s w seat (Opens n (lock_from p n (suc i))) (key_at p n i) (taken (mode_at p n i) word))) (Some (goes s w seat (Opens n (Locking i))))
      (λ _. quiet s _ w _ (with_task seat (Opens n (lock_from p n (suc i)))) refl refl refl refl (lock_unnamed p w n (suc i)))
      (λ _. quiet s _ w _ (with_task seat (Opens n (Locking i))) refl refl refl refl refl)

  take_moves : (t : Task) → Moves s w t (take_row p s w seat t)
  take_moves (Opens n (Weighed i v)) = take_found_moves n i v (slice_get s.locks (key_at p n i))
  take_moves _ = tt

  gives_moves : (old t : Task) (n i : ℕ) (found : Option LockWord) → named w old ≡ None → named w t ≡ None → Moves s w old (gives_key p s w seat t n i found)
  gives_moves old t n i None a b = tt
  gives_moves old t n i (Some word) a b = quiet s _ w _ (with_task seat t) refl refl refl a b

  give_moves : (t : Task) → Moves s w t (give_row p s w seat t)
  give_moves (Opens n (Backing (suc i))) = gives_moves (Opens n (Backing (suc i))) (Opens n (Backing i)) n i (slice_get s.locks (key_at p n i)) refl refl
  give_moves (Closes n (Giving (suc i))) = gives_moves (Closes n (Giving (suc i))) (Closes n (giving i)) n i (slice_get s.locks (key_at p n i)) refl (giving_unnamed p w n i)
  give_moves _ = tt

  give_up_moves : (t : Task) → Moves s w t (give_up_row p s w seat t)
  give_up_moves (Opens n (Backing zero)) = quiet s _ w _ (with_task seat Free) refl refl refl refl refl
  give_up_moves _ = tt

  draw_moves : (t : Task) → Moves s w t (draw_row s w seat t)
  draw_moves (Opens n Registering) = record { new = record { task = Opens n (RegisteredAt (length s.published)); hand = one_more seat.hand }; seats = refl; effect = Draws (event_of Registered n None w); does = (refl, refl, refl, refl) }
  draw_moves (Opens n (Beginning true)) = record { new = with_task seat (Closes n (SkippedAt (length s.published))); seats = refl; effect = Draws (event_of Skipped n None w); does = (refl, refl, refl, refl) }
  draw_moves (Opens n (Beginning false)) = record { new = with_task seat (Opens n (StartedAt (length s.published))); seats = refl; effect = Draws (event_of Started n None w); does = (refl, refl, refl, refl) }
  draw_moves (Closes n (Ending status)) = record { new = with_task seat (Closes n (FinishedAt (length s.published) status)); seats = refl; effect = Draws (event_of Finished n (Some status) w); does = (refl, refl, refl, refl) }
  draw_moves _ = tt

  show_moves : (t : Task) → Moves s w t (show_row p s w seat t)
  show_moves (Opens n (RegisteredAt i)) = record { new = with_task seat (Opens n Offering); seats = refl; effect = Shows i (event_of Registered n None w); does = (refl, refl, refl, refl) }
  show_moves (Opens n (StartedAt i)) = record { new = after_start p seat n; seats = refl; effect = Shows i (event_of Started n None w); does = (refl, refl, refl, start_unnamed p w n seat) }
  show_moves (Closes n (SkippedAt i)) = record { new = with_task seat (Closes n Settling); seats = refl; effect = Shows i (event_of Skipped n None w); does = (refl, refl, refl, refl) }
  show_moves (Closes n (FinishedAt i status)) = record { new = with_task seat (Closes n (after_finish p n status)); seats = refl; effect = Shows i (event_of Finished n (Some status) w); does = (refl, refl, refl, finish_unnamed p w n status) }
  show_moves _ = tt

  admit_moves : (t : Task) → Moves s w t (admit_row p s w seat t)
  admit_moves (Opens n (Admitting c)) = quiet s _ w _ (with_task seat (Opens n (admit_from p n (suc c)))) refl refl refl refl (admit_unnamed p w n (first_from (in_batch p n) (suc c) (size p.tree)))
  admit_moves (Opens c Offering) = quiet s _ w _ (record { task = Free; hand = waits_for p c seat.hand }) refl refl refl refl refl
  admit_moves (Closes n (Passing m o)) = quiet s _ w _ (with_task seat (Closes n CountingOff)) refl refl refl refl refl
  admit_moves _ = tt

  added_moves : (f : ℕ) (found : Option ℕ) → Moves s w Free (child_added s w seat f found)
  added_moves f None = tt
  added_moves f (Some c) = quiet s _ w _ (with_task seat (Opens c Registering)) refl refl refl refl refl

  add_by_moves : (f k : ℕ) (waiting : Option ℕ) → Moves s w Free (add_by_hand p s w seat reply f k waiting)
  add_by_moves f k None = if_moves Free (nat_lt k reply.pulls) (child_added s w seat f (next_spare p f k)) None (λ _. added_moves f (next_spare p f k)) (λ _. tt)
  add_by_moves f k (Some c) = tt

  add_hand_moves : (hand : Option Hand) → Moves s w Free (add_child_hand p s w seat reply hand)
  add_hand_moves None = tt
  add_hand_moves (Some hand) = add_by_moves hand.factory hand.registered hand.waiting

  add_moves : (t : Task) → Moves s w t (add_child_row p s w seat reply t)
  add_moves Free = add_hand_moves seat.hand
  add_moves _ = tt

  done_by_moves : (f k : ℕ) (waiting : Option ℕ) → Moves s w Free (done_by_hand p s w reply f k waiting)
  done_by_moves f k None =
      if_moves Free (is_pulled p f k reply) (Some (guard_given p s w None f (pulled_result k reply))) None
      (λ _. quiet s _ w _ (record { task = ends_or_free p f (pulled_result k reply) (counter_at s f); hand = None }) refl refl refl refl (ends_unnamed p w f (pulled_result k reply) (counter_at s f))) (λ _. tt)
  done_by_moves f k (Some c) = tt

  done_hand_moves : (hand : Option Hand) → Moves s w Free (done_hand p s w reply hand)
  done_hand_moves None = tt
  done_hand_moves (Some hand) = done_by_moves hand.factory hand.registered hand.waiting

  done_moves : (t : Task) → Moves s w t (done_row p s w seat reply t)
  done_moves (Opens n Guarding) = quiet s _ w _ (record { task = ends_or_free p n Successful (counter_at s n); hand = seat.hand }) refl refl refl refl (ends_unnamed p w n Successful (counter_at s n))
  done_moves (Closes c CountingOff) =
      let a = parent_of p.tree c in
      quiet s _ w _ (with_task seat (ends_or_free p a (result_at s a) (counter_at s a))) refl refl refl refl (ends_unnamed p w a (result_at s a) (counter_at s a))
  done_moves Free = done_hand_moves seat.hand
  done_moves _ = tt

  settle_moves : (t : Task) → Moves s w t (settle_row p s w seat t)
  settle_moves (Closes n Settling) = quiet s _ w _ (record { task = after_settle p n; hand = waits_no_more n seat.hand }) refl refl refl refl (settle_unnamed p w n)
  settle_moves _ = tt

  look_found_moves : (n m : ℕ) (status : NodeStatus) → Moves s w (Closes n (Looking m)) (look_found s w seat n m status)
  look_found_moves n m (Claimed o) = quiet s _ w _ (with_task seat (Closes n (Passing m o))) refl refl refl refl refl
  look_found_moves n m Hidden = tt
  look_found_moves n m (Ready o) = tt
  look_found_moves n m Settled = tt

  look_moves : (t : Task) → seat.task ≡ t → Moves s w t (look_row p s w seat t)
  look_moves (Closes n (Looking m)) same = look_found_moves n m (status_at s (parent_of p.tree n))
  look_moves Free same = quiet s s w Free seat (sym (set_get s.seats w seat is)) refl refl refl (ap (named w) same)
  look_moves _ same = tt

  pub row_moves : (a : Action) → Moves s w seat.task (row p s w seat reply a)
  row_moves (Claim n) = claim_moves (is_empty seat.hand && is_ready_for None (status_at s n)) n
  row_moves (Own n) = claim_moves (is_of_hand p seat.hand n && is_ready_for (Some w) (status_at s n)) n
  row_moves Notice = notice_moves seat.task
  row_moves Weigh = weigh_moves seat.task
  row_moves Take = take_moves seat.task
  row_moves Give = give_moves seat.task
  row_moves GiveUp = give_up_moves seat.task
  row_moves Draw = draw_moves seat.task
  row_moves Show = show_moves seat.task
  row_moves Admit = admit_moves seat.task
  row_moves AddChild = add_moves seat.task
  row_moves Done = done_moves seat.task
  row_moves Settle = settle_moves seat.task
  row_moves Look = look_moves seat.task refl
  row_moves Raise = raise_moves seat.task

-- Every step keeps it.
abbrev pub AllPlaced : Option State → Type 0
AllPlaced None = Unit {0}
AllPlaced (Some t) = IsPlaced t

read_placed : (s : State) → IsPlaced s → (shown : Bool) (next : Option Event) → AllPlaced (read_event s shown next)
read_placed s placed true (Some e) = record { stands = placed.stands; unshown = placed.unshown; as_many = placed.as_many }
read_placed s placed true None = tt
read_placed s placed false next = tt

pub after_placed : (p : PlanParts) (s : State) (a : Step) → IsPlaced s → AllPlaced (after p s a)
after_placed p s Dispatches placed = read_placed s placed (slice_index_or s.shown (length s.given) false) (slice_get s.published (length s.given))
after_placed p s (Works w a reply) placed = go (slice_get s.seats w) refl
  where
    kept : (u : State) (seat : Seat) → IsPlaced u → slice_get u.seats w ≡ Some seat → (found : Option State) → Moves u w seat.task found → AllPlaced found
    kept u seat placed is None moves = tt
    kept u seat placed is (Some t) moves = changes_keep u t w seat placed is moves

    go : (found : Option Seat) → slice_get s.seats w ≡ found → AllPlaced (option_and_then (after_seat p s w a reply) found)
    go None is = tt
    go (Some seat) is =
        let other : Seat = decided_seat p reply seat in
        let u : State = record s { seats = goes_to s w other } in
        let here : slice_get u.seats w ≡ Some other = get_set_same s.seats w other seat is in
        kept u other (reseat_keeps s w seat other placed is (decided_named p w reply seat.task)) here (row p u w other reply a) (row_moves p u w other here reply a)

pub step_placed : (p : PlanParts) (s t : State) (a : Step) → IsPlaced s → after p s a ≡ Some t → IsPlaced t
step_placed p s t a placed q = subst AllPlaced q (after_placed p s a placed)

pub opening_placed : (p : PlanParts) (workers : ℕ) → IsPlaced (opening p workers)
opening_placed p workers = record {
  stands = λ w seat i e q d. absurd (none-some (i, e) (ap (λ (x : Seat). named w x.task) (get_replicate workers (record { task = Free; hand = None }) seat w q) ∙ d));
  unshown = λ i q. absurd (none-some false q);
  as_many = refl;
}

run_keeps_placed : (p : PlanParts) (s : State) (list : List Step) → IsPlaced s → IsPlaced (run p s list)
run_keeps_placed p s [] placed = placed
run_keeps_placed p s (a ∷ list) placed = run_keeps_placed p (next p s a) list (stays (after p s a) (after_placed p s a placed))
  where
    stays : (found : Option State) → AllPlaced found → IsPlaced (or_stays s found)
    stays None q = placed
    stays (Some t) q = q

-- Whatever steps are taken: what was drawn stands at the place that its worker's task names, not shown, and each place that is
-- not shown is named.
pub run_placed : (p : PlanParts) (workers : ℕ) (list : List Step) → IsPlaced (run p (opening p workers) list)
run_placed p workers list = run_keeps_placed p (opening p workers) list (opening_placed p workers)
