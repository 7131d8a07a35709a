-- Each row but a free worker's look leaves fewer steps, where no other worker is in the way of the task.
use Rattle.std.proofs.Common.{◌≡◌, ℕ, suc, ◌+◌, ◌*◌, ◌-◌, ◌<◌, ◌≤◌, Bool, true, false, cond, ◌&&◌, nat_lt, List, [], ◌∷◌, ◌++◌, length, set, Option, Some, None, slice_get, inl, inr, refl, sym, ap, ◌∙◌, subst, arith, length-append}
use Rattle.std.proofs.lemmas.Option.{none-some, same_Some, cond_some}
use Rattle.std.proofs.lemmas.List.{get_or_past}
use Rattle.std.proofs.lemmas.Bool.{cases_eq, cases_lt, cases_Bool, both_ways, false≢true, and_parts, and_from, or_left, cond-true, cond-false, eq-eqb}
use Rattle.descriptor.specs.Nodes.{size, parent_of, IsChild, Below, child, is_child, is_spare_at, is_disabled}
use Rattle.plan_events.specs.declared.event.Event.{Event}
use Rattle.plan_events.specs.declared.outcome.Reply.{Reply}
use Rattle.plan_events.specs.declared.status.Status.{Status}
use Rattle.plan_events.specs.declared.status.Status.TheVariants.{Successful}
use Rattle.plan_events.specs.declared.event.EventKind.{EventKind}
use Rattle.plan_events.specs.declared.event.EventKind.TheVariants.{Started, Finished, Skipped, Registered}
use Rattle.resource_locks.specs.Plans.{PlanParts}
use Rattle.event_history.specs.Places.{has}
use Rattle.event_history.specs.Plans.{is_same}
use Rattle.event_history.specs.Order.{goes_first}
use Rattle.event_history.proofs.Places.{has_stands}
use Rattle.event_history.proofs.Trees.{is_child_test}
use Rattle.event_history.proofs.EventBound.{legal_few}
use Rattle.scheduling.specs.declared.status.NodeStatus.{NodeStatus}
use Rattle.scheduling.specs.declared.status.NodeStatus.TheVariants.{Hidden, Ready, Claimed, Settled}
use Rattle.scheduling.specs.declared.lock_word.LockWord.{LockWord}
use Rattle.scheduling.specs.declared.lock_word.LockWord.TheVariants.{Readers, Written}
use Rattle.scheduling.specs.declared.task.Opening.{Opening}
use Rattle.scheduling.specs.declared.task.Opening.TheVariants.{Registering, RegisteredAt, Offering, Noticing, Locking, Weighed, Backing, Beginning, StartedAt, Admitting, Guarding}
use Rattle.scheduling.specs.declared.task.Closing.{Closing}
use Rattle.scheduling.specs.declared.task.Closing.TheVariants.{Ending, FinishedAt, SkippedAt, Raising, Giving, Settling, Looking, Passing, CountingOff}
use Rattle.scheduling.specs.declared.task.Task.{Task}
use Rattle.scheduling.specs.declared.task.Task.TheVariants.{Free, Opens, Closes}
use Rattle.scheduling.specs.declared.seat.Hand.{Hand}
use Rattle.scheduling.specs.declared.seat.Seat.{Seat}
use Rattle.scheduling.specs.State.{State, status_at, counter_at, result_at, lock_at}
use Rattle.scheduling.specs.Choices.{next_spare, admit_from, after_settle, offered_to, keys_count, key_at, mode_at, admits_at, taken, given_back, same_word, lock_from, begins, claims, giving, after_finish, is_pulled, pulled_result, event_of}
use Rattle.scheduling.specs.declared.step.Action.{Action}
use Rattle.scheduling.specs.declared.step.Action.TheVariants.{Claim, Own, Notice, Weigh, Take, Give, GiveUp, Draw, Show, Admit, AddChild, Done, Settle, Look, Raise}
use Rattle.scheduling.specs.Rows.{with_task, goes, claimed, is_free, is_ready_for, is_empty, is_of_hand, notice_row, weighed, weigh_row, puts_word, take_found, take_row, gives_key, give_row, give_up_row, drawn, one_more, draw_row, after_start, show_row, offers, waits_for, admit_row, child_added, add_by_hand, add_child_hand, add_child_row, ends_or_free, guard_given, done_by_hand, done_hand, done_row, waits_no_more, settle_row, look_found, look_row, raise_row, row, is_cancelled}
use Rattle.scheduling.specs.Inside.Stages.{How, Gave, Kept, Skips, has_mark, Stage, Unseen, OpenedBy, InHand, ClosedBy, picture, is_unseen, is_past, is_over}
use Rattle.scheduling.specs.Inside.Invariant.{IsCorePlan, IsNextSame, OpeningOk, ShapeOk, RunsSo, Fits, TaskOk, HandOk, IsInHand, SeatOk, Holds, pending}
use Rattle.scheduling.specs.Inside.Work.{IsClear}
use Rattle.scheduling.proofs.Parts.{pending_none}
use Rattle.scheduling.proofs.RowsOne.{by_cond, parent_inside}
use Rattle.scheduling.proofs.RowsTwo.{unseen_is}
use Rattle.scheduling.proofs.RowsDraw.{draw_keeps}
use Rattle.termination.specs.Bounds.{most_keys, if_fast}
use Rattle.termination.specs.Inside.Accounts.{if_skippable, status_steps, counter_steps, opening_steps, task_steps, seat_steps, steps_left}
use Rattle.termination.proofs.Payments.{task_moves, status_moves, counter_moves, event_drawn}
use Rattle.termination.proofs.Prices.{keys_few, bit_few, lock_from_steps, begins_steps, claims_steps, giving_steps, after_finish_steps, admit_steps, ends_steps, settled_steps, started_steps}

ready_steps : (p : PlanParts) (n : ℕ) (o : Option ℕ) (st : NodeStatus) → is_ready_for o st ≡ true → status_steps p n st ≡ if_skippable p n + if_fast p + 3 * keys_count p n
ready_steps p n o Hidden q = absurd (false≢true q)
ready_steps p n o (Ready to) q = refl
ready_steps p n o (Claimed w) q = absurd (false≢true q)
ready_steps p n o Settled q = absurd (false≢true q)

word_same : (word : LockWord) → same_word word word ≡ true
word_same (Readers n) = eq-eqb n n refl
word_same Written = refl

-- one thing more that is outstanding
counter_steps_more : (b : Bool) (c : ℕ) → cond b 0 (c + 1) ≤ 1 + cond b 0 c
counter_steps_more true c = omega arith
counter_steps_more false c = omega arith

counter_steps_on : (p : PlanParts) (n c : ℕ) → is_disabled p.tree n ≡ false → counter_steps p n c ≡ c
counter_steps_on p n c enabled = cond-false (is_disabled p.tree n) 0 c enabled

module _ (p : PlanParts) (core : IsCorePlan p) (replies : ℕ → List Reply) (s : State) (g : ℕ → Stage) (h : Holds p replies s g) (w : ℕ) (seat : Seat) (is : slice_get s.seats w ≡ Some seat) where
  mine : SeatOk p g s.published w seat
  mine = h.seats w seat is

  opens : (n : ℕ) (d : Opening) → seat.task ≡ Opens n d → (n < size p.tree) × (g n ≡ OpenedBy w d)
  opens n d e = subst (TaskOk p g w) e mine.task

  closes : (n : ℕ) (d : Closing) → seat.task ≡ Closes n d → (n < size p.tree) × ((c : ℕ) × (how : How) × (g n ≡ ClosedBy w c d how))
  closes n d e = subst (TaskOk p g w) e mine.task

  task_is : (t : Task) → seat.task ≡ t → seat_steps p seat ≡ task_steps p t
  task_is t e = ap (task_steps p) e

  plain : (after before was then old next : ℕ) → after + was + old ≡ before + then + next → then + next < was + old → after < before
  plain after before was then old next e less = omega (arith, e, less)

  goes_lower : (locks : List LockWord) (cancel : ℕ) (shown : List Bool) (next : Seat) → seat_steps p next < seat_steps p seat → steps_left p (record s { locks = locks; cancel = cancel; shown = shown; seats = set s.seats w next }) < steps_left p s
  goes_lower locks cancel shown next less = (let moves = task_moves p s w seat is locks cancel shown next in one _ _ (seat_steps p seat) (seat_steps p next) moves less)
    where
      one : (after before old next : ℕ) → after + old ≡ before + next → next < old → after < before
      one after before old next e less = omega (arith, e, less)

  -- the state that a row makes
  made : (u t : State) → steps_left p u < steps_left p s → Some u ≡ Some t → steps_left p t < steps_left p s
  made u t less q = subst (λ (x : State). steps_left p x < steps_left p s) (same_Some u t q) less

  lower : (t0 t1 : Task) (locks : List LockWord) (cancel : ℕ) (shown : List Bool) → seat.task ≡ t0 → task_steps p t1 < task_steps p t0 → steps_left p (record s { locks = locks; cancel = cancel; shown = shown; seats = set s.seats w (with_task seat t1) }) < steps_left p s
  lower t0 t1 locks cancel shown e less = goes_lower locks cancel shown (with_task seat t1) (let was = task_is t0 e in omega (arith, was, less))

  -- a node's status changes
  status_lower : (n : ℕ) (v : NodeStatus) (next : Seat) → n < size p.tree → status_steps p n v + seat_steps p next < status_steps p n (status_at s n) + seat_steps p seat → steps_left p (record s { statuses = set s.statuses n v; seats = set s.seats w next }) < steps_left p s
  status_lower n v next inside less = plain _ _ (status_steps p n (status_at s n)) (status_steps p n v) (seat_steps p seat) (seat_steps p next) (status_moves p s w seat is n v next inside h.statuses_len) less

  -- or a counter
  counter_lower : (n c : ℕ) (results : List Status) (next : Seat) → n < size p.tree → counter_steps p n c + seat_steps p next < counter_steps p n (counter_at s n) + seat_steps p seat → steps_left p (record s { counters = set s.counters n c; results = results; seats = set s.seats w next }) < steps_left p s
  counter_lower n c results next inside less = plain _ _ (counter_steps p n (counter_at s n)) (counter_steps p n c) (seat_steps p seat) (seat_steps p next) (counter_moves p s w seat is n c results next inside h.counters_len) less

  claim_pays : (o : Option ℕ) (b : Bool) (n : ℕ) (t0 : Task) → seat.task ≡ t0 → (t : State) → cond (is_free t0 && (b && is_ready_for o (status_at s n))) (Some (claimed p s w seat n)) None ≡ Some t → steps_left p t < steps_left p s
  claim_pays o b n Free e t r =
      let c = cond_some (b && is_ready_for o (status_at s n)) (claimed p s w seat n) t r in
      let ready = (and_parts b (is_ready_for o (status_at s n)) c.0).1 in
      let ready_now = ready_steps p n o (status_at s n) ready in
      let inside : n < length s.statuses = elim (cases_lt n (length s.statuses)) [ inl lt ↦ lt | inr ge ↦ absurd (both_ways (is_ready_for o (status_at s n)) (ap (is_ready_for o) (get_or_past s.statuses n Hidden ge)) ready) ] in
      let next = claims_steps p n in
      let was = task_is Free e in
      subst (λ (x : State). steps_left p x < steps_left p s) c.1 (status_lower n (Claimed w) (with_task seat (Opens n (claims p n))) (omega (arith, inside, h.statuses_len)) (omega (arith, ready_now, next, was)))
  claim_pays o b n _ e t r = absurd (none-some t r)

  notice_pays : (t0 : Task) → seat.task ≡ t0 → (t : State) → notice_row p s w seat t0 ≡ Some t → steps_left p t < steps_left p s
  notice_pays (Opens n Noticing) e t r =
      made _ t (lower (Opens n Noticing) (Opens n (begins p n (is_cancelled p s))) s.locks s.cancel s.shown e (let a = begins_steps p n (is_cancelled p s) in let fast = bit_few p.fail_fast in omega (arith, a, fast))) r
  notice_pays _ e t r = absurd (none-some t r)

  raise_pays : (t0 : Task) → seat.task ≡ t0 → (t : State) → raise_row p s w seat t0 ≡ Some t → steps_left p t < steps_left p s
  raise_pays (Closes n Raising) e t r =
      made _ t (lower (Closes n Raising) (Closes n (giving (keys_count p n))) s.locks (s.cancel + 1) s.shown e (let a = giving_steps p n (keys_count p n) in let few = keys_few p n in let fast = bit_few p.fail_fast in omega (arith, a, few, fast))) r
  raise_pays _ e t r = absurd (none-some t r)

  weigh_pays : (t0 : Task) → seat.task ≡ t0 → IsClear p s t0 → (t : State) → weigh_row p s w seat t0 ≡ Some t → steps_left p t < steps_left p s
  weigh_pays (Opens n (Locking i)) e clear t r =
      let word : LockWord = lock_at s (key_at p n i) in
      let next : opening_steps p n (weighed p n i word) ≡ 2 * (keys_count p n - i) + most_keys p = ap (opening_steps p n) (cond-true (admits_at p n i word) (Weighed i word) (Backing i) clear) in
      made _ t (lower (Opens n (Locking i)) (Opens n (weighed p n i word)) s.locks s.cancel s.shown e (omega (arith, next))) r
  weigh_pays _ e clear t r = absurd (none-some t r)

  take_pays : (t0 : Task) → seat.task ≡ t0 → IsClear p s t0 → (t : State) → take_row p s w seat t0 ≡ Some t → steps_left p t < steps_left p s
  take_pays (Opens n (Weighed i v)) e clear t r =
      let at = opens n (Weighed i v) e in
      let ok : OpeningOk p replies s.published n (Weighed i v) = subst (ShapeOk p replies s.published n) at.1 (h.shapes n at.0) in
      let few : i < keys_count p n = ok.0 in
      let next = lock_from_steps p n (suc i) in
      let locks : List LockWord = set s.locks (key_at p n i) (taken (mode_at p n i) v) in
      let found : take_found p s w seat n i v (Some v) ≡ Some t = ap (take_found p s w seat n i v) (sym clear) ∙ r in
      let put = cond-true (same_word v v) (Some (puts_word s w seat (Opens n (lock_from p n (suc i))) (key_at p n i) (taken (mode_at p n i) v))) (Some (goes s w seat (Opens n (Locking i)))) (word_same v) in
      made _ t (lower (Opens n (Weighed i v)) (Opens n (lock_from p n (suc i))) locks s.cancel s.shown e (omega (arith, next, few))) (sym put ∙ found)
  take_pays _ e clear t r = absurd (none-some t r)

  give_pays : (t0 : Task) → seat.task ≡ t0 → IsClear p s t0 → (t : State) → give_row p s w seat t0 ≡ Some t → steps_left p t < steps_left p s
  give_pays (Closes n (Giving (suc i))) e clear t r = go (slice_get s.locks (key_at p n i)) r
    where
      go : (found : Option LockWord) → gives_key p s w seat (Closes n (giving i)) n i found ≡ Some t → steps_left p t < steps_left p s
      go None r = absurd (none-some t r)
      go (Some word) r =
          made _ t (lower (Closes n (Giving (suc i))) (Closes n (giving i)) (set s.locks (key_at p n i) (given_back (mode_at p n i) word)) s.cancel s.shown e (let a = giving_steps p n i in omega (arith, a))) r
  give_pays (Opens n (Backing i)) e clear t r = absurd clear
  give_pays _ e clear t r = absurd (none-some t r)

  give_up_pays : (t0 : Task) → IsClear p s t0 → (t : State) → give_up_row p s w seat t0 ≡ Some t → steps_left p t < steps_left p s
  give_up_pays (Opens n (Backing i)) clear t r = absurd clear
  give_up_pays _ clear t r = absurd (none-some t r)

  -- there is room for what is drawn, as what is published then is legal
  draws : (t0 : Task) → seat.task ≡ t0 → (ev : Event) (next : Seat) → draw_row s w seat t0 ≡ Some (drawn s w ev next) → seat_steps p next < 3 + task_steps p t0 → steps_left p (drawn s w ev next) < steps_left p s
  draws t0 e ev next r less =
      let kept = draw_keeps p core replies s g h w seat is t0 e (drawn s w ev next) r in
      let few = legal_few p replies (length (set s.seats w next)) (s.published ++ ev ∷ []) kept.1.published.legal in
      let more = length-append s.published (ev ∷ []) in
      let was = task_is t0 e in
      event_drawn p s w seat is ev next (omega (arith, few, more)) (omega (arith, was, less))

  draw_pays : (t0 : Task) → seat.task ≡ t0 → (t : State) → draw_row s w seat t0 ≡ Some t → steps_left p t < steps_left p s
  draw_pays (Opens n Registering) e t r =
      made _ t (draws (Opens n Registering) e (event_of Registered n None w) (record { task = Opens n (RegisteredAt (length s.published)); hand = one_more seat.hand }) refl (omega arith)) r
  draw_pays (Opens n (Beginning true)) e t r =
      made _ t (draws (Opens n (Beginning true)) e (event_of Skipped n None w) (with_task seat (Closes n (SkippedAt (length s.published)))) refl (let fast = bit_few p.fail_fast in omega (arith, fast))) r
  draw_pays (Opens n (Beginning false)) e t r =
      made _ t (draws (Opens n (Beginning false)) e (event_of Started n None w) (with_task seat (Opens n (StartedAt (length s.published)))) refl (omega arith)) r
  draw_pays (Closes n (Ending status)) e t r =
      made _ t (draws (Closes n (Ending status)) e (event_of Finished n (Some status) w) (with_task seat (Closes n (FinishedAt (length s.published) status))) refl (omega arith)) r
  draw_pays _ e t r = absurd (none-some t r)

  show_pays : (t0 : Task) → seat.task ≡ t0 → (t : State) → show_row p s w seat t0 ≡ Some t → steps_left p t < steps_left p s
  show_pays (Opens n (RegisteredAt i)) e t r = made _ t (lower (Opens n (RegisteredAt i)) (Opens n Offering) s.locks s.cancel (set s.shown i true) e (omega arith)) r
  show_pays (Opens n (StartedAt i)) e t r =
      made _ t (goes_lower s.locks s.cancel (set s.shown i true) (after_start p seat n) (let a = started_steps p seat n in let was = task_is (Opens n (StartedAt i)) e in omega (arith, a, was))) r
  show_pays (Closes n (SkippedAt i)) e t r = made _ t (lower (Closes n (SkippedAt i)) (Closes n Settling) s.locks s.cancel (set s.shown i true) e (let few = keys_few p n in let fast = bit_few p.fail_fast in omega (arith, few, fast))) r
  show_pays (Closes n (FinishedAt i status)) e t r =
      made _ t (lower (Closes n (FinishedAt i status)) (Closes n (after_finish p n status)) s.locks s.cancel (set s.shown i true) e (let a = after_finish_steps p n status in omega (arith, a))) r
  show_pays _ e t r = absurd (none-some t r)

  -- a node is offered that was hidden
  offers_pays : (t0 : Task) → seat.task ≡ t0 → (c : ℕ) (o : Option ℕ) (next : Seat) → c < size p.tree → status_steps p c (status_at s c) ≡ 2 + if_skippable p c + if_fast p + 3 * keys_count p c → seat_steps p next < 2 + task_steps p t0 → steps_left p (offers s w next c o) < steps_left p s
  offers_pays t0 e c o next inside hidden less = status_lower c (Ready o) next inside (let was = task_is t0 e in omega (arith, hidden, was, less))

  word_steps : (c : ℕ) (st : Stage) → c < size p.tree → g c ≡ st → status_steps p c (status_at s c) ≡ status_steps p c (picture p c st).word
  word_steps c st inside at = ap (status_steps p c) (h.words c inside) ∙ ap (λ (x : Stage). status_steps p c (picture p c x).word) at

  admit_pays : (t0 : Task) → seat.task ≡ t0 → (t : State) → admit_row p s w seat t0 ≡ Some t → steps_left p t < steps_left p s
  admit_pays (Opens n (Admitting c)) e t r =
      let at = opens n (Admitting c) e in
      let ok : OpeningOk p replies s.published n (Admitting c) = subst (ShapeOk p replies s.published n) at.1 (h.shapes n at.0) in
      let ch : IsChild p.tree n c = is_child_test p.tree n c ok.1 (and_parts (is_child p.tree n c) _ ok.2).0 in
      let so : RunsSo p n c w c (g c) = subst (λ (st : Stage). Fits p (picture p n st).below n c (g c)) at.1 (h.edges n c ch) in
      let next = admit_steps p n (suc c) in
      made _ t (offers_pays (Opens n (Admitting c)) e c (offered_to p w c) (with_task seat (Opens n (admit_from p n (suc c)))) ok.1 (word_steps c Unseen ok.1 (unseen_is (g c) (so.rest ok.2 (omega arith)))) (omega (arith, next))) r
  admit_pays (Opens c Offering) e t r =
      let at = opens c Offering e in
      made _ t (offers_pays (Opens c Offering) e c (offered_to p w c) (record { task = Free; hand = waits_for p c seat.hand }) at.0 (word_steps c (OpenedBy w Offering) at.0 at.1) (omega arith)) r
  admit_pays (Closes n (Passing m o)) e t r =
      let at = closes n (Passing m o) e in
      let next : IsNextSame p n m = subst (ShapeOk p replies s.published n) at.1.2 (h.shapes n at.0) in
      let first : goes_first p n m ≡ true = and_from (is_same p n) _ next.same (or_left (is_same p m) _ next.next_same) in
      let unseen : g m ≡ Unseen = elim (cases_Bool (is_unseen (g m))) [
        | inl q ↦ unseen_is (g m) q
        | inr q ↦ absurd (both_ways (is_past (g n)) (ap is_past at.1.2) (h.elders n m next.elder first q))
      ] in
      made _ t (offers_pays (Closes n (Passing m o)) e m (Some o) (with_task seat (Closes n CountingOff)) next.elder.younger.inside (word_steps m Unseen next.elder.younger.inside unseen) (omega arith)) r
  admit_pays _ e t r = absurd (none-some t r)

  -- with a factory in hand
  in_hand : (hand : Hand) → seat.hand ≡ Some hand → IsInHand p g s.published w hand
  in_hand hand is_hand = subst (HandOk p g s.published w) is_hand mine.hand

  -- its own guard is outstanding
  guards : (n : ℕ) (st : Stage) → n < size p.tree → g n ≡ st → (picture p n st).guard ≡ 1 → 0 < counter_at s n
  guards n st inside at one = (let o = h.counters n inside in let v : (picture p n (g n)).guard ≡ 1 = ap (λ (x : Stage). (picture p n x).guard) at ∙ one in omega (arith, o, v))

  add_child_pays : (reply : Reply) (t0 : Task) → seat.task ≡ t0 → (t : State) → add_child_row p s w seat reply t0 ≡ Some t → steps_left p t < steps_left p s
  add_child_pays reply Free e t r = by_hand seat.hand refl r
    where
      by_found : (hand : Hand) → seat.hand ≡ Some hand → (found : Option ℕ) → child_added s w seat hand.factory found ≡ Some t → steps_left p t < steps_left p s
      by_found hand is_hand None r = absurd (none-some t r)
      by_found hand is_hand (Some c) r =
          let was = task_is Free e in
          let more = counter_steps_more (is_disabled p.tree hand.factory) (counter_at s hand.factory) in
          made _ t (counter_lower hand.factory (counter_at s hand.factory + 1) s.results (with_task seat (Opens c Registering)) (in_hand hand is_hand).inside (omega (arith, was, more))) r

      by_waiting : (hand : Hand) → seat.hand ≡ Some hand → (waiting : Option ℕ) → add_by_hand p s w seat reply hand.factory hand.registered waiting ≡ Some t → steps_left p t < steps_left p s
      by_waiting hand is_hand (Some c) r = absurd (none-some t r)
      by_waiting hand is_hand None r =
          by_cond (λ (o : Option State). o ≡ Some t → steps_left p t < steps_left p s) (nat_lt hand.registered reply.pulls) (child_added s w seat hand.factory (next_spare p hand.factory hand.registered)) None
          (λ more q. by_found hand is_hand (next_spare p hand.factory hand.registered) q) (λ less q. absurd (none-some t q)) r

      by_hand : (hand : Option Hand) → seat.hand ≡ hand → add_child_hand p s w seat reply hand ≡ Some t → steps_left p t < steps_left p s
      by_hand None is_hand r = absurd (none-some t r)
      by_hand (Some hand) is_hand r = by_waiting hand is_hand hand.waiting r
  add_child_pays reply _ e t r = absurd (none-some t r)

  -- a node has one thing less outstanding
  off_pays : (t0 : Task) → seat.task ≡ t0 → (n : ℕ) (results : List Status) (next : Seat) → n < size p.tree → 0 < counter_at s n → is_disabled p.tree n ≡ false → seat_steps p next ≤ task_steps p t0
      → steps_left p (record s { counters = set s.counters n (counter_at s n - 1); results = results; seats = set s.seats w next }) < steps_left p s
  off_pays t0 e n results next inside some enabled less =
      let was = task_is t0 e in
      let now = counter_steps_on p n (counter_at s n - 1) enabled in
      let before = counter_steps_on p n (counter_at s n) enabled in
      counter_lower n (counter_at s n - 1) results next inside (omega (arith, was, less, some, now, before))

  -- a node that has started is not disabled
  started_on : (n : ℕ) → has Started n s.published ≡ true → is_disabled p.tree n ≡ false
  started_on n q = (let x = has_stands Started n s.published q in h.published.legal.unstarted x.0 n x.1)

  runs_on : (n : ℕ) (st : Stage) → n < size p.tree → g n ≡ st → has_mark (is_spare_at p.tree n) Started (picture p n st).mark ≡ true → is_disabled p.tree n ≡ false
  runs_on n st inside at mark = started_on n (h.flags Started n inside ∙ ap (λ (x : Stage). has_mark (is_spare_at p.tree n) Started (picture p n x).mark) at ∙ mark)

  -- nor is one that stands above another with an event
  above_on : (a c : ℕ) (k : EventKind) → IsChild p.tree a c → has k c s.published ≡ true → is_disabled p.tree a ≡ false
  above_on a c k ch q =
      let x = has_stands k c s.published q in
      let above = h.published.legal.start_above x.0 a x.1.event x.1.here (subst (Below p.tree a) (sym x.1.node) (child ch)) in
      h.published.legal.unstarted above.place a above.stands

  over_on : (a c who : ℕ) (how : How) → IsChild p.tree a c → c < size p.tree → g c ≡ ClosedBy w who CountingOff how → is_disabled p.tree a ≡ false
  over_on a c who Gave ch inside at = above_on a c Finished ch (h.flags Finished c inside ∙ ap (λ (x : Stage). has_mark (is_spare_at p.tree c) Finished (picture p c x).mark) at)
  over_on a c who Kept ch inside at = above_on a c Finished ch (h.flags Finished c inside ∙ ap (λ (x : Stage). has_mark (is_spare_at p.tree c) Finished (picture p c x).mark) at)
  over_on a c who Skips ch inside at = above_on a c Skipped ch (h.flags Skipped c inside ∙ ap (λ (x : Stage). has_mark (is_spare_at p.tree c) Skipped (picture p c x).mark) at)

  -- a child that is to be counted off
  counts : (a c : ℕ) → a < size p.tree → IsChild p.tree a c → is_over (is_spare_at p.tree c) (g c) ≡ false → 0 < counter_at s a
  counts a c inside ch live =
      let o = h.counters a inside in
      elim (cases_eq (pending p g a) 0) [
        | inl none ↦ absurd (both_ways (is_over (is_spare_at p.tree c) (g c)) live (pending_none p g a c none ch))
        | inr some ↦ omega (arith, o, some)
      ]

  done_pays : (reply : Reply) (t0 : Task) → seat.task ≡ t0 → (t : State) → done_row p s w seat reply t0 ≡ Some t → steps_left p t < steps_left p s
  done_pays reply (Opens n Guarding) e t r =
      let at = opens n Guarding e in
      made _ t (off_pays (Opens n Guarding) e n (set s.results n Successful) (record { task = ends_or_free p n Successful (counter_at s n); hand = seat.hand }) at.0
      (guards n (OpenedBy w Guarding) at.0 at.1 refl) (runs_on n (OpenedBy w Guarding) at.0 at.1 refl) (ends_steps p n Successful (counter_at s n))) r
  done_pays reply (Closes c CountingOff) e t r =
      let at = closes c CountingOff e in
      let a : ℕ = parent_of p.tree c in
      let pos : 0 < c = subst (ShapeOk p replies s.published c) at.1.2 (h.shapes c at.0) in
      let ch : IsChild p.tree a c = record { above_zero = pos; inside = at.0; parent = refl } in
      let inside = parent_inside p core.plan a c ch in
      made _ t (off_pays (Closes c CountingOff) e a s.results (with_task seat (ends_or_free p a (result_at s a) (counter_at s a))) inside
      (counts a c inside ch (ap (is_over (is_spare_at p.tree c)) at.1.2)) (over_on a c at.1.0 at.1.1 ch at.0 at.1.2) (ends_steps p a (result_at s a) (counter_at s a))) r
  done_pays reply Free e t r = by_hand seat.hand refl r
    where
      by_waiting : (hand : Hand) → seat.hand ≡ Some hand → (waiting : Option ℕ) → done_by_hand p s w reply hand.factory hand.registered waiting ≡ Some t → steps_left p t < steps_left p s
      by_waiting hand is_hand (Some c) r = absurd (none-some t r)
      by_waiting hand is_hand None r =
          let c = cond_some (is_pulled p hand.factory hand.registered reply) (guard_given p s w None hand.factory (pulled_result hand.registered reply)) t r in
          let ok = in_hand hand is_hand in
          let result = pulled_result hand.registered reply in
          subst (λ (x : State). steps_left p x < steps_left p s) c.1
          (off_pays Free e hand.factory (set s.results hand.factory result) (record { task = ends_or_free p hand.factory result (counter_at s hand.factory); hand = None }) ok.inside
          (guards hand.factory (InHand w) ok.inside ok.at refl) (runs_on hand.factory (InHand w) ok.inside ok.at refl) (ends_steps p hand.factory result (counter_at s hand.factory)))

      by_hand : (hand : Option Hand) → seat.hand ≡ hand → done_hand p s w reply hand ≡ Some t → steps_left p t < steps_left p s
      by_hand None is_hand r = absurd (none-some t r)
      by_hand (Some hand) is_hand r = by_waiting hand is_hand hand.waiting r
  done_pays reply _ e t r = absurd (none-some t r)

  settle_pays : (t0 : Task) → seat.task ≡ t0 → (t : State) → settle_row p s w seat t0 ≡ Some t → steps_left p t < steps_left p s
  settle_pays (Closes n Settling) e t r =
      let at = closes n Settling e in
      let next = settled_steps p n in
      let was = task_is (Closes n Settling) e in
      let claimed_now = word_steps n (ClosedBy w at.1.0 Settling at.1.1) at.0 at.1.2 in
      made _ t (status_lower n Settled (record { task = after_settle p n; hand = waits_no_more n seat.hand }) at.0 (let few = keys_few p n in let fast = bit_few p.fail_fast in omega (arith, next, was, claimed_now, few, fast))) r
  settle_pays _ e t r = absurd (none-some t r)

  look_pays : (t0 : Task) → seat.task ≡ t0 → (t0 ≡ Free → ⊥) → (t : State) → look_row p s w seat t0 ≡ Some t → steps_left p t < steps_left p s
  look_pays (Closes n (Looking m)) e busy t r = go (status_at s (parent_of p.tree n)) r
    where
      go : (status : NodeStatus) → look_found s w seat n m status ≡ Some t → steps_left p t < steps_left p s
      go (Claimed o) r = made _ t (lower (Closes n (Looking m)) (Closes n (Passing m o)) s.locks s.cancel s.shown e (omega arith)) r
      go Hidden r = absurd (none-some t r)
      go (Ready o) r = absurd (none-some t r)
      go Settled r = absurd (none-some t r)
  look_pays Free e busy t r = absurd (busy refl)
  look_pays _ e busy t r = absurd (none-some t r)

  -- Each row but a free worker's look lowers what is left, where no other worker is in the way of the task.
  pub row_pays : (reply : Reply) (a : Action) → (a ≡ Look → seat.task ≡ Free → ⊥) → IsClear p s seat.task → (t : State) → row p s w seat reply a ≡ Some t → steps_left p t < steps_left p s
  row_pays reply (Claim n) acts clear t r = claim_pays None (is_empty seat.hand) n seat.task refl t r
  row_pays reply (Own n) acts clear t r = claim_pays (Some w) (is_of_hand p seat.hand n) n seat.task refl t r
  row_pays reply Notice acts clear t r = notice_pays seat.task refl t r
  row_pays reply Weigh acts clear t r = weigh_pays seat.task refl clear t r
  row_pays reply Take acts clear t r = take_pays seat.task refl clear t r
  row_pays reply Give acts clear t r = give_pays seat.task refl clear t r
  row_pays reply GiveUp acts clear t r = give_up_pays seat.task clear t r
  row_pays reply Draw acts clear t r = draw_pays seat.task refl t r
  row_pays reply Show acts clear t r = show_pays seat.task refl t r
  row_pays reply Admit acts clear t r = admit_pays seat.task refl t r
  row_pays reply AddChild acts clear t r = add_child_pays reply seat.task refl t r
  row_pays reply Done acts clear t r = done_pays reply seat.task refl t r
  row_pays reply Settle acts clear t r = settle_pays seat.task refl t r
  row_pays reply Look acts clear t r = look_pays seat.task refl (acts refl) t r
  row_pays reply Raise acts clear t r = raise_pays seat.task refl t r
