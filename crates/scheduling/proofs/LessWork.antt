-- Each row but a free worker's look lowers what is left to do, where no other worker is in the way of the task.
use Rattle.std.proofs.Common.{◌≡◌, ℕ, suc, ◌+◌, ◌*◌, ◌-◌, ◌<◌, Bool, true, false, cond, ◌&&◌, nat_lt, List, [], ◌∷◌, ◌++◌, length, set, Option, Some, None, slice_get, inl, inr, refl, sym, ap, ◌∙◌, subst, arith, length-append}
use Rattle.std.proofs.lemmas.Option.{none-some, same_Some, cond_some}
use Rattle.std.proofs.lemmas.List.{get_or_past}
use Rattle.std.proofs.lemmas.Bool.{cases_eq, cases_lt, cases_Bool, both_ways, false≢true, and_parts, and_from, or_left, cond-true, eq-eqb}
use Rattle.descriptor.specs.Nodes.{size, parent_of, IsChild, is_child, is_spare_at}
use Rattle.plan_events.specs.declared.event.Event.{Event}
use Rattle.plan_events.specs.declared.outcome.Reply.{Reply}
use Rattle.plan_events.specs.declared.status.Status.{Status}
use Rattle.plan_events.specs.declared.status.Status.TheVariants.{Successful}
use Rattle.plan_events.specs.declared.event.EventKind.TheVariants.{Started, Finished, Skipped, Registered}
use Rattle.resource_locks.specs.Plans.{PlanParts}
use Rattle.event_history.specs.Plans.{is_same}
use Rattle.event_history.specs.Order.{goes_first}
use Rattle.event_history.proofs.Trees.{is_child_test}
use Rattle.event_history.proofs.EventBound.{legal_few}
use Rattle.scheduling.specs.declared.status.NodeStatus.{NodeStatus}
use Rattle.scheduling.specs.declared.status.NodeStatus.TheVariants.{Hidden, Ready, Claimed, Settled}
use Rattle.scheduling.specs.declared.lock_word.LockWord.{LockWord}
use Rattle.scheduling.specs.declared.lock_word.LockWord.TheVariants.{Readers, Written}
use Rattle.scheduling.specs.declared.task.Opening.{Opening}
use Rattle.scheduling.specs.declared.task.Opening.TheVariants.{Registering, RegisteredAt, Offering, Noticing, Locking, Weighed, Backing, Beginning, StartedAt, Admitting, Guarding}
use Rattle.scheduling.specs.declared.task.Closing.{Closing}
use Rattle.scheduling.specs.declared.task.Closing.TheVariants.{Ending, FinishedAt, SkippedAt, Raising, Giving, Settling, Looking, Passing, CountingOff}
use Rattle.scheduling.specs.declared.task.Task.{Task}
use Rattle.scheduling.specs.declared.task.Task.TheVariants.{Free, Opens, Closes}
use Rattle.scheduling.specs.declared.seat.Hand.{Hand}
use Rattle.scheduling.specs.declared.seat.Seat.{Seat}
use Rattle.scheduling.specs.State.{State, status_at, counter_at, result_at, lock_at}
use Rattle.scheduling.specs.Choices.{next_spare, admit_from, after_settle, offered_to, keys_count, key_at, mode_at, admits_at, taken, given_back, same_word, lock_from, begins, claims, giving, after_finish, is_pulled, pulled_result, event_of}
use Rattle.scheduling.specs.declared.step.Action.{Action}
use Rattle.scheduling.specs.declared.step.Action.TheVariants.{Claim, Own, Notice, Weigh, Take, Give, GiveUp, Draw, Show, Admit, AddChild, Done, Settle, Look, Raise}
use Rattle.scheduling.specs.Rows.{with_task, goes, claimed, is_free, is_ready_for, is_empty, is_of_hand, notice_row, weighed, weigh_row, puts_word, take_found, take_row, gives_key, give_row, give_up_row, drawn, one_more, draw_row, after_start, show_row, offers, waits_for, admit_row, child_added, add_by_hand, add_child_hand, add_child_row, ends_or_free, guard_given, done_by_hand, done_hand, done_row, waits_no_more, settle_row, look_found, look_row, raise_row, row, is_cancelled}
use Rattle.scheduling.specs.Inside.Stages.{How, Stage, Unseen, OpenedBy, InHand, ClosedBy, picture, is_unseen, is_past, is_over}
use Rattle.scheduling.specs.Inside.Invariant.{IsCorePlan, IsNextSame, OpeningOk, ShapeOk, RunsSo, Fits, TaskOk, HandOk, IsInHand, SeatOk, Holds, pending}
use Rattle.scheduling.specs.Inside.Work.{status_rank, weight, opening_rank, task_rank, seat_rank, work_left, IsClear}
use Rattle.scheduling.proofs.Parts.{pending_none}
use Rattle.scheduling.proofs.RowsOne.{by_cond, parent_inside}
use Rattle.scheduling.proofs.RowsTwo.{unseen_is}
use Rattle.scheduling.proofs.RowsDraw.{draw_keeps}
use Rattle.scheduling.proofs.LessWorkMoves.{keys_few, weight_least, goes_lower, status_lower, counter_lower, counter_higher, draw_lower}
use Rattle.scheduling.proofs.TaskRanks.{lock_from_rank, begins_rank, claims_rank, giving_rank, after_finish_rank, admit_rank, ends_rank, settled_rank, started_rank}

ready_rank : (o : Option ℕ) (st : NodeStatus) → is_ready_for o st ≡ true → status_rank st ≡ 2
ready_rank o Hidden q = absurd (false≢true q)
ready_rank o (Ready to) q = refl
ready_rank o (Claimed w) q = absurd (false≢true q)
ready_rank o Settled q = absurd (false≢true q)

word_same : (word : LockWord) → same_word word word ≡ true
word_same (Readers n) = eq-eqb n n refl
word_same Written = refl

module _ (p : PlanParts) (core : IsCorePlan p) (replies : ℕ → List Reply) (s : State) (g : ℕ → Stage) (h : Holds p replies s g) (w : ℕ) (seat : Seat) (is : slice_get s.seats w ≡ Some seat) where
  mine : SeatOk p g s.published w seat
  mine = h.seats w seat is

  opens : (n : ℕ) (d : Opening) → seat.task ≡ Opens n d → (n < size p.tree) × (g n ≡ OpenedBy w d)
  opens n d e = subst (TaskOk p g w) e mine.task

  closes : (n : ℕ) (d : Closing) → seat.task ≡ Closes n d → (n < size p.tree) × ((c : ℕ) × (how : How) × (g n ≡ ClosedBy w c d how))
  closes n d e = subst (TaskOk p g w) e mine.task

  ranked : (t : Task) → seat.task ≡ t → seat_rank p seat ≡ task_rank p t
  ranked t e = ap (task_rank p) e

  -- the state that a row makes
  made : (u t : State) → work_left p u < work_left p s → Some u ≡ Some t → work_left p t < work_left p s
  made u t less q = subst (λ (x : State). work_left p x < work_left p s) (same_Some u t q) less

  lower : (t0 t1 : Task) (locks : List LockWord) (cancel : ℕ) (shown : List Bool) → seat.task ≡ t0 → task_rank p t1 < task_rank p t0 → work_left p (record s { locks = locks; cancel = cancel; shown = shown; seats = set s.seats w (with_task seat t1) }) < work_left p s
  lower t0 t1 locks cancel shown e less = goes_lower p s w seat is locks cancel shown (with_task seat t1) (let was = ranked t0 e in omega (arith, was, less))

  claim_lessens : (o : Option ℕ) (b : Bool) (n : ℕ) (t0 : Task) → seat.task ≡ t0 → (t : State) → cond (is_free t0 && (b && is_ready_for o (status_at s n))) (Some (claimed p s w seat n)) None ≡ Some t → work_left p t < work_left p s
  claim_lessens o b n Free e t r =
      let c = cond_some (b && is_ready_for o (status_at s n)) (claimed p s w seat n) t r in
      let ready = (and_parts b (is_ready_for o (status_at s n)) c.0).1 in
      let two = ready_rank o (status_at s n) ready in
      let inside : n < length s.statuses = elim (cases_lt n (length s.statuses)) [ inl lt ↦ lt | inr ge ↦ absurd (both_ways (is_ready_for o (status_at s n)) (ap (is_ready_for o) (get_or_past s.statuses n Hidden ge)) ready) ] in
      let few = keys_few p n (omega (arith, inside, h.statuses_len)) in
      let next = claims_rank p n in
      let was = ranked Free e in
      subst (λ (x : State). work_left p x < work_left p s) c.1 (status_lower p s w seat is n (Claimed w) (with_task seat (Opens n (claims p n))) inside (sym two) (omega (arith, few, next, was)))
  claim_lessens o b n _ e t r = absurd (none-some t r)

  notice_lessens : (t0 : Task) → seat.task ≡ t0 → (t : State) → notice_row p s w seat t0 ≡ Some t → work_left p t < work_left p s
  notice_lessens (Opens n Noticing) e t r =
      made _ t (lower (Opens n Noticing) (Opens n (begins p n (is_cancelled p s))) s.locks s.cancel s.shown e (let a = begins_rank p n (is_cancelled p s) in omega (arith, a))) r
  notice_lessens _ e t r = absurd (none-some t r)

  raise_lessens : (t0 : Task) → seat.task ≡ t0 → (t : State) → raise_row p s w seat t0 ≡ Some t → work_left p t < work_left p s
  raise_lessens (Closes n Raising) e t r =
      made _ t (lower (Closes n Raising) (Closes n (giving (keys_count p n))) s.locks (s.cancel + 1) s.shown e (let a = giving_rank p n (keys_count p n) in omega (arith, a))) r
  raise_lessens _ e t r = absurd (none-some t r)

  weigh_lessens : (t0 : Task) → seat.task ≡ t0 → IsClear p s t0 → (t : State) → weigh_row p s w seat t0 ≡ Some t → work_left p t < work_left p s
  weigh_lessens (Opens n (Locking i)) e clear t r =
      let word : LockWord = lock_at s (key_at p n i) in
      let next : opening_rank p n (weighed p n i word) ≡ 4 + 2 * (keys_count p n - i) = ap (opening_rank p n) (cond-true (admits_at p n i word) (Weighed i word) (Backing i) clear) in
      made _ t (lower (Opens n (Locking i)) (Opens n (weighed p n i word)) s.locks s.cancel s.shown e (omega (arith, next))) r
  weigh_lessens _ e clear t r = absurd (none-some t r)

  take_lessens : (t0 : Task) → seat.task ≡ t0 → IsClear p s t0 → (t : State) → take_row p s w seat t0 ≡ Some t → work_left p t < work_left p s
  take_lessens (Opens n (Weighed i v)) e clear t r =
      let at = opens n (Weighed i v) e in
      let ok : OpeningOk p replies s.published n (Weighed i v) = subst (ShapeOk p replies s.published n) at.1 (h.shapes n at.0) in
      let few : i < keys_count p n = ok.0 in
      let next = lock_from_rank p n (suc i) in
      let locks : List LockWord = set s.locks (key_at p n i) (taken (mode_at p n i) v) in
      let found : take_found p s w seat n i v (Some v) ≡ Some t = ap (take_found p s w seat n i v) (sym clear) ∙ r in
      let put = cond-true (same_word v v) (Some (puts_word s w seat (Opens n (lock_from p n (suc i))) (key_at p n i) (taken (mode_at p n i) v))) (Some (goes s w seat (Opens n (Locking i)))) (word_same v) in
      made _ t (lower (Opens n (Weighed i v)) (Opens n (lock_from p n (suc i))) locks s.cancel s.shown e (omega (arith, next, few))) (sym put ∙ found)
  take_lessens _ e clear t r = absurd (none-some t r)

  give_lessens : (t0 : Task) → seat.task ≡ t0 → IsClear p s t0 → (t : State) → give_row p s w seat t0 ≡ Some t → work_left p t < work_left p s
  give_lessens (Closes n (Giving (suc i))) e clear t r = go (slice_get s.locks (key_at p n i)) r
    where
      go : (found : Option LockWord) → gives_key p s w seat (Closes n (giving i)) n i found ≡ Some t → work_left p t < work_left p s
      go None r = absurd (none-some t r)
      go (Some word) r =
          made _ t (lower (Closes n (Giving (suc i))) (Closes n (giving i)) (set s.locks (key_at p n i) (given_back (mode_at p n i) word)) s.cancel s.shown e (let a = giving_rank p n i in omega (arith, a))) r
  give_lessens (Opens n (Backing i)) e clear t r = absurd clear
  give_lessens _ e clear t r = absurd (none-some t r)

  give_up_lessens : (t0 : Task) → IsClear p s t0 → (t : State) → give_up_row p s w seat t0 ≡ Some t → work_left p t < work_left p s
  give_up_lessens (Opens n (Backing i)) clear t r = absurd clear
  give_up_lessens _ clear t r = absurd (none-some t r)

  -- there is room for what is drawn, as what is published then is legal
  draws : (t0 : Task) → seat.task ≡ t0 → (ev : Event) (next : Seat) → draw_row s w seat t0 ≡ Some (drawn s w ev next) → seat_rank p next + 1 < weight p + task_rank p t0 → work_left p (drawn s w ev next) < work_left p s
  draws t0 e ev next r less =
      let kept = draw_keeps p core replies s g h w seat is t0 e (drawn s w ev next) r in
      let few = legal_few p replies (length (set s.seats w next)) (s.published ++ ev ∷ []) kept.1.published.legal in
      let more = length-append s.published (ev ∷ []) in
      let was = ranked t0 e in
      draw_lower p s w seat is ev next (omega (arith, few, more)) (omega (arith, was, less))

  draw_lessens : (t0 : Task) → seat.task ≡ t0 → (t : State) → draw_row s w seat t0 ≡ Some t → work_left p t < work_left p s
  draw_lessens (Opens n Registering) e t r =
      let least = weight_least p in
      made _ t (draws (Opens n Registering) e (event_of Registered n None w) (record { task = Opens n (RegisteredAt (length s.published)); hand = one_more seat.hand }) refl (omega (arith, least))) r
  draw_lessens (Opens n (Beginning true)) e t r =
      let least = weight_least p in
      made _ t (draws (Opens n (Beginning true)) e (event_of Skipped n None w) (with_task seat (Closes n (SkippedAt (length s.published)))) refl (omega (arith, least))) r
  draw_lessens (Opens n (Beginning false)) e t r =
      made _ t (draws (Opens n (Beginning false)) e (event_of Started n None w) (with_task seat (Opens n (StartedAt (length s.published)))) refl (omega arith)) r
  draw_lessens (Closes n (Ending status)) e t r =
      let few = keys_few p n (closes n (Ending status) e).0 in
      made _ t (draws (Closes n (Ending status)) e (event_of Finished n (Some status) w) (with_task seat (Closes n (FinishedAt (length s.published) status))) refl (omega (arith, few))) r
  draw_lessens _ e t r = absurd (none-some t r)

  show_lessens : (t0 : Task) → seat.task ≡ t0 → (t : State) → show_row p s w seat t0 ≡ Some t → work_left p t < work_left p s
  show_lessens (Opens n (RegisteredAt i)) e t r = made _ t (lower (Opens n (RegisteredAt i)) (Opens n Offering) s.locks s.cancel (set s.shown i true) e (omega arith)) r
  show_lessens (Opens n (StartedAt i)) e t r =
      made _ t (goes_lower p s w seat is s.locks s.cancel (set s.shown i true) (after_start p seat n) (let a = started_rank p seat n in let was = ranked (Opens n (StartedAt i)) e in omega (arith, a, was))) r
  show_lessens (Closes n (SkippedAt i)) e t r = made _ t (lower (Closes n (SkippedAt i)) (Closes n Settling) s.locks s.cancel (set s.shown i true) e (omega arith)) r
  show_lessens (Closes n (FinishedAt i status)) e t r =
      made _ t (lower (Closes n (FinishedAt i status)) (Closes n (after_finish p n status)) s.locks s.cancel (set s.shown i true) e (let a = after_finish_rank p n status in omega (arith, a))) r
  show_lessens _ e t r = absurd (none-some t r)

  -- a node is offered that was hidden
  offers_lessens : (t0 : Task) → seat.task ≡ t0 → (c : ℕ) (o : Option ℕ) (next : Seat) → c < size p.tree → status_rank (status_at s c) ≡ 3 → seat_rank p next < weight p + task_rank p t0 → work_left p (offers s w next c o) < work_left p s
  offers_lessens t0 e c o next inside hidden less = status_lower p s w seat is c (Ready o) next (omega (arith, inside, h.statuses_len)) (sym hidden) (let was = ranked t0 e in omega (arith, was, less))

  word_rank : (c : ℕ) (st : Stage) → c < size p.tree → g c ≡ st → status_rank (status_at s c) ≡ status_rank (picture p c st).word
  word_rank c st inside at = ap status_rank (h.words c inside) ∙ ap (λ (x : Stage). status_rank (picture p c x).word) at

  admit_lessens : (t0 : Task) → seat.task ≡ t0 → (t : State) → admit_row p s w seat t0 ≡ Some t → work_left p t < work_left p s
  admit_lessens (Opens n (Admitting c)) e t r =
      let at = opens n (Admitting c) e in
      let ok : OpeningOk p replies s.published n (Admitting c) = subst (ShapeOk p replies s.published n) at.1 (h.shapes n at.0) in
      let ch : IsChild p.tree n c = is_child_test p.tree n c ok.1 (and_parts (is_child p.tree n c) _ ok.2).0 in
      let so : RunsSo p n c w c (g c) = subst (λ (st : Stage). Fits p (picture p n st).below n c (g c)) at.1 (h.edges n c ch) in
      let next = admit_rank p n (suc c) in
      let least = weight_least p in
      made _ t (offers_lessens (Opens n (Admitting c)) e c (offered_to p w c) (with_task seat (Opens n (admit_from p n (suc c)))) ok.1 (word_rank c Unseen ok.1 (unseen_is (g c) (so.rest ok.2 (omega arith)))) (omega (arith, next, least))) r
  admit_lessens (Opens c Offering) e t r =
      let at = opens c Offering e in
      made _ t (offers_lessens (Opens c Offering) e c (offered_to p w c) (record { task = Free; hand = waits_for p c seat.hand }) at.0 (word_rank c (OpenedBy w Offering) at.0 at.1) (omega arith)) r
  admit_lessens (Closes n (Passing m o)) e t r =
      let at = closes n (Passing m o) e in
      let least = weight_least p in
      let next : IsNextSame p n m = subst (ShapeOk p replies s.published n) at.1.2 (h.shapes n at.0) in
      let first : goes_first p n m ≡ true = and_from (is_same p n) _ next.same (or_left (is_same p m) _ next.next_same) in
      let unseen : g m ≡ Unseen = elim (cases_Bool (is_unseen (g m))) [
        | inl q ↦ unseen_is (g m) q
        | inr q ↦ absurd (both_ways (is_past (g n)) (ap is_past at.1.2) (h.elders n m next.elder first q))
      ] in
      made _ t (offers_lessens (Closes n (Passing m o)) e m (Some o) (with_task seat (Closes n CountingOff)) next.elder.younger.inside (word_rank m Unseen next.elder.younger.inside unseen) (omega (arith, least))) r
  admit_lessens _ e t r = absurd (none-some t r)

  -- with a factory in hand
  in_hand : (hand : Hand) → seat.hand ≡ Some hand → IsInHand p g s.published w hand
  in_hand hand is_hand = subst (HandOk p g s.published w) is_hand mine.hand

  add_child_lessens : (reply : Reply) (t0 : Task) → seat.task ≡ t0 → (t : State) → add_child_row p s w seat reply t0 ≡ Some t → work_left p t < work_left p s
  add_child_lessens reply Free e t r = by_hand seat.hand refl r
    where
      by_found : (hand : Hand) → seat.hand ≡ Some hand → (found : Option ℕ) → child_added s w seat hand.factory found ≡ Some t → work_left p t < work_left p s
      by_found hand is_hand None r = absurd (none-some t r)
      by_found hand is_hand (Some c) r =
          let lt = (in_hand hand is_hand).inside in
          made _ t (counter_higher p s w seat is hand.factory (with_task seat (Opens c Registering)) (omega (arith, lt, h.counters_len)) (let was = ranked Free e in omega (arith, was))) r

      by_waiting : (hand : Hand) → seat.hand ≡ Some hand → (waiting : Option ℕ) → add_by_hand p s w seat reply hand.factory hand.registered waiting ≡ Some t → work_left p t < work_left p s
      by_waiting hand is_hand (Some c) r = absurd (none-some t r)
      by_waiting hand is_hand None r =
          by_cond (λ (o : Option State). o ≡ Some t → work_left p t < work_left p s) (nat_lt hand.registered reply.pulls) (child_added s w seat hand.factory (next_spare p hand.factory hand.registered)) None
          (λ more q. by_found hand is_hand (next_spare p hand.factory hand.registered) q) (λ less q. absurd (none-some t q)) r

      by_hand : (hand : Option Hand) → seat.hand ≡ hand → add_child_hand p s w seat reply hand ≡ Some t → work_left p t < work_left p s
      by_hand None is_hand r = absurd (none-some t r)
      by_hand (Some hand) is_hand r = by_waiting hand is_hand hand.waiting r
  add_child_lessens reply _ e t r = absurd (none-some t r)

  -- a node has one thing less outstanding
  off_lessens : (t0 : Task) → seat.task ≡ t0 → (n : ℕ) (results : List Status) (next : Seat) → n < size p.tree → 0 < counter_at s n → seat_rank p next < weight p + task_rank p t0
      → work_left p (record s { counters = set s.counters n (counter_at s n - 1); results = results; seats = set s.seats w next }) < work_left p s
  off_lessens t0 e n results next inside some less = counter_lower p s w seat is n results next (omega (arith, inside, h.counters_len)) some (let was = ranked t0 e in omega (arith, was, less))

  -- its own guard is outstanding
  guards : (n : ℕ) (st : Stage) → n < size p.tree → g n ≡ st → (picture p n st).guard ≡ 1 → 0 < counter_at s n
  guards n st inside at one = (let o = h.counters n inside in let v : (picture p n (g n)).guard ≡ 1 = ap (λ (x : Stage). (picture p n x).guard) at ∙ one in omega (arith, o, v))

  -- a child that is to be counted off
  counts : (a c : ℕ) → a < size p.tree → IsChild p.tree a c → is_over (is_spare_at p.tree c) (g c) ≡ false → 0 < counter_at s a
  counts a c inside ch live =
      let o = h.counters a inside in
      elim (cases_eq (pending p g a) 0) [
        | inl none ↦ absurd (both_ways (is_over (is_spare_at p.tree c) (g c)) live (pending_none p g a c none ch))
        | inr some ↦ omega (arith, o, some)
      ]

  done_lessens : (reply : Reply) (t0 : Task) → seat.task ≡ t0 → (t : State) → done_row p s w seat reply t0 ≡ Some t → work_left p t < work_left p s
  done_lessens reply (Opens n Guarding) e t r =
      let at = opens n Guarding e in
      let next = ends_rank p n Successful (counter_at s n) in
      made _ t (off_lessens (Opens n Guarding) e n (set s.results n Successful) (record { task = ends_or_free p n Successful (counter_at s n); hand = seat.hand }) at.0 (guards n (OpenedBy w Guarding) at.0 at.1 refl) (omega (arith, next))) r
  done_lessens reply (Closes c CountingOff) e t r =
      let at = closes c CountingOff e in
      let a : ℕ = parent_of p.tree c in
      let pos : 0 < c = subst (ShapeOk p replies s.published c) at.1.2 (h.shapes c at.0) in
      let ch : IsChild p.tree a c = record { above_zero = pos; inside = at.0; parent = refl } in
      let inside = parent_inside p core.plan a c ch in
      let next = ends_rank p a (result_at s a) (counter_at s a) in
      made _ t (off_lessens (Closes c CountingOff) e a s.results (with_task seat (ends_or_free p a (result_at s a) (counter_at s a))) inside (counts a c inside ch (ap (is_over (is_spare_at p.tree c)) at.1.2)) (omega (arith, next))) r
  done_lessens reply Free e t r = by_hand seat.hand refl r
    where
      by_waiting : (hand : Hand) → seat.hand ≡ Some hand → (waiting : Option ℕ) → done_by_hand p s w reply hand.factory hand.registered waiting ≡ Some t → work_left p t < work_left p s
      by_waiting hand is_hand (Some c) r = absurd (none-some t r)
      by_waiting hand is_hand None r =
          let c = cond_some (is_pulled p hand.factory hand.registered reply) (guard_given p s w None hand.factory (pulled_result hand.registered reply)) t r in
          let ok = in_hand hand is_hand in
          let next = ends_rank p hand.factory (pulled_result hand.registered reply) (counter_at s hand.factory) in
          let least = weight_least p in
          subst (λ (x : State). work_left p x < work_left p s) c.1
          (off_lessens Free e hand.factory (set s.results hand.factory (pulled_result hand.registered reply)) (record { task = ends_or_free p hand.factory (pulled_result hand.registered reply) (counter_at s hand.factory); hand = None }) ok.inside (guards hand.factory (InHand w) ok.inside ok.at refl) (omega (arith, next, least)))

      by_hand : (hand : Option Hand) → seat.hand ≡ hand → done_hand p s w reply hand ≡ Some t → work_left p t < work_left p s
      by_hand None is_hand r = absurd (none-some t r)
      by_hand (Some hand) is_hand r = by_waiting hand is_hand hand.waiting r
  done_lessens reply _ e t r = absurd (none-some t r)

  settle_lessens : (t0 : Task) → seat.task ≡ t0 → (t : State) → settle_row p s w seat t0 ≡ Some t → work_left p t < work_left p s
  settle_lessens (Closes n Settling) e t r =
      let at = closes n Settling e in
      let next = settled_rank p n in
      let was = ranked (Closes n Settling) e in
      made _ t (status_lower p s w seat is n Settled (record { task = after_settle p n; hand = waits_no_more n seat.hand }) (let lt = at.0 in omega (arith, lt, h.statuses_len)) (sym (word_rank n (ClosedBy w at.1.0 Settling at.1.1) at.0 at.1.2)) (omega (arith, next, was))) r
  settle_lessens _ e t r = absurd (none-some t r)

  look_lessens : (t0 : Task) → seat.task ≡ t0 → (t0 ≡ Free → ⊥) → (t : State) → look_row p s w seat t0 ≡ Some t → work_left p t < work_left p s
  look_lessens (Closes n (Looking m)) e busy t r = go (status_at s (parent_of p.tree n)) r
    where
      go : (status : NodeStatus) → look_found s w seat n m status ≡ Some t → work_left p t < work_left p s
      go (Claimed o) r = made _ t (lower (Closes n (Looking m)) (Closes n (Passing m o)) s.locks s.cancel s.shown e (omega arith)) r
      go Hidden r = absurd (none-some t r)
      go (Ready o) r = absurd (none-some t r)
      go Settled r = absurd (none-some t r)
  look_lessens Free e busy t r = absurd (busy refl)
  look_lessens _ e busy t r = absurd (none-some t r)

  -- Each row but a free worker's look lowers what is left, where no other worker is in the way of the task.
  pub row_lessens : (reply : Reply) (a : Action) → (a ≡ Look → seat.task ≡ Free → ⊥) → IsClear p s seat.task → (t : State) → row p s w seat reply a ≡ Some t → work_left p t < work_left p s
  row_lessens reply (Claim n) acts clear t r = claim_lessens None (is_empty seat.hand) n seat.task refl t r
  row_lessens reply (Own n) acts clear t r = claim_lessens (Some w) (is_of_hand p seat.hand n) n seat.task refl t r
  row_lessens reply Notice acts clear t r = notice_lessens seat.task refl t r
  row_lessens reply Weigh acts clear t r = weigh_lessens seat.task refl clear t r
  row_lessens reply Take acts clear t r = take_lessens seat.task refl clear t r
  row_lessens reply Give acts clear t r = give_lessens seat.task refl clear t r
  row_lessens reply GiveUp acts clear t r = give_up_lessens seat.task clear t r
  row_lessens reply Draw acts clear t r = draw_lessens seat.task refl t r
  row_lessens reply Show acts clear t r = show_lessens seat.task refl t r
  row_lessens reply Admit acts clear t r = admit_lessens seat.task refl t r
  row_lessens reply AddChild acts clear t r = add_child_lessens reply seat.task refl t r
  row_lessens reply Done acts clear t r = done_lessens reply seat.task refl t r
  row_lessens reply Settle acts clear t r = settle_lessens seat.task refl t r
  row_lessens reply Look acts clear t r = look_lessens seat.task refl (acts refl) t r
  row_lessens reply Raise acts clear t r = raise_lessens seat.task refl t r
