-- That what a worker does to the table is a step of the core: so whatever leads to the state before leads on to the state after it.
use Rattle.std.proofs.Common.{replicate, length, eq-eqb, ◌≡◌, ◌≢◌, ℕ, zero, suc, ◌+◌, ◌<◌, ◌≤◌, nat_lt, ◌==◌, ◌&&◌, ◌||◌, cond, Bool, true, false, eqb-true, List, Option, Some, None, slice_get, sym, refl, ap, ◌∙◌, subst, arith}
use Rattle.std.specs.Option.{is_some}
use Rattle.std.proofs.lemmas.Bool.{false≢true, true≢false, and_parts, lt-ltb, ltb-true}
use Rattle.std.proofs.lemmas.Option.{none-some, same_Some}
use mathlib.Core.Logic.{dite}
use native.Mathlib.Decide.{ℕ_discrete}
use Rattle.descriptor.specs.Nodes.{parent_of, is_factory_at, body_of}
use Rattle.plan_events.specs.declared.outcome.Reply.{Reply}
use Rattle.plan_events.specs.declared.status.Status.TheVariants.{Successful}
use Rattle.resource_locks.specs.Plans.{PlanParts}
use Rattle.event_history.specs.Plans.{Maker, sort_of, is_same, spare_count, pulls_job}
use Rattle.event_history.proofs.Spares.{pulls_sort}
use Rattle.scheduling.specs.declared.status.NodeStatus.{NodeStatus}
use Rattle.scheduling.specs.declared.status.NodeStatus.TheVariants.{Hidden, Ready, Claimed, Settled}
use Rattle.scheduling.specs.declared.lock_word.LockWord.{LockWord}
use Rattle.scheduling.specs.declared.task.Opening.TheVariants.{Registering, RegisteredAt, Offering, Noticing, Locking, Weighed, Backing, Beginning, StartedAt, Awaiting, Admitting, Guarding}
use Rattle.scheduling.specs.declared.task.Closing.TheVariants.{AwaitingAfter, Ending, FinishedAt, SkippedAt, Raising, Giving, Settling, Looking, Passing, CountingOff}
use Rattle.scheduling.specs.declared.task.Task.{Task}
use Rattle.scheduling.specs.declared.task.Task.TheVariants.{Free, Opens, Closes}
use Rattle.scheduling.specs.declared.seat.Hand.{Hand}
use Rattle.scheduling.specs.declared.seat.Seat.{Seat}
use Rattle.scheduling.specs.declared.step.Action.{Action}
use Rattle.scheduling.specs.declared.step.Action.TheVariants.{Claim, Own, Notice, Weigh, Take, Give, GiveUp, Draw, Show, Admit, AddChild, Done, Settle, Look, Raise}
use Rattle.scheduling.specs.State.{State, status_at, counter_at}
use Rattle.scheduling.specs.Choices.{key_at, mode_at, taken, same_word, lock_from, giving, awaited, hand_job, is_pulled, pulled_result, next_spare, decided}
use Rattle.scheduling.specs.Rows.{with_task, goes, goes_to, puts_word, claimed, row, is_free, is_empty, is_of_hand, is_ready_for, notice_row, weigh_row, take_found, take_row, gives_key, give_row, give_up_row, draw_row, one_more, shows, after_start, show_row, waits_for, admit_row, child_added, add_by_hand, add_child_hand, add_child_row, guard_given, done_by_hand, done_hand, done_row, ends_or_free, waited_out, waits_no_more, settle_row, look_found, look_row, raise_row, Works, decided_seat, after}
use Rattle.scheduling.specs.Runs.{opening}
use Rattle.scheduling.specs.Inside.Going.{is_registering}
use Rattle.scheduling.specs.Inside.Invariant.{IsCorePlan, IsInHand, HandOk, ShapeOk, IsKept}
use Rattle.scheduling.proofs.Basics.{get_set_same}
use Rattle.scheduling.proofs.RowsOne.{by_cond}
use Rattle.scheduling.proofs.RowsUp.{maker_is}
use Rattle.scheduling.proofs.GoingWords.{maker_leaf}
use Rattle.scheduling.proofs.DecidedInPlace.{after_direct}
use Rattle.never_stuck.specs.Inside.Progress.{IsOn, IsOnAnyhow, HandOn, HandsOn, endless}
use Rattle.never_stuck.specs.Reaching.{Reaches, MayReply, asked_by, reply_by, answer}
use Rattle.never_stuck.proofs.Reach.{reach_here, reach_one, reach_then}
use Rattle.never_stuck.proofs.Words.{no_hand}
use Rattle.never_stuck.proofs.Asked.{on_as_asked}
use Rattle.never_stuck.proofs.Keep.{row_on}
use Rattle.scheduling.specs.Due.{unasked}
use Rattle.table_rule.specs.Reached.{by_now, IsReached}

-- Whatever the jobs may reply from t on they may from s on, and then steps lead from s to t.
pub record Leads (p : PlanParts) (told : ℕ → List Reply) (s t : State) : Type 0 where
  pub may : (reply : ℕ → Reply) → MayReply p told t reply → MayReply p told s reply
  pub reach : (reply : ℕ → Reply) → MayReply p told t reply → Reaches p reply s t
  -- and there are such replies
  pub fore : MayReply p told s (by_now told) → MayReply p told t (by_now told)

pub leads_here : (p : PlanParts) (told : ℕ → List Reply) (s : State) → Leads p told s s
leads_here p told s = record { may = λ reply may. may; reach = λ reply may. reach_here p reply s; fore = λ may. may }

-- So what is reached stays so,
pub reached_on : (p : PlanParts) (workers : ℕ) (told : ℕ → List Reply) (s t : State) → IsReached p workers told s → Leads p told s t → IsReached p workers told t
reached_on p workers told s t reached leads = record { may = leads.fore reached.may; from = λ reply may. reach_then p reply (opening p workers) s t (reached.from reply (leads.may reply may)) (leads.reach reply may) }

-- at the start it is,
at_start : (workers w : ℕ) (seat : Seat) → slice_get (replicate workers (record { task = Free; hand = None })) w ≡ Some seat → seat.hand ≡ None
at_start zero w seat q = absurd (none-some seat q)
at_start (suc workers) zero seat q = ap (λ (o : Seat). o.hand) (sym (same_Some (record { task = Free; hand = None }) seat q))
at_start (suc workers) (suc w) seat q = at_start workers w seat q

pub opening_reached : (p : PlanParts) (workers : ℕ) (told : ℕ → List Reply) → ((job i : ℕ) (r : Reply) → slice_get (told job) i ≡ Some r → ⊥) → IsReached p workers told (opening p workers)
opening_reached p workers told none = record {
  may = record { told_is = λ job i r q. absurd (none job i r q); asked = λ w seat hand job at is body. absurd (none-some hand (sym (at_start workers w seat at) ∙ is)) };
  from = λ reply may. reach_here p reply (opening p workers);
}

-- and where a job has answered.
pub reached_told : (p : PlanParts) (workers : ℕ) (told more : ℕ → List Reply) (s : State) → ((job i : ℕ) (r : Reply) → slice_get (told job) i ≡ Some r → (j : ℕ) × (slice_get (more job) j ≡ Some r)) → MayReply p more s (by_now more) → IsReached p workers told s → IsReached p workers more s
reached_told p workers told more s among may reached = record {
  may = may;
  from = λ reply may. reached.from reply (record { told_is = λ job i r q. (let x = among job i r q in may.told_is job x.0 r x.1); asked = may.asked });
}

-- Hands: no fewer dynamic tests than were registered.
pub asks_all : (hand : Hand) (t : Task) → hand.registered ≤ asked_by t hand
asks_all hand (Opens n Registering) = omega arith
asks_all hand _ = omega arith

asked_plain : (hand : Hand) (t : Task) → is_registering t ≡ false → asked_by t hand ≡ hand.registered
asked_plain hand (Opens n Registering) q = absurd (true≢false q)
asked_plain hand _ q = refl

abbrev pub Asks : PlanParts → (ℕ → Reply) → Seat → Type 0
Asks p reply seat = (hand : Hand) (job : ℕ) → seat.hand ≡ Some hand → body_of p.tree hand.factory ≡ Some job → asked_by seat.task hand ≤ (reply job).pulls

-- the reply is the one of the job that the seat awaits, if it awaits one
abbrev pub Fits : PlanParts → (ℕ → Reply) → Seat → Reply → Type 0
Fits p reply seat r = (job : ℕ) → awaited p seat seat.task ≡ Some job → r ≡ reply job

-- A step of worker w, whose seat is this, leads from s to t.
pub record Rows (p : PlanParts) (told : ℕ → List Reply) (s t : State) (w : ℕ) (seat : Seat) : Type 0 where
  pub others : (v : ℕ) → v ≢ w → slice_get t.seats v ≡ slice_get s.seats v
  pub asked : (reply : ℕ → Reply) → MayReply p told t reply → Asks p reply seat
  pub step : (reply : ℕ → Reply) → MayReply p told t reply → (r : Reply) → Fits p reply seat r → (a : Action) × (after p s (Works w a r) ≡ Some t)
  pub fore : MayReply p told s (by_now told) → MayReply p told t (by_now told)

pub leads_by : (p : PlanParts) (told : ℕ → List Reply) (s t : State) (w : ℕ) (seat : Seat) → slice_get s.seats w ≡ Some seat → ((v : ℕ) → v ≢ w → slice_get t.seats v ≡ slice_get s.seats v) → ((reply : ℕ → Reply) → MayReply p told t reply → Asks p reply seat)
    → ((reply : ℕ → Reply) → MayReply p told t reply → (a : Action) × (after p s (Works w a (answer p reply seat)) ≡ Some t)) → (MayReply p told s (by_now told) → MayReply p told t (by_now told)) → Leads p told s t
leads_by p told s t w seat is others asked step fore = record {
  fore = fore;
  may = λ reply may. record {
    told_is = may.told_is;
    asked = λ v o hand job at in_hand body. dite (ℕ_discrete v w)
        (λ e. (let same : seat ≡ o = same_Some seat o (sym is ∙ (λ k. slice_get s.seats (sym e k)) ∙ at) in
        subst (λ (y : Seat). y.hand ≡ Some hand → asked_by y.task hand ≤ (reply job).pulls) same (λ q. asked reply may hand job q body) in_hand))
        (λ ne. may.asked v o hand job (others v ne ∙ at) in_hand body);
  };
  reach = λ reply may. (let one = step reply may in
      reach_one p reply s t (Works w one.0 (answer p reply seat)) (λ other at. ap (answer p reply) (same_Some seat other (sym is ∙ at))) one.1);
}

pub rows_lead : (p : PlanParts) (told : ℕ → List Reply) (s t : State) (w : ℕ) (seat : Seat) → slice_get s.seats w ≡ Some seat → Rows p told s t w seat → Leads p told s t
rows_lead p told s t w seat is x = leads_by p told s t w seat is x.others x.asked (λ reply may. x.step reply may (answer p reply seat) (λ job q. ap (reply_by reply) q)) x.fore

-- The reply of a worker whose factory's guard is given up was given by the factory's job; and one that goes on to a further dynamic test may still
-- be asked for it.
abbrev pub IsHeard : PlanParts → (ℕ → List Reply) → Seat → Reply → Action → Type 0
IsHeard p told seat r Done = (hand : Hand) (job : ℕ) → seat.task ≡ Free → seat.hand ≡ Some hand → body_of p.tree hand.factory ≡ Some job → (i : ℕ) × (slice_get (told job) i ≡ Some r)
IsHeard p told seat r AddChild = (hand : Hand) (job : ℕ) → seat.task ≡ Free → seat.hand ≡ Some hand → body_of p.tree hand.factory ≡ Some job → hand.registered < (by_now told job).pulls
IsHeard p told seat r _ = Unit {0}

pulled_most : (k pulls count : ℕ) → ((pulls == k) || ((k == count) && nat_lt k pulls)) ≡ true → k ≤ pulls
pulled_most k pulls count q = go (pulls == k) refl q
  where
    go : (b : Bool) → (pulls == k) ≡ b → (b || ((k == count) && nat_lt k pulls)) ≡ true → k ≤ pulls
    go true e _ = (let same : pulls ≡ k = eqb-true pulls k e in omega (arith, same))
    go false e more = (let less = ltb-true k pulls (and_parts (k == count) (nat_lt k pulls) more).1 in omega (arith, less))

module _ (p : PlanParts) (core : IsCorePlan p) (told : ℕ → List Reply) (s : State) (kept : IsKept p told s) (on : IsOnAnyhow p s) (w : ℕ) (seat : Seat) (stands : slice_get s.seats w ≡ Some seat) where
  -- a factory in hand has a job
  has_job : (hand : Hand) → seat.hand ≡ Some hand → (job : ℕ) × (body_of p.tree hand.factory ≡ Some job)
  has_job hand is =
      let ok : IsInHand p kept.0 s.published w hand = subst (HandOk p kept.0 s.published w) is (kept.1.seats w seat stands).hand in
      let pulls : pulls_job p hand.factory ≡ true = subst (ShapeOk p told s.published hand.factory) ok.at (kept.1.shapes hand.factory ok.inside) in
      go (body_of p.tree hand.factory) refl (and_parts (is_factory_at p.tree hand.factory) (is_some (body_of p.tree hand.factory)) pulls).1
    where
      go : (body : Option ℕ) → body_of p.tree hand.factory ≡ body → is_some (body_of p.tree hand.factory) ≡ true → (job : ℕ) × (body_of p.tree hand.factory ≡ Some job)
      go None at q = absurd (false≢true (sym (ap is_some at) ∙ q))
      go (Some job) at q = (job, at)

  there : (new : Seat) → slice_get (goes_to s w new) w ≡ Some new
  there new = get_set_same s.seats w new seat stands

  -- What may be replied after a row: the factory in hand asked for no less before it.
  abbrev Back : Option State → Type 0
  Back None = Unit {0}
  Back (Some t) = (reply : ℕ → Reply) → MayReply p told t reply → Asks p reply seat

  same_hand : (t : State) (task : Task) → slice_get t.seats w ≡ Some (with_task seat task) → is_registering seat.task ≡ false → Back (Some t)
  same_hand t task at calm reply may hand job is body =
      let asks = may.asked w (with_task seat task) hand job at is body in
      let all = asks_all hand task in
      let plain = asked_plain hand seat.task calm in
      omega (arith, asks, all, plain)

  calm_at : (t : Task) → seat.task ≡ t → is_registering t ≡ false → is_registering seat.task ≡ false
  calm_at t e q = ap is_registering e ∙ q

  goes_b : (t0 : Task) → seat.task ≡ t0 → is_registering t0 ≡ false → (t : State) (task : Task) → t.seats ≡ goes_to s w (with_task seat task) → Back (Some t)
  goes_b t0 e calm t task seats = same_hand t task (ap (λ (l : List Seat). slice_get l w) seats ∙ there (with_task seat task)) (calm_at t0 e calm)

  -- the hand is another, of the same factory with as many dynamic tests
  other_hand : (t0 : Task) → seat.task ≡ t0 → is_registering t0 ≡ false → (t : State) (task : Task) (change : Option Hand → Option Hand) (changed : Hand → Hand)
      → ((hand : Hand) → change (Some hand) ≡ Some (changed hand)) → ((hand : Hand) → (changed hand).factory ≡ hand.factory) → ((hand : Hand) → (changed hand).registered ≡ hand.registered)
      → t.seats ≡ goes_to s w (record { task = task; hand = change seat.hand }) → Back (Some t)
  other_hand t0 e calm t task change changed is_so factory count seats reply may hand job is body =
      let new : Seat = record { task = task; hand = change seat.hand } in
      let asks = may.asked w new (changed hand) job (ap (λ (l : List Seat). slice_get l w) seats ∙ there new) (ap change is ∙ is_so hand) (ap (body_of p.tree) (factory hand) ∙ body) in
      let all = asks_all (changed hand) task in
      let plain = asked_plain hand seat.task (calm_at t0 e calm) in
      let many = count hand in
      omega (arith, asks, all, plain, many)

  claim_b : (t0 : Task) → seat.task ≡ t0 → (rest : Bool) (n : ℕ) → Back (cond (is_free t0 && rest) (Some (claimed p s w seat n)) None)
  claim_b Free e rest n = by_cond Back rest (Some (claimed p s w seat n)) None (λ _. goes_b Free e refl (claimed p s w seat n) _ refl) (λ _. tt)
  claim_b _ e rest n = tt

  notice_b : (t0 : Task) → seat.task ≡ t0 → Back (notice_row p s w seat t0)
  notice_b (Opens n Noticing) e = goes_b (Opens n Noticing) e refl _ _ refl
  notice_b _ e = tt

  weigh_b : (t0 : Task) → seat.task ≡ t0 → Back (weigh_row p s w seat t0)
  weigh_b (Opens n (Locking i)) e = goes_b (Opens n (Locking i)) e refl _ _ refl
  weigh_b _ e = tt

  take_b : (t0 : Task) → seat.task ≡ t0 → Back (take_row p s w seat t0)
  take_b (Opens n (Weighed i v)) e = go (slice_get s.locks (key_at p n i))
    where
      go : (found : Option LockWord) → Back (take_found p s w seat n i v found)
      go None = tt
      go (Some word) = by_cond Back (same_word word v) (Some (puts_word s w seat (Opens n (lock_from p n (suc i))) (key_at p n i) (taken (mode_at p n i) word))) (Some (goes s w seat (Opens n (Locking i))))
          (λ _. goes_b (Opens n (Weighed i v)) e refl _ _ refl) (λ _. goes_b (Opens n (Weighed i v)) e refl _ _ refl)
  take_b _ e = tt

  give_b : (t0 : Task) → seat.task ≡ t0 → Back (give_row p s w seat t0)
  give_b (Opens n (Backing (suc i))) e = go (slice_get s.locks (key_at p n i))
    where
      go : (found : Option LockWord) → Back (gives_key p s w seat (Opens n (Backing i)) n i found)
      go None = tt
      go (Some word) = goes_b (Opens n (Backing (suc i))) e refl _ _ refl
  give_b (Closes n (Giving (suc i))) e = go (slice_get s.locks (key_at p n i))
    where
      go : (found : Option LockWord) → Back (gives_key p s w seat (Closes n (giving i)) n i found)
      go None = tt
      go (Some word) = goes_b (Closes n (Giving (suc i))) e refl _ _ refl
  give_b _ e = tt

  give_up_b : (t0 : Task) → seat.task ≡ t0 → Back (give_up_row p s w seat t0)
  give_up_b (Opens n (Backing zero)) e = goes_b (Opens n (Backing zero)) e refl _ _ refl
  give_up_b _ e = tt

  draw_b : (t0 : Task) → seat.task ≡ t0 → Back (draw_row s w seat t0)
  draw_b (Opens n Registering) e = λ reply may hand job is body.
      (let new : Seat = record { task = Opens n (RegisteredAt (length s.published)); hand = one_more seat.hand } in
      let asks = may.asked w new (record hand { registered = hand.registered + 1 }) job (there new) (ap one_more is) body in
      let was : asked_by seat.task hand ≡ hand.registered + 1 = ap (λ (t : Task). asked_by t hand) e in
      omega (arith, asks, was))
  draw_b (Opens n (Beginning true)) e = goes_b (Opens n (Beginning true)) e refl _ _ refl
  draw_b (Opens n (Beginning false)) e = goes_b (Opens n (Beginning false)) e refl _ _ refl
  draw_b (Closes n (Ending status)) e = goes_b (Closes n (Ending status)) e refl _ _ refl
  draw_b _ e = tt

  -- a factory is taken in hand by a worker that has none
  started_b : (n i : ℕ) → seat.task ≡ Opens n (StartedAt i) → Back (Some (shows s w (after_start p seat n) i))
  started_b n i e = by_cond (λ (new : Seat). Back (Some (shows s w new i))) (pulls_job p n) (record { task = Free; hand = Some (record { factory = n; registered = 0; waiting = None }) }) (with_task seat (Opens n Awaiting))
      (λ pulls reply may hand job is body.
      (let maker : sort_of p.tree n ≡ Maker = maker_is (sort_of p.tree n) (body_of p.tree n) (sym (pulls_sort p core.plan n) ∙ pulls) in
      absurd (none-some hand (sym (no_hand p core told endless s kept.0 kept.1 w seat stands on n (Opens n (StartedAt i)) e (λ k. same_node n k) (λ leaf. maker_leaf (sym maker ∙ leaf))) ∙ is))))
      (λ _. goes_b (Opens n (StartedAt i)) e refl _ _ refl)
    where
      same_node : (n : ℕ) → (n == n) ≡ true
      same_node n = eq-eqb n n refl

  show_b : (t0 : Task) → seat.task ≡ t0 → Back (show_row p s w seat t0)
  show_b (Opens n (RegisteredAt i)) e = goes_b (Opens n (RegisteredAt i)) e refl _ _ refl
  show_b (Opens n (StartedAt i)) e = started_b n i e
  show_b (Closes n (SkippedAt i)) e = goes_b (Closes n (SkippedAt i)) e refl _ _ refl
  show_b (Closes n (FinishedAt i status)) e = goes_b (Closes n (FinishedAt i status)) e refl _ _ refl
  show_b _ e = tt

  admit_b : (t0 : Task) → seat.task ≡ t0 → Back (admit_row p s w seat t0)
  admit_b (Opens n (Admitting c)) e = goes_b (Opens n (Admitting c)) e refl _ _ refl
  admit_b (Opens c Offering) e = other_hand (Opens c Offering) e refl _ Free (waits_for p c) (λ hand. record hand { waiting = cond (is_same p c) (Some c) hand.waiting }) (λ hand. refl) (λ hand. refl) (λ hand. refl) refl
  admit_b (Closes n (Passing m o)) e = goes_b (Closes n (Passing m o)) e refl _ _ refl
  admit_b _ e = tt

  added_b : (e : seat.task ≡ Free) (f : ℕ) (found : Option ℕ) → Back (child_added s w seat f found)
  added_b e f None = tt
  added_b e f (Some c) = goes_b Free e refl _ (Opens c Registering) refl

  add_b : (r : Reply) (t0 : Task) → seat.task ≡ t0 → Back (add_child_row p s w seat r t0)
  add_b r Free e = hands seat.hand
    where
      waits : (f k : ℕ) (waiting : Option ℕ) → Back (add_by_hand p s w seat r f k waiting)
      waits f k (Some c) = tt
      waits f k None = by_cond Back (nat_lt k r.pulls) (child_added s w seat f (next_spare p f k)) None (λ _. added_b e f (next_spare p f k)) (λ _. tt)

      hands : (hand : Option Hand) → Back (add_child_hand p s w seat r hand)
      hands None = tt
      hands (Some hand) = waits hand.factory hand.registered hand.waiting
  add_b r _ e = tt

  done_b : (r : Reply) → IsHeard p told seat r Done → (t0 : Task) → seat.task ≡ t0 → Back (done_row p s w seat r t0)
  done_b r heard (Opens n Guarding) e = λ reply may hand job is body.
      (let asks = may.asked w _ hand job (there _) is body in
      let all = asks_all hand (ends_or_free p n Successful (counter_at s n)) in
      let plain = asked_plain hand seat.task (calm_at (Opens n Guarding) e refl) in
      omega (arith, asks, all, plain))
  done_b r heard (Closes c CountingOff) e = goes_b (Closes c CountingOff) e refl _ _ refl
  done_b r heard Free e = hands seat.hand refl
    where
      waits : (held : Hand) → seat.hand ≡ Some held → (waiting : Option ℕ) → Back (done_by_hand p s w r held.factory held.registered waiting)
      waits held is_held (Some c) = tt
      waits held is_held None = by_cond Back (is_pulled p held.factory held.registered r) (Some (guard_given p s w None held.factory (pulled_result held.registered r))) None
          (λ pulled reply may hand job is body.
          (let same : held ≡ hand = same_Some held hand (sym is_held ∙ is) in
          let said = heard hand job e is body in
          let reply_is : reply job ≡ r = may.told_is job said.0 r said.1 in
          let most = pulled_most held.registered r.pulls (spare_count p held.factory) pulled in
          let plain = asked_plain hand seat.task (calm_at Free e refl) in
          let many : held.registered ≡ hand.registered = ap (λ (y : Hand). y.registered) same in
          let pulls : (reply job).pulls ≡ r.pulls = ap (λ (y : Reply). y.pulls) reply_is in
          omega (arith, most, plain, many, pulls)))
          (λ _. tt)

      hands : (hand : Option Hand) → seat.hand ≡ hand → Back (done_hand p s w r hand)
      hands None is = tt
      hands (Some hand) is = waits hand is hand.waiting
  done_b r heard _ e = tt

  settle_b : (t0 : Task) → seat.task ≡ t0 → Back (settle_row p s w seat t0)
  settle_b (Closes n Settling) e = other_hand (Closes n Settling) e refl _ _ (waits_no_more n) (λ hand. record hand { waiting = waited_out n hand.waiting }) (λ hand. refl) (λ hand. refl) (λ hand. refl) refl
  settle_b _ e = tt

  look_b : (t0 : Task) → seat.task ≡ t0 → Back (look_row p s w seat t0)
  look_b (Closes n (Looking m)) e = go (status_at s (parent_of p.tree n))
    where
      go : (status : NodeStatus) → Back (look_found s w seat n m status)
      go (Claimed o) = goes_b (Closes n (Looking m)) e refl _ _ refl
      go Hidden = tt
      go (Ready o) = tt
      go Settled = tt
  look_b Free e = λ reply may hand job is body. may.asked w seat hand job stands is body
  look_b _ e = tt

  raise_b : (t0 : Task) → seat.task ≡ t0 → Back (raise_row p s w seat t0)
  raise_b (Closes n Raising) e = goes_b (Closes n Raising) e refl _ _ refl
  raise_b _ e = tt

  row_back : (r : Reply) (a : Action) → IsHeard p told seat r a → Back (row p s w seat r a)
  row_back r (Claim n) heard = claim_b seat.task refl (is_empty seat.hand && is_ready_for None (status_at s n)) n
  row_back r (Own n) heard = claim_b seat.task refl (is_of_hand p seat.hand n && is_ready_for (Some w) (status_at s n)) n
  row_back r Notice heard = notice_b seat.task refl
  row_back r Weigh heard = weigh_b seat.task refl
  row_back r Take heard = take_b seat.task refl
  row_back r Give heard = give_b seat.task refl
  row_back r GiveUp heard = give_up_b seat.task refl
  row_back r Draw heard = draw_b seat.task refl
  row_back r Show heard = show_b seat.task refl
  row_back r Admit heard = admit_b seat.task refl
  row_back r AddChild heard = add_b r seat.task refl
  row_back r Done heard = done_b r heard seat.task refl
  row_back r Settle heard = settle_b seat.task refl
  row_back r Look heard = look_b seat.task refl
  row_back r Raise heard = raise_b seat.task refl

  -- A row that was taken with some reply may be taken with the one that the job will give.
  module _ (t : State) (reply : ℕ → Reply) (may : MayReply p told t reply) (given : Reply) (fits : Fits p reply seat given) where
    of_hand : (hand : Hand) (job : ℕ) → seat.task ≡ Free → seat.hand ≡ Some hand → body_of p.tree hand.factory ≡ Some job → given ≡ reply job
    of_hand hand job e is body = fits job (ap (awaited p seat) e ∙ ap (hand_job p) is ∙ body)

    add_as : (r : Reply) (t0 : Task) → seat.task ≡ t0 → add_child_row p s w seat r t0 ≡ Some t → add_child_row p s w seat given t0 ≡ Some t
    add_as r Free e q = hands seat.hand refl q
      where
        asks : (hand : Hand) → seat.hand ≡ Some hand → (found : Option ℕ) → child_added s w seat hand.factory found ≡ Some t → hand.registered < given.pulls
        asks hand is None z = absurd (none-some t z)
        asks hand is (Some c) z =
            let body = has_job hand is in
            let new : Seat = with_task seat (Opens c Registering) in
            let at : slice_get t.seats w ≡ Some new = ap (λ (u : State). slice_get u.seats w) (sym (same_Some _ t z)) ∙ there new in
            let low = may.asked w new hand body.0 at is body.1 in
            let same : given.pulls ≡ (reply body.0).pulls = ap (λ (y : Reply). y.pulls) (of_hand hand body.0 e is body.1) in
            omega (arith, low, same)

        waits : (hand : Hand) → seat.hand ≡ Some hand → (waiting : Option ℕ) → add_by_hand p s w seat r hand.factory hand.registered waiting ≡ Some t → add_by_hand p s w seat given hand.factory hand.registered waiting ≡ Some t
        waits hand is (Some c) z = absurd (none-some t z)
        waits hand is None z = by_cond (λ (o : Option State). o ≡ Some t → cond (nat_lt hand.registered given.pulls) (child_added s w seat hand.factory (next_spare p hand.factory hand.registered)) None ≡ Some t)
            (nat_lt hand.registered r.pulls) (child_added s w seat hand.factory (next_spare p hand.factory hand.registered)) None
            (λ _ y. ap (λ (b : Bool). cond b (child_added s w seat hand.factory (next_spare p hand.factory hand.registered)) None) (lt-ltb hand.registered given.pulls (asks hand is (next_spare p hand.factory hand.registered) y)) ∙ y)
            (λ _ y. absurd (none-some t y)) z

        hands : (hand : Option Hand) → seat.hand ≡ hand → add_child_hand p s w seat r hand ≡ Some t → add_child_hand p s w seat given hand ≡ Some t
        hands None is z = absurd (none-some t z)
        hands (Some hand) is z = waits hand is hand.waiting z
    add_as r _ e q = absurd (none-some t q)

    done_as : (r : Reply) → IsHeard p told seat r Done → (t0 : Task) → seat.task ≡ t0 → done_row p s w seat r t0 ≡ Some t → done_row p s w seat given t0 ≡ Some t
    done_as r heard (Opens n Guarding) e q = q
    done_as r heard (Closes c CountingOff) e q = q
    done_as r heard Free e q = hands seat.hand refl q
      where
        hands : (hand : Option Hand) → seat.hand ≡ hand → done_hand p s w r hand ≡ Some t → done_hand p s w given hand ≡ Some t
        hands None is z = absurd (none-some t z)
        hands (Some hand) is z =
            let body = has_job hand is in
            let said = heard hand body.0 e is body.1 in
            let same : given ≡ r = of_hand hand body.0 e is body.1 ∙ may.told_is body.0 said.0 r said.1 in
            ap (λ (y : Reply). done_hand p s w y (Some hand)) same ∙ z
    done_as r heard _ e q = absurd (none-some t q)

    row_as : (r : Reply) (a : Action) → IsHeard p told seat r a → row p s w seat r a ≡ Some t → row p s w seat given a ≡ Some t
    row_as r AddChild heard q = add_as r seat.task refl q
    row_as r Done heard q = done_as r heard seat.task refl q
    row_as r (Claim n) heard q = q
    row_as r (Own n) heard q = q
    row_as r Notice heard q = q
    row_as r Weigh heard q = q
    row_as r Take heard q = q
    row_as r Give heard q = q
    row_as r GiveUp heard q = q
    row_as r Draw heard q = q
    row_as r Show heard q = q
    row_as r Admit heard q = q
    row_as r Settle heard q = q
    row_as r Look heard q = q
    row_as r Raise heard q = q

  -- A task that awaits a reply has no row before that is there.
  opens_none : (hand : Option Hand) (n : ℕ) (r : Reply) (a : Action) → row p s w (record { task = Opens n Awaiting; hand = hand }) r a ≡ None
  opens_none hand n r (Claim m) = refl
  opens_none hand n r (Own m) = refl
  opens_none hand n r _ = refl

  closes_none : (hand : Option Hand) (n : ℕ) (r : Reply) (a : Action) → row p s w (record { task = Closes n AwaitingAfter; hand = hand }) r a ≡ None
  closes_none hand n r (Claim m) = refl
  closes_none hand n r (Own m) = refl
  closes_none hand n r _ = refl

  stays_so : (t : State) (r : Reply) (a : Action) → row p s w seat r a ≡ Some t → decided_seat p r seat ≡ seat
  stays_so t r a q = ap (with_task seat) (go seat.task refl)
    where
      go : (t0 : Task) → seat.task ≡ t0 → decided p r t0 ≡ t0
      go (Opens n Awaiting) e = absurd (none-some t (sym (opens_none seat.hand n r a) ∙ sym (λ k. row p s w (record { task = e k; hand = seat.hand }) r a) ∙ q))
      go (Closes n AwaitingAfter) e = absurd (none-some t (sym (closes_none seat.hand n r a) ∙ sym (λ k. row p s w (record { task = e k; hand = seat.hand }) r a) ∙ q))
      go _ e = refl

  -- There are replies that may be after the row, if there were before.
  may_on : (t : State) (reply : ℕ → Reply) → ((job i : ℕ) (r : Reply) → slice_get (told job) i ≡ Some r → reply job ≡ r) → IsOn p reply t → MayReply p told t reply
  may_on t reply told_is on_t = record { told_is = told_is; asked = λ v o hand job at is body. go hand job body o.task (subst (HandsOn p reply t.statuses v o.task) is (on_t.seats v o at).hand) }
    where
      go : {l : List NodeStatus} {v : ℕ} (hand : Hand) (job : ℕ) → body_of p.tree hand.factory ≡ Some job → (task : Task) → HandOn p reply l v task hand → asked_by task hand ≤ (reply job).pulls
      go hand job body (Opens n Registering) h = (let more = h.more refl job body in omega (arith, more))
      go hand job body _ h = h.pulls job body

  module _ (t : State) (may : MayReply p told s (by_now told)) where
    by_reply : (r : Reply) (a : Action) → ((hand : Hand) (job : ℕ) → seat.task ≡ Free → seat.hand ≡ Some hand → body_of p.tree hand.factory ≡ Some job → hand.registered < r.pulls → hand.registered < (by_now told job).pulls)
        → row p s w seat r a ≡ Some t → MayReply p told t (by_now told)
    by_reply r a asks q = may_on t (by_now told) may.told_is (row_on p core told (by_now told) s kept.0 kept.1 w seat stands (on_as_asked p told s (by_now told) may on) r asks a t q)

    quietly : (a : Action) → row p s w seat unasked a ≡ Some t → MayReply p told t (by_now told)
    quietly a q = by_reply unasked a (λ hand job _ _ _ less. absurd (omega (arith, less))) q

    row_fore : (r : Reply) (a : Action) → IsHeard p told seat r a → row p s w seat r a ≡ Some t → MayReply p told t (by_now told)
    row_fore r AddChild heard q = by_reply r AddChild (λ hand job free is body less. heard hand job free is body) q
    row_fore r Done heard q = by_reply r Done (λ hand job free is body less.
        (let said = heard hand job free is body in
        let same : (by_now told job).pulls ≡ r.pulls = ap (λ (y : Reply). y.pulls) (may.told_is job said.0 r said.1) in
        omega (arith, less, same))) q
    row_fore r (Claim n) heard q = quietly (Claim n) q
    row_fore r (Own n) heard q = quietly (Own n) q
    row_fore r Notice heard q = quietly Notice q
    row_fore r Weigh heard q = quietly Weigh q
    row_fore r Take heard q = quietly Take q
    row_fore r Give heard q = quietly Give q
    row_fore r GiveUp heard q = quietly GiveUp q
    row_fore r Draw heard q = quietly Draw q
    row_fore r Show heard q = quietly Show q
    row_fore r Admit heard q = quietly Admit q
    row_fore r Settle heard q = quietly Settle q
    row_fore r Look heard q = quietly Look q
    row_fore r Raise heard q = quietly Raise q

  -- So a row is a step.
  pub row_rows : (r : Reply) (a : Action) → IsHeard p told seat r a → (t : State) → row p s w seat r a ≡ Some t → ((v : ℕ) → v ≢ w → slice_get t.seats v ≡ slice_get s.seats v) → Rows p told s t w seat
  row_rows r a heard t q others = record {
    others = others;
    fore = λ may. row_fore t may r a heard q;
    asked = subst Back q (row_back r a heard);
    step = λ reply may given fits.
        (let is = row_as t reply may given fits r a heard q in
        (a, after_direct p s w a given seat stands ∙ ap (λ (o : Seat). row p s w o given a) (stays_so t given a is) ∙ is));
  }
