-- Each step of a worker keeps it steady.
use Rattle.std.proofs.Common.{◌≡◌, ◌≢◌, ℕ, suc, ◌+◌, inl, inr, Bool, true, false, cond, List, Option, Some, None, arith, refl, sym, ap, ◌∙◌, subst}
use Rattle.std.proofs.lemmas.Option.{none-some, same_Some}
use Rattle.std.proofs.lemmas.Bool.{false≢true}
use Rattle.atomic_table.specs.declared.shared.Seat.{Seat as TableSeat}
use Rattle.plan_events.specs.declared.event.Event.{Event}
use Rattle.plan_events.specs.declared.outcome.Reply.{Reply}
use Rattle.plan_events.specs.declared.status.Status.{Status}
use Rattle.resource_locks.specs.Plans.{PlanParts}
use Rattle.event_history.specs.Plans.{pulls_job, is_same}
use Rattle.scheduling.specs.declared.seat.Hand.{Hand}
use Rattle.scheduling.specs.declared.seat.Seat.{Seat}
use Rattle.scheduling.specs.declared.task.Opening.{Opening}
use Rattle.scheduling.specs.declared.task.Closing.{Closing}
use Rattle.scheduling.specs.declared.task.Opening.TheVariants.{Registering, RegisteredAt, Offering, StartedAt, Awaiting, Beginning, Admitting, Guarding}
use Rattle.scheduling.specs.declared.task.Closing.TheVariants.{AwaitingAfter, Ending, FinishedAt, SkippedAt, Settling, Passing, CountingOff}
use Rattle.scheduling.specs.declared.task.Task.{Task}
use Rattle.scheduling.specs.declared.task.Task.TheVariants.{Free, Opens, Closes}
use Rattle.scheduling.specs.Choices.{admit_next, admit_from, answered, awaited, decided, after_finish}
use Rattle.scheduling.specs.Rows.{with_task, one_more, waits_for}
use Rattle.scheduling.specs.Shown.{named}
use Rattle.table_rule.specs.declared.view.View.{View}
use Rattle.table_rule.specs.declared.view.Slot.{Slot}
use Rattle.table_rule.specs.declared.view.SlotState.{SlotState}
use Rattle.table_rule.specs.declared.view.SlotState.TheVariants.{Unmoved}
use Rattle.table_rule.specs.declared.view.WorkerFacts.{WorkerFacts}
use Rattle.table_rule.specs.Slots.{made_of}
use Rattle.table_rule.specs.Plays.{worker, goes_on, seat_by, ready_seat, event_due, drawn_seat, shown_seat, offer_due, admitted_seat, unasked, Offer}
use Rattle.run_table.specs.Seats.{seated}
use Rattle.workers.specs.Inside.Steady.{Phase, AtNodes, AtTests, opened_by, registering, IsTaken, HandKept, IsSteady, Steady}
use Rattle.workers.proofs.Quiet.{is_quiet, steady_quiet, OpensNoOther, hand_to, quietly, quiet_admit, quiet_finish}

pub opens_busy : (n : ℕ) (d : Opening) → Opens n d ≢ Free
opens_busy n d is = none-some n (ap opened_by (sym is))

pub closes_busy : (n : ℕ) (d : Closing) → Closes n d ≢ Free
closes_busy n d is = by is
  where
    by : Closes n d ≡ Free → ⊥
    by e = cc

pub opens_closes : (n : ℕ) (d : Opening) (m : ℕ) (e : Closing) → Opens n d ≢ Closes m e
opens_closes n d m e is = none-some n (sym (ap opened_by is))

-- where a seat comes to
pub arrives : {B : Type 0} (old new : TableSeat (Slot B) (View B)) (phase : Phase) (w : WorkerFacts) → new.me.0.about ≡ old.me.0.about → worker new.me.0 ≡ w → IsSteady old.me.0.about.plan phase w.seat w.slots → Steady phase new
arrives old new phase w about is it =
    subst (λ (z : PlanParts × WorkerFacts). IsSteady z.0 phase z.1.seat z.1.slots) (λ k. ((sym about k).plan, sym is k)) it

-- a step to a quiet task
pub moved : {B : Type 0} (old new : TableSeat (Slot B) (View B)) (phase : Phase) (task : Task) (hand : Option Hand) → (worker old.me.0).seat ≡ seated task hand → new.me.0.about ≡ old.me.0.about → Steady phase old
    → (t : Task) → worker new.me.0 ≡ goes_on (with_task (seated task hand) t) (worker old.me.0) → (u : Task) → task ≡ u → u ≢ Free → registering u ≡ 0 → is_quiet t ≡ true → OpensNoOther u t → Steady phase new
moved old new phase task hand seat_is about it t is u is_u busy none quiet no_other =
    let p = old.me.0.about.plan in
    let made = (worker old.me.0).slots in
    arrives old new phase (goes_on (with_task (seated task hand) t) (worker old.me.0)) about is
    (quietly p phase (seated task hand) made (subst (λ (s : Seat). HandKept p phase s made) seat_is it.hand) u is_u busy none t quiet no_other)

-- The job's answer decides the task.
quiet_answered : (n : ℕ) (status : Status) (c : Option ℕ) (b : Bool) → is_quiet (cond b (Closes n (Ending status)) (Opens n (admit_next c))) ≡ true
quiet_answered n status c true = refl
quiet_answered n status c false = quiet_admit n c

same_answered : (n : ℕ) (status : Status) (c : Option ℕ) (b : Bool) → OpensNoOther (Opens n Awaiting) (cond b (Closes n (Ending status)) (Opens n (admit_next c)))
same_answered n status c true = inl refl
same_answered n status c false = inr refl

-- so a task that waits for a job is steady once it is decided, whatever has become of the slot
pub decides_body : (p : PlanParts) (phase : Phase) (seat : Seat) (made : List (ℕ × SlotState)) (reply : Reply) (n : ℕ) → HandKept p phase seat made → seat.task ≡ Opens n Awaiting → IsSteady p phase (with_task seat (answered p n reply)) made
decides_body p phase seat made reply n hand is = quietly p phase seat made hand (Opens n Awaiting) is (opens_busy n Awaiting) refl (answered p n reply) (quiet_answered n _ _ _) (same_answered n _ _ _)

pub decides_after : (p : PlanParts) (phase : Phase) (seat : Seat) (made : List (ℕ × SlotState)) (reply : Reply) (n : ℕ) → HandKept p phase seat made → seat.task ≡ Closes n AwaitingAfter → IsSteady p phase (with_task seat (Closes n (Ending reply.outcome.status))) made
decides_after p phase seat made reply n hand is = quietly p phase seat made hand (Closes n AwaitingAfter) is (closes_busy n AwaitingAfter) refl (Closes n (Ending reply.outcome.status)) refl (inl refl)

decided_steady : (p : PlanParts) (phase : Phase) (seat : Seat) (made : List (ℕ × SlotState)) (reply : Reply) → IsSteady p phase seat made → IsSteady p phase (with_task seat (decided p reply seat.task)) made
decided_steady p phase seat made reply it = by seat.task refl
  where
    by : (t : Task) → seat.task ≡ t → IsSteady p phase (with_task seat (decided p reply t)) made
    by (Opens n Awaiting) is = decides_body p phase seat made reply n it.hand is
    by (Closes n AwaitingAfter) is = decides_after p phase seat made reply n it.hand is
    by _ is = subst (λ (t : Task). IsSteady p phase (with_task seat t) made) is it

pub ready_steady : (p : PlanParts) (phase : Phase) (w : WorkerFacts) → IsSteady p phase w.seat w.slots → IsSteady p phase (ready_seat p w) w.slots
ready_steady p phase w it = by (awaited p w.seat w.seat.task) w.answer
  where
    by : (job : Option ℕ) (answer : Option Reply) → IsSteady p phase (seat_by p w.seat job answer) w.slots
    by None answer = decided_steady p phase w.seat w.slots unasked it
    by (Some job) None = it
    by (Some job) (Some reply) = decided_steady p phase w.seat w.slots reply it

-- A start is drawn of a node whose slot is not moved.
opened_node : (n m : ℕ) (d e : Opening) → Opens n d ≡ Opens m e → n ≡ m
opened_node n m d e is = same_Some n m (ap opened_by is)

abbrev is_beginning : Opening → Bool
is_beginning (StartedAt i) = true
is_beginning _ = false

abbrev opening_of : Task → Opening
opening_of (Opens n d) = d
opening_of _ = Guarding

abbrev is_awaiting : Opening → Bool
is_awaiting Awaiting = true
is_awaiting _ = false

pub awaits_no_start : (n m i : ℕ) → Opens n Awaiting ≢ Opens m (StartedAt i)
awaits_no_start n m i is = false≢true (sym (ap (λ t. is_awaiting (opening_of t)) is))

started_steady : (p : PlanParts) (phase : Phase) (seat : Seat) (made : List (ℕ × SlotState)) (n number : ℕ) → HandKept p phase (with_task seat (Opens n (StartedAt number))) made → made_of made n ≡ Unmoved → IsSteady p phase (with_task seat (Opens n (StartedAt number))) made
started_steady p phase seat made n number hand unmoved = record {
  gives = λ m is. none-some n (sym (ap opened_by is));
  plain = λ m is. absurd (false≢true (sym (ap (λ t. is_beginning (opening_of t)) is)));
  starts = λ m i is. subst (λ (k : ℕ). made_of made k ≡ Unmoved) (opened_node n m (StartedAt number) (StartedAt i) is) unmoved;
  waits = λ m is. absurd (false≢true (sym (ap (λ t. is_beginning (opening_of t)) is)));
  after = λ m is. absurd (none-some n (sym (ap opened_by is)));
  hand = hand;
}

-- one more dynamic test is registered
hand_more : (p : PlanParts) (phase : Phase) (seat : Seat) (made : List (ℕ × SlotState)) (n number : ℕ) → HandKept p phase seat made → seat.task ≡ Opens n Registering → HandKept p phase (record { task = Opens n (RegisteredAt number); hand = one_more seat.hand }) made
hand_more p AtNodes seat made n number kept is = λ h e. absurd (by seat.hand refl h e)
  where
    by : (x : Option Hand) → seat.hand ≡ x → (h : Hand) → one_more x ≡ Some h → ⊥
    by None held h e = none-some h e
    by (Some h0) held h e = opens_busy n Registering (sym is ∙ (kept h0 held).free)
hand_more p (AtTests factory asked) seat made n number kept is = record {
  hand = record { factory = kept.hand.factory; registered = kept.hand.registered + 1; waiting = kept.hand.waiting };
  held = ap one_more kept.held;
  is_it = kept.is_it;
  inside = kept.inside;
  counted = omega (arith, ap (λ t. kept.hand.registered + registering t) is, kept.counted);
  pulls = kept.pulls;
  left = kept.left;
  about = λ m e. kept.about m (ap opened_by is ∙ e);
}

pub drawn_steady : (p : PlanParts) (phase : Phase) (seat : Seat) (made : List (ℕ × SlotState)) → IsSteady p phase seat made → (w number : ℕ) (e : Event) → event_due w seat.task ≡ Some e → ((n : ℕ) → seat.task ≡ Opens n (Beginning false) → made_of made n ≡ Unmoved)
    → IsSteady p phase (drawn_seat number seat seat.task) made
drawn_steady p phase seat made it w number e due unmoved = by seat.task refl due
  where
    by : (t : Task) → seat.task ≡ t → event_due w t ≡ Some e → IsSteady p phase (drawn_seat number seat t) made
    by (Opens n Registering) is due = steady_quiet p phase (record { task = Opens n (RegisteredAt number); hand = one_more seat.hand }) made refl (hand_more p phase seat made n number it.hand is)
    by (Opens n (Beginning true)) is due = quietly p phase seat made it.hand (Opens n (Beginning true)) is (opens_busy n (Beginning true)) refl (Closes n (SkippedAt number)) refl (inl refl)
    by (Opens n (Beginning false)) is due =
        started_steady p phase seat made n number (hand_to p phase seat made it.hand (λ free. opens_busy n (Beginning false) (sym is ∙ free)) (Opens n (StartedAt number)) (ap registering is) (inr (ap opened_by (sym is)))) (unmoved n is)
    by (Closes n (Ending status)) is due = quietly p phase seat made it.hand (Closes n (Ending status)) is (closes_busy n (Ending status)) refl (Closes n (FinishedAt number status)) refl (inl refl)
    by _ is due = absurd (none-some e due)

-- A factory is taken in hand, or the node's job is waited for.
awaiting_steady : (p : PlanParts) (phase : Phase) (seat : Seat) (made : List (ℕ × SlotState)) (n : ℕ) → HandKept p phase (with_task seat (Opens n Awaiting)) made → pulls_job p n ≡ false → made_of made n ≡ Unmoved → IsSteady p phase (with_task seat (Opens n Awaiting)) made
awaiting_steady p phase seat made n hand plain unmoved = record {
  gives = λ m is. none-some n (sym (ap opened_by is));
  plain = λ m is. subst (λ (k : ℕ). pulls_job p k ≡ false) (opened_node n m Awaiting Awaiting is) plain;
  starts = λ m i is. absurd (false≢true (sym (ap (λ t. is_awaiting (opening_of t)) is)));
  waits = λ m is. subst (λ (k : ℕ). made_of made k ≡ Unmoved) (opened_node n m Awaiting Awaiting is) unmoved;
  after = λ m is. absurd (none-some n (sym (ap opened_by is)));
  hand = hand;
}

start_steady : (p : PlanParts) (phase : Phase) (seat : Seat) (made : List (ℕ × SlotState)) → IsSteady p phase seat made → (n i : ℕ) → seat.task ≡ Opens n (StartedAt i) → (b : Bool) → pulls_job p n ≡ b
    → IsSteady p phase (cond b (record { task = Free; hand = Some (record { factory = n; registered = 0; waiting = None }) }) (with_task seat (Opens n Awaiting))) made
start_steady p AtNodes seat made it n i is true pulls =
    steady_quiet p AtNodes (record { task = Free; hand = Some (record { factory = n; registered = 0; waiting = None }) }) made refl
    (λ h e. subst (λ (x : Hand). IsTaken p (record { task = Free; hand = Some (record { factory = n; registered = 0; waiting = None }) }) made x) (same_Some (record { factory = n; registered = 0; waiting = None }) h e)
    (record { free = refl; idle = refl; none = refl; pulls = pulls; unmoved = it.starts n i is }))
start_steady p (AtTests factory asked) seat made it n i is true pulls = absurd (false≢true (sym (it.hand.about n (ap opened_by is)).1 ∙ pulls))
start_steady p phase seat made it n i is false pulls =
    awaiting_steady p phase seat made n (hand_to p phase seat made it.hand (λ free. opens_busy n (StartedAt i) (sym is ∙ free)) (Opens n Awaiting) (ap registering is) (inr (ap opened_by (sym is)))) pulls (it.starts n i is)

pub shown_steady : (p : PlanParts) (phase : Phase) (seat : Seat) (made : List (ℕ × SlotState)) → IsSteady p phase seat made → (w : ℕ) (x : ℕ × Event) → named w seat.task ≡ Some x → IsSteady p phase (shown_seat p seat seat.task) made
shown_steady p phase seat made it w x due = by seat.task refl due
  where
    by : (t : Task) → seat.task ≡ t → named w t ≡ Some x → IsSteady p phase (shown_seat p seat t) made
    by (Opens n (RegisteredAt i)) is due = quietly p phase seat made it.hand (Opens n (RegisteredAt i)) is (opens_busy n (RegisteredAt i)) refl (Opens n Offering) refl (inr refl)
    by (Opens n (StartedAt i)) is due = start_steady p phase seat made it n i is (pulls_job p n) refl
    by (Closes n (SkippedAt i)) is due = quietly p phase seat made it.hand (Closes n (SkippedAt i)) is (closes_busy n (SkippedAt i)) refl (Closes n Settling) refl (inl refl)
    by (Closes n (FinishedAt i status)) is due = quietly p phase seat made it.hand (Closes n (FinishedAt i status)) is (closes_busy n (FinishedAt i status)) refl (Closes n (after_finish p n status)) (quiet_finish p n status) (inl refl)
    by _ is due = absurd (none-some x due)

-- A dynamic test is offered, or settled: the factory in hand waits for it, or no longer.
pub hand_turned : (p : PlanParts) (phase : Phase) (seat : Seat) (made : List (ℕ × SlotState)) → HandKept p phase seat made → seat.task ≢ Free → registering seat.task ≡ 0 → (turn : Option Hand → Option Hand) → turn None ≡ None
    → (waiting : Hand → Option ℕ) → ((h : Hand) → turn (Some h) ≡ Some (record { factory = h.factory; registered = h.registered; waiting = waiting h }))
    → (t : Task) → opened_by t ≡ None → registering t ≡ 0 → HandKept p phase (record { task = t; hand = turn seat.hand }) made
hand_turned p AtNodes seat made kept busy none turn still waiting turns t opens no_more = λ h e. absurd (by seat.hand refl h e)
  where
    by : (x : Option Hand) → seat.hand ≡ x → (h : Hand) → turn x ≡ Some h → ⊥
    by None held h e = none-some h (sym still ∙ e)
    by (Some h0) held h e = busy (kept h0 held).free
hand_turned p (AtTests factory asked) seat made kept busy none turn still waiting turns t opens no_more = record {
  hand = record { factory = kept.hand.factory; registered = kept.hand.registered; waiting = waiting kept.hand };
  held = ap turn kept.held ∙ turns kept.hand;
  is_it = kept.is_it;
  inside = kept.inside;
  counted = ap (λ k. kept.hand.registered + k) (no_more ∙ sym none) ∙ kept.counted;
  pulls = kept.pulls;
  left = kept.left;
  about = λ m e. absurd (none-some m (sym opens ∙ e));
}

pub admitted_steady : (p : PlanParts) (phase : Phase) (seat : Seat) (made : List (ℕ × SlotState)) → IsSteady p phase seat made → (w : ℕ) (o : Offer) → offer_due p w seat.task ≡ Some o → IsSteady p phase (admitted_seat p seat seat.task) made
admitted_steady p phase seat made it w o due = by seat.task refl due
  where
    by : (t : Task) → seat.task ≡ t → offer_due p w t ≡ Some o → IsSteady p phase (admitted_seat p seat t) made
    by (Opens n (Admitting c)) is due = quietly p phase seat made it.hand (Opens n (Admitting c)) is (opens_busy n (Admitting c)) refl (Opens n (admit_from p n (suc c))) (quiet_admit n _) (inr refl)
    by (Opens n Offering) is due =
        steady_quiet p phase (record { task = Free; hand = waits_for p n seat.hand }) made refl
        (hand_turned p phase seat made it.hand (λ free. opens_busy n Offering (sym is ∙ free)) (ap registering is) (waits_for p n) refl (λ h. cond (is_same p n) (Some n) h.waiting) (λ h. refl) Free refl refl)
    by (Closes n (Passing m owner)) is due = quietly p phase seat made it.hand (Closes n (Passing m owner)) is (closes_busy n (Passing m owner)) refl (Closes n CountingOff) refl (inl refl)
    by _ is due = absurd (none-some o due)
