-- A job that leaves its slot, and the answer that comes in: what the seat is then.
use Rattle.std.proofs.Common.{◌≡◌, ◌≢◌, ◌<◌, ℕ, ◌+◌, ◌⊎◌, inl, inr, Bool, true, false, cond, List, [], ◌∷◌, length, append-nil, append_assoc, ◌++◌, Option, Some, None, arith, eq-eqb, ne_eqb, refl, sym, ap, ◌∙◌, subst}
use Rattle.std.proofs.lemmas.Option.{none-some, same_Some}
use Rattle.std.proofs.lemmas.Bool.{false≢true}
use Rattle.std.specs.Option.{is_some}
use Rattle.std.specs.Prelude.{slice_get}
use Rattle.atomic_table.specs.declared.shared.Seat.{Seat as TableSeat}
use Rattle.atomic_table.specs.Table.{Me}
use Rattle.plan_events.specs.Jobs.{GivesOutcome, without_pulls, unpulled, IsRun}
use Rattle.plan_events.specs.declared.note.Note.TheVariants.{Own}
use Rattle.plan_events.specs.declared.outcome.Outcome.{Outcome}
use Rattle.plan_events.specs.declared.outcome.Reply.{Reply}
use Rattle.plan_events.specs.declared.status.Status.{Status}
use Rattle.resource_locks.specs.Plans.{PlanParts}
use Rattle.scheduling.specs.declared.seat.Hand.{Hand}
use Rattle.scheduling.specs.declared.seat.Seat.{Seat}
use Rattle.scheduling.specs.declared.task.Task.{Task}
use Rattle.scheduling.specs.declared.task.Opening.TheVariants.{Awaiting}
use Rattle.scheduling.specs.declared.task.Closing.TheVariants.{AwaitingAfter, Ending}
use Rattle.scheduling.specs.declared.task.Task.TheVariants.{Free, Opens, Closes}
use Rattle.scheduling.specs.Choices.{awaited, decided, admit_next}
use Rattle.scheduling.specs.Rows.{with_task}
use Rattle.table_rule.specs.declared.view.View.{View}
use Rattle.table_rule.specs.declared.view.Slot.{Slot}
use Rattle.table_rule.specs.declared.view.SlotState.{SlotState}
use Rattle.table_rule.specs.declared.view.SlotState.TheVariants.{Unmoved, Left, Out, Noted}
use Rattle.table_rule.specs.declared.view.WorkerFacts.{WorkerFacts}
use Rattle.table_rule.specs.Slots.{made_of, after_slot}
use Rattle.table_rule.specs.Plays.{worker, makes, seat_by, ready_seat, unasked}
use Rattle.run_table.specs.Answering.{registered_by, IsToldOwn, MayTell}
use Rattle.run_table.specs.Moved.{job_slot}
use Rattle.run_table.specs.Seats.{seated, SameSeat}
use Rattle.event_history.specs.Plans.{pulls_job}
use Rattle.table_rule.specs.declared.view.About.{About}
use Rattle.table_rule.specs.Picture.{gives_in, replies_in}
use Rattle.workers.specs.Premises.{MayAnswer}
use Rattle.workers.specs.Going.{GoesOn}
use Rattle.workers.specs.Inside.Answering.{GivesAfter, LeftAfter, IsOut, IsTold, WaitsFor, is_decided}
use Rattle.workers.specs.Inside.Steady.{Phase, AtNodes, AtTests, opened_by, HandKept, IsSteady, ReadySteady}
use Rattle.workers.proofs.Steps.{closes_busy, decides_after, decides_body, opens_busy}

plus_none : (a b : ℕ) → a ≡ 0 → a + b ≡ b
plus_none a b none = omega (arith, none)

-- the answer of a job that is run is one of its replies, and the one that it gives
pub run_tells : (p : PlanParts) (replies : ℕ → List Reply) (given : ℕ → Reply → Type 0) (made : List (ℕ × SlotState)) (task : Task) (hand : Option Hand) (node slot number : ℕ) (left : List Reply) → IsOut left (replies number) p made task hand node slot number
    → 0 < length (unpulled left) → (outcome : Outcome) → IsRun left outcome → (first gives : Reply → Type 0) → GivesAfter (registered_by task hand) first gives → ((reply : Reply) → first reply → given number reply) → GivesOutcome gives outcome
    → (k : ℕ) → job_slot p task hand node ≡ Some k → MayTell p replies given made (seated task hand) k outcome.status (Own outcome.text)
run_tells p replies given made task hand node slot number left out some outcome ran first gives after wide gave k at =
    let h = ran some in
    let from = out.left h.place h.reply h.stands in
    record {
      left = subst (λ (x : ℕ). made_of made x ≡ Left) (same_Some slot k (sym out.at ∙ at)) out.out;
      number = number;
      waits = out.waits;
      place = from.0;
      reply = record { pulls = h.reply.pulls + registered_by task hand; outcome = h.reply.outcome };
      stands = from.1;
      given_so = wide _ (subst first (λ i. record { pulls = sym h.no_pulls i + registered_by task hand; outcome = h.is i }) (after (without_pulls outcome) gave));
      told_as = inl (record {
        pulls = plus_none h.reply.pulls (registered_by task hand) h.no_pulls;
        status_is = ap (λ o. o.status) h.is;
        note_is = ap (λ o. Own o.text) h.is;
      });
    }

-- and the job says so, whichever reply is told of it
pub run_says : {B : Type 0} (says : B → Outcome → Type 0) (outcome : Outcome) (job : B) → says job outcome → (registered : ℕ) (reply : Reply) → IsToldOwn registered reply outcome.status (Own outcome.text) → says job reply.outcome
run_says says outcome job said registered reply own = subst (says job) (λ i. record { status = own.status_is i; text = same_own outcome.text reply.outcome.text own.note_is i }) said
  where
    same_own : (x y : List ℕ) → Own x ≡ Own y → x ≡ y
    same_own x y q = cc

-- A job that has just left its slot.
pub made_last : (made : List (ℕ × SlotState)) (k : ℕ) (slot_state : SlotState) → made_of ((k, slot_state) ∷ made) k ≡ slot_state
made_last made k slot_state = ap (λ b. cond b slot_state (made_of made k)) (eq-eqb k k refl)

pub made_else : (made : List (ℕ × SlotState)) (k m : ℕ) (slot_state : SlotState) → k ≢ m → made_of ((k, slot_state) ∷ made) m ≡ made_of made m
made_else made k m slot_state ne = ap (λ b. cond b slot_state (made_of made m)) (ne_eqb k m ne)

record_zero : (r : Reply) (n : ℕ) → n ≡ 0 → r ≡ record { pulls = r.pulls + n; outcome = r.outcome }
record_zero r n none = λ k. record { pulls = same k; outcome = r.outcome }
  where
    same : r.pulls ≡ r.pulls + n
    same = omega (arith, none)

pub none_asked : (asked : ℕ) (first left : List Reply) → asked ≡ 0 → first ≡ left → LeftAfter asked first left
none_asked asked first left none same = λ i r stands. (i, ap (λ (l : List Reply). slice_get l i) same ∙ (stands ∙ ap Some (record_zero r asked none)))

pub leaves : (p : PlanParts) (made : List (ℕ × SlotState)) (task : Task) (hand : Option Hand) (node slot number : ℕ) (first left : List Reply) → job_slot p task hand node ≡ Some slot → awaited p (seated task hand) task ≡ Some number → registered_by task hand ≡ 0 → first ≡ left
    → IsOut left first p ((slot, Left) ∷ made) task hand node slot number
leaves p made task hand node slot number first left at waits none same = record { at = at; out = made_last made slot Left; waits = waits; left = none_asked (registered_by task hand) first left none same }

-- and of what it gives all is given so
pub none_given : (asked : ℕ) (first left : Reply → Type 0) → asked ≡ 0 → ((r : Reply) → left r → first r) → GivesAfter asked first left
none_given asked first left none wide r gives = subst first (record_zero r asked none) (wide r gives)

pub gives_seat : {B : Type 0} (gives : B → Reply → Type 0) (left : Reply → Type 0) (old new : TableSeat (Slot B) (View B)) (task task2 : Task) (hand hand2 : Option Hand) (number : ℕ) → new.me.0.about ≡ old.me.0.about → task2 ≡ task → hand2 ≡ hand → registered_by task hand ≡ 0
    → ((r : Reply) → left r → gives_in gives old.me.0.about.jobs number r) → GivesAfter (registered_by task2 hand2) (gives_in gives new.me.0.about.jobs number) left
gives_seat {B} gives left old new task task2 hand hand2 number about same_task same_hand none wide =
    subst (λ (z : About B × Task × Option Hand). GivesAfter (registered_by z.1 z.2) (gives_in gives z.0.jobs number) left) (λ k. (sym about k, sym same_task k, sym same_hand k))
    (none_given (registered_by task hand) (gives_in gives old.me.0.about.jobs number) left none wide)

-- and so it is once the seat has taken the slot and given it back
pub leaves_seat : {B : Type 0} (answers : B → List Reply) (left : List Reply) (old new : TableSeat (Slot B) (View B)) (task task2 : Task) (hand hand2 : Option Hand) (node slot number : ℕ) → new.me.0.about ≡ old.me.0.about → task2 ≡ task → hand2 ≡ hand
    → worker new.me.0 ≡ makes slot Left None (makes slot Out None (worker old.me.0)) → job_slot old.me.0.about.plan task hand node ≡ Some slot → awaited old.me.0.about.plan (seated task hand) task ≡ Some number → registered_by task hand ≡ 0
    → replies_in answers old.me.0.about.jobs number ≡ left → IsOut left (replies_in answers new.me.0.about.jobs number) new.me.0.about.plan (worker new.me.0).slots task2 hand2 node slot number
leaves_seat {B} answers left old new task task2 hand hand2 node slot number about same_task same_hand is at waits none same =
    subst (λ (z : About B × List (ℕ × SlotState) × Task × Option Hand). IsOut left (replies_in answers z.0.jobs number) z.0.plan z.1 z.2 z.3 node slot number)
    (λ k. (sym about k, (sym is k).slots, sym same_task k, sym same_hand k))
    (leaves old.me.0.about.plan ((slot, Out) ∷ (worker old.me.0).slots) task hand node slot number (replies_in answers old.me.0.about.jobs number) left at waits none same)

-- A task that waits for a job is busy, and has no dynamic tests.
pub waits_busy : (node : ℕ) (task : Task) → WaitsFor node task → task ≢ Free
waits_busy node task waits free = elim waits [
  | inl is ↦ opens_busy node Awaiting (sym is ∙ free)
  | inr is ↦ closes_busy node AwaitingAfter (sym is ∙ free)
]

pub waits_none : (node : ℕ) (task : Task) (hand : Option Hand) → WaitsFor node task → registered_by task hand ≡ 0
waits_none node task hand waits = elim waits [
  | inl is ↦ ap (λ t. registered_by t hand) is
  | inr is ↦ ap (λ t. registered_by t hand) is
]

-- its job may give a reply
pub waiting_may : {B : Type 0} (answers : B → List Reply) (key about : About B) (task : Task) (hand : Option Hand) (n number : ℕ) (left : List Reply) → MayAnswer answers key → about ≡ key → WaitsFor n task → (task ≡ Opens n Awaiting → pulls_job about.plan n ≡ false)
    → awaited about.plan (seated task hand) task ≡ Some number → replies_in answers about.jobs number ≡ left → 0 < length (unpulled left)
waiting_may answers key about task hand n number left may same waits plain number_is replies =
    let here : MayAnswer answers about = subst (MayAnswer answers) (sym same) may in
    subst (λ (l : List Reply). 0 < length (unpulled l)) replies elim waits [
      | inl is ↦ here.bodies n number (plain is) (ap (λ t. awaited about.plan (seated t hand) t) (sym is) ∙ number_is)
      | inr is ↦ here.after_bodies n number (ap (λ t. awaited about.plan (seated t hand) t) (sym is) ∙ number_is)
    ]

-- What is decided.
is_decided_so : (n : ℕ) (status : Status) (c : Option ℕ) (b : Bool) → is_decided (cond b (Closes n (Ending status)) (Opens n (admit_next c))) ≡ true
is_decided_so n status c true = refl
is_decided_so n status None false = refl
is_decided_so n status (Some c) false = refl

waits_decided : (p : PlanParts) (reply : Reply) (node : ℕ) (task : Task) → WaitsFor node task → is_decided (decided p reply task) ≡ true
waits_decided p reply node task waits = elim waits [
  | inl is ↦ ap (λ t. is_decided (decided p reply t)) is ∙ is_decided_so node _ _ _
  | inr is ↦ ap (λ t. is_decided (decided p reply t)) is
]

seat_decided : (p : PlanParts) (w : WorkerFacts) (job : Option ℕ) → ((reply : Reply) → is_decided (decided p reply w.seat.task) ≡ true) → (job ≡ None) ⊎ (is_some w.answer ≡ true) → is_decided (seat_by p w.seat job w.answer).task ≡ true
seat_decided p w job all may = by job w.answer may
  where
    by : (job : Option ℕ) (answer : Option Reply) → (job ≡ None) ⊎ (is_some answer ≡ true) → is_decided (seat_by p w.seat job answer).task ≡ true
    by None answer may = all unasked
    by (Some j) (Some reply) may = all reply
    by (Some j) None may = elim may [ inl e ↦ absurd (none-some j (sym e)) | inr e ↦ absurd (false≢true e) ]

-- A job that is not there to be taken, though nobody has moved its slot, is none: the task waits for nothing.
pub unasked_decided : (p : PlanParts) (w : WorkerFacts) (task : Task) (hand : Option Hand) (node k : ℕ) → w.seat ≡ seated task hand → WaitsFor node task → job_slot p task hand node ≡ Some k
    → ((slot number : ℕ) → job_slot p task hand node ≡ Some slot → awaited p (seated task hand) task ≡ Some number → made_of w.slots slot ≡ Unmoved → ⊥) → made_of w.slots k ≡ Unmoved → is_decided (ready_seat p w).task ≡ true
unasked_decided p w task hand node k seat_is waits at none unmoved =
    seat_decided p w (awaited p w.seat w.seat.task) (λ reply. ap (λ (s : Seat). is_decided (decided p reply s.task)) seat_is ∙ waits_decided p reply node task waits) (by (awaited p (seated task hand) task) refl)
  where
    by : (job : Option ℕ) → awaited p (seated task hand) task ≡ job → (awaited p w.seat w.seat.task ≡ None) ⊎ (is_some w.answer ≡ true)
    by None e = inl (ap (λ (s : Seat). awaited p s s.task) seat_is ∙ e)
    by (Some j) e = absurd (none k j at e unmoved)

pub same_decided : {B : Type 0} (old new : Me (Slot B) (View B)) → new ≡ old → is_decided (ready_seat old.0.about.plan (worker old.0)).task ≡ true → is_decided (ready_seat new.0.about.plan (worker new.0)).task ≡ true
same_decided {B} old new same it = subst (λ (m : Me (Slot B) (View B)). is_decided (ready_seat m.0.about.plan (worker m.0)).task ≡ true) (sym same) it

pub same_ready : {B : Type 0} (old new : TableSeat (Slot B) (View B)) (phase : Phase) → new.me ≡ old.me → ReadySteady phase old → ReadySteady phase new
same_ready {B} old new phase same it = subst (λ (m : Me (Slot B) (View B)). IsSteady m.0.about.plan phase (ready_seat m.0.about.plan (worker m.0)) (worker m.0).slots) (sym same) it

-- What is made of the slot of a job is not made of that of the factory in hand.
abbrev pub Apart : Phase → ℕ → Type 0
Apart AtNodes k = Unit {0}
Apart (AtTests factory asked) k = k ≢ factory

apart_body : (p : PlanParts) (phase : Phase) (seat : Seat) (made : List (ℕ × SlotState)) (n : ℕ) → HandKept p phase seat made → seat.task ≡ Opens n Awaiting → Apart phase n
apart_body p AtNodes seat made n kept is = tt
apart_body p (AtTests factory asked) seat made n kept is = (kept.about n (ap opened_by is)).0

apart_after : (p : PlanParts) (phase : Phase) (seat : Seat) (made : List (ℕ × SlotState)) (n : ℕ) → HandKept p phase seat made → Apart phase (after_slot p n)
apart_after p AtNodes seat made n kept = tt
apart_after p (AtTests factory asked) seat made n kept = λ same. omega (arith, same, kept.inside)

-- the slot of the job that a steady worker waits for: nobody has moved it
pub record Waited (p : PlanParts) (phase : Phase) (task : Task) (hand : Option Hand) (made : List (ℕ × SlotState)) (node : ℕ) : Type 0 where
  pub slot : ℕ
  pub at : job_slot p task hand node ≡ Some slot
  pub unmoved : made_of made slot ≡ Unmoved
  pub apart : Apart phase slot

body_slot : (p : PlanParts) (task : Task) (hand : Option Hand) (n : ℕ) → task ≡ Opens n Awaiting → job_slot p task hand n ≡ Some n
body_slot p task hand n is = ap (λ t. job_slot p t hand n) is ∙ ap (λ b. cond b (Some n) None) (eq-eqb n n refl)

after_body_slot : (p : PlanParts) (task : Task) (hand : Option Hand) (n : ℕ) → task ≡ Closes n AwaitingAfter → job_slot p task hand n ≡ Some (after_slot p n)
after_body_slot p task hand n is = ap (λ t. job_slot p t hand n) is ∙ ap (λ b. cond b (Some (after_slot p n)) None) (eq-eqb n n refl)

pub waited : (p : PlanParts) (phase : Phase) (seat : Seat) (made : List (ℕ × SlotState)) (hand : Option Hand) (node : ℕ) → IsSteady p phase seat made → WaitsFor node seat.task → Waited p phase seat.task hand made node
waited p phase seat made hand node it waits = elim waits [
  | inl is ↦ record { slot = node; at = body_slot p seat.task hand node is; unmoved = it.waits node is; apart = apart_body p phase seat made node it.hand is }
  | inr is ↦ record { slot = after_slot p node; at = after_body_slot p seat.task hand node is; unmoved = it.after node is; apart = apart_after p phase seat made node it.hand }
]

hand_apart : (p : PlanParts) (phase : Phase) (seat : Seat) (made : List (ℕ × SlotState)) → HandKept p phase seat made → seat.task ≢ Free → (k : ℕ) (slot_state : SlotState) → Apart phase k → HandKept p phase seat ((k, slot_state) ∷ made)
hand_apart p AtNodes seat made kept busy k slot_state ne = λ h e. absurd (busy (kept h e).free)
hand_apart p (AtTests factory asked) seat made kept busy k slot_state ne = record {
  hand = kept.hand;
  held = kept.held;
  is_it = kept.is_it;
  inside = kept.inside;
  counted = kept.counted;
  pulls = kept.pulls;
  left = made_else made k factory slot_state ne ∙ kept.left;
  about = kept.about;
}

-- the slots of a job, out and noted, are not the factory's
hands_out : (p : PlanParts) (phase : Phase) (seat : Seat) (made : List (ℕ × SlotState)) → HandKept p phase seat made → seat.task ≢ Free → (k m : ℕ) → Apart phase k → Apart phase m → (x y z t : SlotState) → HandKept p phase seat ((m, x) ∷ (m, y) ∷ (k, z) ∷ (k, t) ∷ made)
hands_out p phase seat made hand busy k m ne nf x y z t =
    let one = hand_apart p phase seat made hand busy k t ne in
    let two = hand_apart p phase seat ((k, t) ∷ made) one busy k z ne in
    let three = hand_apart p phase seat ((k, z) ∷ (k, t) ∷ made) two busy m y nf in
    hand_apart p phase seat ((m, y) ∷ (k, z) ∷ (k, t) ∷ made) three busy m x nf

-- a task that waits for a job is steady once it is decided, whatever has become of the job's slot
decides_waiting : (p : PlanParts) (phase : Phase) (seat : Seat) (made : List (ℕ × SlotState)) (reply : Reply) (node : ℕ) → HandKept p phase seat made → WaitsFor node seat.task → IsSteady p phase (with_task seat (decided p reply seat.task)) made
decides_waiting p phase seat made reply node hand waits = elim waits [
  | inl is ↦ subst (λ (t : Task). IsSteady p phase (with_task seat (decided p reply t)) made) (sym is) (decides_body p phase seat made reply node hand is)
  | inr is ↦ subst (λ (t : Task). IsSteady p phase (with_task seat (decided p reply t)) made) (sym is) (decides_after p phase seat made reply node hand is)
]

ready_out : (p : PlanParts) (phase : Phase) (seat : Seat) (made : List (ℕ × SlotState)) (job : Option ℕ) (reply : Reply) (node : ℕ) → HandKept p phase seat made → WaitsFor node seat.task → IsSteady p phase (seat_by p seat job (Some reply)) made
ready_out p phase seat made None reply node hand waits = decides_waiting p phase seat made unasked node hand waits
ready_out p phase seat made (Some job) reply node hand waits = decides_waiting p phase seat made reply node hand waits

-- The seat once the job that its task waited for was taken out, and has answered: its task is decided, and it is steady.
module _ {B : Type 0} (old mid new : TableSeat (Slot B) (View B)) (task : Task) (hand : Option Hand) (node k : ℕ) (mid_about : mid.me.0.about ≡ old.me.0.about) (new_about : new.me.0.about ≡ mid.me.0.about) (mid_is : worker mid.me.0 ≡ makes k Left None (makes k Out None (worker old.me.0)))
    (told : IsTold mid new task hand node) (waits : WaitsFor node (worker old.me.0).seat.task) where
  abbrev next : WorkerFacts
  next = makes told.slot (Noted told.reply) (Some told.reply) (makes told.slot Out None (makes k Left None (makes k Out None (worker old.me.0))))

  next_is : worker new.me.0 ≡ next
  next_is = told.now ∙ ap (λ (v : WorkerFacts). makes told.slot (Noted told.reply) (Some told.reply) (makes told.slot Out None v)) mid_is

  pub told_decided : is_decided (ready_seat new.me.0.about.plan (worker new.me.0)).task ≡ true
  told_decided =
      let p = old.me.0.about.plan in
      subst (λ (z : PlanParts × WorkerFacts). is_decided (ready_seat z.0 z.1).task ≡ true) (λ i. ((sym (new_about ∙ mid_about) i).plan, sym next_is i))
      (seat_decided p next (awaited p next.seat next.seat.task) (λ reply. waits_decided p reply node next.seat.task waits) (inr refl))

  pub told_steady : (phase : Phase) → job_slot old.me.0.about.plan task hand node ≡ Some k → HandKept old.me.0.about.plan phase (worker old.me.0).seat (worker old.me.0).slots → Apart phase k → ReadySteady phase new
  told_steady phase at kept ne =
      let p = old.me.0.about.plan in
      let w = worker old.me.0 in
      let same : told.slot ≡ k = same_Some told.slot k (sym told.at ∙ (ap (λ a. job_slot a.plan task hand node) mid_about ∙ at)) in
      subst (λ (z : PlanParts × WorkerFacts). IsSteady z.0 phase (ready_seat z.0 z.1) z.1.slots) (λ i. ((sym (new_about ∙ mid_about) i).plan, sym next_is i))
      (ready_out p phase w.seat next.slots (awaited p w.seat w.seat.task) told.reply node
      (hands_out p phase w.seat w.slots kept (waits_busy node w.seat.task waits) k told.slot ne (subst (Apart phase) (sym same) ne) (Noted told.reply) Out Left Out) waits)

-- and its own list is what it was
pub told_goes : {B : Type 0} (old mid new : TableSeat (Slot B) (View B)) (task : Task) (hand : Option Hand) (node k : ℕ) → SameSeat old mid → SameSeat mid new → worker mid.me.0 ≡ makes k Left None (makes k Out None (worker old.me.0)) → IsTold mid new task hand node → GoesOn old new
told_goes old mid new task hand node k first second mid_is told = record {
  same = record { table = second.table ∙ first.table; id = second.id ∙ first.id; about = second.about ∙ first.about; number = second.number ∙ first.number };
  mine = record { more = []; is = ap (λ (v : WorkerFacts). v.mine) told.now ∙ (ap (λ (v : WorkerFacts). v.mine) mid_is ∙ sym (append-nil (worker old.me.0).mine)) };
}

-- one step after the other
pub then_goes : {B : Type 0} (a b c : TableSeat (Slot B) (View B)) → GoesOn a b → GoesOn b c → GoesOn a c
then_goes a b c first second = record {
  same = record { table = second.same.table ∙ first.same.table; id = second.same.id ∙ first.same.id; about = second.same.about ∙ first.same.about; number = second.same.number ∙ first.same.number };
  mine = record { more = first.mine.more ++ second.mine.more; is = second.mine.is ∙ (ap (λ l. l ++ second.mine.more) first.mine.is ∙ append_assoc (worker a.me.0).mine first.mine.more second.mine.more) };
}
