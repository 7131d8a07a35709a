-- A worker that settles a node, counts it off, gives up a guard or takes a node stays steady.
use Rattle.std.proofs.Common.{◌≡◌, ◌≢◌, ℕ, zero, suc, ◌==◌, inl, inr, Bool, true, false, cond, List, Option, Some, None, refl, sym, ap, ◌∙◌, subst}
use Rattle.std.proofs.lemmas.Option.{none-some, same_Some}
use Rattle.std.proofs.lemmas.Bool.{false≢true}
use Rattle.plan_events.specs.declared.outcome.Reply.{Reply}
use Rattle.plan_events.specs.declared.status.Status.{Status}
use Rattle.plan_events.specs.declared.status.Status.TheVariants.{Successful}
use Rattle.resource_locks.specs.Plans.{PlanParts}
use Rattle.event_history.specs.Results.{Jobs, Around, jobs_of}
use Rattle.scheduling.specs.declared.seat.Hand.{Hand}
use Rattle.scheduling.specs.declared.seat.Seat.{Seat}
use Rattle.scheduling.specs.declared.task.Opening.TheVariants.{Backing, Guarding}
use Rattle.scheduling.specs.declared.task.Closing.TheVariants.{AwaitingAfter, Giving, Settling, CountingOff}
use Rattle.scheduling.specs.declared.task.Task.{Task}
use Rattle.scheduling.specs.declared.task.Task.TheVariants.{Free, Opens, Closes}
use Rattle.scheduling.specs.Choices.{giving, pass_to, after_settle, ending_by, ending}
use Rattle.scheduling.specs.Rows.{with_task, waits_no_more, waited_out, ends_or_free}
use Rattle.table_rule.specs.declared.view.SlotState.{SlotState}
use Rattle.table_rule.specs.declared.view.SlotState.TheVariants.{Unmoved}
use Rattle.table_rule.specs.Slots.{made_of, after_slot}
use Rattle.table_rule.specs.Plays.{Guard, Back, back_due, given_seat, settled_seat, ended_seat, guard_due}
use Rattle.workers.specs.Inside.Steady.{Phase, AtNodes, opened_by, registering, HandKept, IsSteady}
use Rattle.workers.proofs.Quiet.{is_quiet, steady_quiet, hand_to, quietly, quiet_giving}
use Rattle.workers.proofs.Steps.{hand_turned, closes_busy, opens_busy}

-- The task after a node is settled.
quiet_pass : (n : ℕ) (m : Option ℕ) (b : Bool) → is_quiet (Closes n (cond b (pass_to m) CountingOff)) ≡ true
quiet_pass n None true = refl
quiet_pass n (Some m) true = refl
quiet_pass n m false = refl

quiet_settle : (p : PlanParts) (n : ℕ) → is_quiet (after_settle p n) ≡ true
quiet_settle p zero = refl
quiet_settle p (suc n) = quiet_pass (suc n) _ _

closes_settle : (p : PlanParts) (n : ℕ) → (opened_by (after_settle p n) ≡ None) × (registering (after_settle p n) ≡ 0)
closes_settle p zero = (refl, refl)
closes_settle p (suc n) = (refl, refl)

pub settled_steady : (p : PlanParts) (phase : Phase) (seat : Seat) (made : List (ℕ × SlotState)) → IsSteady p phase seat made → (n : ℕ) → seat.task ≡ Closes n Settling → IsSteady p phase (settled_seat p seat n) made
settled_steady p phase seat made it n is =
    steady_quiet p phase (settled_seat p seat n) made (quiet_settle p n)
    (hand_turned p phase seat made it.hand (λ free. closes_busy n Settling (sym is ∙ free)) (ap registering is) (waits_no_more n) refl (λ h. waited_out n h.waiting) (λ h. refl) (after_settle p n) (closes_settle p n).0 (closes_settle p n).1)

-- A worker that ends a node: it may run the after-body next, whose slot it has not moved.
closing_steady : (p : PlanParts) (phase : Phase) (seat : Seat) (made : List (ℕ × SlotState)) → HandKept p phase seat made → opened_by seat.task ≡ None → ((n : ℕ) → seat.task ≢ Closes n (Giving 0)) → ((n : ℕ) → seat.task ≡ Closes n AwaitingAfter → made_of made (after_slot p n) ≡ Unmoved) → IsSteady p phase seat made
closing_steady p phase seat made hand closes gives after = record {
  gives = gives;
  plain = λ n is. absurd (none-some n (sym closes ∙ ap opened_by is));
  starts = λ n i is. absurd (none-some n (sym closes ∙ ap opened_by is));
  waits = λ n is. absurd (none-some n (sym closes ∙ ap opened_by is));
  after = after;
  hand = hand;
}

abbrev is_giving : Task → Bool
is_giving (Closes n (Giving k)) = true
is_giving _ = false

ending_gives_no : (n : ℕ) (jobs : Jobs) (status : Status) → is_giving (Closes n (ending_by jobs status)) ≡ false
ending_gives_no n (Around body (Some after)) status = refl
ending_gives_no n _ status = refl

record EndsSo (t : Task) : Type 0 where
  closes : opened_by t ≡ None
  counts : registering t ≡ 0
  gives : is_giving t ≡ false

ends_so : (p : PlanParts) (n : ℕ) (status : Status) (outstanding : ℕ) → EndsSo (ends_or_free p n status outstanding)
ends_so p n status outstanding = by (outstanding == 1)
  where
    by : (b : Bool) → EndsSo (cond b (Closes n (ending p n status)) Free)
    by true = record { closes = refl; counts = refl; gives = ending_gives_no n (jobs_of p n) status }
    by false = record { closes = refl; counts = refl; gives = refl }

pub ends_steady : (p : PlanParts) (phase : Phase) (seat : Seat) (made : List (ℕ × SlotState)) → HandKept p phase seat made → (u : Task) → seat.task ≡ u → u ≢ Free → registering u ≡ 0 → (n : ℕ) (status : Status) (outstanding : ℕ)
    → ((m : ℕ) → ends_or_free p n status outstanding ≡ Closes m AwaitingAfter → made_of made (after_slot p m) ≡ Unmoved) → IsSteady p phase (with_task seat (ends_or_free p n status outstanding)) made
ends_steady p phase seat made hand u is busy none n status outstanding after =
    let so = ends_so p n status outstanding in
    closing_steady p phase (with_task seat (ends_or_free p n status outstanding)) made
    (hand_to p phase seat made hand (λ free. busy (sym is ∙ free)) (ends_or_free p n status outstanding) (ap registering is ∙ (none ∙ sym so.counts)) (inl so.closes))
    so.closes
    (λ m e. false≢true (sym so.gives ∙ ap is_giving e))
    after

-- the node's own guard
pub guarded_steady : (p : PlanParts) (phase : Phase) (seat : Seat) (made : List (ℕ × SlotState)) → HandKept p phase seat made → (n : ℕ) → seat.task ≡ Opens n Guarding → (answer : Option Reply) (g : Guard) (outstanding : ℕ) → guard_due p answer seat seat.task ≡ Some g
    → ((m : ℕ) → ends_or_free p g.node g.result outstanding ≡ Closes m AwaitingAfter → made_of made (after_slot p m) ≡ Unmoved) → IsSteady p phase (ended_seat p g outstanding) made
guarded_steady p phase seat made hand n is answer g outstanding due after =
    let own : Guard = record { node = n; result = Successful; hand = seat.hand } in
    let same : own ≡ g = same_Some own g (sym (ap (guard_due p answer seat) is) ∙ due) in
    subst (λ (x : Guard). IsSteady p phase (ended_seat p x outstanding) made) same
    (ends_steady p phase seat made hand (Opens n Guarding) is (opens_busy n Guarding) refl n Successful outstanding
    (subst (λ (x : Guard). (m : ℕ) → ends_or_free p x.node x.result outstanding ≡ Closes m AwaitingAfter → made_of made (after_slot p m) ≡ Unmoved) (sym same) after))

-- a key is given back
pub given_steady : (p : PlanParts) (phase : Phase) (seat : Seat) (made : List (ℕ × SlotState)) → HandKept p phase seat made → (b : Back) → back_due seat.task ≡ Some b → IsSteady p phase (given_seat seat seat.task) made
given_steady p phase seat made hand b due = by seat.task refl due
  where
    by : (t : Task) → seat.task ≡ t → back_due t ≡ Some b → IsSteady p phase (given_seat seat t) made
    by (Opens n (Backing (suc i))) is due = quietly p phase seat made hand (Opens n (Backing (suc i))) is (opens_busy n (Backing (suc i))) refl (Opens n (Backing i)) refl (inr refl)
    by (Closes n (Giving (suc i))) is due = quietly p phase seat made hand (Closes n (Giving (suc i))) is (closes_busy n (Giving (suc i))) refl (Closes n (giving i)) (quiet_giving n i) (inl refl)
    by _ is due = absurd (none-some b due)

-- a seat that ends a node with nothing in hand
pub ends_alone : (p : PlanParts) (n : ℕ) (status : Status) (outstanding : ℕ) (made : List (ℕ × SlotState)) (hand : Option Hand) → hand ≡ None
    → ((m : ℕ) → ends_or_free p n status outstanding ≡ Closes m AwaitingAfter → made_of made (after_slot p m) ≡ Unmoved) → IsSteady p AtNodes (record { task = ends_or_free p n status outstanding; hand = hand }) made
ends_alone p n status outstanding made hand none after =
    let so = ends_so p n status outstanding in
    closing_steady p AtNodes (record { task = ends_or_free p n status outstanding; hand = hand }) made (λ h held. absurd (none-some h (sym none ∙ held))) so.closes (λ m e. false≢true (sym so.gives ∙ ap is_giving e)) after
