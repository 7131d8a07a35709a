-- A worker that is about the dynamic tests of a factory stays steady.
use Rattle.std.proofs.Common.{◌≡◌, ◌≢◌, ◌<◌, ◌≤◌, ℕ, ◌+◌, ◌==◌, inl, inr, Bool, true, false, ◌&&◌, nat_lt, cond, List, ◌∷◌, length, Option, Some, None, arith, eq-eqb, refl, sym, ap, ◌∙◌, subst}
use Rattle.std.proofs.lemmas.Option.{none-some, same_Some, slice_get-get_or}
use Rattle.std.proofs.lemmas.Bool.{false≢true, and_parts, or_left, or_right, and_from, lt-ltb}
use Rattle.std.specs.Option.{is_some}
use Rattle.atomic_table.specs.declared.shared.Seat.{Seat as TableSeat}
use Rattle.descriptor.specs.declared.role.Role.{Role}
use Rattle.descriptor.specs.declared.role.Role.TheVariants.{Plain, Factory, Spare}
use Rattle.descriptor.specs.Roles.{is_factory, is_spare}
use Rattle.descriptor.specs.Nodes.{Nodes, IsTree, size, body_of, children_of, is_child, is_factory_at, is_spare_at, role_of}
use Rattle.resource_locks.specs.Plans.{PlanParts}
use Rattle.event_history.specs.Plans.{pulls_job, spare_count, is_spare_of, rank}
use Rattle.event_history.proofs.Trees.{is_child_test}
use Rattle.plan_events.specs.declared.outcome.Reply.{Reply}
use Rattle.plan_events.specs.declared.status.Status.{Status}
use Rattle.plan_events.specs.declared.status.Status.TheVariants.{Failed}
use Rattle.plan_events.specs.declared.note.Note.TheVariants.{TooMany}
use Rattle.scheduling.specs.declared.seat.Hand.{Hand}
use Rattle.scheduling.specs.declared.seat.Seat.{Seat}
use Rattle.scheduling.specs.declared.task.Opening.TheVariants.{Registering}
use Rattle.scheduling.specs.declared.task.Task.{Task}
use Rattle.scheduling.specs.declared.task.Task.TheVariants.{Free, Opens, Closes}
use Rattle.scheduling.specs.Choices.{next_spare, is_spare_ranked, is_pulled, pulled_result, claims, awaited, decided}
use Rattle.scheduling.specs.Rows.{is_of_hand, with_task, ends_or_free}
use Rattle.scheduling.specs.declared.task.Closing.TheVariants.{AwaitingAfter}
use Rattle.scheduling.proofs.Basics.{first_some}
use Rattle.scheduling.proofs.ChildLists.{spares_counted, next_spare_is}
use Rattle.scheduling.specs.Due.{IsChildDue}
use Rattle.table_rule.specs.declared.view.View.{View}
use Rattle.table_rule.specs.declared.view.Slot.{Slot}
use Rattle.table_rule.specs.declared.view.SlotState.{SlotState}
use Rattle.table_rule.specs.declared.view.SlotState.TheVariants.{Unmoved, Left, Out}
use Rattle.table_rule.specs.declared.view.WorkerFacts.{WorkerFacts}
use Rattle.table_rule.specs.Slots.{made_of, after_slot}
use Rattle.table_rule.specs.Plays.{Guard, worker, goes_on, claimed_seat, makes, guard_due, hand_guard, pulled_guard, ready_seat, seat_by, unasked, ended_seat}
use Rattle.run_table.specs.Answering.{registered_by, IsToldAs, MayTell}
use Rattle.run_table.specs.Moved.{job_slot}
use Rattle.table_rule.specs.Picture.{AsksTooMany}
use Rattle.workers.specs.Inside.Answering.{GivesAfter, LeftAfter, IsOut}
use Rattle.workers.proofs.Asked.{first_of}
use Rattle.workers.proofs.Endings.{ends_alone}
use Rattle.plan_events.specs.declared.note.Note.{Note}
use Rattle.run_table.specs.Seats.{seated}
use Rattle.workers.specs.Inside.Steady.{AtNodes, AtTests, opened_by, registering, IsTaken, IsPulled, IsSteady, Steady}
use Rattle.workers.proofs.Quiet.{is_quiet, steady_quiet, none_registering, quiet_claims}
use Rattle.workers.proofs.Steps.{arrives}
use Rattle.workers.proofs.Outgoing.{made_last}

-- a factory that has a job is a factory
pub factory_of : (p : PlanParts) (f : ℕ) → pulls_job p f ≡ true → (is_factory_at p.tree f ≡ true) × (is_some (body_of p.tree f) ≡ true)
factory_of p f pulls = and_parts (is_factory_at p.tree f) (is_some (body_of p.tree f)) pulls

not_both : (r : Role) → is_spare r ≡ true → is_factory r ≡ true → ⊥
not_both Plain spare factory = false≢true spare
not_both Factory spare factory = false≢true spare
not_both Spare spare factory = false≢true factory

not_factory : (r : Role) (b : Bool) → is_spare r ≡ true → (is_factory r && b) ≡ false
not_factory Plain b spare = refl
not_factory Factory b spare = absurd (false≢true spare)
not_factory Spare b spare = refl

-- a child of a factory is another node, which pulls no job
pub child_about : (p : PlanParts) (f n : ℕ) → IsTree p.tree → is_factory_at p.tree f ≡ true → is_child p.tree f n ≡ true → n < size p.tree → (n ≢ f) × (pulls_job p n ≡ false)
child_about p f n tree factory child inside =
    let spare : is_spare_at p.tree n ≡ true = tree.spares f n (is_child_test p.tree f n inside child) ∙ factory in (
      (λ same. not_both (role_of p.tree n) spare (ap (is_factory_at p.tree) same ∙ factory)),
      not_factory (role_of p.tree n) (is_some (body_of p.tree n)) spare,
    )

-- the seat about its tests, at a task about a child of the factory
pulled_to : (p : PlanParts) (f asked more : ℕ) (seat : Seat) (made : List (ℕ × SlotState)) → IsPulled p f asked seat made → seat.task ≡ Free → (n : ℕ) (t : Task) → opened_by t ≡ Some n → registering t ≡ more → (n ≢ f) × (pulls_job p n ≡ false) → IsPulled p f (asked + more) (with_task seat t) made
pulled_to p f asked more seat made kept free n t opens counts about = record {
  hand = kept.hand;
  held = kept.held;
  is_it = kept.is_it;
  inside = kept.inside;
  counted = omega (arith, kept.counted, ap (λ u. kept.hand.registered + registering u) free, counts);
  pulls = kept.pulls;
  left = kept.left;
  about = λ m e. subst (λ (k : ℕ). (k ≢ f) × (pulls_job p k ≡ false)) (same_Some n m (sym opens ∙ e)) about;
}

pub hand_child : (p : PlanParts) (hand : Option Hand) (held : Hand) (n : ℕ) → hand ≡ Some held → is_of_hand p hand n ≡ true → is_child p.tree held.factory n ≡ true
hand_child p hand held n is of = ap (λ h. is_of_hand p h n) (sym is) ∙ of

plus_zero : (a : ℕ) → a + 0 ≡ a
plus_zero a = omega arith

-- a test that was taken
pub owned_steady : {B : Type 0} (old new : TableSeat (Slot B) (View B)) (f asked : ℕ) (task : Task) (hand : Option Hand) (n : ℕ) → (worker old.me.0).seat ≡ seated task hand → new.me.0.about ≡ old.me.0.about → Steady (AtTests f asked) old → IsTree old.me.0.about.plan.tree
    → task ≡ Free → is_of_hand old.me.0.about.plan hand n ≡ true → n < size old.me.0.about.plan.tree → worker new.me.0 ≡ goes_on (claimed_seat old.me.0.about.plan (seated task hand) n) (worker old.me.0) → Steady (AtTests f asked) new
owned_steady old new f asked task hand n seat_is about it tree free of inside is =
    let p = old.me.0.about.plan in
    let made = (worker old.me.0).slots in
    let kept : IsPulled p f asked (seated task hand) made = subst (λ (s : Seat). IsPulled p f asked s made) seat_is it.hand in
    let child : is_child p.tree f n ≡ true = subst (λ (k : ℕ). is_child p.tree k n ≡ true) kept.is_it (hand_child p hand kept.hand n kept.held of) in
    let quiet = quiet_claims p n in
    let next = pulled_to p f asked 0 (seated task hand) made kept free n (Opens n (claims p n)) refl (none_registering (Opens n (claims p n)) quiet) (child_about p f n tree (factory_of p f kept.pulls).0 child inside) in
    arrives old new (AtTests f asked) (goes_on (claimed_seat p (seated task hand) n) (worker old.me.0)) about is
    (steady_quiet p (AtTests f asked) (claimed_seat p (seated task hand) n) made quiet (subst (λ (k : ℕ). IsPulled p f k (with_task (seated task hand) (Opens n (claims p n))) made) (plus_zero asked) next))

-- The next spare is there exactly where not all are asked for.
pub spare_there : (p : PlanParts) (f k : ℕ) → IsTree p.tree → is_factory_at p.tree f ≡ true → k < spare_count p f → next_spare p f k ≡ None → ⊥
spare_there p f k tree factory less none =
    let inside : k < length (children_of p.tree f) = omega (arith, less, spares_counted p f tree factory) in
    none-some _ (sym none ∙ (next_spare_is p f tree factory k ∙ slice_get-get_or (children_of p.tree f) k 0 inside))

spare_child : (p : PlanParts) (f k n : ℕ) → next_spare p f k ≡ Some n → (is_child p.tree f n ≡ true) × (n < size p.tree)
spare_child p f k n is =
    let first = first_some (is_spare_ranked p f k) 0 (size p.tree) n is in
    let of = (and_parts (is_spare_of p f n) (rank p n == k) first.passes).0 in
    ((and_parts (is_child p.tree f n) (is_spare_at p.tree n) of).0, first.high)

abbrev is_registering : Task → Bool
is_registering (Opens n Registering) = true
is_registering _ = false

-- one more is asked for
pub added_steady : {B : Type 0} (old new : TableSeat (Slot B) (View B)) (f asked : ℕ) (task : Task) (hand : Option Hand) (h : Hand) (n : ℕ) → (worker old.me.0).seat ≡ seated task hand → new.me.0.about ≡ old.me.0.about → Steady (AtTests f asked) old → IsTree old.me.0.about.plan.tree
    → task ≡ Free → hand ≡ Some h → next_spare old.me.0.about.plan h.factory h.registered ≡ Some n → worker new.me.0 ≡ goes_on (with_task (seated task hand) (Opens n Registering)) (worker old.me.0) → Steady (AtTests f (asked + 1)) new
added_steady old new f asked task hand h n seat_is about it tree free held spare is =
    let p = old.me.0.about.plan in
    let made = (worker old.me.0).slots in
    let kept : IsPulled p f asked (seated task hand) made = subst (λ (s : Seat). IsPulled p f asked s made) seat_is it.hand in
    let child = spare_child p h.factory h.registered n spare in
    let same : h.factory ≡ f = ap (λ (x : Hand). x.factory) (same_Some h kept.hand (sym held ∙ kept.held)) ∙ kept.is_it in
    let about_n = child_about p f n tree (factory_of p f kept.pulls).0 (subst (λ (k : ℕ). is_child p.tree k n ≡ true) same child.0) child.1 in
    arrives old new (AtTests f (asked + 1)) (goes_on (with_task (seated task hand) (Opens n Registering)) (worker old.me.0)) about is
    record {
      gives = λ m e. none-some n (sym (ap opened_by e));
      plain = λ m e. absurd (false≢true (sym (ap is_registering e)));
      starts = λ m i e. absurd (false≢true (sym (ap is_registering e)));
      waits = λ m e. absurd (false≢true (sym (ap is_registering e)));
      after = λ m e. absurd (none-some n (sym (ap opened_by e)));
      hand = pulled_to p f asked 1 (seated task hand) made kept free n (Opens n Registering) refl refl about_n;
    }

-- The job of a factory that was just taken in hand leaves its slot.
pub taken_steady : {B : Type 0} (old new : TableSeat (Slot B) (View B)) (f slot : ℕ) (task : Task) (hand : Option Hand) (h : Hand) → (worker old.me.0).seat ≡ seated task hand → new.me.0.about ≡ old.me.0.about → Steady AtNodes old
    → hand ≡ Some h → h.factory ≡ f → f < size old.me.0.about.plan.tree → slot ≡ f → worker new.me.0 ≡ makes slot Left None (makes slot Out None (worker old.me.0)) → Steady (AtTests f 0) new
taken_steady old new f slot task hand h seat_is about it held same inside slot_is is =
    let p = old.me.0.about.plan in
    let w = worker old.me.0 in
    let kept = it.hand h (ap (λ (s : Seat). s.hand) seat_is ∙ held) in
    arrives old new (AtTests f 0) (makes slot Left None (makes slot Out None w)) about is
    (steady_quiet p (AtTests f 0) w.seat ((slot, Left) ∷ (slot, Out) ∷ w.slots) (ap is_quiet kept.free) record {
      hand = h;
      held = ap (λ (s : Seat). s.hand) seat_is ∙ held;
      is_it = same;
      inside = inside;
      counted = ap (λ t. h.registered + registering t) kept.free ∙ (ap (λ k. k + 0) kept.none);
      pulls = subst (λ (k : ℕ). pulls_job p k ≡ true) same kept.pulls;
      left = subst (λ (k : ℕ). made_of ((slot, Left) ∷ (slot, Out) ∷ w.slots) k ≡ Left) slot_is (made_last ((slot, Out) ∷ w.slots) slot Left);
      about = λ n e. absurd (none-some n (ap opened_by (sym kept.free) ∙ e));
    })

-- a free worker about the tests of a factory, of which one more is due
pub spare_due : (p : PlanParts) (f asked : ℕ) (seat : Seat) (made : List (ℕ × SlotState)) → IsPulled p f asked seat made → seat.task ≡ Free → IsTree p.tree → asked < spare_count p f
    → ((h : Hand) → seat.hand ≡ Some h → h.waiting ≡ None) → (h : Hand) × (n : ℕ) × IsChildDue p seat.task seat.hand h n
spare_due p f asked seat made kept free tree less idle = by (next_spare p kept.hand.factory kept.hand.registered) refl
  where
    count : kept.hand.registered ≡ asked
    count = omega (arith, kept.counted, ap (λ t. kept.hand.registered + registering t) free)

    by : (o : Option ℕ) → next_spare p kept.hand.factory kept.hand.registered ≡ o → (h : Hand) × (n : ℕ) × IsChildDue p seat.task seat.hand h n
    by (Some n) e = (kept.hand, n, (free, kept.held, idle kept.hand kept.held, e))
    by None e = absurd (spare_there p f asked tree (factory_of p f kept.pulls).0 less ((λ k. next_spare p (sym kept.is_it k) (sym count k)) ∙ e))

pub hand_slot_is : (p : PlanParts) (task : Task) (hand : Option Hand) (h : Hand) (f : ℕ) → task ≡ Free → hand ≡ Some h → h.factory ≡ f → job_slot p task hand f ≡ Some f
hand_slot_is p task hand h f free held same = (λ k. job_slot p (free k) (held k) f) ∙ ap (λ b. cond b (Some f) None) (eq-eqb h.factory f same)

pub hand_waits : (p : PlanParts) (task : Task) (hand : Option Hand) (h : Hand) (f : ℕ) → task ≡ Free → hand ≡ Some h → h.factory ≡ f → awaited p (seated task hand) task ≡ body_of p.tree f
hand_waits p task hand h f free held same = (λ k. awaited p (seated (free k) (held k)) (free k)) ∙ ap (body_of p.tree) same

pub taken_there : (p : PlanParts) (seat : Seat) (made : List (ℕ × SlotState)) (task : Task) (hand : Option Hand) (h : Hand) (f : ℕ) → IsTaken p seat made h → task ≡ Free → hand ≡ Some h → h.factory ≡ f
    → ((slot number : ℕ) → job_slot p task hand f ≡ Some slot → awaited p (seated task hand) task ≡ Some number → made_of made slot ≡ Unmoved → ⊥) → ⊥
taken_there p seat made task hand h f kept free held same never = by (body_of p.tree f) refl
  where
    there : is_some (body_of p.tree f) ≡ true
    there = (factory_of p f (subst (λ (k : ℕ). pulls_job p k ≡ true) same kept.pulls)).1

    by : (o : Option ℕ) → body_of p.tree f ≡ o → ⊥
    by None e = false≢true (ap is_some (sym e) ∙ there)
    by (Some number) e = never f number (hand_slot_is p task hand h f free held same) (hand_waits p task hand h f free held same ∙ e) (subst (λ (k : ℕ). made_of made k ≡ Unmoved) same kept.unmoved)

-- what may be told of the job of the factory
pub too_many_may : (p : PlanParts) (replies : ℕ → List Reply) (given : ℕ → Reply → Type 0) (f asked : ℕ) (seat : Seat) (made : List (ℕ × SlotState)) (task : Task) (hand : Option Hand) (number slot : ℕ) (left : List Reply) → IsPulled p f asked (seated task hand) made → task ≡ Free
    → ((h : Hand) → hand ≡ Some h → h.registered ≤ spare_count p h.factory) → spare_count p f ≤ asked → body_of p.tree f ≡ Some number → LeftAfter (asked + 1) (replies number) left → 0 < length left → ((reply : Reply) → AsksTooMany p number reply → given number reply) → job_slot p task hand f ≡ Some slot
    → MayTell p replies given made (seated task hand) slot Failed TooMany
too_many_may p replies given f asked seat made task hand number slot left kept free spares all body after some wide at =
    let h = kept.hand in
    let count : h.registered ≡ asked = omega (arith, kept.counted, ap (λ t. h.registered + registering t) free) in
    let r = first_of left some in
    let from = after 0 r.0 r.1 in
    let most : h.registered ≤ spare_count p f = subst (λ (k : ℕ). h.registered ≤ spare_count p k) kept.is_it (spares h kept.held) in
    let whole : h.registered ≡ spare_count p f = omega (arith, count, all, most) in
    record {
      left = subst (λ (k : ℕ). made_of made k ≡ Left) (same_Some f slot (sym (hand_slot_is p task hand h f free kept.held kept.is_it) ∙ at)) kept.left;
      number = number;
      waits = hand_waits p task hand h f free kept.held kept.is_it ∙ body;
      place = from.0;
      reply = record { pulls = r.0.pulls + (asked + 1); outcome = r.0.outcome };
      stands = from.1;
      given_so = wide _ (record { factory = f; body = body; more = omega (arith, all) });
      told_as = inr record {
        free = free;
        held = h;
        in_hand = kept.held;
        all = whole ∙ ap (spare_count p) (sym kept.is_it);
        more = omega (arith, count);
        status_is = refl;
        note_is = refl;
      };
    }

pub factory_out : (p : PlanParts) (first left : List Reply) (f asked : ℕ) (made : List (ℕ × SlotState)) (task : Task) (hand : Option Hand) (number : ℕ) → IsPulled p f asked (seated task hand) made → task ≡ Free → body_of p.tree f ≡ Some number → LeftAfter asked first left
    → IsOut left first p made task hand f f number
factory_out p first left f asked made task hand number kept free body after =
    let h = kept.hand in
    let count : asked ≡ h.registered = omega (arith, kept.counted, ap (λ t. h.registered + registering t) free) in
    record {
      at = hand_slot_is p task hand h f free kept.held kept.is_it;
      out = kept.left;
      waits = hand_waits p task hand h f free kept.held kept.is_it ∙ body;
      left = subst (λ (k : ℕ). LeftAfter k first left) (count ∙ (λ k. registered_by (sym free k) (sym kept.held k))) after;
    }

pub factory_gives : (p : PlanParts) (first left : Reply → Type 0) (f asked : ℕ) (made : List (ℕ × SlotState)) (task : Task) (hand : Option Hand) → IsPulled p f asked (seated task hand) made → task ≡ Free → GivesAfter asked first left → GivesAfter (registered_by task hand) first left
factory_gives p first left f asked made task hand kept free after =
    let h = kept.hand in
    let count : asked ≡ h.registered = omega (arith, kept.counted, ap (λ t. h.registered + registering t) free) in
    subst (λ (k : ℕ). GivesAfter k first left) (count ∙ (λ k. registered_by (sym free k) (sym kept.held k))) after

-- The guard of the factory is due once the job has answered.
pulled_due : (p : PlanParts) (f k : ℕ) (waiting : Option ℕ) (reply : Reply) → waiting ≡ None → is_pulled p f k reply ≡ true → pulled_guard p f k waiting reply ≢ None
pulled_due p f k (Some c) reply idle pulled none = none-some c (sym idle)
pulled_due p f k None reply idle pulled none =
    let g : Guard = record { node = f; result = pulled_result k reply; hand = None } in
    none-some g (sym none ∙ ap (λ b. cond b (Some g) None) pulled)

pub is_pulled_by : (p : PlanParts) (h : Hand) (reply : Reply) (status : Status) (note : Note) (task : Task) (hand : Option Hand) → task ≡ Free → hand ≡ Some h → IsToldAs p (seated task hand) reply status note → is_pulled p h.factory h.registered reply ≡ true
is_pulled_by p h reply status note task hand free held told = elim told [
  | inl own ↦ or_left (reply.pulls == h.registered) ((h.registered == spare_count p h.factory) && nat_lt h.registered reply.pulls) (eq-eqb reply.pulls h.registered (own.pulls ∙ (λ k. registered_by (free k) (held k))))
  | inr many ↦ (
      let same : many.held ≡ h = same_Some many.held h (sym many.in_hand ∙ held) in
      or_right (reply.pulls == h.registered) ((h.registered == spare_count p h.factory) && nat_lt h.registered reply.pulls)
      (and_from (h.registered == spare_count p h.factory) (nat_lt h.registered reply.pulls)
      (eq-eqb h.registered (spare_count p h.factory) (subst (λ (x : Hand). x.registered ≡ spare_count p x.factory) same many.all))
      (lt-ltb h.registered reply.pulls (subst (λ (x : Hand). x.registered < reply.pulls) same many.more)))
      )
]

free_decided : (p : PlanParts) (seat : Seat) (reply : Reply) → seat.task ≡ Free → decided p reply seat.task ≡ Free
free_decided p seat reply free = ap (decided p reply) free

pub ready_free : (p : PlanParts) (w : WorkerFacts) → w.seat.task ≡ Free → (ready_seat p w).task ≡ Free
ready_free p w free = by (awaited p w.seat w.seat.task) w.answer
  where
    by : (job : Option ℕ) (answer : Option Reply) → (seat_by p w.seat job answer).task ≡ Free
    by None answer = free_decided p w.seat unasked free
    by (Some job) None = free
    by (Some job) (Some reply) = free_decided p w.seat reply free

pub ready_hand_is : (p : PlanParts) (w : WorkerFacts) → (ready_seat p w).hand ≡ w.seat.hand
ready_hand_is p w = by (awaited p w.seat w.seat.task) w.answer
  where
    by : (job : Option ℕ) (answer : Option Reply) → (seat_by p w.seat job answer).hand ≡ w.seat.hand
    by None answer = refl
    by (Some job) None = refl
    by (Some job) (Some reply) = refl

pub told_due : (p : PlanParts) (w : WorkerFacts) (h : Hand) (reply : Reply) → w.seat.task ≡ Free → w.seat.hand ≡ Some h → w.answer ≡ Some reply → h.waiting ≡ None → is_pulled p h.factory h.registered reply ≡ true
    → guard_due p w.answer (ready_seat p w) (ready_seat p w).task ≢ None
told_due p w h reply free held answered idle pulled none =
    pulled_due p h.factory h.registered h.waiting reply idle pulled
    (sym (ap (guard_due p w.answer (ready_seat p w)) (ready_free p w free) ∙ (λ k. hand_guard p ((ready_hand_is p w ∙ held) k) (answered k))) ∙ none)

-- and then nothing is in hand
guard_hand : (p : PlanParts) (hand : Option Hand) (answer : Option Reply) (g : Guard) → hand_guard p hand answer ≡ Some g → g.hand ≡ None
guard_hand p None answer g e = absurd (none-some g e)
guard_hand p (Some h) None g e = absurd (none-some g e)
guard_hand p (Some h) (Some reply) g e = by h.waiting e
  where
    cases : (b : Bool) → cond b (Some (record { node = h.factory; result = pulled_result h.registered reply; hand = None })) None ≡ Some g → g.hand ≡ None
    cases true q = ap (λ (x : Guard). x.hand) (sym (same_Some (record { node = h.factory; result = pulled_result h.registered reply; hand = None }) g q))
    cases false q = absurd (none-some g q)

    by : (waiting : Option ℕ) → pulled_guard p h.factory h.registered waiting reply ≡ Some g → g.hand ≡ None
    by (Some c) q = absurd (none-some g q)
    by None q = cases (is_pulled p h.factory h.registered reply) q

pub let_go_steady : (p : PlanParts) (w : WorkerFacts) (g : Guard) (outstanding : ℕ) → w.seat.task ≡ Free → guard_due p w.answer (ready_seat p w) (ready_seat p w).task ≡ Some g
    → ((m : ℕ) → ends_or_free p g.node g.result outstanding ≡ Closes m AwaitingAfter → made_of w.slots (after_slot p m) ≡ Unmoved) → IsSteady p AtNodes (ended_seat p g outstanding) w.slots
let_go_steady p w g outstanding free due after =
    ends_alone p g.node g.result outstanding w.slots g.hand (guard_hand p (ready_seat p w).hand w.answer g (sym (ap (guard_due p w.answer (ready_seat p w)) (ready_free p w free)) ∙ due)) after

-- the tests of a factory are its spares
pub tests_are : (p q : PlanParts) (t : Nodes) (f : ℕ) (xs : List ℕ) → xs ≡ children_of t f → t ≡ q.tree → q ≡ p → IsTree q.tree → is_factory_at p.tree f ≡ true → length xs ≡ spare_count p f
tests_are p q t f xs is same plan tree factory =
    let here : IsTree p.tree = subst (λ (x : PlanParts). IsTree x.tree) plan tree in
    ap length (is ∙ ap (λ u. children_of u f) (same ∙ ap (λ (x : PlanParts). x.tree) plan)) ∙ spares_counted p f here factory

-- a worker that has just claimed a node
pub claimed_nodes : {B : Type 0} (old new : TableSeat (Slot B) (View B)) (task : Task) (hand : Option Hand) (n : ℕ) → new.me.0.about ≡ old.me.0.about → hand ≡ None
    → worker new.me.0 ≡ goes_on (claimed_seat old.me.0.about.plan (seated task hand) n) (worker old.me.0) → Steady AtNodes new
claimed_nodes old new task hand n about none is =
    let p = old.me.0.about.plan in
    arrives old new AtNodes (goes_on (claimed_seat p (seated task hand) n) (worker old.me.0)) about is
    (steady_quiet p AtNodes (claimed_seat p (seated task hand) n) (worker old.me.0).slots (quiet_claims p n) (λ h e. absurd (none-some h (sym none ∙ e))))

-- a worker that is free
pub free_nodes : {B : Type 0} (old new : TableSeat (Slot B) (View B)) (task : Task) (hand : Option Hand) → new.me ≡ old.me → (worker old.me.0).seat ≡ seated task hand → task ≡ Free → hand ≡ None → Steady AtNodes new
free_nodes old new task hand same seat_is free none =
    let p = old.me.0.about.plan in
    let w = worker old.me.0 in
    arrives old new AtNodes w (ap (λ m. m.0.about) same) (ap (λ m. worker m.0) same)
    (steady_quiet p AtNodes w.seat w.slots (ap (λ (s : Seat). is_quiet s.task) seat_is ∙ ap is_quiet free) (λ h e. absurd (none-some h (sym none ∙ (ap (λ (s : Seat). s.hand) (sym seat_is) ∙ e)))))
