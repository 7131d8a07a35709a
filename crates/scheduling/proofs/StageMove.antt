-- One lemma for all steps: worker w goes on, node x goes to stage b, and no other node's stage changes. Each field of
-- `Move` is what a step has to say; the rest of the invariant carries over.
use Rattle.std.proofs.Common.{◌≡◌, ◌≢◌, ℕ, ◌+◌, ◌<◌, ◌≤◌, true, false, List, length, set, Option, Some, None, slice_get, ◌⊎◌, inl, inr, refl, sym, ap, ◌∙◌, subst, arith, length-set, ◌≤◌}
use Rattle.std.proofs.lemmas.Option.{same_Some}
use Rattle.std.proofs.lemmas.Bool.{cases_eq, and_parts}
use Rattle.descriptor.specs.Nodes.{size, parent_of, IsChild, is_spare_at}
use Rattle.plan_events.specs.declared.outcome.Reply.{Reply}
use Rattle.resource_locks.specs.Plans.{PlanParts}
use Rattle.event_history.specs.Plans.{IsPlanTree, IsElder, is_same}
use Rattle.event_history.specs.Order.{goes_first}
use Rattle.descriptor.specs.Nodes.{bit}
use Rattle.event_history.specs.Failures.{failures, known, up_to}
use Rattle.event_history.specs.Inside.Failing.{fails_last}
use Rattle.event_history.specs.Inside.Following.{registered_in}
use Rattle.plan_events.specs.declared.event.Event.{Event}
use Rattle.event_history.specs.Published.{IsPublished}
use Rattle.scheduling.specs.declared.task.Task.{Task}
use Rattle.scheduling.specs.declared.task.Task.TheVariants.{Free, Opens, Closes}
use Rattle.scheduling.specs.declared.seat.Hand.{Hand}
use Rattle.scheduling.specs.declared.seat.Seat.{Seat}
use Rattle.scheduling.specs.State.{State, subject}
use Rattle.scheduling.specs.Inside.Stages.{Stage, Unseen, Offered, OpenedBy, InHand, Waiting, ClosedBy, Over, picture, who, is_unseen, is_past, is_unsettled, raises}
use Rattle.scheduling.specs.Inside.Invariant.{WordsOk, CountersOk, ResultsOk, LocksOk, FlagsOk, StartersOk, ShapeOk, Fits, EdgesOk, EldersOk, TaskOk, HandOk, SeatOk, HeldBy, IsGiven, Holds, still_raising}
use Rattle.scheduling.proofs.Basics.{upd, upd_same, upd_other, upd_all, get_set, get_set_same, get_set_other}
use Rattle.scheduling.proofs.Raising.{raising_change}

pub record Move (p : PlanParts) (replies : ℕ → List Reply) (s t : State) (g : ℕ → Stage) (w x : ℕ) (b : Stage) (seat seat2 : Seat) : Type 0 where
  -- the worker's seat
  pub inside : x < size p.tree
  pub seat_is : slice_get s.seats w ≡ Some seat
  pub seats : t.seats ≡ set s.seats w seat2
  pub alone : (v : ℕ) → who (g x) ≡ Some v → v ≡ w
  pub still : (n : ℕ) → n ≢ x → subject seat.task ≡ Some n → seat2.task ≡ seat.task
  pub held : HeldBy (set s.seats w seat2) x b
  pub seat_ok : SeatOk p (upd g x b) t.published w seat2
  -- the words
  pub statuses_len : length t.statuses ≡ size p.tree
  pub counters_len : length t.counters ≡ size p.tree
  pub results_len : length t.results ≡ size p.tree
  pub shown_len : length t.shown ≡ length t.published
  pub words : WordsOk p t (upd g x b)
  pub counters : CountersOk p t (upd g x b)
  pub results : ResultsOk p t (upd g x b)
  pub locks : LocksOk p t (upd g x b)
  -- the history
  pub flags : FlagsOk p t.published (upd g x b)
  pub starters : StartersOk p t.published (upd g x b)
  pub others : (v : ℕ) → v ≢ w → (up_to (v + 1) t.published ≡ up_to (v + 1) s.published) × (fails_last (v + 1) t.published ≡ fails_last (v + 1) s.published)
  pub counts : (f : ℕ) → (registered_in p t.published f ≡ registered_in p s.published f) ⊎ (g f ≡ InHand w)
  pub raising : p.fail_fast ≡ true → t.cancel + bit (raises seat2.task) + failures s.published ≡ s.cancel + bit (raises seat.task) + failures t.published
  pub published : IsPublished p replies (length s.seats) t.published
  pub given : IsGiven t
  -- the node
  pub shape : ShapeOk p replies t.published x b
  pub shapes : (n : ℕ) → n ≢ x → n < size p.tree → ShapeOk p replies s.published n (g n) → ShapeOk p replies t.published n (g n)
  pub above : (a : ℕ) → IsChild p.tree a x → Fits p (picture p a (g a)).below a x b
  pub below : (c : ℕ) → IsChild p.tree x c → Fits p (picture p x b).below x c (g c)
  pub past : is_past (g x) ≡ true → is_past b ≡ true
  pub elders : (a : ℕ) → IsElder p.tree a x → goes_first p a x ≡ true → is_unseen b ≡ false → is_past (g a) ≡ true
  pub quiet : is_spare_at p.tree x ≡ true → is_unsettled b ≡ true → (is_unsettled (g x) ≡ true) ⊎ (g (parent_of p.tree x) ≡ InHand w)

pub hand_apart : (v w : ℕ) → v ≢ w → InHand v ≡ InHand w → ⊥
hand_apart v w ne q = ne (go v w q)
  where
    go : (v w : ℕ) → InHand v ≡ InHand w → v ≡ w
    go v w q = cc

-- of a task's node nobody else's step changes the stage
pub task_keeps : (p : PlanParts) (g : ℕ → Stage) (x : ℕ) (b : Stage) (v : ℕ) (t : Task) → (who (g x) ≡ Some v → ⊥) → TaskOk p g v t → TaskOk p (upd g x b) v t
task_keeps p g x b v Free apart old = tt
task_keeps p g x b v (Opens n d) apart old = (old.0, upd_other g x b n (λ e. apart (ap who (ap g (sym e) ∙ old.1))) ∙ old.1)
task_keeps p g x b v (Closes n d) apart old = (old.0, (old.1.0, old.1.1, upd_other g x b n (λ e. apart (ap who (ap g (sym e) ∙ old.1.2))) ∙ old.1.2))

pub held_keeps : (seats : List Seat) (w : ℕ) (seat seat2 : Seat) (n : ℕ) (st : Stage) → slice_get seats w ≡ Some seat → (subject seat.task ≡ Some n → seat2.task ≡ seat.task) → HeldBy seats n st → HeldBy (set seats w seat2) n st
held_keeps seats w seat seat2 n st is still = go st
  where
    one : (v : ℕ) (t : Task) → subject t ≡ Some n → (other : Seat) → slice_get seats v ≡ Some other → other.task ≡ t → (found : Seat) × (slice_get (set seats w seat2) v ≡ Some found) × (found.task ≡ t)
    one v t about other q r =
        elim (cases_eq v w) [
          | inl e ↦ (let same : other ≡ seat = same_Some other seat (sym q ∙ ap (slice_get seats) e ∙ is) in
              let here : seat.task ≡ t = ap (λ (o : Seat). o.task) (sym same) ∙ r in
              (seat2, subst (λ (i : ℕ). slice_get (set seats w seat2) i ≡ Some seat2) (sym e) (get_set_same seats w seat2 seat is), still (ap subject here ∙ about) ∙ here))
          | inr ne ↦ (other, get_set_other seats w seat2 v ne ∙ q, r)
        ]

    go : (st : Stage) → HeldBy seats n st → HeldBy (set seats w seat2) n st
    go Unseen old = tt
    go (Offered o) old = tt
    go (OpenedBy v d) old = one v (Opens n d) refl old.0 old.1 old.2
    go (InHand v) old = tt
    go (Waiting c r) old = tt
    go (ClosedBy v c d how) old = one v (Closes n d) refl old.0 old.1 old.2
    go (Over how) old = tt

module _ (p : PlanParts) (plan : IsPlanTree p.tree) (replies : ℕ → List Reply) (s t : State) (g : ℕ → Stage) (w x : ℕ) (b : Stage) (seat seat2 : Seat) (h : Holds p replies s g) (m : Move p replies s t g w x b seat seat2) where
  edges_keep : EdgesOk p (upd g x b)
  edges_keep a c ch =
      let up : parent_of p.tree c < c = plan.rooted.up c ch.above_zero ch.inside in
      elim (cases_eq c x) [
        | inl e ↦ (let ne : a ≢ x = λ q. (let par : parent_of p.tree c ≡ a = ch.parent in omega (arith, q, e, up, par)) in
            let here : Fits p (picture p a (g a)).below a c b = subst (λ (k : ℕ). Fits p (picture p a (g a)).below a k b) (sym e) (m.above a (subst (λ (k : ℕ). IsChild p.tree a k) e ch)) in
            upd_all (λ k st. Fits p (picture p a st).below a c (upd g x b c)) g x b a (λ q. absurd (ne q)) (λ _. subst (λ (st : Stage). Fits p (picture p a (g a)).below a c st) (sym (upd_same g x b c e)) here))
        | inr nc ↦ subst (λ (st : Stage). Fits p (picture p a (upd g x b a)).below a c st) (sym (upd_other g x b c nc))
            (upd_all (λ k st. Fits p (picture p a st).below a c (g c)) g x b a (λ e. subst (λ (k : ℕ). Fits p (picture p k b).below k c (g c)) (sym e) (m.below c (subst (λ (k : ℕ). IsChild p.tree k c) e ch))) (λ _. h.edges a c ch))
      ]

  elders_keep : EldersOk p (upd g x b)
  elders_keep a c elder first seen =
      let lt : a < c = elder.before in
      elim (cases_eq c x) [
        | inl e ↦ (let ne : a ≢ x = λ q. omega (arith, q, e, lt) in
            ap is_past (upd_other g x b a ne) ∙ m.elders a (subst (λ (k : ℕ). IsElder p.tree a k) e elder) (subst (λ (k : ℕ). goes_first p a k ≡ true) e first) (ap is_unseen (sym (upd_same g x b c e)) ∙ seen))
        | inr nc ↦ (let was = h.elders a c elder first (ap is_unseen (sym (upd_other g x b c nc)) ∙ seen) in
            upd_all (λ k st. is_past st ≡ true) g x b a (λ e. m.past (subst (λ (k : ℕ). is_past (g k) ≡ true) e was)) (λ _. was))
      ]

  hand_keeps : (v : ℕ) (hand : Option Hand) → v ≢ w → HandOk p g s.published v hand → HandOk p (upd g x b) t.published v hand
  hand_keeps v None nv old = tt
  hand_keeps v (Some hand) nv old =
      let ne : hand.factory ≢ x = λ e. nv (m.alone v (ap who (ap g (sym e) ∙ old.at))) in
      record {
        inside = old.inside;
        at = upd_other g x b hand.factory ne ∙ old.at;
        count = elim (m.counts hand.factory) [ inl e ↦ e ∙ old.count | inr e ↦ absurd (hand_apart v w nv (sym old.at ∙ e)) ];
        waits = λ c ch same unsettled. elim (cases_eq c x) [
          | inl e ↦ elim (m.quiet (subst (λ (k : ℕ). is_spare_at p.tree k ≡ true) e (and_parts (is_spare_at p.tree c) (is_same p c) same).0) (ap is_unsettled (sym (upd_same g x b c e)) ∙ unsettled)) [
            | inl u ↦ old.waits c ch same (ap (λ (k : ℕ). is_unsettled (g k)) e ∙ u)
            | inr i ↦ absurd (hand_apart v w nv (sym old.at ∙ ap g (sym ch.parent ∙ ap (parent_of p.tree) e) ∙ i))
          ]
          | inr nc ↦ old.waits c ch same (ap is_unsettled (sym (upd_other g x b c nc)) ∙ unsettled)
        ];
      }

  seat_keeps : (v : ℕ) (other : Seat) → slice_get t.seats v ≡ Some other → SeatOk p (upd g x b) t.published v other
  seat_keeps v other q =
      elim (get_set s.seats w seat2 v other (ap (λ (l : List Seat). slice_get l v) (sym m.seats) ∙ q)) [
        | inl a ↦ subst (λ (k : ℕ). SeatOk p (upd g x b) t.published k other) (sym a.0) (subst (λ (o : Seat). SeatOk p (upd g x b) t.published w o) (sym a.1) m.seat_ok)
        | inr a ↦ (let old = h.seats v other a.1 in
            record {
              task = task_keeps p g x b v other.task (λ at. a.0 (m.alone v at)) old.task;
              hand = hand_keeps v other.hand a.0 old.hand;
              brought = old.brought;
              failed = λ r. (m.others v a.0).1 ∙ old.failed r;
              quits = λ ff bold. subst (λ (l : List Event). known (v + 1) l ≤ p.tolerated) (sym (m.others v a.0).0) (old.quits ff bold);
            })
      ]

  raised_keeps : p.fail_fast ≡ true → t.cancel + still_raising t.seats ≡ failures t.published
  raised_keeps ff =
      let change = raising_change s.seats w seat seat2 m.seat_is in
      let was : s.cancel + still_raising s.seats ≡ failures s.published = h.raised ff in
      let moves : t.cancel + bit (raises seat2.task) + failures s.published ≡ s.cancel + bit (raises seat.task) + failures t.published = m.raising ff in
      let same : still_raising t.seats ≡ still_raising (set s.seats w seat2) = ap still_raising m.seats in
      omega (arith, change, was, moves, same)

  -- The invariant is kept.
  pub moved : Holds p replies t (upd g x b)
  moved = record {
    workers_few = (let same = ap length m.seats ∙ length-set s.seats w seat2 in let few = h.workers_few in omega (arith, same, few));
    statuses_len = m.statuses_len;
    counters_len = m.counters_len;
    results_len = m.results_len;
    shown_len = m.shown_len;
    words = m.words;
    counters = m.counters;
    results = m.results;
    locks = m.locks;
    flags = m.flags;
    starters = m.starters;
    shapes = λ n lt. upd_all (λ k st. ShapeOk p replies t.published k st) g x b n (λ e. subst (λ (k : ℕ). ShapeOk p replies t.published k b) (sym e) m.shape) (λ ne. m.shapes n ne lt (h.shapes n lt));
    edges = edges_keep;
    elders = elders_keep;
    seats = seat_keeps;
    held = λ n lt. subst (λ (l : List Seat). HeldBy l n (upd g x b n)) (sym m.seats)
        (upd_all (λ k st. HeldBy (set s.seats w seat2) k st) g x b n (λ e. subst (λ (k : ℕ). HeldBy (set s.seats w seat2) k b) (sym e) m.held)
        (λ ne. held_keeps s.seats w seat seat2 n (g n) m.seat_is (m.still n ne) (h.held n lt)));
    raised = raised_keeps;
    published = subst (λ (k : ℕ). IsPublished p replies k t.published) (sym (length-set s.seats w seat2) ∙ ap length (sym m.seats)) m.published;
    given = m.given;
  }
