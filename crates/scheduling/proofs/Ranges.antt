-- In every state, what a worker's step reads is in range, what it counts does not overflow, and there is room for what it draws.
use Rattle.std.specs.Option.{is_some}
use Rattle.std.proofs.Common.{◌≡◌, ℕ, ◌+◌, ◌<◌, ◌≤◌, true, false, ◌&&◌, List, [], ◌∷◌, ◌++◌, length, Some, None, slice_get, refl, ap, subst, arith, length-append}
use Rattle.std.proofs.lemmas.Bool.{and_parts}
use Rattle.std.proofs.lemmas.Option.{none-some, same_Some, slice_get_within}
use Rattle.descriptor.specs.Nodes.{size, is_child, body_of, is_factory_at}
use Rattle.descriptor.proofs.Counts.{count_most}
use Rattle.plan_events.specs.declared.event.Event.{Event}
use Rattle.plan_events.specs.declared.event.EventKind.TheVariants.{Started, Finished, Skipped, Registered}
use Rattle.plan_events.specs.declared.outcome.Reply.{Reply}
use Rattle.resource_locks.specs.Plans.{PlanParts, most_events, IsPlan}
use Rattle.event_history.specs.Plans.{is_spare_of, pulls_job}
use Rattle.event_history.specs.Places.{has}
use Rattle.event_history.specs.Inside.Following.{registered_in}
use Rattle.event_history.proofs.EventBound.{legal_few}
use Rattle.event_history.proofs.Trees.{is_child_test}
use Rattle.scheduling.specs.declared.task.Opening.{Opening}
use Rattle.scheduling.specs.declared.task.Opening.TheVariants.{Registering, RegisteredAt, Locking, Weighed, Backing, Beginning, StartedAt, Admitting}
use Rattle.scheduling.specs.declared.task.Closing.{Closing}
use Rattle.scheduling.specs.declared.task.Closing.TheVariants.{Ending, FinishedAt, SkippedAt, Giving, Looking, Passing, CountingOff}
use Rattle.scheduling.specs.declared.task.Task.{Task}
use Rattle.scheduling.specs.declared.task.Task.TheVariants.{Free, Opens, Closes}
use Rattle.scheduling.specs.declared.seat.Hand.{Hand}
use Rattle.scheduling.specs.declared.seat.Seat.{Seat}
use Rattle.scheduling.specs.declared.step.Action.{Action}
use Rattle.scheduling.specs.State.{State, subject}
use Rattle.scheduling.specs.Choices.{keys_count, event_of}
use Rattle.scheduling.specs.Rows.{with_task, goes_to, drawn, one_more, draw_row, decided_seat, Works}
use Rattle.scheduling.specs.Runs.{IsReplied}
use Rattle.scheduling.specs.Shown.{IsPlaced}
use Rattle.scheduling.specs.Inside.Ranges.{InRange}
use Rattle.scheduling.specs.Inside.Stages.{How, Stage, picture}
use Rattle.scheduling.specs.Inside.Invariant.{IsCorePlan, IsNextSame, pends_at, pending, OpeningOk, ClosingOk, ShapeOk, TaskOk, HandOk, IsInHand, SeatOk, Holds, IsKept}
use Rattle.scheduling.proofs.Basics.{get_set_same}
use Rattle.scheduling.proofs.RowsBelow.{decide_keeps}
use Rattle.scheduling.proofs.RowsDraw.{draw_keeps}
use Rattle.scheduling.proofs.Shown.{reseat_keeps}
use Rattle.scheduling.proofs.Placing.{decided_named}
use Rattle.scheduling.proofs.Headline.{core_plan}
use Rattle.scheduling.proofs.KeysOnce.{readers_few}

-- no more is outstanding at a node than there are nodes, and no more spares are registered
pending_few : (p : PlanParts) (g : ℕ → Stage) (a : ℕ) → pending p g a ≤ size p.tree
unfolding pending
pending_few p g a = count_most (pends_at p g a) (size p.tree)

registered_few : (p : PlanParts) (h : List Event) (f : ℕ) → registered_in p h f ≤ size p.tree
registered_few p h f = count_most (λ c. is_spare_of p f c && has Registered c h) (size p.tree)

-- the node that a task is about
task_inside : (p : PlanParts) (g : ℕ → Stage) (w : ℕ) (t : Task) (n : ℕ) → TaskOk p g w t → subject t ≡ Some n → n < size p.tree
task_inside p g w Free n ok q = absurd (none-some n q)
task_inside p g w (Opens m d) n ok q = subst (λ (k : ℕ). k < size p.tree) (same_Some m n q) ok.0
task_inside p g w (Closes m d) n ok q = subst (λ (k : ℕ). k < size p.tree) (same_Some m n q) ok.0

module _ (p : PlanParts) (replies : ℕ → List Reply) (s : State) (g : ℕ → Stage) (h : Holds p replies s g) (w : ℕ) (seat : Seat) (is : slice_get s.seats w ≡ Some seat) where
  mine : SeatOk p g s.published w seat
  mine = h.seats w seat is

  opening_shape : (n : ℕ) (d : Opening) → seat.task ≡ Opens n d → OpeningOk p replies s.published n d
  opening_shape n d e = (let t : TaskOk p g w (Opens n d) = subst (TaskOk p g w) e mine.task in subst (ShapeOk p replies s.published n) t.1 (h.shapes n t.0))

  closing_shape : (n : ℕ) (d : Closing) → seat.task ≡ Closes n d → (how : How) × ClosingOk p replies s.published n d how
  closing_shape n d e = (let t : TaskOk p g w (Closes n d) = subst (TaskOk p g w) e mine.task in (t.1.1, subst (ShapeOk p replies s.published n) t.1.2 (h.shapes n t.0)))

  in_hand : (hand : Hand) → seat.hand ≡ Some hand → IsInHand p g s.published w hand
  in_hand hand e = subst (HandOk p g s.published w) e mine.hand

  -- the next sibling, and the node that looks for it
  sibling : (n m : ℕ) → (how : How) × IsNextSame p n m → (m < size p.tree) × (0 < n)
  sibling n m next = (next.1.elder.younger.inside, next.1.elder.elder.above_zero)

  in_range : IsPlan p → IsPlaced s → InRange p s w seat
  in_range plan placed =
      let few : size p.tree ≤ 16384 = plan.tree.few in
      record {
        inside = λ n q. task_inside p g w seat.task n mine.task q;
        hand = λ hand q. (in_hand hand q).inside;
        factory = λ hand q. (let a = in_hand hand q in
            let pulls : pulls_job p hand.factory ≡ true = subst (ShapeOk p replies s.published hand.factory) a.at (h.shapes hand.factory a.inside) in
            (and_parts (is_factory_at p.tree hand.factory) (is_some (body_of p.tree hand.factory)) pulls).0);
        counter = λ hand q. (let a = in_hand hand q in
            let value = h.counters hand.factory a.inside in
            let guard : (picture p hand.factory (g hand.factory)).guard ≡ 1 = ap (λ st. (picture p hand.factory st).guard) a.at in
            let rest = pending_few p g hand.factory in
            omega (arith, value, guard, rest, few));
        registered = λ hand q. (let a : registered_in p s.published hand.factory ≡ hand.registered = (in_hand hand q).count in
            let most = registered_few p s.published hand.factory in
            omega (arith, a, most, few));
        shown = λ i e q. slice_get_within s.shown i false (placed.stands w seat i e is q).1;
        locking = λ n i q. (opening_shape n (Locking i) q).0;
        weighed = λ n i v q. (opening_shape n (Weighed i v) q).0;
        backs = λ n i q. (let le : i + 1 ≤ keys_count p n = opening_shape n (Backing (i + 1)) q in omega (arith, le));
        gives = λ n i q. (let le : i + 1 ≤ keys_count p n = (closing_shape n (Giving (i + 1)) q).1 in omega (arith, le));
        readers = λ k n q. (let most = readers_few p plan replies s g h k n q in omega (arith, most, few));
        admits = λ n c q. (let a = opening_shape n (Admitting c) q in is_child_test p.tree n c a.1 (and_parts (is_child p.tree n c) _ a.2).0);
        passes = λ n k o q. (sibling n k (closing_shape n (Passing k o) q)).0;
        counts = λ c q. (closing_shape c CountingOff q).1;
        looks = λ n k q. (sibling n k (closing_shape n (Looking k) q)).1;
      }

-- What a worker's step reads is in range.
pub ranges : (p : PlanParts) → IsPlan p → (replies : ℕ → List Reply) (s : State) → IsKept p replies s → IsPlaced s → (w : ℕ) (seat : Seat) → slice_get s.seats w ≡ Some seat → InRange p s w seat
ranges p plan replies s kept placed w seat is = in_range p replies s kept.0 kept.1 w seat is plan placed

-- And so it is of the seat whose task the reply has decided.
pub ranges_decided : (p : PlanParts) → IsPlan p → (replies : ℕ → List Reply) (s : State) → IsKept p replies s → IsPlaced s → (w : ℕ) (a : Action) (reply : Reply) (seat : Seat)
    → IsReplied p replies s (Works w a reply) → slice_get s.seats w ≡ Some seat → InRange p s w (decided_seat p reply seat)
ranges_decided p plan replies s kept placed w a reply seat replied is =
    let d : Seat = decided_seat p reply seat in
    let first = decide_keeps p (core_plan p plan.tree) replies s kept.0 kept.1 w seat is reply (replied seat is) in
    let r = ranges p plan replies (record s { seats = goes_to s w d }) first (reseat_keeps s w seat d placed is (decided_named p w reply seat.task)) w d (get_set_same s.seats w d seat is) in
    record {
      inside = r.inside;
      hand = r.hand;
      factory = r.factory;
      counter = r.counter;
      registered = r.registered;
      shown = r.shown;
      locking = r.locking;
      weighed = r.weighed;
      backs = r.backs;
      gives = r.gives;
      readers = r.readers;
      admits = r.admits;
      passes = r.passes;
      counts = r.counts;
      looks = r.looks;
    }

-- There is room for what a task draws, as what is published then is legal.
drawn_room : (p : PlanParts) → IsCorePlan p → (replies : ℕ → List Reply) (s : State) (g : ℕ → Stage) → Holds p replies s g → (w : ℕ) (seat : Seat) → slice_get s.seats w ≡ Some seat → (e : Event) (next : Seat)
    → draw_row s w seat seat.task ≡ Some (drawn s w e next) → length s.published < most_events p
drawn_room p core replies s g h w seat is e next q =
    let kept = draw_keeps p core replies s g h w seat is seat.task refl (drawn s w e next) q in
    let few = legal_few p replies (length (goes_to s w next)) (s.published ++ e ∷ []) kept.1.published.legal in
    let more = length-append s.published (e ∷ []) in
    omega (arith, few, more)

-- what a task draws does not depend on the seats
draws : (s : State) (l : List Seat) (w : ℕ) (seat : Seat) (task : Task) (t : State) → draw_row s w seat task ≡ Some t → (e : Event) × (next : Seat) × (draw_row (record s { seats = l }) w seat task ≡ Some (drawn (record s { seats = l }) w e next))
draws s l w seat (Opens n Registering) t q = (event_of Registered n None w, record { task = Opens n (RegisteredAt (length s.published)); hand = one_more seat.hand }, refl)
draws s l w seat (Opens n (Beginning true)) t q = (event_of Skipped n None w, with_task seat (Closes n (SkippedAt (length s.published))), refl)
draws s l w seat (Opens n (Beginning false)) t q = (event_of Started n None w, with_task seat (Opens n (StartedAt (length s.published))), refl)
draws s l w seat (Closes n (Ending status)) t q = (event_of Finished n (Some status) w, with_task seat (Closes n (FinishedAt (length s.published) status)), refl)
draws s l w seat _ t q = absurd (none-some t q)

-- So there is room for the event of the task that the reply has decided.
pub draw_room : (p : PlanParts) → IsPlan p → (replies : ℕ → List Reply) (s : State) → IsKept p replies s → (w : ℕ) (a : Action) (reply : Reply) (seat : Seat) → IsReplied p replies s (Works w a reply) → slice_get s.seats w ≡ Some seat
    → (t : State) → draw_row s w (decided_seat p reply seat) (decided_seat p reply seat).task ≡ Some t → length s.published < most_events p
draw_room p plan replies s kept w a reply seat replied is t q =
    let core = core_plan p plan.tree in
    let d : Seat = decided_seat p reply seat in
    let first = decide_keeps p core replies s kept.0 kept.1 w seat is reply (replied seat is) in
    let draw = draws s (goes_to s w d) w d d.task t q in
    drawn_room p core replies (record s { seats = goes_to s w d }) first.0 first.1 w d (get_set_same s.seats w d seat is) draw.0 draw.1 draw.2
