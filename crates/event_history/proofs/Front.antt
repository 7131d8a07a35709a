-- A beginning of a legal history is legal.
use Rattle.std.proofs.Common.{◌≡◌, ℕ, ◌<◌, ◌≤◌, Bool, true, false, List, ◌++◌, length, Option, Some, slice_get, inl, inr, refl, sym, subst, arith}
use Rattle.std.proofs.lemmas.Option.{slice_get_within}
use Rattle.std.proofs.lemmas.List.{take-append-le}
use Rattle.std.proofs.lemmas.Bool.{cases_lt}
use Rattle.unique_id.specs.Prefixes.{IsPrefix}
use Rattle.plan_events.specs.declared.event.EventKind.{EventKind}
use Rattle.plan_events.specs.declared.event.EventKind.TheVariants.{Started, Finished, Skipped, Registered}
use Rattle.plan_events.specs.declared.event.Event.{Event}
use Rattle.plan_events.specs.declared.outcome.Reply.{Reply}
use Rattle.resource_locks.specs.Plans.{PlanParts}
use Rattle.event_history.specs.Places.{StandsAt, StandsBefore, IsSettledAt}
use Rattle.event_history.specs.Failures.{failures, known, up_to}
use Rattle.event_history.specs.Results.{jobs_of, Ends}
use Rattle.event_history.specs.History.{IsStopped, StoppedIs, IsUnregistered, HasResult, IsLegal}
use Rattle.event_history.specs.Order.{IsInOrder}
use Rattle.event_history.proofs.Places.{get_front, get_back, stands_later, before_later, before_front, stands_within}
use Rattle.event_history.proofs.AddedEvent.{registered_front}

module _ (p : PlanParts) (replies : ℕ → List Reply) (workers : ℕ) (g r : List Event) (legal : IsLegal p replies workers (g ++ r)) where
  front : (i : ℕ) (k : EventKind) (n : ℕ) → i < length g → StandsBefore (g ++ r) i k n → StandsBefore g i k n
  front i k n lt s = before_front g r i k n (omega (arith, lt)) s

  front_settled : (i n : ℕ) → i < length g → IsSettledAt (g ++ r) i n → IsSettledAt g i n
  front_settled i n lt s = elim s [ inl a ↦ inl (front i Finished n lt a) | inr a ↦ inr (front i Skipped n lt a) ]

  -- where the finish stands in the beginning, the node is stopped in it exactly if it is in the whole
  pub stopped_front : (i a : ℕ) → StandsAt g i Finished a → IsStopped p (g ++ r) a → IsStopped p g a
  stopped_front i a f s =
      let at : s.place ≡ i = legal.once s.place i a Finished s.finish (stands_later r f) in
      let within : i < length g = stands_within f in
      record {
        body = s.body;
        place = s.place;
        finish = record { event = s.finish.event; here = get_back g r s.finish.event s.place (omega (arith, at, within)) s.finish.here; kind = s.finish.kind; node = s.finish.node };
        status = s.status;
        ends = s.ends;
        unsuccessful = s.unsuccessful;
        silent = λ j e q b. s.silent j e (get_front g r e j q) b;
      }

  pub stopped_whole : (a : ℕ) → IsStopped p g a → IsStopped p (g ++ r) a
  stopped_whole a s = record {
    body = s.body;
    place = s.place;
    finish = record { event = s.finish.event; here = get_front g r s.finish.event s.place s.finish.here; kind = s.finish.kind; node = s.finish.node };
    status = s.status;
    ends = s.ends;
    unsuccessful = s.unsuccessful;
    silent = λ j e q b. elim (cases_lt j (length g)) [
      | inl lt ↦ s.silent j e (get_back g r e j lt q) b
      | inr le ↦ (let within : s.place < length g = stands_within s.finish in legal.open_above j a e q b (record { place = s.place; before = omega (arith, within, le); stands = stands_later r s.finish }))
    ];
  }

  front_stops : (i a : ℕ) (b : Bool) → StandsAt g i Finished a → StoppedIs p (g ++ r) a b → StoppedIs p g a b
  front_stops i a true f s = stopped_front i a f s
  front_stops i a false f s = λ t. s (stopped_whole a t)

  front_result : (i : ℕ) (e : Event) (text : Option (List ℕ)) → slice_get g i ≡ Some e → e.kind ≡ Finished → HasResult p replies (g ++ r) i e text → HasResult p replies g i e text
  front_result i e text q k s =
      let lt : i < length g = slice_get_within g i e q in
      record {
        status = s.status;
        here = s.here;
        stopped = s.stopped;
        stops = front_stops i e.node s.stopped (record { event = e; here = q; kind = k; node = refl }) s.stops;
        lawful = subst (λ (x : ℕ). Ends replies (jobs_of p e.node) s.stopped x s.status text) (registered_front p g r i e.node (omega (arith, lt))) s.lawful;
      }

  front_unregistered : (c : ℕ) → IsUnregistered p (g ++ r) c → IsUnregistered p g c
  front_unregistered c u = record { spare = u.spare; never = λ i s. u.never i (stands_later r s) }

  -- A beginning of a legal history is legal.
  pub legal_front : IsLegal p replies workers g
  legal_front = record {
    lawful = λ i e q. legal.lawful i e (get_front g r e i q);
    nodes = λ i e q. legal.nodes i e (get_front g r e i q);
    by_workers = λ i e q. legal.by_workers i e (get_front g r e i q);
    once = λ i j n k s t. legal.once i j n k (stands_later r s) (stands_later r t);
    apart = λ i j n s t. legal.apart i j n (stands_later r s) (stands_later r t);
    after_start = λ i n s. front i Started n (stands_within s) (legal.after_start i n (stands_later r s));
    registered = λ i n s. legal.registered i n (stands_later r s);
    after_registered = λ i e q s. (let lt = slice_get_within g i e q in
        elim (legal.after_registered i e (get_front g r e i q) s) [ inl x ↦ inl x | inr x ↦ inr (front i Registered e.node lt x) ]);
    elder_registered = λ i c d s elder. front i Registered c (stands_within s) (legal.elder_registered i c d (stands_later r s) elder);
    start_above = λ i a e q b. front i Started a (slice_get_within g i e q) (legal.start_above i a e (get_front g r e i q) b);
    open_above = λ i a e q b s. legal.open_above i a e (get_front g r e i q) b (before_later r s);
    skipped = λ i n s. elim (legal.skipped i n (stands_later r s)) [ inl x ↦ inl x | inr x ↦ (let lt = stands_within s in inr (x.0, subst (λ (l : List Event). p.tolerated < failures l) (take-append-le i g r (omega (arith, lt))) x.1)) ];
    unstarted = λ i n s. legal.unstarted i n (stands_later r s);
    below_skipped = λ i j a e s q b. legal.below_skipped i j a e (stands_later r s) (get_front g r e j q) b;
    quits = λ fast j f q start. (let lt = slice_get_within g j f q in
        subst (λ (l : List Event). known f.worker (up_to f.worker l) ≤ p.tolerated) (take-append-le j g r (omega (arith, lt))) (legal.quits fast j f (get_front g r f j q) start));
    settled = λ i a c f go ch. (let lt = stands_within f in
        elim (legal.settled i a c (stands_later r f) (λ s. go (stopped_front i a f s)) ch) [ inl x ↦ inl (front_settled i c lt x) | inr x ↦ inr (front_unregistered c x) ]);
    result = λ i e q k. (let s = legal.result i e (get_front g r e i q) k in (s.0, front_result i e s.0 q k s.1));
  }

  -- And so it is with the same-thread order.
  pub order_front : IsInOrder p (g ++ r) → IsInOrder p g
  order_front order = record {
    elder_settled = λ i a e q elder first. front_settled i a (slice_get_within g i e q) (order.elder_settled i a e (get_front g r e i q) elder first);
    by_parent = λ i j e f q t. order.by_parent i j e f (get_front g r e i q) (get_front g r f j t);
  }

pub prefix_legal : (p : PlanParts) (replies : ℕ → List Reply) (workers : ℕ) (given h : List Event) → IsPrefix given h → IsLegal p replies workers h → IsLegal p replies workers given
prefix_legal p replies workers given h first legal = legal_front p replies workers given first.0 (subst (IsLegal p replies workers) (sym first.1) legal)
