-- What may follow is no less than what a legal history has: the last event of one may follow the others.
use Rattle.std.proofs.Common.{◌≡◌, ℕ, ◌<◌, ◌≤◌, Bool, true, false, ◌&&◌, ◌==◌, List, [], ◌∷◌, ◌++◌, length, take, Some, slice_get, inl, inr, refl, sym, ap, ◌∙◌, subst, arith}
use Rattle.std.proofs.lemmas.Bool.{and_parts, eqb-true, false_from_ne_true, or_left, or_right}
use Rattle.std.proofs.lemmas.List.{take_all, take-append-le}
use Rattle.std.proofs.lemmas.Option.{slice_get_within}
use Rattle.descriptor.specs.Nodes.{size, parent_of, IsChild, Below, child, is_spare_at, count_below}
use Rattle.plan_events.specs.declared.event.EventKind.{EventKind}
use Rattle.plan_events.specs.declared.event.EventKind.TheVariants.{Started, Finished, Skipped, Registered}
use Rattle.plan_events.specs.declared.event.Event.{Event}
use Rattle.plan_events.specs.declared.outcome.Reply.{Reply}
use Rattle.event_history.specs.Places.{StandsAt, StandsBefore, has}
use Rattle.resource_locks.specs.Plans.{PlanParts}
use Rattle.event_history.specs.Plans.{is_spare_of}
use Rattle.event_history.specs.Results.{jobs_of, Ends}
use Rattle.event_history.specs.History.{StoppedIs, registered_before, IsLegal}
use Rattle.event_history.specs.Failures.{failures, known, up_to}
use Rattle.event_history.specs.Inside.Following.{registered_in, IsParentOpen, MayFinish, ChildrenOk, ByKind, MayFollow}
use Rattle.event_history.proofs.Places.{get_front, get_next, has_stands, has_at, stands_within, stands_later, before_front}
use Rattle.event_history.proofs.AddedEvent.{registered_front}

module _ (p : PlanParts) (replies : ℕ → List Reply) (workers : ℕ) (h : List Event) (e : Event) (legal : IsLegal p replies workers (h ++ e ∷ [])) where
  last : slice_get (h ++ e ∷ []) (length h) ≡ Some e
  last = get_next h e []

  at : (k : EventKind) → e.kind ≡ k → StandsAt (h ++ e ∷ []) (length h) k e.node
  at k q = record { event = e; here = last; kind = q; node = refl }

  -- what stands before the last event stands in the rest
  front : (k : EventKind) (n : ℕ) → StandsBefore (h ++ e ∷ []) (length h) k n → has k n h ≡ true
  front k n s = has_at (before_front h (e ∷ []) (length h) k n (omega arith) s).stands

  whole : (k : EventKind) (n : ℕ) → has k n h ≡ true → StandsBefore (h ++ e ∷ []) (length h) k n
  whole k n t = (let s = has_stands k n h t in record { place = s.0; before = stands_within s.1; stands = stands_later (e ∷ []) s.1 })

  none : (k : EventKind) (n : ℕ) → (StandsBefore (h ++ e ∷ []) (length h) k n → ⊥) → has k n h ≡ false
  none k n no_one = false_from_ne_true (has k n h) (λ t. no_one (whole k n t))

  fresh : (k : EventKind) → e.kind ≡ k → has k e.node h ≡ false
  fresh k q = none k e.node (λ s. (let lt : s.place < length h = s.before in let same = legal.once s.place (length h) e.node k s.stands (at k q) in omega (arith, lt, same)))

  edge : 0 < e.node → IsChild p.tree (parent_of p.tree e.node) e.node
  edge pos = record { above_zero = pos; inside = legal.nodes (length h) e last; parent = refl }

  parent_open : IsParentOpen p h e.node
  parent_open = record {
    parent_started = λ pos. front Started (parent_of p.tree e.node) (legal.start_above (length h) (parent_of p.tree e.node) e last (child (edge pos)));
    parent_open = λ pos. none Finished (parent_of p.tree e.node) (legal.open_above (length h) (parent_of p.tree e.node) e last (child (edge pos)));
  }

  registered : (k : EventKind) → e.kind ≡ k → (k ≡ Registered → ⊥) → is_spare_at p.tree e.node ≡ true → has Registered e.node h ≡ true
  registered k q other spare = elim (legal.after_registered (length h) e last spare) [ inl r ↦ absurd (other (sym q ∙ r)) | inr r ↦ front Registered e.node r ]

  started_or : Started ≡ Registered → ⊥
  started_or q = cc

  skipped_or : Skipped ≡ Registered → ⊥
  skipped_or q = cc

  registered_all : registered_before p (h ++ e ∷ []) (length h) e.node ≡ registered_in p h e.node
  registered_all =
      registered_front p h (e ∷ []) (length h) e.node (omega arith)
      ∙ ap (λ (l : List Event). count_below (λ c. is_spare_of p e.node c && has Registered c l) (size p.tree)) (take_all (length h) h (omega arith))

  before_last : take (length h) (h ++ e ∷ []) ≡ h
  before_last = take-append-le (length h) h (e ∷ []) (omega arith) ∙ take_all (length h) h (omega arith)

  module _ (k : e.kind ≡ Finished) where
    children : (b : Bool) → StoppedIs p (h ++ e ∷ []) e.node b → ChildrenOk p h e.node b
    children true s = λ c ch l. none l c (λ t. s.silent t.place t.stands.event t.stands.here (subst (λ (n : ℕ). Below p.tree e.node n) (sym t.stands.node) (child ch)))
    children false s = λ c ch. elim (legal.settled (length h) e.node c (at Finished k) s ch) [
      | inl t ↦ inl (elim t [ inl u ↦ or_left (has Finished c h) (has Skipped c h) (front Finished c u) | inr u ↦ or_right (has Finished c h) (has Skipped c h) (front Skipped c u) ])
      | inr u ↦ inr (u.spare, none Registered c (λ s. u.never s.place s.stands))
    ]

    finish : MayFinish p replies h e
    finish =
        let r = legal.result (length h) e last k in
        record {
          started = front Started e.node (legal.after_start (length h) e.node (at Finished k));
          unfinished = fresh Finished k;
          status = r.1.status;
          here = r.1.here;
          stopped = r.1.stopped;
          children = children r.1.stopped r.1.stops;
          text = r.0;
          lawful = subst (λ (x : ℕ). Ends replies (jobs_of p e.node) r.1.stopped x r.1.status r.0) registered_all r.1.lawful;
        }

  by : (k : EventKind) → e.kind ≡ k → ByKind p replies h e k
  by Started k = record {
    unopened = record {
      unstarted = fresh Started k;
      unskipped = none Skipped e.node (λ s. legal.apart (length h) s.place e.node (at Started k) s.stands);
      registered = registered Started k started_or;
      parent = parent_open;
    };
    enabled = legal.unstarted (length h) e.node (at Started k);
    unknown = λ fast. subst (λ (l : List Event). known e.worker (up_to e.worker l) ≤ p.tolerated) before_last (legal.quits fast (length h) e last k);
  }
  by Skipped k = record {
    unopened = record {
      unstarted = none Started e.node (λ s. legal.apart s.place (length h) e.node s.stands (at Skipped k));
      unskipped = fresh Skipped k;
      registered = registered Skipped k skipped_or;
      parent = parent_open;
    };
    reason = elim (legal.skipped (length h) e.node (at Skipped k)) [
      | inl d ↦ inl d
      | inr f ↦ inr (f.0, subst (λ (l : List Event). p.tolerated < failures l) before_last f.1)
    ];
  }
  by Registered k = record {
    spare = legal.registered (length h) e.node (at Registered k);
    fresh = fresh Registered k;
    elders = λ c elder. front Registered c (legal.elder_registered (length h) c e.node (at Registered k) elder);
    parent = parent_open;
  }
  by Finished k = finish k

  -- The last event of a legal history may follow the others.
  pub needed : MayFollow p replies workers h e
  needed = record { lawful = legal.lawful (length h) e last; inside = legal.nodes (length h) e last; by_worker = legal.by_workers (length h) e last; by_kind = by e.kind refl }
