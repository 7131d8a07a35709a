-- Whether a legal history keeps the same-thread order can be told by a test, event by event.
use Rattle.std.proofs.Common.{◌≡◌, ℕ, ◌<◌, Bool, true, ◌&&◌, ◌||◌, ◌==◌, ltb, List, [], ◌∷◌, ◌++◌, length, Some, slice_get, inl, inr, refl, sym, subst, arith, append_assoc, append-nil}
use Rattle.std.proofs.lemmas.Bool.{and_parts, and_from, or_left, or_right, ltb-true, lt-ltb, eq-eqb}
use Rattle.descriptor.specs.Nodes.{size, parent_of, child}
use Rattle.plan_events.specs.declared.event.EventKind.{EventKind}
use Rattle.plan_events.specs.declared.event.EventKind.TheVariants.{Started, Finished, Skipped}
use Rattle.plan_events.specs.declared.event.Event.{Event}
use Rattle.plan_events.specs.declared.outcome.Reply.{Reply}
use Rattle.resource_locks.specs.Plans.{PlanParts}
use Rattle.event_history.specs.Plans.{is_same, IsPlanTree}
use Rattle.event_history.specs.Places.{StandsBefore, is_of, has}
use Rattle.event_history.specs.History.{IsLegal}
use Rattle.event_history.specs.Order.{goes_first, is_opening, IsInOrder}
use Rattle.event_history.specs.Inside.Following.{started_by, MayFollow, MayGoNext}
use Rattle.event_history.proofs.Places.{get_next, get_back, has_at, before_front, found, is_of-from}
use Rattle.event_history.proofs.AddedEvent.{legal_added, legal_nil}
use Rattle.event_history.proofs.AddedEventOrder.{order_added, order_nil}
use Rattle.event_history.proofs.Front.{legal_front, order_front}
use Rattle.event_history.proofs.Needed.{needed}
use Rattle.event_history.proofs.Deciding.{implies, implies_use, implies_from, all_below, all_use, all_from, is_elder, elder_use, elder_from, may_follow, follow_use, follow_from}

abbrev pub elder_ok : PlanParts → List Event → ℕ → ℕ → Bool
elder_ok p h n a = implies (is_elder p a n && goes_first p a n) (has Finished a h || has Skipped a h)

-- whether the event keeps the order
abbrev pub may_go_next : PlanParts → List Event → Event → Bool
may_go_next p h e =
    implies (is_opening e.kind)
    (all_below (elder_ok p h e.node) (size p.tree) && implies (ltb 0 e.node && is_same p e.node) (started_by (parent_of p.tree e.node) e.worker h))

-- whether each event of the rest may follow those before it, and keeps the order
abbrev pub all_go : PlanParts → (ℕ → List Reply) → ℕ → List Event → List Event → Bool
all_go p replies workers h [] = true
all_go p replies workers h (e ∷ rest) = (may_follow p replies workers h e && may_go_next p h e) && all_go p replies workers (h ++ e ∷ []) rest

-- whether the list is a legal history that keeps the order
abbrev pub is_in_order : PlanParts → (ℕ → List Reply) → ℕ → List Event → Bool
is_in_order p replies workers h = all_go p replies workers [] h

module _ (p : PlanParts) (replies : ℕ → List Reply) (workers : ℕ) (h : List Event) (e : Event) (inside : e.node < size p.tree) where
  both : may_go_next p h e ≡ true → is_opening e.kind ≡ true
      → (all_below (elder_ok p h e.node) (size p.tree) ≡ true) × (implies (ltb 0 e.node && is_same p e.node) (started_by (parent_of p.tree e.node) e.worker h) ≡ true)
  both q opens = and_parts (all_below (elder_ok p h e.node) (size p.tree)) (implies (ltb 0 e.node && is_same p e.node) (started_by (parent_of p.tree e.node) e.worker h)) (implies_use (is_opening e.kind) _ q opens)

  next_use : may_go_next p h e ≡ true → MayGoNext p h e
  next_use q = record {
    elders = λ opens a elder first. implies_use (is_elder p a e.node && goes_first p a e.node) (has Finished a h || has Skipped a h)
        (all_use (elder_ok p h e.node) (size p.tree) a (both q opens).0 elder.elder.inside) (and_from (is_elder p a e.node) (goes_first p a e.node) (elder_from p replies workers h a e.node elder) first);
    by_parent = λ opens pos same. implies_use (ltb 0 e.node && is_same p e.node) _ (both q opens).1 (and_from (ltb 0 e.node) (is_same p e.node) (lt-ltb 0 e.node pos) same);
  }

  next_from : MayGoNext p h e → may_go_next p h e ≡ true
  next_from m = implies_from (is_opening e.kind) _ (λ opens.
      and_from (all_below (elder_ok p h e.node) (size p.tree)) _
      (all_from (elder_ok p h e.node) (size p.tree) (λ a lt. implies_from (is_elder p a e.node && goes_first p a e.node) (has Finished a h || has Skipped a h) (λ t.
      let r = and_parts (is_elder p a e.node) (goes_first p a e.node) t in m.elders opens a (elder_use p replies workers h a e.node lt inside r.0) r.1)))
      (implies_from (ltb 0 e.node && is_same p e.node) _ (λ t. (let r = and_parts (ltb 0 e.node) (is_same p e.node) t in m.by_parent opens (ltb-true 0 e.node r.0) r.1))))

-- the last event of a history that keeps the order kept it
pub next_needed : (p : PlanParts) (replies : ℕ → List Reply) (workers : ℕ) (h : List Event) (e : Event) → IsLegal p replies workers (h ++ e ∷ []) → IsInOrder p (h ++ e ∷ []) → MayGoNext p h e
next_needed p replies workers h e legal order = record {
  elders = λ opens a elder first. elim (order.elder_settled (length h) a e last elder first) [
    | inl s ↦ or_left (has Finished a h) (has Skipped a h) (front Finished a s)
    | inr s ↦ or_right (has Finished a h) (has Skipped a h) (front Skipped a s)
  ];
  by_parent = λ opens pos same.
      let up = legal.start_above (length h) (parent_of p.tree e.node) e last (child (record { above_zero = pos; inside = legal.nodes (length h) e last; parent = refl })) in
      let worker = order.by_parent (length h) up.place e up.stands.event last up.stands.here opens pos same up.stands.kind up.stands.node in
      found (λ f. is_of Started (parent_of p.tree e.node) f && (f.worker == e.worker)) h up.place up.stands.event (get_back h (e ∷ []) up.stands.event up.place up.before up.stands.here)
      (and_from (is_of Started (parent_of p.tree e.node) up.stands.event) (up.stands.event.worker == e.worker) (is_of-from Started (parent_of p.tree e.node) up.stands.event up.stands.kind up.stands.node) (eq-eqb up.stands.event.worker e.worker (sym worker)));
}
  where
    last : slice_get (h ++ e ∷ []) (length h) ≡ Some e
    last = get_next h e []

    front : (k : EventKind) (n : ℕ) → StandsBefore (h ++ e ∷ []) (length h) k n → has k n h ≡ true
    front k n s = has_at (before_front h (e ∷ []) (length h) k n (omega arith) s).stands

module _ (p : PlanParts) (tree : IsPlanTree p.tree) (replies : ℕ → List Reply) (workers : ℕ) where
  go_use : (h rest : List Event) → IsLegal p replies workers h → IsInOrder p h → all_go p replies workers h rest ≡ true → IsInOrder p (h ++ rest)
  go_use h [] legal order q = subst (IsInOrder p) (sym (append-nil h)) order
  go_use h (e ∷ rest) legal order q =
      let r = and_parts (may_follow p replies workers h e && may_go_next p h e) (all_go p replies workers (h ++ e ∷ []) rest) q in
      let s = and_parts (may_follow p replies workers h e) (may_go_next p h e) r.0 in
      let may : MayFollow p replies workers h e = follow_use p replies workers h e s.0 in
      subst (IsInOrder p) (append_assoc h (e ∷ []) rest)
      (go_use (h ++ e ∷ []) rest (legal_added p tree replies workers h e legal may) (order_added p tree replies workers h e legal may order (next_use p replies workers h e may.inside s.1)) r.1)

  go_needed : (h rest : List Event) → IsLegal p replies workers (h ++ rest) → IsInOrder p (h ++ rest) → all_go p replies workers h rest ≡ true
  go_needed h [] legal order = refl
  go_needed h (e ∷ rest) legal order =
      let longer : IsLegal p replies workers ((h ++ e ∷ []) ++ rest) = subst (IsLegal p replies workers) (sym (append_assoc h (e ∷ []) rest)) legal in
      let ordered : IsInOrder p ((h ++ e ∷ []) ++ rest) = subst (IsInOrder p) (sym (append_assoc h (e ∷ []) rest)) order in
      let here : IsLegal p replies workers (h ++ e ∷ []) = legal_front p replies workers (h ++ e ∷ []) rest longer in
      let may : MayFollow p replies workers h e = needed p replies workers h e here in
      and_from (may_follow p replies workers h e && may_go_next p h e) _
      (and_from (may_follow p replies workers h e) _ (follow_from p replies workers h e may)
      (next_from p replies workers h e may.inside (next_needed p replies workers h e here (order_front p replies workers (h ++ e ∷ []) rest longer ordered))))
      (go_needed (h ++ e ∷ []) rest longer ordered)

  -- The test tells the legal histories that keep the order.
  pub told_in_order : (h : List Event) → is_in_order p replies workers h ≡ true → IsInOrder p h
  told_in_order h q = go_use [] h (legal_nil p replies workers) (order_nil p) q

  pub in_order_told : (h : List Event) → IsLegal p replies workers h → IsInOrder p h → is_in_order p replies workers h ≡ true
  in_order_told h legal order = go_needed [] h legal order
