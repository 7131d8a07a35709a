-- The same-thread order is kept by an event that may go next.
use Rattle.std.proofs.Common.{◌≡◌, ℕ, ◌<◌, true, false, ◌&&◌, ◌==◌, List, [], ◌∷◌, ◌++◌, length, Some, slice_get, inl, inr, refl, sym, ap, ◌∙◌, subst, arith}
use Rattle.std.proofs.lemmas.Option.{slice_get_within, same_Some, none-some}
use Rattle.std.proofs.lemmas.Bool.{both_ways, or_cases, and_parts, cases_Bool, eqb-true, false≢true}
use Rattle.descriptor.specs.Nodes.{parent_of, Below}
use Rattle.plan_events.specs.declared.event.EventKind.{EventKind}
use Rattle.plan_events.specs.declared.event.EventKind.TheVariants.{Started, Finished, Skipped, Registered}
use Rattle.plan_events.specs.declared.event.Event.{Event}
use Rattle.plan_events.specs.declared.outcome.Reply.{Reply}
use Rattle.resource_locks.specs.Plans.{PlanParts}
use Rattle.event_history.specs.Plans.{IsElder, is_same, IsPlanTree}
use Rattle.event_history.specs.Places.{IsSettledAt, is_of, has}
use Rattle.event_history.specs.History.{IsLegal}
use Rattle.event_history.specs.Order.{goes_first, is_opening, IsInOrder}
use Rattle.event_history.specs.Inside.Following.{MayFollow, MayFinish, ByKind, MayGoNext}
use Rattle.event_history.proofs.Places.{get_added, has_stands, has_at, has_before, settled_later, settled_more, finds, is_of-true}
use Rattle.event_history.proofs.AddedEvent.{may_fresh}

module _ (p : PlanParts) (tree : IsPlanTree p.tree) (replies : ℕ → List Reply) (workers : ℕ) (h : List Event) (e : Event) (legal : IsLegal p replies workers h)
    (may : MayFollow p replies workers h e) (order : IsInOrder p h) (next : MayGoNext p h e) where
  closes : (k : EventKind) → is_opening k ≡ false → k ≡ Finished
  closes Finished q = refl
  closes Started q = absurd (false≢true (sym q))
  closes Skipped q = absurd (false≢true (sym q))
  closes Registered q = absurd (false≢true (sym q))

  -- the elders of the new event's node are settled
  new_elders : (a : ℕ) → IsElder p.tree a e.node → goes_first p a e.node ≡ true → IsSettledAt h (length h) a
  new_elders a elder first =
      elim (cases_Bool (is_opening e.kind)) [
        | inl q ↦ elim (or_cases (has Finished a h) (has Skipped a h) (next.elders q a elder first)) [ inl r ↦ inl (has_before Finished a h r) | inr r ↦ inr (has_before Skipped a h r) ]
        | inr q ↦ (let m : MayFinish p replies h e = subst (ByKind p replies h e) (closes e.kind q) may.by_kind in
            let s = has_stands Started e.node h m.started in
            let within : s.0 < length h = slice_get_within h s.0 s.1.event s.1.here in
            settled_more s.0 (length h) a (omega (arith, within))
            (order.elder_settled s.0 a s.1.event s.1.here (subst (λ (n : ℕ). IsElder p.tree a n) (sym s.1.node) elder) (subst (λ (n : ℕ). goes_first p a n ≡ true) (sym s.1.node) first)))
      ]

  added_elder_settled : (i a : ℕ) (f : Event) → slice_get (h ++ e ∷ []) i ≡ Some f → IsElder p.tree a f.node → goes_first p a f.node ≡ true → IsSettledAt (h ++ e ∷ []) i a
  added_elder_settled i a f q elder first =
      elim (get_added h e f i q) [
        | inl x ↦ settled_later (e ∷ []) (order.elder_settled i a f x elder first)
        | inr x ↦ settled_later (e ∷ []) (subst (λ (j : ℕ). IsSettledAt h j a) (sym x.0)
            (new_elders a (subst (λ (y : Event). IsElder p.tree a y.node) x.1 elder) (subst (λ (y : Event). goes_first p a y.node ≡ true) x.1 first)))
      ]

  new_by_parent : (j : ℕ) (f : Event) → slice_get h j ≡ Some f → is_opening e.kind ≡ true → 0 < e.node → is_same p e.node ≡ true → f.kind ≡ Started → f.node ≡ parent_of p.tree e.node → e.worker ≡ f.worker
  new_by_parent j f q opens pos same k n =
      let r = finds (λ g. is_of Started (parent_of p.tree e.node) g && (g.worker == e.worker)) h (next.by_parent opens pos same) in
      let t = and_parts (is_of Started (parent_of p.tree e.node) r.1.0) (r.1.0.worker == e.worker) r.1.2 in
      let s = is_of-true Started (parent_of p.tree e.node) r.1.0 t.0 in
      let at : r.0 ≡ j = legal.once r.0 j (parent_of p.tree e.node) Started (record { event = r.1.0; here = r.1.1; kind = s.0; node = s.1 }) (record { event = f; here = q; kind = k; node = n }) in
      let one : r.1.0 ≡ f = same_Some r.1.0 f (sym r.1.1 ∙ ap (slice_get h) at ∙ q) in
      sym (eqb-true r.1.0.worker e.worker t.1) ∙ ap (λ (x : Event). x.worker) one

  -- no event of a child stands before the start of its parent
  no_parent : (i : ℕ) (f : Event) → slice_get h i ≡ Some f → 0 < f.node → e.kind ≡ Started → e.node ≡ parent_of p.tree f.node → ⊥
  no_parent i f q pos k n =
      let up = legal.start_above i (parent_of p.tree f.node) f q (Below.child (record { above_zero = pos; inside = legal.nodes i f q; parent = refl })) in
      let fresh : has Started e.node h ≡ false = may_fresh p tree replies workers h e legal Started (subst (ByKind p replies h e) k may.by_kind) in
      both_ways (has Started e.node h) fresh (subst (λ (x : ℕ). has Started x h ≡ true) (sym n) (has_at up.stands))

  added_by_parent : (i j : ℕ) (f g : Event) → slice_get (h ++ e ∷ []) i ≡ Some f → slice_get (h ++ e ∷ []) j ≡ Some g → is_opening f.kind ≡ true → 0 < f.node → is_same p f.node ≡ true
      → g.kind ≡ Started → g.node ≡ parent_of p.tree f.node → f.worker ≡ g.worker
  added_by_parent i j f g q r opens pos same k n =
      elim (get_added h e f i q) [
        | inl x ↦ elim (get_added h e g j r) [
          | inl y ↦ order.by_parent i j f g x y opens pos same k n
          | inr y ↦ absurd (no_parent i f x pos (subst (λ (z : Event). z.kind ≡ Started) y.1 k) (subst (λ (z : Event). z.node ≡ parent_of p.tree f.node) y.1 n))
        ]
        | inr x ↦ elim (get_added h e g j r) [
          | inl y ↦ subst (λ (z : Event). z.worker ≡ g.worker) (sym x.1)
              (new_by_parent j g y (subst (λ (z : Event). is_opening z.kind ≡ true) x.1 opens) (subst (λ (z : Event). 0 < z.node) x.1 pos) (subst (λ (z : Event). is_same p z.node ≡ true) x.1 same) k
              (subst (λ (z : Event). g.node ≡ parent_of p.tree z.node) x.1 n))
          | inr y ↦ ap (λ (z : Event). z.worker) (x.1 ∙ sym y.1)
        ]
      ]

  -- The same-thread order is kept.
  pub order_added : IsInOrder p (h ++ e ∷ [])
  order_added = record { elder_settled = added_elder_settled; by_parent = added_by_parent }

-- the history without events keeps the order
pub order_nil : (p : PlanParts) → IsInOrder p []
order_nil p = record { elder_settled = λ i a e q elder first. absurd (none-some e q); by_parent = λ i j e f q r. absurd (none-some e q) }
