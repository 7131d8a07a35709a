-- Where all nodes run on one thread and each job has one reply, one worker has one complete legal history.
use Rattle.std.proofs.Common.{◌≡◌, ℕ, zero, suc, ◌<◌, ◌≤◌, Bool, true, false, List, [], ◌∷◌, length, take, Option, Some, None, slice_get, inl, inr, ◌⊎◌, refl, sym, ap, ◌∙◌, subst, arith}
use Rattle.std.proofs.lemmas.Option.{same_Some, none-some}
use Rattle.std.proofs.lemmas.Bool.{and_parts, cases_lt, cases_eq, both_ways, false≢true}
use Rattle.descriptor.specs.Nodes.{size, parent_of, IsChild, child, is_disabled, is_spare_at}
use Rattle.plan_events.specs.declared.event.EventKind.{EventKind}
use Rattle.plan_events.specs.declared.event.EventKind.TheVariants.{Started, Finished, Skipped, Registered}
use Rattle.plan_events.specs.declared.status.Status.{Status}
use Rattle.plan_events.specs.declared.event.Event.{Event}
use Rattle.plan_events.specs.declared.outcome.Reply.{Reply}
use Rattle.plan_events.specs.Words.{fits_status}
use Rattle.resource_locks.proofs.Lines.{last_step}
use Rattle.resource_locks.specs.Plans.{PlanParts}
use Rattle.event_history.specs.Plans.{rank, pulls_job, is_same, IsPlanTree}
use Rattle.event_history.specs.Places.{StandsAt, StandsBefore, IsSettledAt, has}
use Rattle.event_history.specs.Failures.{failures, known, up_to}
use Rattle.event_history.specs.Results.{jobs_of}
use Rattle.event_history.specs.History.{IsStopped, StoppedIs, IsUnregistered, IsLegal, IsBarred, IsComplete}
use Rattle.event_history.specs.Order.{IsInOrder}
use Rattle.event_history.specs.Expected.{HasOneReply, is_stopped_by, result_by, leaves}
use Rattle.event_history.proofs.Lawful.{lawful_fits, lawful_worker}
use Rattle.event_history.proofs.Places.{event_at, has_at, stands_within}
use Rattle.event_history.proofs.Failures.{alone_knows}
use Rattle.event_history.proofs.Histories.{started_unskipped, unbarred, started_known}
use Rattle.event_history.proofs.Roots.{plan_finished, plan_unskipped, plan_unregistered, none_after}
use Rattle.event_history.proofs.Expectation.{status_in, result_is, not_left, left_out}
use Rattle.event_history.proofs.Slots.{slot, Before, before_cases, comes_first}

-- a complete legal history of one worker, in same-thread order
pub record IsRun (p : PlanParts) (replies : ℕ → List Reply) (h : List Event) : Type 0 where
  pub legal : IsLegal p replies 1 h
  pub order : IsInOrder p h
  pub complete : IsComplete p h

-- lists with the same elements at each place are the same
pub same_lists : {X : Type 0} (xs ys : List X) → ((i : ℕ) → slice_get xs i ≡ slice_get ys i) → xs ≡ ys
same_lists [] [] each = refl
same_lists [] (y ∷ ys) each = absurd (none-some y (each 0))
same_lists (x ∷ xs) [] each = absurd (none-some x (sym (each 0)))
same_lists (x ∷ xs) (y ∷ ys) each = (let a : x ≡ y = same_Some x y (each 0) in let b = same_lists xs ys (λ i. each (suc i)) in subst (λ z. x ∷ xs ≡ z ∷ ys) a (ap (λ (l : List _). x ∷ l) b))

-- beginnings of as many elements are the same where these are
take_agree : {X : Type 0} (n : ℕ) (xs ys : List X) → ((j : ℕ) → j < n → slice_get xs j ≡ slice_get ys j) → take n xs ≡ take n ys
take_agree zero xs ys each = refl
take_agree (suc n) [] [] each = refl
take_agree (suc n) [] (y ∷ ys) each = absurd (none-some y (each 0 (omega arith)))
take_agree (suc n) (x ∷ xs) [] each = absurd (none-some x (sym (each 0 (omega arith))))
take_agree (suc n) (x ∷ xs) (y ∷ ys) each =
    let a : x ≡ y = same_Some x y (each 0 (omega arith)) in
    let b = take_agree n xs ys (λ j lt. each (suc j) (omega (arith, lt))) in
    subst (λ z. x ∷ take n xs ≡ z ∷ take n ys) a (ap (λ (l : List _). x ∷ l) b)

-- and what stands in a beginning stands there in the whole
within_take : {X : Type 0} (n : ℕ) (xs : List X) (j : ℕ) (x : X) → slice_get (take n xs) j ≡ Some x → slice_get xs j ≡ Some x
within_take zero xs j x q = absurd (none-some x q)
within_take (suc n) [] j x q = q
within_take (suc n) (y ∷ ys) zero x q = q
within_take (suc n) (y ∷ ys) (suc j) x q = within_take n ys j x q

some_or_none : {X : Type 0} (o : Option X) → (o ≡ None) ⊎ ((x : X) × (o ≡ Some x))
some_or_none None = inl refl
some_or_none (Some x) = inr (x, refl)

abbrev made : EventKind → ℕ → Option Status → ℕ → Event
made k n s w = record { kind = k; node = n; status = s; worker = w }

same_event : (e f : Event) → e.kind ≡ f.kind → e.node ≡ f.node → e.status ≡ f.status → e.worker ≡ f.worker → e ≡ f
same_event e f a b c d =
    ap (λ (k : EventKind). made k e.node e.status e.worker) a
    ∙ ap (λ (n : ℕ). made f.kind n e.status e.worker) b
    ∙ ap (λ (s : Option Status). made f.kind f.node s e.worker) c
    ∙ ap (λ (w : ℕ). made f.kind f.node f.status w) d

-- what does not finish a node has no status
no_status : (k l : EventKind) (a b : Option Status) → slot k < 2 → slot l < 2 → fits_status k a ≡ true → fits_status l b ≡ true → a ≡ b
no_status k l a b small less q r = go k a small q ∙ sym (go l b less r)
  where
    go : (m : EventKind) (o : Option Status) → slot m < 2 → fits_status m o ≡ true → o ≡ None
    go Finished o lt q = absurd (omega (arith, lt))
    go Started None lt q = refl
    go Started (Some s) lt q = absurd (false≢true q)
    go Skipped None lt q = refl
    go Skipped (Some s) lt q = absurd (false≢true q)
    go Registered None lt q = refl
    go Registered (Some s) lt q = absurd (false≢true q)

module _ (p : PlanParts) (tree : IsPlanTree p.tree) (reply : ℕ → Reply) (replies : ℕ → List Reply) (one : HasOneReply reply replies) where
  -- in a complete legal history what has started is finished
  started_finished : (h : List Event) → IsRun p replies h → (n : ℕ) → n < size p.tree → has Started n h ≡ true → (i : ℕ) × StandsAt h i Finished n
  started_finished h run n inside q =
      elim (run.complete n inside) [
        | inl s ↦ elim s [ inl d ↦ (d.place, d.stands) | inr d ↦ absurd (started_unskipped p replies 1 h run.legal d.place n q d.stands) ]
        | inr r ↦ elim r [ inl bar ↦ absurd (unbarred p replies 1 h run.legal n q bar) | inr u ↦ absurd (started_known p replies 1 h run.legal n q u) ]
      ]

  -- a finished node is stopped where its body's reply stops it
  stopped_by : (h : List Event) → IsRun p replies h → (i q : ℕ) → StandsAt h i Finished q → (b : Bool) → is_stopped_by reply (jobs_of p q) ≡ b → StoppedIs p h q b
  stopped_by h run i q s b e =
      let r = run.legal.result i s.event s.here s.kind in
      let t = result_is p tree reply replies one 1 h run.legal i s.event r.0 r.1 in
      let same : r.1.stopped ≡ b = sym (subst (λ (x : ℕ). is_stopped_by reply (jobs_of p x) ≡ r.1.stopped) s.node t.0) ∙ e in
      subst (StoppedIs p h q) same (subst (λ (x : ℕ). StoppedIs p h x r.1.stopped) s.node r.1.stops)

  -- and one that is stopped has such a reply
  by_stopped : (h : List Event) → IsRun p replies h → (q : ℕ) → IsStopped p h q → is_stopped_by reply (jobs_of p q) ≡ true
  by_stopped h run q s = go (is_stopped_by reply (jobs_of p q)) refl
    where
      go : (b : Bool) → is_stopped_by reply (jobs_of p q) ≡ b → is_stopped_by reply (jobs_of p q) ≡ true
      go true e = e
      go false e = absurd (stopped_by h run s.place q s.finish false e s)

  -- Two such histories that agree before place i.
  module _ (g h : List Event) (a : IsRun p replies g) (b : IsRun p replies h) (i : ℕ) (agree : (j : ℕ) → j < i → slice_get g j ≡ slice_get h j) where
    over : (j : ℕ) (k : EventKind) (n : ℕ) → j < i → StandsAt g j k n → StandsAt h j k n
    over j k n lt s = record { event = s.event; here = sym (agree j lt) ∙ s.here; kind = s.kind; node = s.node }

    back : (j : ℕ) (k : EventKind) (n : ℕ) → j < i → StandsAt h j k n → StandsAt g j k n
    back j k n lt s = record { event = s.event; here = agree j lt ∙ s.here; kind = s.kind; node = s.node }

    -- of a node that opens next in one, the other has an event
    module _ (e : Event) (here : slice_get g i ≡ Some e) (pos : 0 < e.node) where
      q : ℕ
      q = parent_of p.tree e.node

      edge : IsChild p.tree (parent_of p.tree e.node) e.node
      edge = record { above_zero = pos; inside = a.legal.nodes i e here; parent = refl }

      parent_start : StandsBefore g i Started (parent_of p.tree e.node)
      parent_start = a.legal.start_above i (parent_of p.tree e.node) e here (child edge)

      parent_started : has Started (parent_of p.tree e.node) h ≡ true
      parent_started = has_at (over parent_start.place Started (parent_of p.tree e.node) parent_start.before parent_start.stands)

      parent_inside : parent_of p.tree e.node < size p.tree
      parent_inside = (let up = tree.rooted.up e.node pos edge.inside in let inside = edge.inside in omega (arith, up, inside))

      unbarred_next : IsBarred p h e.node → ⊥
      unbarred_next bar =
          let up = (last_step p.tree bar.0 e.node bar.1.1).1 in
          elim up [
            | inr d ↦ unbarred p replies 1 h b.legal (parent_of p.tree e.node) parent_started (bar.0, (bar.1.0, d))
            | inl s ↦ elim bar.1.0 [
              | inl t ↦ started_unskipped p replies 1 h b.legal t.0 (parent_of p.tree e.node) parent_started (subst (λ (x : ℕ). StandsAt h t.0 Skipped x) s t.1)
              | inr t ↦ (let f = started_finished g a (parent_of p.tree e.node) parent_inside (has_at parent_start.stands) in
                  let stop : IsStopped p g (parent_of p.tree e.node) = stopped_by g a f.0 (parent_of p.tree e.node) f.1 true (by_stopped h b (parent_of p.tree e.node) (subst (IsStopped p h) s t)) in
                  stop.silent i e here (child edge))
            ]
          ]

      known_next : IsUnregistered p h e.node → ⊥
      known_next u =
          elim (a.legal.after_registered i e here u.spare) [
            | inr r ↦ u.never r.place (over r.place Registered e.node r.before r.stands)
            | inl k ↦ (let f = started_finished g a (parent_of p.tree e.node) parent_inside (has_at parent_start.stands) in
                let f' = started_finished h b (parent_of p.tree e.node) parent_inside parent_started in
                both_ways (leaves reply (jobs_of p (parent_of p.tree e.node)) (rank p e.node))
                (not_left p tree reply replies one 1 g a.legal (parent_of p.tree e.node) e.node f.0 edge f.1 i (record { event = e; here = here; kind = k; node = refl }))
                (left_out p tree reply replies one 1 h b.legal (parent_of p.tree e.node) e.node f'.0 edge f'.1 u))
          ]

      settled_next : IsSettledAt h (length h) e.node
      settled_next = elim (b.complete e.node edge.inside) [ inl s ↦ s | inr r ↦ elim r [ inl bar ↦ absurd (unbarred_next bar) | inr u ↦ absurd (known_next u) ] ]

    -- what stands for a node in a slot
    Has : ℕ → ℕ → Type 0
    Has k n = (j : ℕ) × ((f : Event) × (slice_get h j ≡ Some f) × (slot f.kind ≡ k) × (f.node ≡ n))

    has_it : (j n : ℕ) (k : EventKind) → StandsAt h j k n → Has (slot k) n
    unfolding Has
    has_it j n k s = (j, (s.event, s.here, ap slot s.kind, s.node))

    -- a settled node was started or skipped, and a spare was registered
    has_opened : (j n : ℕ) → IsSettledAt h j n → Has 1 n
    has_opened j n s = elim s [ inl d ↦ (let r = b.legal.after_start d.place n d.stands in has_it r.place n Started r.stands) | inr d ↦ has_it d.place n Skipped d.stands ]

    registered_by : (j n : ℕ) (k : EventKind) → is_spare_at p.tree n ≡ true → StandsAt h j k n → 0 < slot k → Has 0 n
    registered_by j n k spare s lt =
        elim (b.legal.after_registered j s.event s.here (subst (λ (x : ℕ). is_spare_at p.tree x ≡ true) (sym s.node) spare)) [
          | inl q ↦ (let z : slot k ≡ 0 = ap slot (sym s.kind ∙ q) in absurd (omega (arith, lt, z)))
          | inr r ↦ has_it r.place n Registered (subst (λ (x : ℕ). StandsAt h r.place Registered x) s.node r.stands)
        ]

    has_registered : (j n : ℕ) → is_spare_at p.tree n ≡ true → IsSettledAt h j n → Has 0 n
    has_registered j n spare s = elim s [ inl d ↦ registered_by d.place n Finished spare d.stands (omega arith) | inr d ↦ registered_by d.place n Skipped spare d.stands (omega arith) ]

    -- what stands next in one stands somewhere in the other
    module _ (e : Event) (here : slice_get g i ≡ Some e) where
      at : (k : EventKind) → e.kind ≡ k → StandsAt g i k e.node
      at k q = record { event = e; here = here; kind = q; node = refl }

      zero_at : (k : EventKind) → e.kind ≡ k → e.node ≡ 0 → StandsAt g i k 0
      zero_at k q z = record { event = e; here = here; kind = q; node = z }

      present : (k : EventKind) → e.kind ≡ k → Has (slot k) e.node
      present Finished q =
          let r = a.legal.after_start i e.node (at Finished q) in
          let f = started_finished h b e.node (a.legal.nodes i e here) (has_at (over r.place Started e.node r.before r.stands)) in
          has_it f.0 e.node Finished f.1
      present Started q =
          elim (cases_eq e.node 0) [
            | inr ne ↦ has_opened (length h) e.node (settled_next e here (omega (arith, ne)))
            | inl z ↦ (let f = plan_finished p tree replies 1 h b.legal b.complete in
                let r = b.legal.after_start f.0 0 f.1 in
                subst (Has 1) (sym z) (has_it r.place 0 Started r.stands))
          ]
      present Skipped q =
          elim (cases_eq e.node 0) [
            | inr ne ↦ has_opened (length h) e.node (settled_next e here (omega (arith, ne)))
            | inl z ↦ absurd (plan_unskipped p tree replies 1 g a.legal i (zero_at Skipped q z))
          ]
      present Registered q =
          elim (cases_eq e.node 0) [
            | inr ne ↦ has_registered (length h) e.node (and_parts (is_spare_at p.tree e.node) (pulls_job p (parent_of p.tree e.node)) (a.legal.registered i e.node (at Registered q))).0 (settled_next e here (omega (arith, ne)))
            | inl z ↦ absurd (plan_unregistered p tree replies 1 g a.legal i (zero_at Registered q z))
          ]

    -- no node has two events in one slot
    one_slot : (j n : ℕ) (k l : EventKind) → StandsAt g j k n → StandsAt g i l n → slot k ≡ slot l → j ≡ i
    one_slot j n Started Started s t q = a.legal.once j i n Started s t
    one_slot j n Started Skipped s t q = absurd (a.legal.apart j i n s t)
    one_slot j n Started Finished s t q = absurd (omega (arith, q))
    one_slot j n Started Registered s t q = absurd (omega (arith, q))
    one_slot j n Skipped Skipped s t q = a.legal.once j i n Skipped s t
    one_slot j n Skipped Started s t q = absurd (a.legal.apart i j n t s)
    one_slot j n Skipped Finished s t q = absurd (omega (arith, q))
    one_slot j n Skipped Registered s t q = absurd (omega (arith, q))
    one_slot j n Finished Finished s t q = a.legal.once j i n Finished s t
    one_slot j n Finished Started s t q = absurd (omega (arith, q))
    one_slot j n Finished Skipped s t q = absurd (omega (arith, q))
    one_slot j n Finished Registered s t q = absurd (omega (arith, q))
    one_slot j n Registered Registered s t q = a.legal.once j i n Registered s t
    one_slot j n Registered Started s t q = absurd (omega (arith, q))
    one_slot j n Registered Skipped s t q = absurd (omega (arith, q))
    one_slot j n Registered Finished s t q = absurd (omega (arith, q))

    module _ (all : (n : ℕ) → 0 < n → n < size p.tree → is_same p n ≡ true) where
      -- what stands next in one does not come before what stands next in the other
      not_before : (e f : Event) → slice_get g i ≡ Some e → slice_get h i ≡ Some f → Before p (slot e.kind) e.node (slot f.kind) f.node → ⊥
      unfolding Has
      not_before e f q r first =
          let s = present e q e.kind refl in
          let lt = comes_first p tree replies 1 h b.legal b.order all s.0 i s.1.0 f s.1.1 r
          (subst (λ (k : ℕ). Before p k s.1.0.node (slot f.kind) f.node) (sym s.1.2) (subst (λ (n : ℕ). Before p (slot e.kind) n (slot f.kind) f.node) (sym s.1.3) first)) in
          let same : s.0 ≡ i = one_slot s.0 e.node s.1.0.kind e.kind
          (record { event = s.1.0; here = agree s.0 lt ∙ s.1.1; kind = refl; node = s.1.3 })
          (record { event = e; here = q; kind = refl; node = refl }) s.1.2 in
          omega (arith, lt, same)

    -- nothing follows in one where the other ends
    not_longer : (f : Event) → slice_get g i ≡ None → slice_get h i ≡ Some f → ⊥
    not_longer f q r =
        let root = plan_finished p tree replies 1 g a.legal a.complete in
        let within = stands_within root.1 in
        elim (cases_lt i (length g)) [
          | inl lt ↦ (let x = event_at g i lt in none-some x.0 (sym q ∙ x.1))
          | inr le ↦ none_after p tree replies 1 h b.legal root.0 i f (over root.0 Finished 0 (omega (arith, within, le)) root.1) r (omega (arith, within, le))
        ]

    -- a start and a skip don't stand in one place
    not_skipped : (e f : Event) → slice_get g i ≡ Some e → slice_get h i ≡ Some f → e.kind ≡ Started → f.kind ≡ Skipped → e.node ≡ f.node → e.worker ≡ 1 → ((j : ℕ) (x : Event) → slice_get g j ≡ Some x → x.worker ≡ 1) → ⊥
    not_skipped e f q r k l n w each =
        elim (b.legal.skipped i e.node (record { event = f; here = r; kind = l; node = sym n })) [
          | inl d ↦ both_ways (is_disabled p.tree e.node) (a.legal.unstarted i e.node (record { event = e; here = q; kind = k; node = refl })) d
          | inr x ↦ (let more : p.tolerated < failures (take i h) = x.1 in
              let few : known e.worker (up_to e.worker (take i g)) ≤ p.tolerated = a.legal.quits x.0 i e q k in
              let all : known e.worker (up_to e.worker (take i g)) ≡ failures (take i g) = alone_knows e.worker (take i g) (λ j y at. each j y (within_take i g j y at) ∙ sym w) in
              let same : failures (take i g) ≡ failures (take i h) = ap failures (take_agree i g h agree) in
              omega (arith, more, few, all, same))
        ]

  -- each event is by the one worker, and its status fits its kind
  by_one : (h : List Event) → IsRun p replies h → (j : ℕ) (e : Event) → slice_get h j ≡ Some e → e.worker ≡ 1
  by_one h run j e q =
      let low = lawful_worker e (run.legal.lawful j e q) in
      let high = run.legal.by_workers j e q in
      omega (arith, low, high)

  fits : (h : List Event) → IsRun p replies h → (j : ℕ) (e : Event) → slice_get h j ≡ Some e → fits_status e.kind e.status ≡ true
  fits h run j e q = lawful_fits e (run.legal.lawful j e q)

  -- a finish's status is the one that its jobs give
  status_of : (h : List Event) → IsRun p replies h → (j : ℕ) (e : Event) → slice_get h j ≡ Some e → e.kind ≡ Finished → e.status ≡ status_in (result_by reply (jobs_of p e.node))
  status_of h run j e q k =
      let r = run.legal.result j e q k in
      r.1.here ∙ ap status_in (result_is p tree reply replies one 1 h run.legal j e r.0 r.1).1

  module _ (g h : List Event) (a : IsRun p replies g) (b : IsRun p replies h) (all : (n : ℕ) → 0 < n → n < size p.tree → is_same p n ≡ true) where
    module _ (i : ℕ) (agree : (j : ℕ) → j < i → slice_get g j ≡ slice_get h j) where
      agree_back : (j : ℕ) → j < i → slice_get h j ≡ slice_get g j
      agree_back j lt = sym (agree j lt)

      -- what stands next in both is the same
      module _ (e f : Event) (q : slice_get g i ≡ Some e) (r : slice_get h i ≡ Some f) where
        alike : (k : EventKind) → e.kind ≡ k → f.kind ≡ k → e.node ≡ f.node → e.status ≡ f.status → e ≡ f
        alike k s t n status = same_event e f (s ∙ sym t) n status (by_one g a i e q ∙ sym (by_one h b i f r))

        opens : (x k : EventKind) → x ≡ k → slot k < 2 → slot x < 2
        opens x k s lt = let same : slot x ≡ slot k = ap slot s in omega (arith, same, lt)

        open_status : (k : EventKind) → e.kind ≡ k → f.kind ≡ k → slot k < 2 → e.status ≡ f.status
        open_status k s t lt = no_status e.kind f.kind e.status f.status (opens e.kind k s lt) (opens f.kind k t lt) (fits g a i e q) (fits h b i f r)

        same_kinds : (k l : EventKind) → e.kind ≡ k → f.kind ≡ l → slot k ≡ slot l → e.node ≡ f.node → e ≡ f
        same_kinds Started Started s t u n = alike Started s t n (open_status Started s t (omega arith))
        same_kinds Started Skipped s t u n = absurd (not_skipped g h a b i agree e f q r s t n (by_one g a i e q) (by_one g a))
        same_kinds Started Finished s t u n = absurd (omega (arith, u))
        same_kinds Started Registered s t u n = absurd (omega (arith, u))
        same_kinds Skipped Started s t u n = absurd (not_skipped h g b a i agree_back f e r q t s (sym n) (by_one h b i f r) (by_one h b))
        same_kinds Skipped Skipped s t u n = alike Skipped s t n (open_status Skipped s t (omega arith))
        same_kinds Skipped Finished s t u n = absurd (omega (arith, u))
        same_kinds Skipped Registered s t u n = absurd (omega (arith, u))
        same_kinds Finished Finished s t u n = alike Finished s t n (status_of g a i e q s ∙ ap (λ (m : ℕ). status_in (result_by reply (jobs_of p m))) n ∙ sym (status_of h b i f r t))
        same_kinds Finished Started s t u n = absurd (omega (arith, u))
        same_kinds Finished Skipped s t u n = absurd (omega (arith, u))
        same_kinds Finished Registered s t u n = absurd (omega (arith, u))
        same_kinds Registered Registered s t u n = alike Registered s t n (open_status Registered s t (omega arith))
        same_kinds Registered Started s t u n = absurd (omega (arith, u))
        same_kinds Registered Skipped s t u n = absurd (omega (arith, u))
        same_kinds Registered Finished s t u n = absurd (omega (arith, u))

        next_same : e ≡ f
        next_same =
            elim (before_cases p tree (slot e.kind) e.node (slot f.kind) f.node (a.legal.nodes i e q) (b.legal.nodes i f r)) [
              | inl s ↦ same_kinds e.kind f.kind refl refl s.0 s.1
              | inr x ↦ elim x [ inl first ↦ absurd (not_before g h a b i agree all e f q r first) | inr first ↦ absurd (not_before h g b a i agree_back all f e r q first) ]
            ]

      next_place : slice_get g i ≡ slice_get h i
      next_place =
          elim (some_or_none (slice_get g i)) [
            | inl none ↦ elim (some_or_none (slice_get h i)) [ inl m ↦ none ∙ sym m | inr f ↦ absurd (not_longer g h a b i agree f.0 none f.1) ]
            | inr e ↦ elim (some_or_none (slice_get h i)) [ inl m ↦ absurd (not_longer h g b a i agree_back e.0 m e.1) | inr f ↦ e.1 ∙ ap Some (next_same e.0 f.0 e.1 f.1) ∙ sym f.1 ]
          ]

    agree_below : (i j : ℕ) → j < i → slice_get g j ≡ slice_get h j
    agree_below zero j lt = absurd (omega (arith, lt))
    agree_below (suc i) j lt =
        elim (cases_eq j i) [
          | inl s ↦ subst (λ (x : ℕ). slice_get g x ≡ slice_get h x) (sym s) (next_place i (agree_below i))
          | inr ne ↦ agree_below i j (omega (arith, lt, ne))
        ]

    -- One worker has one complete legal history.
    pub only_run : g ≡ h
    only_run = same_lists g h (λ i. agree_below (suc i) i (omega arith))
