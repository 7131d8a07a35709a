-- A legal history stays legal with an event that may follow.
use Rattle.std.proofs.Common.{◌≡◌, ℕ, ◌<◌, ◌≤◌, Bool, true, false, ◌&&◌, ◌==◌, List, [], ◌∷◌, ◌++◌, length, take, Option, Some, slice_get, ◌⊎◌, inl, inr, refl, sym, ap, ◌∙◌, subst, arith}
use Rattle.std.proofs.lemmas.Option.{slice_get_within, same_Some, none-some}
use Rattle.std.proofs.lemmas.Bool.{both_ways, or_cases, and_from, eq-eqb}
use Rattle.std.proofs.lemmas.List.{take-append-le, take_all}
use Rattle.descriptor.specs.Nodes.{size, parent_of, IsChild, Below, is_disabled, count_below, is_spare_at}
use Rattle.plan_events.specs.declared.event.EventKind.{EventKind}
use Rattle.plan_events.specs.declared.event.EventKind.TheVariants.{Started, Finished, Skipped, Registered}
use Rattle.plan_events.specs.declared.status.Status.{Status}
use Rattle.plan_events.specs.declared.event.Event.{Event}
use Rattle.plan_events.specs.declared.outcome.Reply.{Reply}
use Rattle.plan_events.specs.Words.{is_lawful}
use Rattle.plan_events.specs.Statuses.{is_successful}
use Rattle.event_history.specs.Places.{StandsAt, StandsBefore, IsSettledAt, has}
use Rattle.resource_locks.specs.Plans.{PlanParts}
use Rattle.event_history.specs.Plans.{IsElder, is_spare_of, pulls_job, Holder, Maker, sort_of, IsPlanTree}
use Rattle.event_history.specs.Results.{jobs_of, Ends}
use Rattle.event_history.specs.History.{IsStopped, StoppedIs, IsUnregistered, registered_before, HasResult, IsLegal}
use Rattle.event_history.specs.Failures.{failures, known, up_to}
use Rattle.event_history.specs.Inside.Following.{registered_in, MayStart, MaySkip, MayRegister, MayFinish, ChildrenOk, ByKind, MayFollow}
use Rattle.event_history.proofs.Places.{get_added, get_front, get_next, has_stands, has_at, has_before, stands_within, before_later, settled_later, before_front, stands_added, finds, found}
use Rattle.event_history.proofs.Trees.{some_child}
use Rattle.event_history.proofs.Ends.{early, last_has_child}
use Rattle.event_history.proofs.Histories.{started_registered, started_above, unfinished_above, before_start, open_start, unseen_below}

-- the spares registered before a place are not told by what stands from that place on
pub registered_front : (p : PlanParts) (h g : List Event) (i f : ℕ) → i ≤ length h → registered_before p (h ++ g) i f ≡ registered_before p h i f
registered_front p h g i f le = ap (λ (l : List Event). count_below (λ c. is_spare_of p f c && has Registered c l) (size p.tree)) (take-append-le i h g le)

module _ (p : PlanParts) (tree : IsPlanTree p.tree) (replies : ℕ → List Reply) (workers : ℕ) (h : List Event) (e : Event) (legal : IsLegal p replies workers h) where
  pub may_fresh : (k : EventKind) → ByKind p replies h e k → has k e.node h ≡ false
  may_fresh Started m = m.unopened.unstarted
  may_fresh Finished m = m.unfinished
  may_fresh Skipped m = m.unopened.unskipped
  may_fresh Registered m = m.fresh

  may_start_above : (k : EventKind) (a : ℕ) → ByKind p replies h e k → Below p.tree a e.node → StandsBefore h (length h) Started a
  may_start_above Started a m b = before_start p replies workers h legal tree a e.node m.unopened.parent b
  may_start_above Finished a m b = started_above p replies workers h legal a e.node b m.started
  may_start_above Skipped a m b = before_start p replies workers h legal tree a e.node m.unopened.parent b
  may_start_above Registered a m b = before_start p replies workers h legal tree a e.node m.parent b

  may_open_above : (k : EventKind) (a : ℕ) → ByKind p replies h e k → Below p.tree a e.node → StandsBefore h (length h) Finished a → ⊥
  may_open_above Started a m b s = open_start p replies workers h legal tree a e.node m.unopened.parent b s
  may_open_above Finished a m b s = unfinished_above p replies workers h legal tree a e.node b m.started m.unfinished s
  may_open_above Skipped a m b s = open_start p replies workers h legal tree a e.node m.unopened.parent b s
  may_open_above Registered a m b s = open_start p replies workers h legal tree a e.node m.parent b s

  -- what holds of each event so far, and of the new one
  added_each : (P : Event → Type 0) → ((i : ℕ) (f : Event) → slice_get h i ≡ Some f → P f) → P e → (i : ℕ) (f : Event) → slice_get (h ++ e ∷ []) i ≡ Some f → P f
  added_each P old new i f q = elim (get_added h e f i q) [ inl a ↦ old i f a | inr b ↦ subst P (sym b.1) new ]

  module _ (may : MayFollow p replies workers h e) where
    by : (k : EventKind) → e.kind ≡ k → ByKind p replies h e k
    by k q = subst (ByKind p replies h e) q may.by_kind

    added_apart : (i : ℕ) (k : EventKind) (n : ℕ) → StandsAt h i k n → e.kind ≡ k → e.node ≡ n → ⊥
    added_apart i k n s a b = both_ways (has k n h) (subst (λ (m : ℕ). has k m h ≡ false) b (may_fresh k (by k a))) (has_at s)

    added_once : (i j n : ℕ) (k : EventKind) → StandsAt (h ++ e ∷ []) i k n → StandsAt (h ++ e ∷ []) j k n → i ≡ j
    added_once i j n k s t =
        elim (stands_added h e i k n s) [
          | inl a ↦ elim (stands_added h e j k n t) [ inl b ↦ legal.once i j n k a b | inr b ↦ absurd (added_apart i k n a b.1 b.2) ]
          | inr a ↦ elim (stands_added h e j k n t) [ inl b ↦ absurd (added_apart j k n b a.1 a.2) | inr b ↦ a.0 ∙ sym b.0 ]
        ]

    -- a node that is stopped so far stays so, and what is stopped now was, if it had finished
    stopped_later : (a : ℕ) → IsStopped p h a → IsStopped p (h ++ e ∷ []) a
    stopped_later a s = record {
      body = s.body;
      place = s.place;
      finish = record { event = s.finish.event; here = get_front h (e ∷ []) s.finish.event s.place s.finish.here; kind = s.finish.kind; node = s.finish.node };
      status = s.status;
      ends = s.ends;
      unsuccessful = s.unsuccessful;
      silent = λ j f q b. elim (get_added h e f j q) [
        | inl x ↦ s.silent j f x b
        | inr x ↦ may_open_above e.kind a may.by_kind (subst (λ (y : Event). Below p.tree a y.node) x.1 b) (record { place = s.place; before = stands_within s.finish; stands = s.finish })
      ];
    }

    stopped_earlier : (i a : ℕ) → StandsAt h i Finished a → IsStopped p (h ++ e ∷ []) a → IsStopped p h a
    stopped_earlier i a old s =
        elim (get_added h e s.finish.event s.place s.finish.here) [
          | inl x ↦ record {
            body = s.body;
            place = s.place;
            finish = record { event = s.finish.event; here = x; kind = s.finish.kind; node = s.finish.node };
            status = s.status;
            ends = s.ends;
            unsuccessful = s.unsuccessful;
            silent = λ j f q b. s.silent j f (get_front h (e ∷ []) f j q) b;
          }
          | inr x ↦ absurd (added_apart i Finished a old (subst (λ (y : Event). y.kind ≡ Finished) x.1 s.finish.kind) (subst (λ (y : Event). y.node ≡ a) x.1 s.finish.node))
        ]

    added_after_start : (i n : ℕ) → StandsAt (h ++ e ∷ []) i Finished n → StandsBefore (h ++ e ∷ []) i Started n
    added_after_start i n s =
        elim (stands_added h e i Finished n s) [
          | inl a ↦ before_later (e ∷ []) (legal.after_start i n a)
          | inr b ↦ (let m : MayFinish p replies h e = by Finished b.1 in
              before_later (e ∷ []) (subst (λ (x : ℕ). StandsBefore h x Started n) (sym b.0) (subst (λ (x : ℕ). StandsBefore h (length h) Started x) b.2 (has_before Started e.node h m.started))))
        ]

    added_apart_kinds : (i j n : ℕ) → StandsAt (h ++ e ∷ []) i Started n → StandsAt (h ++ e ∷ []) j Skipped n → ⊥
    added_apart_kinds i j n s t =
        elim (stands_added h e i Started n s) [
          | inl a ↦ elim (stands_added h e j Skipped n t) [
            | inl b ↦ legal.apart i j n a b
            | inr b ↦ (let m : MaySkip p h e.node = by Skipped b.1 in both_ways (has Started n h) (subst (λ (x : ℕ). has Started x h ≡ false) b.2 m.unopened.unstarted) (has_at a))
          ]
          | inr a ↦ elim (stands_added h e j Skipped n t) [
            | inl b ↦ (let m : MayStart p h e.node e.worker = by Started a.1 in both_ways (has Skipped n h) (subst (λ (x : ℕ). has Skipped x h ≡ false) a.2 m.unopened.unskipped) (has_at b))
            | inr b ↦ other_kind (sym a.1 ∙ b.1)
          ]
        ]
      where
        other_kind : Started ≡ Skipped → ⊥
        other_kind q = cc

    added_registered : (i n : ℕ) → StandsAt (h ++ e ∷ []) i Registered n → (is_spare_at p.tree n && pulls_job p (parent_of p.tree n)) ≡ true
    added_registered i n s =
        elim (stands_added h e i Registered n s) [
          | inl a ↦ legal.registered i n a
          | inr b ↦ (let m : MayRegister p h e.node = by Registered b.1 in subst (λ (x : ℕ). (is_spare_at p.tree x && pulls_job p (parent_of p.tree x)) ≡ true) b.2 m.spare)
        ]

    may_registered : (k : EventKind) → ByKind p replies h e k → is_spare_at p.tree e.node ≡ true → (k ≡ Registered) ⊎ StandsBefore h (length h) Registered e.node
    may_registered Started m spare = inr (has_before Registered e.node h (m.unopened.registered spare))
    may_registered Finished m spare = inr (started_registered p replies workers h legal e.node spare m.started)
    may_registered Skipped m spare = inr (has_before Registered e.node h (m.unopened.registered spare))
    may_registered Registered m spare = inl refl

    added_after_registered : (i : ℕ) (f : Event) → slice_get (h ++ e ∷ []) i ≡ Some f → is_spare_at p.tree f.node ≡ true → (f.kind ≡ Registered) ⊎ StandsBefore (h ++ e ∷ []) i Registered f.node
    added_after_registered i f q spare =
        elim (get_added h e f i q) [
          | inl x ↦ elim (legal.after_registered i f x spare) [ inl r ↦ inl r | inr r ↦ inr (before_later (e ∷ []) r) ]
          | inr x ↦ elim (may_registered e.kind may.by_kind (subst (λ (y : Event). is_spare_at p.tree y.node ≡ true) x.1 spare)) [
            | inl r ↦ inl (subst (λ (y : Event). y.kind ≡ Registered) (sym x.1) r)
            | inr r ↦ inr (before_later (e ∷ []) (subst (λ (y : Event). StandsBefore h i Registered y.node) (sym x.1) (subst (λ (j : ℕ). StandsBefore h j Registered e.node) (sym x.0) r)))
          ]
        ]

    added_elders : (i c d : ℕ) → StandsAt (h ++ e ∷ []) i Registered d → IsElder p.tree c d → StandsBefore (h ++ e ∷ []) i Registered c
    added_elders i c d s elder =
        elim (stands_added h e i Registered d s) [
          | inl a ↦ before_later (e ∷ []) (legal.elder_registered i c d a elder)
          | inr b ↦ (let m : MayRegister p h e.node = by Registered b.1 in
              before_later (e ∷ []) (subst (λ (x : ℕ). StandsBefore h x Registered c) (sym b.0) (has_before Registered c h (m.elders c (subst (λ (x : ℕ). IsElder p.tree c x) (sym b.2) elder)))))
        ]

    added_start_above : (i a : ℕ) (f : Event) → slice_get (h ++ e ∷ []) i ≡ Some f → Below p.tree a f.node → StandsBefore (h ++ e ∷ []) i Started a
    added_start_above i a f q below =
        elim (get_added h e f i q) [
          | inl x ↦ before_later (e ∷ []) (legal.start_above i a f x below)
          | inr x ↦ before_later (e ∷ []) (subst (λ (y : ℕ). StandsBefore h y Started a) (sym x.0) (may_start_above e.kind a may.by_kind (subst (λ (y : Event). Below p.tree a y.node) x.1 below)))
        ]

    added_open_above : (i a : ℕ) (f : Event) → slice_get (h ++ e ∷ []) i ≡ Some f → Below p.tree a f.node → StandsBefore (h ++ e ∷ []) i Finished a → ⊥
    added_open_above i a f q below s =
        elim (get_added h e f i q) [
          | inl x ↦ (let lt : i < length h = slice_get_within h i f x in legal.open_above i a f x below (before_front h (e ∷ []) i Finished a (omega (arith, lt)) s))
          | inr x ↦ may_open_above e.kind a may.by_kind (subst (λ (y : Event). Below p.tree a y.node) x.1 below)
              (subst (λ (y : ℕ). StandsBefore h y Finished a) x.0 (before_front h (e ∷ []) i Finished a (omega (arith, x.0)) s))
        ]

    -- what stood before a place of the list, or before the new event
    before_here : (i : ℕ) → i ≤ length h → take i (h ++ e ∷ []) ≡ take i h
    before_here i le = take-append-le i h (e ∷ []) le

    before_new : (i : ℕ) → i ≡ length h → take i (h ++ e ∷ []) ≡ h
    before_new i same = before_here i (omega (arith, same)) ∙ take_all i h (omega (arith, same))

    added_skipped : (i n : ℕ) → StandsAt (h ++ e ∷ []) i Skipped n → (is_disabled p.tree n ≡ true) ⊎ ((p.fail_fast ≡ true) × (p.tolerated < failures (take i (h ++ e ∷ []))))
    added_skipped i n s =
        elim (stands_added h e i Skipped n s) [
          | inl a ↦ elim (legal.skipped i n a) [ inl r ↦ inl r | inr r ↦ (let lt = stands_within a in inr (r.0, subst (λ (l : List Event). p.tolerated < failures l) (sym (before_here i (omega (arith, lt)))) r.1)) ]
          | inr b ↦ (let m : MaySkip p h e.node = by Skipped b.1 in
              elim m.reason [
                | inl r ↦ inl (subst (λ (x : ℕ). is_disabled p.tree x ≡ true) b.2 r)
                | inr r ↦ inr (r.0, subst (λ (l : List Event). p.tolerated < failures l) (sym (before_new i b.0)) r.1)
              ])
        ]

    added_unstarted : (i n : ℕ) → StandsAt (h ++ e ∷ []) i Started n → is_disabled p.tree n ≡ false
    added_unstarted i n s =
        elim (stands_added h e i Started n s) [
          | inl a ↦ legal.unstarted i n a
          | inr b ↦ (let m : MayStart p h e.node e.worker = by Started b.1 in subst (λ (x : ℕ). is_disabled p.tree x ≡ false) b.2 m.enabled)
        ]

    added_quits : p.fail_fast ≡ true → (j : ℕ) (f : Event) → slice_get (h ++ e ∷ []) j ≡ Some f → f.kind ≡ Started → known f.worker (up_to f.worker (take j (h ++ e ∷ []))) ≤ p.tolerated
    added_quits fast j f q start =
        elim (get_added h e f j q) [
          | inl x ↦ (let lt = slice_get_within h j f x in
              subst (λ (l : List Event). known f.worker (up_to f.worker l) ≤ p.tolerated) (sym (before_here j (omega (arith, lt)))) (legal.quits fast j f x start))
          | inr x ↦ (let m : MayStart p h e.node e.worker = by Started (subst (λ (z : Event). z.kind ≡ Started) x.1 start) in
              subst (λ (z : Event). known z.worker (up_to z.worker (take j (h ++ e ∷ []))) ≤ p.tolerated) (sym x.1)
              (subst (λ (l : List Event). known e.worker (up_to e.worker l) ≤ p.tolerated) (sym (before_new j x.0)) (m.unknown fast)))
        ]

    unregistered_later : (a c : ℕ) → IsChild p.tree a c → has Finished a h ≡ true → IsUnregistered p h c → IsUnregistered p (h ++ e ∷ []) c
    unregistered_later a c ch done u = record {
      spare = u.spare;
      never = λ i s. elim (stands_added h e i Registered c s) [
        | inl x ↦ u.never i x
        | inr x ↦ (let m : MayRegister p h e.node = by Registered x.1 in
            let parent : parent_of p.tree e.node ≡ a = ap (parent_of p.tree) x.2 ∙ ch.parent in
            both_ways (has Finished a h) (subst (λ (y : ℕ). has Finished y h ≡ false) parent (m.parent.parent_open (subst (λ (y : ℕ). 0 < y) (sym x.2) ch.above_zero))) done)
      ];
    }

    unregistered_new : (c : ℕ) → e.kind ≡ Finished → is_spare_at p.tree c ≡ true → has Registered c h ≡ false → IsUnregistered p (h ++ e ∷ []) c
    unregistered_new c k spare unseen = record {
      spare = spare;
      never = λ i s. elim (stands_added h e i Registered c s) [
        | inl x ↦ both_ways (has Registered c h) unseen (has_at x)
        | inr x ↦ other_kind (sym k ∙ x.1)
      ];
    }
      where
        other_kind : Finished ≡ Registered → ⊥
        other_kind q = cc

    -- the new finish stops its node, where nothing stands for the children
    module _ (k : e.kind ≡ Finished) (m : MayFinish p replies h e) where
      silent_below : ChildrenOk p h e.node true → (j : ℕ) (f : Event) → slice_get (h ++ e ∷ []) j ≡ Some f → Below p.tree e.node f.node → ⊥
      silent_below unseen j f q b =
          elim (get_added h e f j q) [
            | inl x ↦ unseen_below p replies workers h legal e.node unseen j f x b
            | inr x ↦ (let s = has_stands Started e.node h m.started in
                unseen_below p replies workers h legal e.node unseen s.0 s.1.event s.1.here (subst (λ (y : ℕ). Below p.tree e.node y) (ap (λ (z : Event). z.node) x.1 ∙ sym s.1.node) b))
          ]

      new_stopped : ChildrenOk p h e.node true → Ends replies (jobs_of p e.node) true (registered_in p h e.node) m.status m.text → IsStopped p (h ++ e ∷ []) e.node
      new_stopped unseen ends =
          let r = early replies (jobs_of p e.node) m.status m.text ends in
          record {
            body = r.0;
            place = length h;
            finish = record { event = e; here = get_next h e []; kind = k; node = refl };
            status = m.status;
            ends = m.here;
            unsuccessful = r.1;
            silent = silent_below unseen;
          }

      -- a child that is settled, or is a spare, keeps a node that goes on from being stopped
      new_unstopped : ChildrenOk p h e.node false → Ends replies (jobs_of p e.node) false (registered_in p h e.node) m.status m.text → IsStopped p (h ++ e ∷ []) e.node → ⊥
      new_unstopped done ends s =
          elim (get_added h e s.finish.event s.place s.finish.here) [
            | inl x ↦ added_apart s.place Finished e.node (record { event = s.finish.event; here = x; kind = s.finish.kind; node = s.finish.node }) k refl
            | inr x ↦ (let status : s.status ≡ m.status = same_Some s.status m.status (sym s.ends ∙ ap (λ (y : Event). y.status) x.1 ∙ m.here) in
                let r = last_has_child p replies e.node (registered_in p h e.node) m.status m.text ends s.body (subst (λ (y : Status). is_successful y ≡ false) status s.unsuccessful) in
                let c = some_child p e.node r.0 in
                elim (done c.0 c.1) [
                  | inl t ↦ elim (or_cases (has Finished c.0 h) (has Skipped c.0 h) t) [
                    | inl u ↦ seen c.0 c.1 Finished (has_stands Finished c.0 h u)
                    | inr u ↦ seen c.0 c.1 Skipped (has_stands Skipped c.0 h u)
                  ]
                  | inr t ↦ sorts (sym (subst (λ (y : ℕ). sort_of p.tree y ≡ Maker) c.1.parent (tree.spare_factory c.0 t.0)) ∙ r.1)
                ])
          ]
        where
          seen : (c : ℕ) → IsChild p.tree e.node c → (l : EventKind) → (i : ℕ) × StandsAt h i l c → ⊥
          seen c ch l t = s.silent t.0 t.1.event (get_front h (e ∷ []) t.1.event t.0 t.1.here) (subst (λ (y : ℕ). Below p.tree e.node y) (sym t.1.node) (Below.child ch))

          sorts : Maker ≡ Holder → ⊥
          sorts q = cc

      new_stops : (b : Bool) → ChildrenOk p h e.node b → Ends replies (jobs_of p e.node) b (registered_in p h e.node) m.status m.text → StoppedIs p (h ++ e ∷ []) e.node b
      new_stops true ok ends = new_stopped ok ends
      new_stops false ok ends = new_unstopped ok ends

      new_settled : (c : ℕ) → (b : Bool) → ChildrenOk p h e.node b → Ends replies (jobs_of p e.node) b (registered_in p h e.node) m.status m.text
          → (IsStopped p (h ++ e ∷ []) e.node → ⊥) → IsChild p.tree e.node c → IsSettledAt h (length h) c ⊎ IsUnregistered p (h ++ e ∷ []) c
      new_settled c true ok ends go ch = absurd (go (new_stopped ok ends))
      new_settled c false ok ends go ch =
          elim (ok c ch) [
            | inl t ↦ inl (elim (or_cases (has Finished c h) (has Skipped c h) t) [ inl u ↦ inl (has_before Finished c h u) | inr u ↦ inr (has_before Skipped c h u) ])
            | inr t ↦ inr (unregistered_new c k t.0 t.1)
          ]

      registered_here : registered_in p h e.node ≡ registered_before p (h ++ e ∷ []) (length h) e.node
      registered_here =
          sym (registered_front p h (e ∷ []) (length h) e.node (omega arith)
          ∙ ap (λ (l : List Event). count_below (λ c. is_spare_of p e.node c && has Registered c l) (size p.tree)) (take_all (length h) h (omega arith)))

      new_result : HasResult p replies (h ++ e ∷ []) (length h) e m.text
      new_result = record {
        status = m.status;
        here = m.here;
        stopped = m.stopped;
        stops = new_stops m.stopped m.children m.lawful;
        lawful = subst (λ (r : ℕ). Ends replies (jobs_of p e.node) m.stopped r m.status m.text) registered_here m.lawful;
      }

    added_settled : (i a c : ℕ) → StandsAt (h ++ e ∷ []) i Finished a → (IsStopped p (h ++ e ∷ []) a → ⊥) → IsChild p.tree a c → IsSettledAt (h ++ e ∷ []) i c ⊎ IsUnregistered p (h ++ e ∷ []) c
    added_settled i a c s go ch =
        elim (stands_added h e i Finished a s) [
          | inl x ↦ elim (legal.settled i a c x (λ t. go (stopped_later a t)) ch) [ inl r ↦ inl (settled_later (e ∷ []) r) | inr u ↦ inr (unregistered_later a c ch (has_at x) u) ]
          | inr x ↦ (let m : MayFinish p replies h e = by Finished x.1 in
              elim (new_settled x.1 m c m.stopped m.children m.lawful (subst (λ (y : ℕ). IsStopped p (h ++ e ∷ []) y → ⊥) (sym x.2) go) (subst (λ (y : ℕ). IsChild p.tree y c) (sym x.2) ch)) [
                | inl r ↦ inl (settled_later (e ∷ []) (subst (λ (y : ℕ). IsSettledAt h y c) (sym x.0) r))
                | inr u ↦ inr u
              ])
        ]

    result_later : (i : ℕ) (f : Event) (text : Option (List ℕ)) → slice_get h i ≡ Some f → f.kind ≡ Finished → HasResult p replies h i f text → HasResult p replies (h ++ e ∷ []) i f text
    result_later i f text q k r =
        let lt : i < length h = slice_get_within h i f q in
        record {
          status = r.status;
          here = r.here;
          stopped = r.stopped;
          stops = stops r.stopped r.stops;
          lawful = subst (λ (x : ℕ). Ends replies (jobs_of p f.node) r.stopped x r.status text) (sym (registered_front p h (e ∷ []) i f.node (omega (arith, lt)))) r.lawful;
        }
      where
        stops : (b : Bool) → StoppedIs p h f.node b → StoppedIs p (h ++ e ∷ []) f.node b
        stops true s = stopped_later f.node s
        stops false s = λ t. s (stopped_earlier i f.node (record { event = f; here = q; kind = k; node = refl }) t)

    added_result : (i : ℕ) (f : Event) → slice_get (h ++ e ∷ []) i ≡ Some f → f.kind ≡ Finished → (text : Option (List ℕ)) × HasResult p replies (h ++ e ∷ []) i f text
    added_result i f q k =
        elim (get_added h e f i q) [
          | inl x ↦ (let r = legal.result i f x k in (r.0, result_later i f r.0 x k r.1))
          | inr x ↦ (let new : e.kind ≡ Finished = subst (λ (y : Event). y.kind ≡ Finished) x.1 k in
              let m : MayFinish p replies h e = by Finished new in
              (m.text, subst (λ (y : Event). HasResult p replies (h ++ e ∷ []) i y m.text) (sym x.1) (subst (λ (j : ℕ). HasResult p replies (h ++ e ∷ []) j e m.text) (sym x.0) (new_result new m))))
        ]

    -- A legal history stays legal with an event that may follow.
    pub legal_added : IsLegal p replies workers (h ++ e ∷ [])
    legal_added = record {
      lawful = added_each (λ x. is_lawful x ≡ true) legal.lawful may.lawful;
      nodes = added_each (λ x. x.node < size p.tree) legal.nodes may.inside;
      by_workers = added_each (λ x. x.worker ≤ workers) legal.by_workers may.by_worker;
      once = added_once;
      apart = added_apart_kinds;
      after_start = added_after_start;
      registered = added_registered;
      after_registered = added_after_registered;
      elder_registered = added_elders;
      start_above = added_start_above;
      open_above = added_open_above;
      skipped = added_skipped;
      unstarted = added_unstarted;
      below_skipped = λ i j a f s q b. (let up = added_start_above j a f q b in added_apart_kinds up.place i a up.stands s);
      quits = added_quits;
      settled = added_settled;
      result = added_result;
    }

-- the history without events
pub legal_nil : (p : PlanParts) (replies : ℕ → List Reply) (workers : ℕ) → IsLegal p replies workers []
legal_nil p replies workers = record {
  lawful = λ i e q. absurd (none-some e q);
  nodes = λ i e q. absurd (none-some e q);
  by_workers = λ i e q. absurd (none-some e q);
  once = λ i j n k s t. absurd (none-some s.event s.here);
  apart = λ i j n s t. none-some s.event s.here;
  after_start = λ i n s. absurd (none-some s.event s.here);
  registered = λ i n s. absurd (none-some s.event s.here);
  after_registered = λ i e q s. absurd (none-some e q);
  elder_registered = λ i c d s e. absurd (none-some s.event s.here);
  start_above = λ i a e q b. absurd (none-some e q);
  open_above = λ i a e q b s. none-some e q;
  skipped = λ i n s. absurd (none-some s.event s.here);
  unstarted = λ i n s. absurd (none-some s.event s.here);
  below_skipped = λ i j a e s q b. none-some e q;
  quits = λ fast j f q start. absurd (none-some f q);
  settled = λ i a c f go ch. absurd (none-some f.event f.here);
  result = λ i e q k. absurd (none-some e q);
}
