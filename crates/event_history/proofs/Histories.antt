-- What a legal history has above and below a node.
use Rattle.std.proofs.Common.{◌≡◌, ℕ, ◌<◌, ◌≤◌, Bool, true, false, List, length, Option, Some, slice_get, ◌⊎◌, inl, inr, refl, sym, ◌∙◌, subst, arith, lt_trans}
use Rattle.std.proofs.lemmas.Bool.{both_ways}
use Rattle.descriptor.specs.Nodes.{IsChild, Below, child, under, is_spare_at}
use Rattle.plan_events.specs.declared.event.EventKind.{EventKind}
use Rattle.plan_events.specs.declared.event.EventKind.TheVariants.{Started, Finished, Skipped, Registered}
use Rattle.plan_events.specs.declared.event.Event.{Event}
use Rattle.plan_events.specs.declared.outcome.Reply.{Reply}
use Rattle.resource_locks.specs.Plans.{PlanParts}
use Rattle.event_history.specs.Plans.{IsPlanTree}
use Rattle.event_history.specs.Places.{StandsAt, StandsBefore, IsSettledAt, has}
use Rattle.event_history.specs.History.{IsStopped, StoppedIs, IsUnregistered, HasResult, IsLegal, IsBarred}
use Rattle.event_history.specs.Inside.Following.{IsParentOpen}
use Rattle.event_history.proofs.Places.{has_stands, has_at, has_before, stands_within, before_more, settled_more}

module _ (p : PlanParts) (replies : ℕ → List Reply) (workers : ℕ) (h : List Event) (legal : IsLegal p replies workers h) where
  -- a finished node is stopped, or is not
  pub stopped_cases : (i a : ℕ) → StandsAt h i Finished a → IsStopped p h a ⊎ (IsStopped p h a → ⊥)
  stopped_cases i a s = subst (λ (n : ℕ). IsStopped p h n ⊎ (IsStopped p h n → ⊥)) s.node (go (legal.result i s.event s.here s.kind).1.stopped (legal.result i s.event s.here s.kind).1.stops)
    where
      go : (b : Bool) → StoppedIs p h s.event.node b → IsStopped p h s.event.node ⊎ (IsStopped p h s.event.node → ⊥)
      go true r = inl r
      go false r = inr r

  -- a node that has started is not skipped
  pub started_unskipped : (i n : ℕ) → has Started n h ≡ true → StandsAt h i Skipped n → ⊥
  started_unskipped i n q s = (let start = has_stands Started n h q in legal.apart start.0 i n start.1 s)

  -- a spare that has started was registered
  pub started_registered : (n : ℕ) → is_spare_at p.tree n ≡ true → has Started n h ≡ true → StandsBefore h (length h) Registered n
  started_registered n spare q =
      let s = has_stands Started n h q in
      elim (legal.after_registered s.0 s.1.event s.1.here (subst (λ (x : ℕ). is_spare_at p.tree x ≡ true) (sym s.1.node) spare)) [
        | inl other ↦ absurd (kinds (sym s.1.kind ∙ other))
        | inr r ↦ before_more (within s.0 (stands_within s.1)) (subst (λ (x : ℕ). StandsBefore h s.0 Registered x) s.1.node r)
      ]
    where
      kinds : Started ≡ Registered → ⊥
      kinds q = cc

      within : (i : ℕ) → i < length h → i ≤ length h
      within i lt = omega (arith, lt)

  -- above a node that has started, every node has started
  pub started_above : (a x : ℕ) → Below p.tree a x → has Started x h ≡ true → StandsBefore h (length h) Started a
  started_above a x b q =
      let s = has_stands Started x h q in
      let up = legal.start_above s.0 a s.1.event s.1.here (subst (λ (y : ℕ). Below p.tree a y) (sym s.1.node) b) in
      record { place = up.place; before = lt_trans up.before (stands_within s.1); stands = up.stands }

  -- and no node above it is stopped
  pub unstopped_above : (a x : ℕ) → Below p.tree a x → has Started x h ≡ true → IsStopped p h a → ⊥
  unstopped_above a x b q f = (let s = has_stands Started x h q in f.silent s.0 s.1.event s.1.here (subst (λ (y : ℕ). Below p.tree a y) (sym s.1.node) b))

  -- and none is skipped
  pub unskipped_above : (i a x : ℕ) → Below p.tree a x → has Started x h ≡ true → StandsAt h i Skipped a → ⊥
  unskipped_above i a x b q f =
      let s = has_stands Started x h q in
      legal.below_skipped i s.0 a s.1.event f s.1.here (subst (λ (y : ℕ). Below p.tree a y) (sym s.1.node) b)

  -- and it is not below one that is skipped or stopped
  pub unbarred : (x : ℕ) → has Started x h ≡ true → IsBarred p h x → ⊥
  unbarred x q bar = elim bar.1.0 [ inl t ↦ unskipped_above t.0 bar.0 x bar.1.1 q t.1 | inr t ↦ unstopped_above bar.0 x bar.1.1 q t ]

  -- a spare that has started is not unregistered
  pub started_known : (n : ℕ) → has Started n h ≡ true → IsUnregistered p h n → ⊥
  started_known n q u = (let r = started_registered n u.spare q in u.never r.place r.stands)

  module _ (tree : IsPlanTree p.tree) where
    -- below a finished node that is not stopped, each node is settled before, or lies below one that is stopped or skipped
    pub finished_below : (a x i : ℕ) → Below p.tree a x → StandsAt h i Finished a → (IsStopped p h a → ⊥) → IsSettledAt h i x ⊎ (IsBarred p h x ⊎ IsUnregistered p h x)
    finished_below a x i (child c) f go = elim (legal.settled i a x f go c) [ inl s ↦ inl s | inr u ↦ inr (inr u) ]
    finished_below a x i (under {c = m} b c) f go =
        elim (finished_below a m i b f go) [
          | inl s ↦ elim s [ inl done ↦ after done | inr skip ↦ inr (inl (m, (inl (skip.place, skip.stands), child c))) ]
          | inr r ↦ elim r [ inl bar ↦ inr (inl (bar.0, (bar.1.0, under bar.1.1 c))) | inr u ↦ absurd (tree.leaf m x c (tree.spare_leaf m u.spare)) ]
        ]
      where
        after : StandsBefore h i Finished m → IsSettledAt h i x ⊎ (IsBarred p h x ⊎ IsUnregistered p h x)
        after s =
            let lt : s.place < i = s.before in
            elim (stopped_cases s.place m s.stands) [
              | inl stop ↦ inr (inl (m, (inr stop, child c)))
              | inr goes ↦ elim (legal.settled s.place m x s.stands goes c) [ inl t ↦ inl (settled_more s.place i x (omega (arith, lt)) t) | inr u ↦ inr (inr u) ]
            ]

    -- where a node has started, and one above it has finished, it finished before that
    pub finished_first : (a x i : ℕ) → Below p.tree a x → has Started x h ≡ true → StandsAt h i Finished a → StandsBefore h i Finished x
    finished_first a x i b q s =
        elim (stopped_cases i a s) [
          | inl stop ↦ absurd (unstopped_above a x b q stop)
          | inr go ↦ elim (finished_below a x i b s go) [
            | inl done ↦ elim done [ inl t ↦ t | inr t ↦ absurd (started_unskipped t.place x q t.stands) ]
            | inr r ↦ elim r [ inl bar ↦ absurd (unbarred x q bar) | inr u ↦ absurd (started_known x q u) ]
          ]
        ]

    -- above a node that has started and not finished, none has finished
    pub unfinished_above : (a x : ℕ) → Below p.tree a x → has Started x h ≡ true → has Finished x h ≡ false → StandsBefore h (length h) Finished a → ⊥
    unfinished_above a x b q r s = both_ways (has Finished x h) r (has_at (finished_first a x s.place b q s.stands).stands)

    -- of a node whose parent is open: every node above it has started, and none has finished or is stopped
    pub before_start : (a n : ℕ) → IsParentOpen p h n → Below p.tree a n → StandsBefore h (length h) Started a
    before_start a n m (child c) = has_before Started a h (subst (λ (x : ℕ). has Started x h ≡ true) c.parent (m.parent_started c.above_zero))
    before_start a n m (under {c = x} b c) = started_above a x b (subst (λ (y : ℕ). has Started y h ≡ true) c.parent (m.parent_started c.above_zero))

    pub open_start : (a n : ℕ) → IsParentOpen p h n → Below p.tree a n → StandsBefore h (length h) Finished a → ⊥
    open_start a n m (child c) s = both_ways (has Finished a h) (subst (λ (x : ℕ). has Finished x h ≡ false) c.parent (m.parent_open c.above_zero)) (has_at s.stands)
    open_start a n m (under {c = x} b c) s =
        unfinished_above a x b (subst (λ (y : ℕ). has Started y h ≡ true) c.parent (m.parent_started c.above_zero))
        (subst (λ (y : ℕ). has Finished y h ≡ false) c.parent (m.parent_open c.above_zero)) s

  -- where nothing stands for a child, nothing stands below
  pub unseen_below : (a : ℕ) → ((c : ℕ) → IsChild p.tree a c → (k : EventKind) → has k c h ≡ false) → (j : ℕ) (e : Event) → slice_get h j ≡ Some e → Below p.tree a e.node → ⊥
  unseen_below a unseen j e q b = go e.node b (inl (record { event = e; here = q; kind = refl; node = refl }))
    where
      go : (n : ℕ) → Below p.tree a n → StandsAt h j e.kind n ⊎ ((i : ℕ) × StandsAt h i Started n) → ⊥
      go n (child c) s = elim s [ inl t ↦ both_ways (has e.kind n h) (unseen n c e.kind) (has_at t) | inr t ↦ both_ways (has Started n h) (unseen n c Started) (has_at t.1) ]
      go n (under {c = m} b c) s =
          elim s [
            | inl t ↦ (let up = legal.start_above j m t.event t.here (subst (λ (y : ℕ). Below p.tree m y) (sym t.node) (child c)) in go m b (inr (up.place, up.stands)))
            | inr t ↦ (let up = legal.start_above t.0 m t.1.event t.1.here (subst (λ (y : ℕ). Below p.tree m y) (sym t.1.node) (child c)) in go m b (inr (up.place, up.stands)))
          ]

-- A legal history is legal by other replies too, if each result of it is.
module _ (p : PlanParts) (few more : ℕ → List Reply) (h : List Event) where
  pub legal_by : ((i : ℕ) (e : Event) (text : Option (List ℕ)) → HasResult p few h i e text → HasResult p more h i e text) → (workers : ℕ) → IsLegal p few workers h → IsLegal p more workers h
  legal_by results workers x = record {
    lawful = x.lawful;
    nodes = x.nodes;
    by_workers = x.by_workers;
    once = x.once;
    apart = x.apart;
    after_start = x.after_start;
    registered = x.registered;
    after_registered = x.after_registered;
    elder_registered = x.elder_registered;
    start_above = x.start_above;
    open_above = x.open_above;
    skipped = x.skipped;
    unstarted = x.unstarted;
    below_skipped = x.below_skipped;
    quits = x.quits;
    settled = x.settled;
    result = λ i e q finish. (let y = x.result i e q finish in (y.0, results i e y.0 y.1));
  }
