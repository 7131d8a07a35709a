-- Where each job has one reply and the plan does not fail fast, each node of a complete legal history has the result
-- that is expected of it.
use Rattle.std.specs.Option.{is_some}
use Rattle.std.proofs.Common.{◌≡◌, ℕ, zero, suc, ◌<◌, Bool, true, false, ◌&&◌, ◌||◌, leb, cond, List, Option, Some, None, slice_get, inl, inr, ◌⊎◌, refl, sym, ap, ◌∙◌, subst, arith}
use Rattle.std.proofs.lemmas.Option.{same_Some}
use Rattle.std.proofs.lemmas.Bool.{and_parts, and_from, cases_Bool, cases_lt, cases_eq, both_ways, false≢true, cond-true, cond-false, lt-leb, le-leb}
use Rattle.descriptor.specs.Nodes.{size, parent_of, IsChild, Below, child, is_disabled, body_of, is_factory_at, is_spare_at}
use Rattle.plan_events.specs.declared.event.EventKind.TheVariants.{Finished, Registered}
use Rattle.plan_events.specs.declared.status.Status.{Status}
use Rattle.plan_events.specs.declared.event.Event.{Event}
use Rattle.plan_events.specs.declared.outcome.Reply.{Reply}
use Rattle.resource_locks.specs.Plans.{PlanParts}
use Rattle.event_history.specs.Plans.{Sort, Leaf, Holder, Maker, spare_count, rank, pulls_job, sort_of, IsPlanTree}
use Rattle.event_history.specs.Places.{StandsAt, StandsBefore, IsSettledAt, IsSilent}
use Rattle.event_history.specs.Results.{Jobs, NoJob, Pulled, jobs_by, jobs_of, after_run, EndsEarly, EndsLast, Ends, HasPulls, HasTooMany}
use Rattle.event_history.specs.History.{StoppedIs, IsUnregistered, registered_before, HasResult, IsLegal, IsComplete}
use Rattle.event_history.specs.Expected.{Expected, Silent, Skips, Finishes, HasOneReply, is_closed, is_stopped_by, result_by, leaves, own_result, expected_by, expected, IsAsExpected}
use Rattle.event_history.proofs.Counting.{rank_less, rank_most, registered_most, rank_below}
use Rattle.event_history.proofs.OneReply.{Few, the_reply, early_is, last_is}
use Rattle.event_history.proofs.Roots.{plan_finished}

abbrev pub text_in : Expected → Option (List ℕ)
text_in (Finishes s t) = t
text_in _ = None

abbrev pub status_in : Expected → Option Status
status_in (Finishes s t) = Some s
status_in _ = None

-- the jobs of a factory
pub factory_jobs : (p : PlanParts) (f : ℕ) → sort_of p.tree f ≡ Maker → (jobs_of p f ≡ NoJob) ⊎ ((body : ℕ) × (jobs_of p f ≡ Pulled body (spare_count p f)))
factory_jobs p f q = elim (go (body_of p.tree f)) [ inl r ↦ inl (ap (λ (s : Sort). jobs_by s (body_of p.tree f) (after_run p f) (spare_count p f)) q ∙ r) | inr r ↦ inr (r.0, ap (λ (s : Sort). jobs_by s (body_of p.tree f) (after_run p f) (spare_count p f)) q ∙ r.1) ]
  where
    go : (body : Option ℕ) → (jobs_by Maker body (after_run p f) (spare_count p f) ≡ NoJob) ⊎ ((b : ℕ) × (jobs_by Maker body (after_run p f) (spare_count p f) ≡ Pulled b (spare_count p f)))
    go None = inl refl
    go (Some b) = inr (b, refl)

-- and of one with a job
pub pulled_jobs : (p : PlanParts) → IsPlanTree p.tree → (f : ℕ) → pulls_job p f ≡ true → (body : ℕ) × (jobs_of p f ≡ Pulled body (spare_count p f))
pulled_jobs p tree f q =
    let r = and_parts (is_factory_at p.tree f) (is_some (body_of p.tree f)) q in
    let jobs = go (body_of p.tree f) r.1 in
    (jobs.0, ap (λ (s : Sort). jobs_by s (body_of p.tree f) (after_run p f) (spare_count p f)) (tree.factory_sort f r.0) ∙ jobs.1)
  where
    go : (body : Option ℕ) → is_some body ≡ true → (b : ℕ) × (jobs_by Maker body (after_run p f) (spare_count p f) ≡ Pulled b (spare_count p f))
    go (Some b) q = (b, refl)
    go None q = absurd (false≢true q)

module _ (p : PlanParts) (tree : IsPlanTree p.tree) (reply : ℕ → Reply) (replies : ℕ → List Reply) (one : HasOneReply reply replies) (workers : ℕ) (h : List Event) (legal : IsLegal p replies workers h) where
  -- there are no more registered spares than spares
  few : (i n : ℕ) → Few (jobs_of p n) (registered_before p h i n)
  few i n = go (sort_of p.tree n) (body_of p.tree n) (after_run p n)
    where
      go : (sort : Sort) (body after : Option ℕ) → Few (jobs_by sort body after (spare_count p n)) (registered_before p h i n)
      go Leaf None after = tt
      go Leaf (Some b) after = tt
      go Holder body after = tt
      go Maker None after = tt
      go Maker (Some b) after = registered_most p replies workers h legal n i

  -- a finish's result, by whether its node is stopped
  pub result_is : (i : ℕ) (e : Event) (t : Option (List ℕ)) → (r : HasResult p replies h i e t) → (is_stopped_by reply (jobs_of p e.node) ≡ r.stopped) × (Finishes r.status t ≡ result_by reply (jobs_of p e.node))
  result_is i e t r = go r.stopped r.lawful
    where
      go : (b : Bool) → Ends replies (jobs_of p e.node) b (registered_before p h i e.node) r.status t → (is_stopped_by reply (jobs_of p e.node) ≡ b) × (Finishes r.status t ≡ result_by reply (jobs_of p e.node))
      go true ends = early_is reply replies one (jobs_of p e.node) r.status t ends
      go false ends = last_is reply replies one (jobs_of p e.node) (registered_before p h i e.node) r.status t (few i e.node) ends

  -- a finished node ends as its jobs answer
  pub finished_so : (i n : ℕ) → StandsAt h i Finished n → IsAsExpected p replies h n (result_by reply (jobs_of p n))
  finished_so i n s =
      let r = legal.result i s.event s.here s.kind in
      let e = result_is i s.event r.0 r.1 in
      subst (λ (m : ℕ). IsAsExpected p replies h n (result_by reply (jobs_of p m))) s.node (subst (IsAsExpected p replies h n) e.1
      (record {
        place = i;
        event = s.event;
        here = s.here;
        kind = s.kind;
        node = s.node;
        status_is = r.1.here;
        result = r.1;
        only = λ t u. ap text_in ((result_is i s.event t u).1 ∙ sym e.1);
      }))

  -- a spare of a finished factory is registered, or is left
  module _ (q n i : ℕ) (ch : IsChild p.tree q n) (finish : StandsAt h i Finished q) where
    -- what is known of a registered spare
    registered_first : (j : ℕ) → StandsAt h j Registered n → StandsBefore h i Registered n
    registered_first j s =
        elim (cases_lt j i) [
          | inl lt ↦ record { place = j; before = lt; stands = s }
          | inr le ↦ elim (cases_eq i j) [
            | inl same ↦ absurd (kinds (sym finish.kind ∙ ap (λ (x : Event). x.kind) (same_Some finish.event s.event (sym finish.here ∙ ap (slice_get h) same ∙ s.here)) ∙ s.kind))
            | inr ne ↦ absurd (legal.open_above j q s.event s.here (subst (λ (y : ℕ). Below p.tree q y) (sym s.node) (child ch)) (record { place = i; before = omega (arith, le, ne); stands = finish }))
          ]
        ]
      where
        kinds : Finished ≡ Registered → ⊥
        kinds q = cc

    ends_last : (stopped : Bool) (k : ℕ) (s : Status) (t : Option (List ℕ)) → Ends replies (jobs_of p q) stopped k s t → (body m : ℕ) → jobs_of p q ≡ Pulled body m → HasPulls replies body k s t ⊎ HasTooMany replies body m k s t
    ends_last true k s t ends body m e = absurd (subst (λ (j : Jobs). EndsEarly replies j s t) e ends)
    ends_last false k s t ends body m e = subst (λ (j : Jobs). EndsLast replies j k s t) e ends

    the_end : (body m : ℕ) → jobs_of p q ≡ Pulled body m → (((reply body).pulls ≡ registered_before p h i q) ⊎ ((registered_before p h i q ≡ m) × (m < (reply body).pulls)))
    the_end body m e =
        let r = legal.result i finish.event finish.here finish.kind in
        elim (ends_last r.1.stopped (registered_before p h i q) r.1.status r.0 (subst (λ (x : ℕ). Ends replies (jobs_of p x) r.1.stopped (registered_before p h i x) r.1.status r.0) finish.node r.1.lawful) body m e) [
          | inl u ↦ inl (ap (λ (x : Reply). x.pulls) (sym (the_reply reply replies one body u.place u.reply u.stands)) ∙ u.pulls)
          | inr u ↦ inr (u.all, subst (λ (x : Reply). m < x.pulls) (the_reply reply replies one body u.place u.reply u.stands) u.more)
        ]

    -- a registered spare is not left
    pub not_left : (j : ℕ) → StandsAt h j Registered n → leaves reply (jobs_of p q) (rank p n) ≡ false
    not_left j s =
        let r = and_parts (is_spare_at p.tree n) (pulls_job p (parent_of p.tree n)) (legal.registered j n s) in
        let b = pulled_jobs p tree q (subst (λ (x : ℕ). pulls_job p x ≡ true) ch.parent r.1) in
        let less = rank_less p replies workers h legal q i n r.0 ch (registered_first j s) in
        let below = rank_below p q n r.0 ch in
        ap (λ (x : Jobs). leaves reply x (rank p n)) b.1 ∙ test (rank p n) (reply b.0).pulls (elim (the_end b.0 (spare_count p q) b.1) [ inl u ↦ omega (arith, u, less) | inr u ↦ omega (arith, u.1, below) ])
      where
        test : (a c : ℕ) → a < c → leb c a ≡ false
        test a c lt = lt-leb c a lt

    -- and one that is not registered is left
    pub left_out : IsUnregistered p h n → leaves reply (jobs_of p q) (rank p n) ≡ true
    left_out u =
        elim (factory_jobs p q (subst (λ (x : ℕ). sort_of p.tree x ≡ Maker) ch.parent (tree.spare_factory n u.spare))) [
          | inl e ↦ ap (λ (x : Jobs). leaves reply x (rank p n)) e
          | inr b ↦ (let most = rank_most p replies workers h legal q i n u.spare ch (λ s. u.never s.place s.stands) in
              let below = rank_below p q n u.spare ch in
              ap (λ (x : Jobs). leaves reply x (rank p n)) b.1 ∙ le-leb (reply b.0).pulls (rank p n)
              (elim (the_end b.0 (spare_count p q) b.1) [ inl v ↦ omega (arith, v, most) | inr v ↦ absurd (omega (arith, v.0, most, below)) ]))
        ]

  module _ (slow : p.fail_fast ≡ false) where
    -- a settled node has its own result
    settled_so : (i n : ℕ) → IsSettledAt h i n → IsAsExpected p replies h n (own_result p reply n)
    settled_so i n (inl d) =
        let start = legal.after_start d.place n d.stands in
        let enabled = legal.unstarted start.place n start.stands in
        subst (IsAsExpected p replies h n) (sym (cond-false (is_disabled p.tree n) Skips (result_by reply (jobs_of p n)) enabled)) (finished_so d.place n d.stands)
    settled_so i n (inr d) =
        elim (legal.skipped d.place n d.stands) [
          | inl q ↦ subst (IsAsExpected p replies h n) (sym (cond-true (is_disabled p.tree n) Skips (result_by reply (jobs_of p n)) q)) (d.place, d.stands)
          | inr q ↦ absurd (both_ways p.fail_fast slow q.0)
        ]

    -- a child of a finished node
    module _ (q n i : ℕ) (ch : IsChild p.tree q n) (finish : StandsAt h i Finished q) where
      unleft : is_spare_at p.tree n ≡ true → leaves reply (jobs_of p q) (rank p n) ≡ true → IsSilent h n
      unleft spare leaf j e r node =
          elim (legal.after_registered j e r (subst (λ (x : ℕ). is_spare_at p.tree x ≡ true) (sym node) spare)) [
            | inl k ↦ both_ways (leaves reply (jobs_of p q) (rank p n)) (not_left q n i ch finish j (record { event = e; here = r; kind = k; node = node })) leaf
            | inr s ↦ both_ways (leaves reply (jobs_of p q) (rank p n)) (not_left q n i ch finish s.place (subst (λ (x : ℕ). StandsAt h s.place Registered x) node s.stands)) leaf
          ]

      below_event : (j : ℕ) (e : Event) → e.node ≡ n → Below p.tree q e.node
      below_event j e node = subst (λ (x : ℕ). Below p.tree q x) (sym node) (child ch)

      -- the child of a finished node, by whether that is stopped
      by_stop : (stopped : Bool) → StoppedIs p h q stopped → is_stopped_by reply (jobs_of p q) ≡ stopped
          → IsAsExpected p replies h n (cond (is_stopped_by reply (jobs_of p q) || (is_spare_at p.tree n && leaves reply (jobs_of p q) (rank p n))) Silent (own_result p reply n))
      by_stop true s e =
          subst (λ (b : Bool). IsAsExpected p replies h n (cond (b || (is_spare_at p.tree n && leaves reply (jobs_of p q) (rank p n))) Silent (own_result p reply n))) (sym e)
          (λ j f r node. s.silent j f r (below_event j f node))
      by_stop false s e =
          subst (λ (b : Bool). IsAsExpected p replies h n (cond (b || (is_spare_at p.tree n && leaves reply (jobs_of p q) (rank p n))) Silent (own_result p reply n))) (sym e)
          (elim (cases_Bool (is_spare_at p.tree n && leaves reply (jobs_of p q) (rank p n))) [
            | inl t ↦ (let u = and_parts (is_spare_at p.tree n) (leaves reply (jobs_of p q) (rank p n)) t in
                subst (IsAsExpected p replies h n) (sym (cond-true (is_spare_at p.tree n && leaves reply (jobs_of p q) (rank p n)) Silent (own_result p reply n) t)) (unleft u.0 u.1))
            | inr f ↦ subst (IsAsExpected p replies h n) (sym (cond-false (is_spare_at p.tree n && leaves reply (jobs_of p q) (rank p n)) Silent (own_result p reply n) f))
                (elim (legal.settled i q n finish s ch) [
                  | inl d ↦ settled_so i n d
                  | inr u ↦ absurd (both_ways (is_spare_at p.tree n && leaves reply (jobs_of p q) (rank p n)) f (and_from (is_spare_at p.tree n) (leaves reply (jobs_of p q) (rank p n)) u.spare (left_out q n i ch finish u)))
                ])
          ])

      below_finished : IsAsExpected p replies h n (cond (is_stopped_by reply (jobs_of p q) || (is_spare_at p.tree n && leaves reply (jobs_of p q) (rank p n))) Silent (own_result p reply n))
      below_finished =
          let r = legal.result i finish.event finish.here finish.kind in
          let e = result_is i finish.event r.0 r.1 in
          by_stop r.1.stopped (subst (λ (x : ℕ). StoppedIs p h x r.1.stopped) finish.node r.1.stops) (subst (λ (x : ℕ). is_stopped_by reply (jobs_of p x) ≡ r.1.stopped) finish.node e.0)

    -- below a node that is as expected, each child is
    below_so : (q n : ℕ) (x : Expected) → IsChild p.tree q n → IsAsExpected p replies h q x
        → IsAsExpected p replies h n (cond (is_closed x || is_stopped_by reply (jobs_of p q) || (is_spare_at p.tree n && leaves reply (jobs_of p q) (rank p n))) Silent (own_result p reply n))
    below_so q n Silent ch above = λ j e r node. (let up = legal.start_above j q e r (subst (λ (x : ℕ). Below p.tree q x) (sym node) (child ch)) in above up.place up.stands.event up.stands.here up.stands.node)
    below_so q n Skips ch above = λ j e r node. legal.below_skipped above.0 j q e above.1 r (subst (λ (x : ℕ). Below p.tree q x) (sym node) (child ch))
    below_so q n (Finishes s t) ch above = below_finished q n above.place ch (record { event = above.event; here = above.here; kind = above.kind; node = above.node })

    -- Each node is as expected, of so many levels that are enough.
    pub as_expected_by : IsComplete p h → (k n : ℕ) → n < k → n < size p.tree → IsAsExpected p replies h n (expected_by p reply k n)
    as_expected_by complete zero n lt inside = absurd (omega (arith, lt))
    as_expected_by complete (suc k) zero lt inside =
        let root = plan_finished p tree replies workers h legal complete in
        subst (IsAsExpected p replies h zero) (sym (cond-false (is_disabled p.tree zero) Skips (result_by reply (jobs_of p zero)) refl)) (finished_so root.0 0 root.1)
    as_expected_by complete (suc k) (suc n) lt inside =
        let up : parent_of p.tree (suc n) < suc n = tree.rooted.up (suc n) (omega arith) inside in
        below_so (parent_of p.tree (suc n)) (suc n) (expected_by p reply k (parent_of p.tree (suc n)))
        (record { above_zero = omega arith; inside = inside; parent = refl })
        (as_expected_by complete k (parent_of p.tree (suc n)) (omega (arith, up, lt)) (omega (arith, up, inside)))

    -- Each node of a complete legal history has the result that is expected of it.
    pub as_expected : IsComplete p h → (n : ℕ) → n < size p.tree → IsAsExpected p replies h n (expected p reply n)
    as_expected complete n inside = as_expected_by complete (suc n) n (omega arith) inside
