-- Whether a list of events is a legal history can be told by a test, event by event.
use Rattle.std.proofs.Common.{◌≡◌, ℕ, zero, suc, ◌<◌, Bool, true, false, ◌&&◌, ◌||◌, ◌==◌, not, ltb, leb, List, [], ◌∷◌, ◌++◌, Option, Some, None, slice_get, ◌⊎◌, inl, inr, refl, sym, subst, arith, append_assoc, append-nil}
use Rattle.std.proofs.lemmas.Option.{none-some, same_Some}
use Rattle.std.proofs.lemmas.Bool.{and_parts, and_from, or_cases, or_left, or_right, not-true, not_from_false, ltb-true, lt-ltb, leb-true, le-leb, eqb-true, eq-eqb, false≢true, cases_eq}
use Rattle.descriptor.specs.Nodes.{size, parent_of, IsChild, is_child, is_disabled, is_spare_at}
use Rattle.plan_events.specs.declared.event.EventKind.{EventKind}
use Rattle.plan_events.specs.declared.event.EventKind.TheVariants.{Started, Finished, Skipped, Registered}
use Rattle.plan_events.specs.declared.status.Status.{Status}
use Rattle.plan_events.specs.declared.status.Status.TheVariants.{Successful, Aborted, Failed}
use Rattle.plan_events.specs.declared.event.Event.{Event}
use Rattle.plan_events.specs.declared.outcome.Reply.{Reply}
use Rattle.plan_events.specs.Words.{is_lawful}
use Rattle.plan_events.specs.Statuses.{is_successful}
use Rattle.resource_locks.specs.Plans.{PlanParts}
use Rattle.event_history.specs.Plans.{IsElder, pulls_job, IsPlanTree}
use Rattle.event_history.specs.Places.{has}
use Rattle.event_history.specs.Results.{Jobs, NoJob, Alone, Pulled, Around, jobs_of, HasReply, HasAnswer, EndsEarly, EndsLast, Ends, too_many}
use Rattle.event_history.specs.History.{IsLegal}
use Rattle.event_history.specs.Failures.{failures, known, up_to}
use Rattle.event_history.specs.Inside.Following.{registered_in, IsParentOpen, IsUnopened, MayFinish, ChildrenOk, ByKind, MayFollow}
use Rattle.event_history.proofs.Trees.{is_child_test, test_is_child}
use Rattle.event_history.proofs.AddedEvent.{legal_added, legal_nil}
use Rattle.event_history.proofs.Front.{legal_front}
use Rattle.event_history.proofs.Needed.{needed}

abbrev pub implies : Bool → Bool → Bool
implies b c = not b || c

pub implies_use : (b c : Bool) → implies b c ≡ true → b ≡ true → c ≡ true
implies_use true c q r = q
implies_use false c q r = absurd (false≢true r)

pub implies_from : (b c : Bool) → (b ≡ true → c ≡ true) → implies b c ≡ true
implies_from true c f = f refl
implies_from false c f = refl

abbrev pub all_below : (ℕ → Bool) → ℕ → Bool
all_below q zero = true
all_below q (suc n) = q n && all_below q n

pub all_use : (q : ℕ → Bool) (n c : ℕ) → all_below q n ≡ true → c < n → q c ≡ true
all_use q zero c t lt = absurd (omega (arith, lt))
all_use q (suc n) c t lt =
    let r = and_parts (q n) (all_below q n) t in
    elim (cases_eq c n) [ inl s ↦ subst (λ (x : ℕ). q x ≡ true) (sym s) r.0 | inr ne ↦ all_use q n c r.1 (omega (arith, lt, ne)) ]

pub all_from : (q : ℕ → Bool) (n : ℕ) → ((c : ℕ) → c < n → q c ≡ true) → all_below q n ≡ true
all_from q zero each = refl
all_from q (suc n) each = and_from (q n) (all_below q n) (each n (omega arith)) (all_from q n (λ c lt. each c (omega (arith, lt))))

-- whether some reply passes
abbrev pub any_reply : (Reply → Bool) → List Reply → Bool
any_reply q [] = false
any_reply q (r ∷ more) = q r || any_reply q more

any_use : (q : Reply → Bool) (l : List Reply) → any_reply q l ≡ true → (i : ℕ) × ((r : Reply) × (slice_get l i ≡ Some r) × (q r ≡ true))
any_use q [] t = absurd (false≢true t)
any_use q (x ∷ l) t = elim (or_cases (q x) (any_reply q l) t) [ inl a ↦ (0, (x, refl, a)) | inr b ↦ (let r = any_use q l b in (suc r.0, (r.1.0, r.1.1, r.1.2))) ]

any_from : (q : Reply → Bool) (l : List Reply) (i : ℕ) (r : Reply) → slice_get l i ≡ Some r → q r ≡ true → any_reply q l ≡ true
any_from q [] i r s t = absurd (none-some r s)
any_from q (x ∷ l) zero r s t = or_left (q x) (any_reply q l) (subst (λ (y : Reply). q y ≡ true) (sym (same_Some x r s)) t)
any_from q (x ∷ l) (suc i) r s t = or_right (q x) (any_reply q l) (any_from q l i r s t)

abbrev pub same_status : Status → Status → Bool
same_status Successful Successful = true
same_status Aborted Aborted = true
same_status Failed Failed = true
same_status _ _ = false

status_use : (a b : Status) → same_status a b ≡ true → a ≡ b
status_use Successful Successful q = refl
status_use Aborted Aborted q = refl
status_use Failed Failed q = refl
status_use _ _ q = absurd (false≢true q)

status_refl : (a : Status) → same_status a a ≡ true
status_refl Successful = refl
status_refl Aborted = refl
status_refl Failed = refl

status_from : (a b : Status) → a ≡ b → same_status a b ≡ true
status_from a b q = subst (λ (x : Status). same_status a x ≡ true) q (status_refl a)

-- whether the job has a reply of this status
abbrev pub replies_so : (ℕ → List Reply) → ℕ → Status → Bool
replies_so replies job status = any_reply (λ r. same_status status r.outcome.status) (replies job)

abbrev pub answers_well : (ℕ → List Reply) → Option ℕ → Bool
answers_well replies None = true
answers_well replies (Some job) = replies_so replies job Successful

abbrev pub ends_early : (ℕ → List Reply) → Jobs → Status → Bool
ends_early replies (Around (Some body) after) status = replies_so replies body status && not (is_successful status)
ends_early replies _ status = false

abbrev pub ends_after : (ℕ → List Reply) → Option ℕ → Status → Bool
ends_after replies None status = same_status status Successful
ends_after replies (Some after) status = replies_so replies after status

abbrev pub ends_last : (ℕ → List Reply) → Jobs → ℕ → Status → Bool
ends_last replies NoJob k status = same_status status Successful
ends_last replies (Alone body) k status = replies_so replies body status
ends_last replies (Pulled body spares) k status =
    any_reply (λ r. same_status status r.outcome.status && (r.pulls == k)) (replies body)
    || ((k == spares) && (same_status status Failed && any_reply (λ r. ltb spares r.pulls) (replies body)))
ends_last replies (Around body after) k status = answers_well replies body && ends_after replies after status

abbrev pub ends : (ℕ → List Reply) → Jobs → Bool → ℕ → Option Status → Bool
ends replies jobs stopped k None = false
ends replies jobs true k (Some status) = ends_early replies jobs status
ends replies jobs false k (Some status) = ends_last replies jobs k status

module _ (replies : ℕ → List Reply) where
  reply_use : (job : ℕ) (s : Status) → replies_so replies job s ≡ true → (t : Option (List ℕ)) × HasReply replies job s t
  reply_use job s q =
      let r = any_use (λ r. same_status s r.outcome.status) (replies job) q in
      (Some r.1.0.outcome.text, record { place = r.0; reply = r.1.0; stands = r.1.1; status_is = status_use s r.1.0.outcome.status r.1.2; text_is = refl })

  reply_from : (job : ℕ) (s : Status) (t : Option (List ℕ)) → HasReply replies job s t → replies_so replies job s ≡ true
  reply_from job s t r = any_from (λ r. same_status s r.outcome.status) (replies job) r.place r.reply r.stands (status_from s r.reply.outcome.status r.status_is)

  well_use : (body : Option ℕ) → answers_well replies body ≡ true → (t : Option (List ℕ)) × HasAnswer replies body Successful t
  well_use None q = (None, (refl, refl))
  well_use (Some job) q = reply_use job Successful q

  well_from : (body : Option ℕ) (t : Option (List ℕ)) → HasAnswer replies body Successful t → answers_well replies body ≡ true
  well_from None t r = refl
  well_from (Some job) t r = reply_from job Successful t r

  early_use : (jobs : Jobs) (s : Status) → ends_early replies jobs s ≡ true → (t : Option (List ℕ)) × EndsEarly replies jobs s t
  early_use (Around (Some body) after) s q =
      let r = and_parts (replies_so replies body s) (not (is_successful s)) q in
      let a = reply_use body s r.0 in
      (a.0, record { answer = a.1; unsuccessful = not-true (is_successful s) r.1 })
  early_use (Around None after) s q = absurd (false≢true q)
  early_use NoJob s q = absurd (false≢true q)
  early_use (Alone body) s q = absurd (false≢true q)
  early_use (Pulled body spares) s q = absurd (false≢true q)

  early_from : (jobs : Jobs) (s : Status) (t : Option (List ℕ)) → EndsEarly replies jobs s t → ends_early replies jobs s ≡ true
  early_from (Around (Some body) after) s t r = and_from (replies_so replies body s) (not (is_successful s)) (reply_from body s t r.answer) (not_from_false (is_successful s) r.unsuccessful)
  early_from (Around None after) s t r = absurd r
  early_from NoJob s t r = absurd r
  early_from (Alone body) s t r = absurd r
  early_from (Pulled body spares) s t r = absurd r

  last_use : (jobs : Jobs) (k : ℕ) (s : Status) → ends_last replies jobs k s ≡ true → (t : Option (List ℕ)) × EndsLast replies jobs k s t
  last_use NoJob k s q = (None, (status_use s Successful q, refl))
  last_use (Alone body) k s q = reply_use body s q
  last_use (Pulled body spares) k s q =
      elim (or_cases (any_reply (λ r. same_status s r.outcome.status && (r.pulls == k)) (replies body)) ((k == spares) && (same_status s Failed && any_reply (λ r. ltb spares r.pulls) (replies body))) q) [
        | inl a ↦ (let r = any_use (λ r. same_status s r.outcome.status && (r.pulls == k)) (replies body) a in
            let u = and_parts (same_status s r.1.0.outcome.status) (r.1.0.pulls == k) r.1.2 in
            (Some r.1.0.outcome.text, inl (record { place = r.0; reply = r.1.0; stands = r.1.1; pulls = eqb-true r.1.0.pulls k u.1; status_is = status_use s r.1.0.outcome.status u.0; text_is = refl })))
        | inr b ↦ (let u = and_parts (k == spares) (same_status s Failed && any_reply (λ r. ltb spares r.pulls) (replies body)) b in
            let v = and_parts (same_status s Failed) (any_reply (λ r. ltb spares r.pulls) (replies body)) u.1 in
            let r = any_use (λ r. ltb spares r.pulls) (replies body) v.1 in
            (Some too_many, inr (record { all = eqb-true k spares u.0; place = r.0; reply = r.1.0; stands = r.1.1; more = ltb-true spares r.1.0.pulls r.1.2; status_is = status_use s Failed v.0; text_is = refl })))
      ]
  last_use (Around body None) k s q =
      let r = and_parts (answers_well replies body) (same_status s Successful) q in
      let a = well_use body r.0 in
      (a.0, (status_use s Successful r.1, a.1))
  last_use (Around body (Some after)) k s q =
      let r = and_parts (answers_well replies body) (replies_so replies after s) q in
      let a = well_use body r.0 in
      let b = reply_use after s r.1 in
      (b.0, ((a.0, a.1), b.1))

  last_from : (jobs : Jobs) (k : ℕ) (s : Status) (t : Option (List ℕ)) → EndsLast replies jobs k s t → ends_last replies jobs k s ≡ true
  last_from NoJob k s t r = status_from s Successful r.0
  last_from (Alone body) k s t r = reply_from body s t r
  last_from (Pulled body spares) k s t (inl r) =
      or_left (any_reply (λ r. same_status s r.outcome.status && (r.pulls == k)) (replies body)) _
      (any_from (λ r. same_status s r.outcome.status && (r.pulls == k)) (replies body) r.place r.reply r.stands
      (and_from (same_status s r.reply.outcome.status) (r.reply.pulls == k) (status_from s r.reply.outcome.status r.status_is) (eq-eqb r.reply.pulls k r.pulls)))
  last_from (Pulled body spares) k s t (inr r) =
      or_right (any_reply (λ r. same_status s r.outcome.status && (r.pulls == k)) (replies body)) _
      (and_from (k == spares) _ (eq-eqb k spares r.all)
      (and_from (same_status s Failed) _ (status_from s Failed r.status_is) (any_from (λ r. ltb spares r.pulls) (replies body) r.place r.reply r.stands (lt-ltb spares r.reply.pulls r.more))))
  last_from (Around body None) k s t r = and_from (answers_well replies body) (same_status s Successful) (well_from body t r.1) (status_from s Successful r.0)
  last_from (Around body (Some after)) k s t r = and_from (answers_well replies body) (replies_so replies after s) (well_from body r.0.0 r.0.1) (reply_from after s t r.1)

  ends_use : (jobs : Jobs) (b : Bool) (k : ℕ) (o : Option Status) → ends replies jobs b k o ≡ true → (s : Status) × ((o ≡ Some s) × ((t : Option (List ℕ)) × Ends replies jobs b k s t))
  ends_use jobs b k None q = absurd (false≢true q)
  ends_use jobs true k (Some s) q = (s, (refl, early_use jobs s q))
  ends_use jobs false k (Some s) q = (s, (refl, last_use jobs k s q))

  ends_from : (jobs : Jobs) (b : Bool) (k : ℕ) (s : Status) (t : Option (List ℕ)) → Ends replies jobs b k s t → ends replies jobs b k (Some s) ≡ true
  ends_from jobs true k s t r = early_from jobs s t r
  ends_from jobs false k s t r = last_from jobs k s t r

abbrev pub is_elder : PlanParts → ℕ → ℕ → Bool
is_elder p a b = is_child p.tree (parent_of p.tree b) a && (ltb 0 b && ltb a b)

abbrev pub is_parent_open : PlanParts → List Event → ℕ → Bool
is_parent_open p h n = implies (ltb 0 n) (has Started (parent_of p.tree n) h && not (has Finished (parent_of p.tree n) h))

abbrev pub is_unopened : PlanParts → List Event → ℕ → Bool
is_unopened p h n = not (has Started n h) && (not (has Skipped n h) && (implies (is_spare_at p.tree n) (has Registered n h) && is_parent_open p h n))

abbrev pub may_start : PlanParts → List Event → ℕ → ℕ → Bool
may_start p h n w = is_unopened p h n && (not (is_disabled p.tree n) && implies p.fail_fast (leb (known w (up_to w h)) p.tolerated))

abbrev pub may_skip : PlanParts → List Event → ℕ → Bool
may_skip p h n = is_unopened p h n && (is_disabled p.tree n || (p.fail_fast && ltb p.tolerated (failures h)))

abbrev pub may_register : PlanParts → List Event → ℕ → Bool
may_register p h n =
    (is_spare_at p.tree n && pulls_job p (parent_of p.tree n))
    && (not (has Registered n h) && (all_below (λ c. implies (is_elder p c n) (has Registered c h)) (size p.tree) && is_parent_open p h n))

-- whether a child of a node that ends is as it has to be
abbrev pub child_ok : PlanParts → List Event → Bool → ℕ → Bool
child_ok p h true c = not (has Started c h) && (not (has Finished c h) && (not (has Skipped c h) && not (has Registered c h)))
child_ok p h false c = (has Finished c h || has Skipped c h) || (is_spare_at p.tree c && not (has Registered c h))

abbrev pub ends_so : PlanParts → (ℕ → List Reply) → List Event → Event → Bool → Bool
ends_so p replies h e b = all_below (λ c. implies (is_child p.tree e.node c) (child_ok p h b c)) (size p.tree) && ends replies (jobs_of p e.node) b (registered_in p h e.node) e.status

abbrev pub may_finish : PlanParts → (ℕ → List Reply) → List Event → Event → Bool
may_finish p replies h e = has Started e.node h && (not (has Finished e.node h) && (ends_so p replies h e true || ends_so p replies h e false))

abbrev pub by_kind : PlanParts → (ℕ → List Reply) → List Event → Event → EventKind → Bool
by_kind p replies h e Started = may_start p h e.node e.worker
by_kind p replies h e Finished = may_finish p replies h e
by_kind p replies h e Skipped = may_skip p h e.node
by_kind p replies h e Registered = may_register p h e.node

-- whether the event may follow
abbrev pub may_follow : PlanParts → (ℕ → List Reply) → ℕ → List Event → Event → Bool
may_follow p replies workers h e = is_lawful e && (ltb e.node (size p.tree) && (leb e.worker workers && by_kind p replies h e e.kind))

-- whether each event of the rest may follow those before it
abbrev pub all_follow : PlanParts → (ℕ → List Reply) → ℕ → List Event → List Event → Bool
all_follow p replies workers h [] = true
all_follow p replies workers h (e ∷ rest) = may_follow p replies workers h e && all_follow p replies workers (h ++ e ∷ []) rest

-- whether the list is a legal history
abbrev pub is_legal : PlanParts → (ℕ → List Reply) → ℕ → List Event → Bool
is_legal p replies workers h = all_follow p replies workers [] h

module _ (p : PlanParts) (replies : ℕ → List Reply) (workers : ℕ) (h : List Event) where
  pub elder_use : (a b : ℕ) → a < size p.tree → b < size p.tree → is_elder p a b ≡ true → IsElder p.tree a b
  elder_use a b ina inb q =
      let r = and_parts (is_child p.tree (parent_of p.tree b) a) (ltb 0 b && ltb a b) q in
      let s = and_parts (ltb 0 b) (ltb a b) r.1 in
      record { parent = parent_of p.tree b; elder = is_child_test p.tree (parent_of p.tree b) a ina r.0; younger = record { above_zero = ltb-true 0 b s.0; inside = inb; parent = refl }; before = ltb-true a b s.1 }

  pub elder_from : (a b : ℕ) → IsElder p.tree a b → is_elder p a b ≡ true
  elder_from a b e =
      and_from (is_child p.tree (parent_of p.tree b) a) (ltb 0 b && ltb a b) (test_is_child p.tree (parent_of p.tree b) a (subst (λ (x : ℕ). IsChild p.tree x a) (sym e.younger.parent) e.elder))
      (and_from (ltb 0 b) (ltb a b) (lt-ltb 0 b e.younger.above_zero) (lt-ltb a b e.before))

  open_use : (n : ℕ) → is_parent_open p h n ≡ true → IsParentOpen p h n
  open_use n q = record {
    parent_started = λ pos. (both pos).0;
    parent_open = λ pos. not-true (has Finished (parent_of p.tree n) h) (both pos).1;
  }
    where
      both : 0 < n → (has Started (parent_of p.tree n) h ≡ true) × (not (has Finished (parent_of p.tree n) h) ≡ true)
      both pos = and_parts (has Started (parent_of p.tree n) h) (not (has Finished (parent_of p.tree n) h)) (implies_use (ltb 0 n) _ q (lt-ltb 0 n pos))

  open_from : (n : ℕ) → IsParentOpen p h n → is_parent_open p h n ≡ true
  open_from n o = implies_from (ltb 0 n) _ (λ t. and_from (has Started (parent_of p.tree n) h) _ (o.parent_started (ltb-true 0 n t)) (not_from_false (has Finished (parent_of p.tree n) h) (o.parent_open (ltb-true 0 n t))))

  unopened_use : (n : ℕ) → is_unopened p h n ≡ true → IsUnopened p h n
  unopened_use n q =
      let a = and_parts (not (has Started n h)) (not (has Skipped n h) && (implies (is_spare_at p.tree n) (has Registered n h) && is_parent_open p h n)) q in
      let b = and_parts (not (has Skipped n h)) (implies (is_spare_at p.tree n) (has Registered n h) && is_parent_open p h n) a.1 in
      let c = and_parts (implies (is_spare_at p.tree n) (has Registered n h)) (is_parent_open p h n) b.1 in
      record { unstarted = not-true (has Started n h) a.0; unskipped = not-true (has Skipped n h) b.0; registered = implies_use (is_spare_at p.tree n) (has Registered n h) c.0; parent = open_use n c.1 }

  unopened_from : (n : ℕ) → IsUnopened p h n → is_unopened p h n ≡ true
  unopened_from n u =
      and_from (not (has Started n h)) _ (not_from_false (has Started n h) u.unstarted)
      (and_from (not (has Skipped n h)) _ (not_from_false (has Skipped n h) u.unskipped)
      (and_from (implies (is_spare_at p.tree n) (has Registered n h)) _ (implies_from (is_spare_at p.tree n) (has Registered n h) u.registered) (open_from n u.parent)))

  child_use : (b : Bool) (c : ℕ) → child_ok p h b c ≡ true → (k : EventKind) → (b ≡ true → has k c h ≡ false) × (b ≡ false → ((has Finished c h || has Skipped c h) ≡ true) ⊎ ((is_spare_at p.tree c ≡ true) × (has Registered c h ≡ false)))
  child_use true c q k = (λ t. go k, λ f. absurd (false≢true (sym f)))
    where
      s : (not (has Started c h) ≡ true) × ((not (has Finished c h) && (not (has Skipped c h) && not (has Registered c h))) ≡ true)
      s = and_parts (not (has Started c h)) (not (has Finished c h) && (not (has Skipped c h) && not (has Registered c h))) q

      f : (not (has Finished c h) ≡ true) × ((not (has Skipped c h) && not (has Registered c h)) ≡ true)
      f = and_parts (not (has Finished c h)) (not (has Skipped c h) && not (has Registered c h)) s.1

      r : (not (has Skipped c h) ≡ true) × (not (has Registered c h) ≡ true)
      r = and_parts (not (has Skipped c h)) (not (has Registered c h)) f.1

      go : (k : EventKind) → has k c h ≡ false
      go Started = not-true (has Started c h) s.0
      go Finished = not-true (has Finished c h) f.0
      go Skipped = not-true (has Skipped c h) r.0
      go Registered = not-true (has Registered c h) r.1
  child_use false c q k = (
    λ t. absurd (false≢true t),
    λ f. elim (or_cases (has Finished c h || has Skipped c h) (is_spare_at p.tree c && not (has Registered c h)) q) [
      | inl t ↦ inl t
      | inr t ↦ (let r = and_parts (is_spare_at p.tree c) (not (has Registered c h)) t in inr (r.0, not-true (has Registered c h) r.1))
    ],
  )

  children_use : (a : ℕ) (b : Bool) → all_below (λ c. implies (is_child p.tree a c) (child_ok p h b c)) (size p.tree) ≡ true → ChildrenOk p h a b
  children_use a true q = λ c ch k. (child_use true c (implies_use (is_child p.tree a c) _ (all_use _ (size p.tree) c q ch.inside) (test_is_child p.tree a c ch)) k).0 refl
  children_use a false q = λ c ch. (child_use false c (implies_use (is_child p.tree a c) _ (all_use _ (size p.tree) c q ch.inside) (test_is_child p.tree a c ch)) Started).1 refl

  children_from : (a : ℕ) (b : Bool) → ChildrenOk p h a b → all_below (λ c. implies (is_child p.tree a c) (child_ok p h b c)) (size p.tree) ≡ true
  children_from a true ok = all_from _ (size p.tree) (λ c lt. implies_from (is_child p.tree a c) _ (λ t. (let f = ok c (is_child_test p.tree a c lt t) in
      and_from (not (has Started c h)) _ (not_from_false (has Started c h) (f Started)) (and_from (not (has Finished c h)) _ (not_from_false (has Finished c h) (f Finished))
      (and_from (not (has Skipped c h)) _ (not_from_false (has Skipped c h) (f Skipped)) (not_from_false (has Registered c h) (f Registered)))))))
  children_from a false ok = all_from _ (size p.tree) (λ c lt. implies_from (is_child p.tree a c) _ (λ t. elim (ok c (is_child_test p.tree a c lt t)) [
    | inl u ↦ or_left (has Finished c h || has Skipped c h) (is_spare_at p.tree c && not (has Registered c h)) u
    | inr u ↦ or_right (has Finished c h || has Skipped c h) (is_spare_at p.tree c && not (has Registered c h)) (and_from (is_spare_at p.tree c) (not (has Registered c h)) u.0 (not_from_false (has Registered c h) u.1))
  ]))

  module _ (e : Event) (inside : e.node < size p.tree) where
    finish_use : may_finish p replies h e ≡ true → MayFinish p replies h e
    finish_use q =
        let a = and_parts (has Started e.node h) (not (has Finished e.node h) && (ends_so p replies h e true || ends_so p replies h e false)) q in
        let b = and_parts (not (has Finished e.node h)) (ends_so p replies h e true || ends_so p replies h e false) a.1 in
        elim (or_cases (ends_so p replies h e true) (ends_so p replies h e false) b.1) [ inl t ↦ way true a.0 b.0 t | inr t ↦ way false a.0 b.0 t ]
      where
        way : (b : Bool) → has Started e.node h ≡ true → not (has Finished e.node h) ≡ true → ends_so p replies h e b ≡ true → MayFinish p replies h e
        way b s f t =
            let r = and_parts (all_below (λ c. implies (is_child p.tree e.node c) (child_ok p h b c)) (size p.tree)) (ends replies (jobs_of p e.node) b (registered_in p h e.node) e.status) t in
            let u = ends_use replies (jobs_of p e.node) b (registered_in p h e.node) e.status r.1 in
            record { started = s; unfinished = not-true (has Finished e.node h) f; status = u.0; here = u.1.0; stopped = b; children = children_use e.node b r.0; text = u.1.1.0; lawful = u.1.1.1 }

    finish_from : MayFinish p replies h e → may_finish p replies h e ≡ true
    finish_from m =
        and_from (has Started e.node h) _ m.started (and_from (not (has Finished e.node h)) _ (not_from_false (has Finished e.node h) m.unfinished) (way m.stopped m.children m.lawful))
      where
        so : (b : Bool) → ChildrenOk p h e.node b → Ends replies (jobs_of p e.node) b (registered_in p h e.node) m.status m.text → ends_so p replies h e b ≡ true
        so b ok r =
            and_from (all_below (λ c. implies (is_child p.tree e.node c) (child_ok p h b c)) (size p.tree)) _ (children_from e.node b ok)
            (subst (λ (o : Option Status). ends replies (jobs_of p e.node) b (registered_in p h e.node) o ≡ true) (sym m.here) (ends_from replies (jobs_of p e.node) b (registered_in p h e.node) m.status m.text r))

        way : (b : Bool) → ChildrenOk p h e.node b → Ends replies (jobs_of p e.node) b (registered_in p h e.node) m.status m.text → (ends_so p replies h e true || ends_so p replies h e false) ≡ true
        way true ok r = or_left (ends_so p replies h e true) _ (so true ok r)
        way false ok r = or_right (ends_so p replies h e true) _ (so false ok r)

    kind_use : (k : EventKind) → by_kind p replies h e k ≡ true → ByKind p replies h e k
    kind_use Started q =
        let a = and_parts (is_unopened p h e.node) (not (is_disabled p.tree e.node) && implies p.fail_fast (leb (known e.worker (up_to e.worker h)) p.tolerated)) q in
        let b = and_parts (not (is_disabled p.tree e.node)) (implies p.fail_fast (leb (known e.worker (up_to e.worker h)) p.tolerated)) a.1 in
        record { unopened = unopened_use e.node a.0; enabled = not-true (is_disabled p.tree e.node) b.0; unknown = λ fast. leb-true (known e.worker (up_to e.worker h)) p.tolerated (implies_use p.fail_fast _ b.1 fast) }
    kind_use Finished q = finish_use q
    kind_use Skipped q =
        let a = and_parts (is_unopened p h e.node) (is_disabled p.tree e.node || (p.fail_fast && ltb p.tolerated (failures h))) q in
        record { unopened = unopened_use e.node a.0; reason = elim (or_cases (is_disabled p.tree e.node) (p.fail_fast && ltb p.tolerated (failures h)) a.1) [ inl t ↦ inl t | inr t ↦ (let r = and_parts p.fail_fast (ltb p.tolerated (failures h)) t in inr (r.0, ltb-true p.tolerated (failures h) r.1)) ] }
    kind_use Registered q =
        let a = and_parts (is_spare_at p.tree e.node && pulls_job p (parent_of p.tree e.node)) (not (has Registered e.node h) && (all_below (λ c. implies (is_elder p c e.node) (has Registered c h)) (size p.tree) && is_parent_open p h e.node)) q in
        let b = and_parts (not (has Registered e.node h)) (all_below (λ c. implies (is_elder p c e.node) (has Registered c h)) (size p.tree) && is_parent_open p h e.node) a.1 in
        let c = and_parts (all_below (λ c. implies (is_elder p c e.node) (has Registered c h)) (size p.tree)) (is_parent_open p h e.node) b.1 in
        record {
          spare = a.0;
          fresh = not-true (has Registered e.node h) b.0;
          elders = λ x elder. implies_use (is_elder p x e.node) (has Registered x h) (all_use (λ c. implies (is_elder p c e.node) (has Registered c h)) (size p.tree) x c.0 elder.elder.inside) (elder_from x e.node elder);
          parent = open_use e.node c.1;
        }

    kind_from : (k : EventKind) → ByKind p replies h e k → by_kind p replies h e k ≡ true
    kind_from Started m =
        and_from (is_unopened p h e.node) _ (unopened_from e.node m.unopened)
        (and_from (not (is_disabled p.tree e.node)) _ (not_from_false (is_disabled p.tree e.node) m.enabled) (implies_from p.fail_fast _ (λ fast. le-leb (known e.worker (up_to e.worker h)) p.tolerated (m.unknown fast))))
    kind_from Finished m = finish_from m
    kind_from Skipped m =
        and_from (is_unopened p h e.node) _ (unopened_from e.node m.unopened)
        (elim m.reason [ inl t ↦ or_left (is_disabled p.tree e.node) _ t | inr t ↦ or_right (is_disabled p.tree e.node) _ (and_from p.fail_fast _ t.0 (lt-ltb p.tolerated (failures h) t.1)) ])
    kind_from Registered m =
        and_from (is_spare_at p.tree e.node && pulls_job p (parent_of p.tree e.node)) _ m.spare
        (and_from (not (has Registered e.node h)) _ (not_from_false (has Registered e.node h) m.fresh)
        (and_from (all_below (λ c. implies (is_elder p c e.node) (has Registered c h)) (size p.tree)) _
        (all_from _ (size p.tree) (λ c lt. implies_from (is_elder p c e.node) (has Registered c h) (λ t. m.elders c (elder_use c e.node lt inside t)))) (open_from e.node m.parent)))

  pub follow_use : (e : Event) → may_follow p replies workers h e ≡ true → MayFollow p replies workers h e
  follow_use e q =
      let a = and_parts (is_lawful e) (ltb e.node (size p.tree) && (leb e.worker workers && by_kind p replies h e e.kind)) q in
      let b = and_parts (ltb e.node (size p.tree)) (leb e.worker workers && by_kind p replies h e e.kind) a.1 in
      let c = and_parts (leb e.worker workers) (by_kind p replies h e e.kind) b.1 in
      let inside = ltb-true e.node (size p.tree) b.0 in
      record { lawful = a.0; inside = inside; by_worker = leb-true e.worker workers c.0; by_kind = kind_use e inside e.kind c.1 }

  pub follow_from : (e : Event) → MayFollow p replies workers h e → may_follow p replies workers h e ≡ true
  follow_from e m =
      and_from (is_lawful e) _ m.lawful (and_from (ltb e.node (size p.tree)) _ (lt-ltb e.node (size p.tree) m.inside)
      (and_from (leb e.worker workers) _ (le-leb e.worker workers m.by_worker) (kind_from e m.inside e.kind m.by_kind)))

module _ (p : PlanParts) (tree : IsPlanTree p.tree) (replies : ℕ → List Reply) (workers : ℕ) where
  all_use_from : (h rest : List Event) → IsLegal p replies workers h → all_follow p replies workers h rest ≡ true → IsLegal p replies workers (h ++ rest)
  all_use_from h [] legal q = subst (IsLegal p replies workers) (sym (append-nil h)) legal
  all_use_from h (e ∷ rest) legal q =
      let r = and_parts (may_follow p replies workers h e) (all_follow p replies workers (h ++ e ∷ []) rest) q in
      subst (IsLegal p replies workers) (append_assoc h (e ∷ []) rest) (all_use_from (h ++ e ∷ []) rest (legal_added p tree replies workers h e legal (follow_use p replies workers h e r.0)) r.1)

  all_needed : (h rest : List Event) → IsLegal p replies workers (h ++ rest) → all_follow p replies workers h rest ≡ true
  all_needed h [] legal = refl
  all_needed h (e ∷ rest) legal =
      let longer : IsLegal p replies workers ((h ++ e ∷ []) ++ rest) = subst (IsLegal p replies workers) (sym (append_assoc h (e ∷ []) rest)) legal in
      and_from (may_follow p replies workers h e) _ (follow_from p replies workers h e (needed p replies workers h e (legal_front p replies workers (h ++ e ∷ []) rest longer))) (all_needed (h ++ e ∷ []) rest longer)

  -- The test tells the legal histories.
  pub told_legal : (h : List Event) → is_legal p replies workers h ≡ true → IsLegal p replies workers h
  told_legal h q = all_use_from [] h (legal_nil p replies workers) q

  pub legal_told : (h : List Event) → IsLegal p replies workers h → is_legal p replies workers h ≡ true
  legal_told h legal = all_needed [] h legal
