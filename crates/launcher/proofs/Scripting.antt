-- The jobs of a suite are those that a run asks for, and what is legal by their replies is legal by what the suite says.
use Rattle.std.proofs.Common.{◌≡◌, ◌∙◌, ℕ, zero, suc, ◌<◌, ◌==◌, ◌&&◌, cond, Bool, true, false, List, [], ◌∷◌, length, Option, Some, None, slice_get, refl, sym, ap, subst, arith, inl, inr}
use Rattle.std.specs.List.{All}
use Rattle.std.proofs.lemmas.Bool.{eqb-true}
use Rattle.std.proofs.lemmas.List.Elements.{All-head, All-tail}
use Rattle.std.proofs.lemmas.Option.{none-some, same_Some}
use Rattle.std.specs.Option.{is_some}
use Rattle.descriptor.specs.Nodes.{IsTree, size, body_of, after_of, kind_of, role_of}
use Rattle.descriptor.specs.Roles.{is_factory}
use Rattle.descriptor.specs.declared.kind.Kind.{Kind}
use Rattle.descriptor.specs.declared.kind.Kind.TheVariants.{Test, Container, ContainerAndTest}
use Rattle.descriptor.specs.declared.role.Role.{Role}
use Rattle.descriptor.specs.declared.role.Role.TheVariants.{Plain, Factory, Spare}
use Rattle.plan_events.specs.Jobs.{unpulled}
use Rattle.plan_events.specs.declared.event.Event.{Event}
use Rattle.plan_events.specs.declared.outcome.Reply.{Reply}
use Rattle.plan_events.specs.declared.status.Status.{Status}
use Rattle.plan_events.specs.declared.status.Status.TheVariants.{Successful}
use Rattle.resource_locks.specs.Plans.{PlanParts}
use Rattle.event_history.specs.History.{HasResult, IsLegal, IsTextOf}
use Rattle.event_history.specs.Plans.{Sort, Leaf, Holder, Maker, pulls_job, sort_by, sort_of, spare_count}
use Rattle.event_history.specs.Results.{Jobs, NoJob, Alone, Pulled, Around, jobs_by, jobs_of, after_run, HasReply, HasAnswer, EndsAfter, Ends}
use Rattle.event_history.proofs.Histories.{legal_by}
use Rattle.sched_core.specs.Replies.{reply_of, replies_of as replies_by}
use Rattle.table_rule.specs.Picture.{AreAmong, replies_in, replies_of}
use Rattle.table_rule.specs.Slots.{slot_count, is_body_slot, after_slot, job_at, job_with}
use Rattle.table_rule.proofs.Jobs.{body_job, after_job_at, after_is, one_slot_each, far}
use Rattle.table_rule.proofs.ThatCount.{counted_among}
use Rattle.table_contents.specs.Prepared.{HasAllJobs}
use Rattle.worker_pool.proofs.Handed.{body_inside, after_inside, replies_found}
use Rattle.worker_pool.specs.Premises.{JobsMayAnswer}
use Rattle.worker_pool.specs.Reports.{run_of}
use Rattle.schedules.specs.Replays.{AgreesAsAsked}
use Rattle.ready_runs.specs.declared.scripted.ScriptedJob.{ScriptedJob}
use Rattle.ready_runs.specs.Scripted.{replies_left, asked_reply, is_pulled_slot, IsScripted, AreScripted}

-- the job that was found with a number
module _ {B : Type 0} where
  pub found_is : (P : ℕ × B → Type 0) (jobs : List (ℕ × B)) → All P jobs → (number : ℕ) (job : B) → job_with jobs number ≡ Some job → P (number, job)
  found_is P [] each number job q = absurd (none-some job q)
  found_is P (x ∷ jobs) each number job q = go (found_is P jobs (All-tail P x jobs each) number job) (x.0 == number) refl q
    where
      go : (job_with jobs number ≡ Some job → P (number, job)) → (b : Bool) → (x.0 == number) ≡ b → cond b (Some x.1) (job_with jobs number) ≡ Some job → P (number, job)
      go rest true e h = subst (λ (n : ℕ). P (n, job)) (eqb-true x.0 number e) (subst (λ (j : B). P (x.0, j)) (same_Some x.1 job h) (All-head P x jobs each))
      go rest false e h = rest h

  pub no_replies : (answers : B → List Reply) (jobs : List (ℕ × B)) (number : ℕ) → job_with jobs number ≡ None → replies_in answers jobs number ≡ []
  no_replies answers [] number q = refl
  no_replies answers (x ∷ jobs) number q = go (no_replies answers jobs number) (x.0 == number) q
    where
      go : (job_with jobs number ≡ None → replies_in answers jobs number ≡ []) → (b : Bool) → cond b (Some x.1) (job_with jobs number) ≡ None → cond b (answers x.1) (replies_in answers jobs number) ≡ []
      go rest true h = absurd (none-some x.1 (sym h))
      go rest false h = rest h

-- what a factory's body is run for alone is pulled
maker_factory : (kind : Kind) (role : Role) → sort_by kind role ≡ Maker → is_factory role ≡ true
maker_factory kind Factory q = refl
maker_factory Test Plain q = absurd (let h : Leaf ≡ Maker = q in cc)
maker_factory Container Plain q = absurd (let h : Holder ≡ Maker = q in cc)
maker_factory ContainerAndTest Plain q = absurd (let h : Holder ≡ Maker = q in cc)
maker_factory Test Spare q = absurd (let h : Leaf ≡ Maker = q in cc)
maker_factory Container Spare q = absurd (let h : Holder ≡ Maker = q in cc)
maker_factory ContainerAndTest Spare q = absurd (let h : Holder ≡ Maker = q in cc)

abbrev body_in : Jobs → ℕ
body_in (Pulled body spares) = body
body_in _ = 0

maker_only : (sort : Sort) (body after : Option ℕ) (spares b m : ℕ) → jobs_by sort body after spares ≡ Pulled b m → (sort ≡ Maker) × (body ≡ Some b)
maker_only Leaf None after spares b m q = absurd (let h : NoJob ≡ Pulled b m = q in cc)
maker_only Leaf (Some x) after spares b m q = absurd (let h : Alone x ≡ Pulled b m = q in cc)
maker_only Maker None after spares b m q = absurd (let h : NoJob ≡ Pulled b m = q in cc)
maker_only Maker (Some x) after spares b m q = (refl, ap (λ (j : Jobs). Some (body_in j)) q)
maker_only Holder body after spares b m q = absurd (let h : Around body after ≡ Pulled b m = q in cc)

pub pulled_only : (p : PlanParts) (n body spares : ℕ) → jobs_of p n ≡ Pulled body spares → (pulls_job p n ≡ true) × (body_of p.tree n ≡ Some body)
pulled_only p n body spares q =
    let x = maker_only (sort_of p.tree n) (body_of p.tree n) (after_run p n) (spare_count p n) body spares q in
    ((λ i. maker_factory (kind_of p.tree n) (role_of p.tree n) x.0 i && is_some (x.1 i)), x.1)

-- what a factory's body is asked for
module _ (p : PlanParts) (tree : IsTree p.tree) (answers : List (ℕ × Reply)) (jobs : List (ℕ × ScriptedJob)) (are : AreScripted p answers (slot_count p) jobs) where
  pub all_there : HasAllJobs p jobs
  all_there number missing = (let found = are.all missing.slot number missing.inside missing.is in none-some found.0 (sym missing.none ∙ found.1))

  -- the one reply of the job in a slot
  answered : (k number : ℕ) → k < slot_count p → job_at p k ≡ Some number → replies_in replies_left jobs number ≡ asked_reply (is_pulled_slot p k) (reply_of answers number) ∷ []
  answered k number low at =
      let found = are.all k number low at in
      let of : IsScripted p answers (number, found.0) = found_is (IsScripted p answers) jobs are.each number found.0 found.1 in
      replies_found replies_left jobs number found.0 found.1 ∙ of.answer ∙ ap (λ (s : ℕ). asked_reply (is_pulled_slot p s) (reply_of answers number) ∷ []) (one_slot_each p tree of.slot k number of.is at)

  body_low : (n number : ℕ) → body_of p.tree n ≡ Some number → n < slot_count p
  body_low n number is = (let low : n < size p.tree = body_inside p.tree tree n number is in omega (arith, low))

  body_is_at : (n number : ℕ) → body_of p.tree n ≡ Some number → job_at p n ≡ Some number
  body_is_at n number is = body_job p n (body_inside p.tree tree n number is) ∙ is

  body_answers : (n number : ℕ) → body_of p.tree n ≡ Some number → replies_in replies_left jobs number ≡ asked_reply (is_pulled_slot p n) (reply_of answers number) ∷ []
  body_answers n number is = answered n number (body_low n number is) (body_is_at n number is)

  slot_pulled : (n number : ℕ) → body_of p.tree n ≡ Some number → is_pulled_slot p n ≡ pulls_job p n
  slot_pulled n number is = ap (λ (b : Bool). b && pulls_job p n) (lt_body n (body_inside p.tree tree n number is))
    where
      lt_body : (m : ℕ) → m < size p.tree → is_body_slot p m ≡ true
      lt_body m low = grind (arith, low)

  pub factory_answers : (n number : ℕ) → pulls_job p n ≡ true → body_of p.tree n ≡ Some number → replies_in replies_left jobs number ≡ reply_of answers number ∷ []
  factory_answers n number pulls is = body_answers n number is ∙ ap (λ (b : Bool). asked_reply b (reply_of answers number) ∷ []) (slot_pulled n number is ∙ pulls)

  plain_answers : (n number : ℕ) → pulls_job p n ≡ false → body_of p.tree n ≡ Some number → replies_in replies_left jobs number ≡ asked_reply false (reply_of answers number) ∷ []
  plain_answers n number pulls is = body_answers n number is ∙ ap (λ (b : Bool). asked_reply b (reply_of answers number) ∷ []) (slot_pulled n number is ∙ pulls)

  after_answers : (n number : ℕ) → after_of p.tree n ≡ Some number → replies_in replies_left jobs number ≡ asked_reply false (reply_of answers number) ∷ []
  after_answers n number is =
      let low : n < size p.tree = after_inside p.tree tree n number is in
      answered (after_slot p n) number (omega (arith, low)) (after_job_at p n ∙ is) ∙ ap (λ (b : Bool). asked_reply (b && pulls_job p (after_slot p n)) (reply_of answers number) ∷ []) (far (size p.tree) n)

  one_is_some : (xs : List Reply) (x : Reply) → xs ≡ x ∷ [] → 0 < length xs
  one_is_some xs x is = subst (λ (l : List Reply). 0 < length l) (sym is) (omega arith)

  pub may_answer : (workers ring : ℕ) → JobsMayAnswer replies_left (run_of p workers ring jobs)
  may_answer workers ring = record {
    factories = λ n number job pulls is found. one_is_some _ (reply_of answers number) (sym (replies_found replies_left jobs number job found) ∙ factory_answers n number pulls is);
    bodies = λ n number job pulls is found. one_is_some _ (asked_reply false (reply_of answers number)) (ap unpulled (sym (replies_found replies_left jobs number job found) ∙ plain_answers n number pulls is));
    after_bodies = λ n number job is found. one_is_some _ (asked_reply false (reply_of answers number)) (ap unpulled (sym (replies_found replies_left jobs number job found) ∙ after_answers n number (after_is p n number is)));
  }

  -- each reply of a job has the outcome that the suite says
  said : (number place : ℕ) (reply : Reply) → slice_get (replies_in replies_left jobs number) place ≡ Some reply → reply.outcome ≡ (reply_of answers number).outcome
  said number place reply stands = go (job_with jobs number) refl
    where
      only : (b : Bool) (i : ℕ) → slice_get (asked_reply b (reply_of answers number) ∷ []) i ≡ Some reply → reply.outcome ≡ (reply_of answers number).outcome
      only true zero q = ap (λ (r : Reply). r.outcome) (sym (same_Some _ reply q))
      only false zero q = ap (λ (r : Reply). r.outcome) (sym (same_Some _ reply q))
      only b (suc i) q = absurd (none-some reply q)

      go : (found : Option ScriptedJob) → job_with jobs number ≡ found → reply.outcome ≡ (reply_of answers number).outcome
      go None q = absurd (none-some reply (ap (λ (l : List Reply). slice_get l place) (sym (no_replies replies_left jobs number q)) ∙ stands))
      go (Some job) q =
          let of : IsScripted p answers (number, job) = found_is (IsScripted p answers) jobs are.each number job q in
          only (is_pulled_slot p of.slot) place (ap (λ (l : List Reply). slice_get l place) (sym (replies_found replies_left jobs number job q ∙ of.answer)) ∙ stands)

  abbrev pub told : ℕ → List Reply
  told number = replies_in replies_left jobs number

  by_reply : (job : ℕ) (status : Status) (text : Option (List ℕ)) → HasReply told job status text → HasReply (replies_by answers) job status text
  by_reply job status text x = (let same = said job x.place x.reply x.stands in record { place = 0; reply = reply_of answers job; stands = refl; status_is = x.status_is ∙ ap (λ o. o.status) same; text_is = x.text_is ∙ ap (λ o. Some o.text) same })

  by_answer : (job : Option ℕ) (status : Status) (text : Option (List ℕ)) → HasAnswer told job status text → HasAnswer (replies_by answers) job status text
  by_answer None status text x = x
  by_answer (Some job) status text x = by_reply job status text x

  by_after : (body after : Option ℕ) (status : Status) (text : Option (List ℕ)) → EndsAfter told body after status text → EndsAfter (replies_by answers) body after status text
  by_after body None status text x = (x.0, by_answer body Successful text x.1)
  by_after body (Some after) status text x = ((x.0.0, by_answer body Successful x.0.0 x.0.1), by_reply after status text x.1)

  -- a factory's body gives its whole reply
  abbrev IsWhole : Jobs → Type 0
  IsWhole jobs = (body spares : ℕ) → jobs ≡ Pulled body spares → told body ≡ replies_by answers body

  by_ends : (jobs : Jobs) → IsWhole jobs → (stopped : Bool) (registered : ℕ) (status : Status) (text : Option (List ℕ)) → Ends told jobs stopped registered status text → Ends (replies_by answers) jobs stopped registered status text
  by_ends (Around (Some body) after) whole true registered status text x = record { answer = by_reply body status text x.answer; unsuccessful = x.unsuccessful }
  by_ends (Around None after) whole true registered status text x = x
  by_ends NoJob whole true registered status text x = x
  by_ends (Alone body) whole true registered status text x = x
  by_ends (Pulled body spares) whole true registered status text x = x
  by_ends NoJob whole false registered status text x = x
  by_ends (Alone body) whole false registered status text x = by_reply body status text x
  by_ends (Pulled body spares) whole false registered status text x =
      let same : told body ≡ replies_by answers body = whole body spares refl in
      elim x [
        | inl a ↦ inl (record { place = a.place; reply = a.reply; stands = ap (λ (l : List Reply). slice_get l a.place) (sym same) ∙ a.stands; pulls = a.pulls; status_is = a.status_is; text_is = a.text_is })
        | inr b ↦ inr (record { all = b.all; place = b.place; reply = b.reply; stands = ap (λ (l : List Reply). slice_get l b.place) (sym same) ∙ b.stands; more = b.more; status_is = b.status_is; text_is = b.text_is })
      ]
  by_ends (Around body after) whole false registered status text x = by_after body after status text x

  whole_at : (n : ℕ) → IsWhole (jobs_of p n)
  whole_at n body spares q = (let x = pulled_only p n body spares q in factory_answers n body x.0 x.1)

  by_result : (h : List Event) (i : ℕ) (e : Event) (text : Option (List ℕ)) → HasResult p told h i e text → HasResult p (replies_by answers) h i e text
  by_result h i e text x = record { status = x.status; here = x.here; stopped = x.stopped; stops = x.stops; lawful = by_ends (jobs_of p e.node) (whole_at e.node) x.stopped _ x.status text x.lawful }

  pub text_as_said : (h : List Event) (n : ℕ) (text : Option (List ℕ)) → IsTextOf p told h n text → IsTextOf p (replies_by answers) h n text
  text_as_said h n text x = record { of_skip = x.of_skip; of_finish = λ i e q finish node. by_result h i e text (x.of_finish i e q finish node); of_none = x.of_none }

  pub legal_as_said : (workers : ℕ) (h : List Event) → IsLegal p told workers h → IsLegal p (replies_by answers) workers h
  legal_as_said workers h = legal_by p told (replies_by answers) h (by_result h) workers

  only_that : (one reply : Reply) (place : ℕ) → slice_get (one ∷ []) place ≡ Some reply → reply ≡ one
  only_that one reply zero q = sym (same_Some one reply q)
  only_that one reply (suc place) q = absurd (none-some reply q)

  -- what the jobs told in a run is what the suite says, as far as the core asks for it
  pub told_as_said : (workers ring : ℕ) (heard : ℕ → List Reply) → AreAmong heard (replies_of replies_left (run_of p workers ring jobs)) → AgreesAsAsked p heard (reply_of answers)
  told_as_said workers ring heard among = record {
    outcomes = λ job i reply at. (let x = may job i reply at in said job x.0 reply x.1);
    pulled = λ n job i reply pulls is at. (let x = may job i reply at in only_that (reply_of answers job) reply x.0 (ap (λ (l : List Reply). slice_get l x.0) (sym (factory_answers n job pulls is)) ∙ x.1));
  }
    where
      may : (job i : ℕ) (reply : Reply) → slice_get (heard job) i ≡ Some reply → (place : ℕ) × (slice_get (told job) place ≡ Some reply)
      may job i reply at = (let x = among job i reply at in counted_among replies_left (run_of p workers ring jobs) job x.0 reply x.1)
