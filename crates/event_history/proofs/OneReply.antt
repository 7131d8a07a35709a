-- Where each job has one reply, a node can end in one way.
use Rattle.std.proofs.Common.{◌≡◌, ℕ, zero, suc, ◌<◌, ◌≤◌, true, false, not, ltb, List, [], ◌∷◌, Option, Some, None, slice_get, inl, inr, refl, sym, ap, ◌∙◌, subst, arith}
use Rattle.std.proofs.lemmas.Option.{none-some, same_Some}
use Rattle.std.proofs.lemmas.Bool.{cond-true, cond-false, lt-ltb, le-ltb}
use Rattle.plan_events.specs.declared.status.Status.{Status}
use Rattle.plan_events.specs.declared.status.Status.TheVariants.{Successful, Failed}
use Rattle.plan_events.specs.declared.outcome.Reply.{Reply}
use Rattle.plan_events.specs.Statuses.{is_successful}
use Rattle.event_history.specs.Results.{Jobs, NoJob, Alone, Pulled, Around, HasReply, EndsEarly, EndsLast, too_many}
use Rattle.event_history.specs.Expected.{Finishes, HasOneReply, outcome_of, is_stopped_by, after_children, result_by}

-- the spares that are registered are no more than there are
abbrev pub Few : Jobs → ℕ → Type 0
Few (Pulled body spares) registered = registered ≤ spares
Few _ registered = Unit {0}

single : {X : Type 0} (x y : X) (i : ℕ) → slice_get (x ∷ []) i ≡ Some y → y ≡ x
single x y zero q = sym (same_Some x y q)
single x y (suc i) q = absurd (none-some y q)

finishes : (s t : Status) (a b : Option (List ℕ)) → s ≡ t → a ≡ b → Finishes s a ≡ Finishes t b
finishes s t a b q r = subst (λ (x : Status). Finishes s a ≡ Finishes x b) q (ap (Finishes s) r)

module _ (reply : ℕ → Reply) (replies : ℕ → List Reply) (one : HasOneReply reply replies) where
  pub the_reply : (job place : ℕ) (r : Reply) → slice_get (replies job) place ≡ Some r → r ≡ reply job
  the_reply job place r q = single (reply job) r place (sym (ap (λ (l : List Reply). slice_get l place) (one job)) ∙ q)

  the_status : (job : ℕ) (s : Status) (t : Option (List ℕ)) → HasReply replies job s t → s ≡ (reply job).outcome.status
  the_status job s t r = r.status_is ∙ ap (λ (x : Reply). x.outcome.status) (the_reply job r.place r.reply r.stands)

  the_outcome : (job : ℕ) (s : Status) (t : Option (List ℕ)) → HasReply replies job s t → Finishes s t ≡ outcome_of (reply job)
  the_outcome job s t r = finishes s (reply job).outcome.status t (Some (reply job).outcome.text) (the_status job s t r) (r.text_is ∙ ap (λ (x : Reply). Some x.outcome.text) (the_reply job r.place r.reply r.stands))

  goes_on : (body : ℕ) (t : Option (List ℕ)) → HasReply replies body Successful t → not (is_successful (reply body).outcome.status) ≡ false
  goes_on body t r = ap (λ (s : Status). not (is_successful s)) (sym (the_status body Successful t r))

  pub early_is : (jobs : Jobs) (s : Status) (t : Option (List ℕ)) → EndsEarly replies jobs s t → (is_stopped_by reply jobs ≡ true) × (Finishes s t ≡ result_by reply jobs)
  early_is (Around (Some body) after) s t r =
      let stops : not (is_successful (reply body).outcome.status) ≡ true = ap not (ap is_successful (sym (the_status body s t r.answer)) ∙ r.unsuccessful) in
      (stops, the_outcome body s t r.answer ∙ sym (cond-true (not (is_successful (reply body).outcome.status)) (outcome_of (reply body)) (after_children reply (Some body) after) stops))
  early_is (Around None after) s t r = absurd r
  early_is NoJob s t r = absurd r
  early_is (Alone body) s t r = absurd r
  early_is (Pulled body spares) s t r = absurd r

  pub last_is : (jobs : Jobs) (k : ℕ) (s : Status) (t : Option (List ℕ)) → Few jobs k → EndsLast replies jobs k s t → (is_stopped_by reply jobs ≡ false) × (Finishes s t ≡ result_by reply jobs)
  last_is NoJob k s t few r = (refl, finishes s Successful t None r.0 r.1)
  last_is (Alone body) k s t few r = (refl, the_outcome body s t r)
  last_is (Pulled body spares) k s t few (inl r) =
      let same : r.reply ≡ reply body = the_reply body r.place r.reply r.stands in
      let pulls : (reply body).pulls ≡ k = ap (λ (x : Reply). x.pulls) (sym same) ∙ r.pulls in (
        refl,
        finishes s (reply body).outcome.status t (Some (reply body).outcome.text) (r.status_is ∙ ap (λ (x : Reply). x.outcome.status) same) (r.text_is ∙ ap (λ (x : Reply). Some x.outcome.text) same)
            ∙ sym (cond-false (ltb spares (reply body).pulls) (Finishes Failed (Some too_many)) (outcome_of (reply body)) (le-ltb spares (reply body).pulls (omega (arith, pulls, few)))),
      )
  last_is (Pulled body spares) k s t few (inr r) =
      let same : r.reply ≡ reply body = the_reply body r.place r.reply r.stands in
      let more : spares < (reply body).pulls = subst (λ (x : Reply). spares < x.pulls) same r.more in
      (refl, finishes s Failed t (Some too_many) r.status_is r.text_is ∙ sym (cond-true (ltb spares (reply body).pulls) (Finishes Failed (Some too_many)) (outcome_of (reply body)) (lt-ltb spares (reply body).pulls more)))
  last_is (Around None None) k s t few r = (refl, finishes s Successful t None r.0 r.1.1)
  last_is (Around None (Some after)) k s t few r = (refl, the_outcome after s t r.1)
  last_is (Around (Some body) None) k s t few r =
      let goes = goes_on body t r.1 in (
        goes,
        finishes s Successful t t r.0 refl ∙ the_outcome body Successful t r.1
            ∙ sym (cond-false (not (is_successful (reply body).outcome.status)) (outcome_of (reply body)) (outcome_of (reply body)) goes),
      )
  last_is (Around (Some body) (Some after)) k s t few r =
      let goes = goes_on body r.0.0 r.0.1 in
      (goes, the_outcome after s t r.1 ∙ sym (cond-false (not (is_successful (reply body).outcome.status)) (outcome_of (reply body)) (outcome_of (reply after)) goes))
