-- A legal history is read back from its feed and from its JSON.
use Rattle.std.proofs.Common.{◌≡◌, ℕ, suc, ◌==◌, Bool, true, false, cond, List, [], ◌∷◌, ◌++◌, take, map, Option, Some, None, refl, sym, ap, ap₂, ◌∙◌}
use Rattle.std.specs.Prelude.{option_to_list, slice_get}
use Rattle.std.specs.List.{AllByRecursion}
use Rattle.event_history.specs.History.{IsLegal}
use Rattle.event_history.specs.Places.{is_failure}
use Rattle.descriptor.specs.Nodes.{node_at}
use Rattle.unique_id.specs.declared.unique_id.Segment.{Segment}
use Rattle.job_times.specs.Timings.{Took}
use Rattle.resource_locks.specs.Plans.{PlanParts}
use Rattle.plan_events.specs.Texts.{TextParts}
use Rattle.plan_events.specs.Words.{fits_status, plan_may}
use Rattle.plan_events.specs.declared.event.Event.{Event}
use Rattle.plan_events.specs.declared.event.EventKind.{EventKind}
use Rattle.plan_events.specs.declared.event.EventKind.TheVariants.{Started, Finished, Skipped, Registered}
use Rattle.plan_events.specs.declared.outcome.Reply.{Reply}
use Rattle.plan_events.specs.declared.status.Status.{Status}
use Rattle.plan_events.specs.declared.status.Status.TheVariants.{Successful, Aborted, Failed}
use Rattle.run_results.specs.Feed.{feed_of}
use Rattle.reports.specs.Json.{timed_json_of}
use Rattle.reports.specs.TimeTexts.{AreTimes}
use Rattle.saved_runs.specs.RunAgain.{failed_ids}
use Rattle.saved_runs.specs.Histories.{what_of, plan_event, segments_or, event_told, HasUids, HasFlatIds, IsOf, IsReadBack, failed_in}
use Rattle.saved_runs.specs.Lines.{Tell}
use Rattle.saved_runs.specs.Telling.{failed_id}
use Rattle.saved_runs.specs.declared.told.Told.{Told}
use Rattle.saved_runs.specs.declared.told.Told.TheVariants.{Node as OfNode}
use Rattle.saved_runs.proofs.FeedTold.{IsLawful, lawful_parts, feed_tells, front_tells, first_of}
use Rattle.saved_runs.proofs.JsonTold.{json_tells, json_front_tells}

-- each event of a legal history is one of its plan
each_at : {X : Type 0} (P : X → Type 0) (xs : List X) → ((i : ℕ) (x : X) → slice_get xs i ≡ Some x → P x) → AllByRecursion P xs
each_at P [] h = tt
each_at P (x ∷ xs) h = (h 0 x refl, each_at P xs (λ i y is. h (suc i) y is))

pub events_of : (p : PlanParts) (replies : ℕ → List Reply) (workers : ℕ) (h : List Event) → IsLegal p replies workers h → AllByRecursion (IsOf p) h
events_of p replies workers h legal = each_at (IsOf p) h (λ i e is. record { lawful = legal.lawful i e is; inside = legal.nodes i e is })

-- ---- the nodes that failed

plan_event_failed : (kind : EventKind) → failed_id (plan_event kind) ≡ None
plan_event_failed Started = refl
plan_event_failed Finished = refl
plan_event_failed Skipped = refl
plan_event_failed Registered = refl

plan_failed : (worker node : ℕ) (kind : EventKind) (status : Option Status) → fits_status kind status ≡ true → plan_may kind status ≡ true
    → is_failure (record { kind = kind; node = node; status = status; worker = worker }) ≡ false
plan_failed w n Started None h k = refl
plan_failed w n Started (Some status) h k = absurd (cc)
plan_failed w n Finished None h k = absurd (cc)
plan_failed w n Finished (Some Successful) h k = refl
plan_failed w n Finished (Some Aborted) h k = absurd (cc)
plan_failed w n Finished (Some Failed) h k = absurd (cc)
plan_failed w n Skipped status h k = absurd (cc)
plan_failed w n Registered status h k = absurd (cc)

node_failed : (worker node : ℕ) (kind : EventKind) (status : Option Status) → fits_status kind status ≡ true → (id : List Segment)
    → option_to_list (failed_id (OfNode id (what_of kind status))) ≡ cond (is_failure (record { kind = kind; node = node; status = status; worker = worker })) (id ∷ []) []
node_failed w n Started None h id = refl
node_failed w n Started (Some status) h id = absurd (cc)
node_failed w n Finished None h id = absurd (cc)
node_failed w n Finished (Some Successful) h id = refl
node_failed w n Finished (Some Aborted) h id = refl
node_failed w n Finished (Some Failed) h id = refl
node_failed w n Skipped None h id = refl
node_failed w n Skipped (Some status) h id = absurd (cc)
node_failed w n Registered None h id = refl
node_failed w n Registered (Some status) h id = absurd (cc)

either_failed : (b : Bool) (plan : PlanParts) (e : Event) → IsLawful e → (b ≡ true → plan_may e.kind e.status ≡ true)
    → option_to_list (failed_id (cond b (plan_event e.kind) (OfNode (segments_or (node_at plan.tree e.node)) (what_of e.kind e.status)))) ≡ cond (is_failure e) (segments_or (node_at plan.tree e.node) ∷ []) []
either_failed true plan e lawful root =
    ap option_to_list (plan_event_failed e.kind) ∙ ap (λ t. cond t (segments_or (node_at plan.tree e.node) ∷ []) []) (sym (plan_failed e.worker e.node e.kind e.status lawful.fits (root refl)))
either_failed false plan e lawful root = node_failed e.worker e.node e.kind e.status lawful.fits (segments_or (node_at plan.tree e.node))

pub failed_are : (plan : PlanParts) (h : List Event) → AllByRecursion (IsOf plan) h → failed_ids (map (event_told plan) h) ≡ failed_in plan h
failed_are plan [] of = refl
failed_are plan (e ∷ h) of =
    let lawful = lawful_parts e of.0.lawful in
    ap₂ (λ a b. a ++ b) (either_failed (e.node == 0) plan e lawful lawful.plan) (failed_are plan h of.1)

-- ---- the theorem

pub feed_back : (p : PlanParts) (replies : ℕ → List Reply) (workers : ℕ) (h : List Event) (texts : TextParts) → HasUids p → HasFlatIds p → IsLegal p replies workers h → IsReadBack p h (feed_of p texts h)
feed_back p replies workers h texts uids flat legal =
    let of = events_of p replies workers h legal in
    record { all = feed_tells p texts h uids flat of; front = λ k. front_tells p texts h k uids flat of; failed = λ k. failed_are p (take k h) (first_of (IsOf p) k h of) }

pub json_back : (p : PlanParts) (replies : ℕ → List Reply) (workers : ℕ) (h : List Event) (texts : TextParts) (took : Took) → AreTimes took → HasUids p → IsLegal p replies workers h → IsReadBack p h (timed_json_of p texts took h)
json_back p replies workers h texts took times uids legal =
    let of = events_of p replies workers h legal in
    record { all = json_tells p texts took times h uids of; front = λ k. json_front_tells p texts took times h k uids of; failed = λ k. failed_are p (take k h) (first_of (IsOf p) k h of) }
