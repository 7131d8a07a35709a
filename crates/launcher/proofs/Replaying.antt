-- A replay of the steps that are printed behind a run prints the feed of this run.
use Rattle.std.proofs.Common.{◌≡◌, ◌∙◌, ℕ, suc, ◌<◌, Bool, true, false, cond, List, [], ◌∷◌, ◌++◌, length, Option, Some, None, slice_get, refl, sym, ap, ap₂, subst}
use Rattle.std.proofs.lemmas.Bool.{true≢false}
use Rattle.descriptor.specs.Nodes.{IsTree, size, reason_of}
use Rattle.plan_events.specs.declared.event.Event.{Event}
use Rattle.plan_events.specs.declared.event.EventKind.TheVariants.{Finished, Skipped}
use Rattle.plan_events.specs.declared.outcome.Reply.{Reply}
use Rattle.plan_events.specs.Texts.{TextParts, text_at}
use Rattle.resource_locks.specs.Plans.{PlanParts}
use Rattle.event_history.specs.Expected.{result_by}
use Rattle.event_history.specs.History.{IsLegal, IsTextOf, reason_or_cancelled}
use Rattle.event_history.specs.Places.{has}
use Rattle.event_history.specs.Results.{jobs_of}
use Rattle.event_history.proofs.Expectation.{text_in, result_is}
use Rattle.event_history.proofs.Places.{has_stands, has_at}
use Rattle.event_history.proofs.Spares.{plan_tree}
use Rattle.event_history.proofs.Texts.{text_told}
use Rattle.run_results.specs.Feed.{event_line, feed_of, id_at, text_or}
use Rattle.scheduling.specs.declared.step.Step.{Step}
use Rattle.sched_core.specs.Replies.{reply_of, replies_of}
use Rattle.sched_core.specs.Texts.{AreTexts}
use Rattle.sched_core.proofs.Notes.{texts_told}
use Rattle.schedules.specs.Schedules.{IsSchedule}
use Rattle.step_text.specs.StepSpelling.{steps_text, AreNamable}
use Rattle.step_text.proofs.Written.{text_back}
use Rattle.worker_pool.specs.Reports.{AreTexts as AreRunTexts}
use Rattle.run_outputs.specs.declared.exit_status.ExitStatus.{ExitStatus}
use Rattle.run_outputs.specs.declared.exit_status.ExitStatus.TheVariants.{Success}
use Rattle.run_outputs.specs.declared.replay.ReplayCounts.{ReplayCounts}
use Rattle.run_outputs.specs.ExitStatuses.{status_of_replay}
use Rattle.launch_options.specs.Asked.{IsReplay}
use Rattle.run_outputs.specs.ReplayTexts.{replay_line}
use Rattle.run_outputs.specs.Outputs.{replayed, replay_counts, IsReplayOutput}

-- the line, without its end, is read as just these steps
pub read_again : (steps : List Step) → AreNamable steps → IsReplay (Some (steps_text steps)) (Some steps)
read_again steps namable = text_back steps namable

-- equal texts give equal feeds
same_feed : (p : PlanParts) (a b : TextParts) → ((n : ℕ) → n < size p.tree → text_at a n ≡ text_at b n)
    → (events : List Event) → ((i : ℕ) (e : Event) → slice_get events i ≡ Some e → e.node < size p.tree) → feed_of p a events ≡ feed_of p b events
same_feed p a b same [] inside = refl
same_feed p a b same (e ∷ events) inside =
    ap₂ (λ (line lines : List ℕ). line ++ lines) (ap (λ (t : Option (List ℕ)). event_line e (id_at p e.node) (text_or t)) (same e.node (inside 0 e refl)))
    (same_feed p a b same events (λ i f at. inside (suc i) f at))

module _ (p : PlanParts) (tree : IsTree p.tree) (answers : List (ℕ × Reply)) (workers : ℕ) (history : List Event) (legal : IsLegal p (replies_of answers) workers history) where
  -- each node of a legal history has one text
  the_text : (n : ℕ) (text : Option (List ℕ)) → IsTextOf p (replies_of answers) history n text → text ≡ text_told p (reply_of answers) history n
  the_text n text is = go (has Skipped n history) (has Finished n history) refl refl
    where
      go : (s f : Bool) → has Skipped n history ≡ s → has Finished n history ≡ f → text ≡ cond s (Some (reason_or_cancelled (reason_of p.tree n))) (cond f (text_in (result_by (reply_of answers) (jobs_of p n))) None)
      go true f skips finishes = (let stands = has_stands Skipped n history skips in is.of_skip stands.0 stands.1)
      go false true skips finishes =
          let stands = has_stands Finished n history finishes in
          let e = stands.1.event in
          let result = is.of_finish stands.0 e stands.1.here stands.1.kind stands.1.node in
          ap text_in (result_is p (plan_tree p.tree tree) (reply_of answers) (replies_of answers) (λ job. refl) workers history legal stands.0 e text result).1
          ∙ ap (λ (m : ℕ). text_in (result_by (reply_of answers) (jobs_of p m))) stands.1.node
      go false false skips finishes = is.of_none (λ i stands. true≢false (sym (has_at stands) ∙ skips)) (λ i stands. true≢false (sym (has_at stands) ∙ finishes))

  module _ (steps : List Step) (is : IsSchedule p answers workers history steps) (texts : TextParts) (are : AreRunTexts p (replies_of answers) history texts) where
    given_feed : (told : TextParts) → AreTexts p answers (replayed workers p answers steps).given told → feed_of p told (replayed workers p answers steps).given ≡ feed_of p texts history
    given_feed told are_told =
        ap (feed_of p told) is.given
        ∙ same_feed p told texts (λ n low. texts_told p answers history told (subst (λ (h : List Event). AreTexts p answers h told) is.given are_told) n low ∙ sym (the_text n (text_at texts n) (are n low))) history legal.nodes

    counts : replay_counts workers p answers steps ≡ record { steps = length steps; passed_over = 0; published = length history; given = length history }
    counts = λ i. record { steps = length steps; passed_over = is.possible i; published = length (is.published i); given = length (is.given i) }

    -- A replay of a schedule prints the feed of the run, and that no step was passed over and that all was published and given, and it
    -- is a success.
    pub replay_prints : (fails : Bool) (text : List ℕ) (status : ExitStatus) → IsReplayOutput fails steps workers p answers text status
        → (text ≡ feed_of p texts history ++ replay_line (record { steps = length steps; passed_over = 0; published = length history; given = length history })) × (status ≡ Success)
    replay_prints fails text status out = (
      out.printed ∙ ap₂ (λ (feed line : List ℕ). feed ++ line) (given_feed out.texts out.are) (ap replay_line counts),
      out.exits ∙ ap (λ (c : ReplayCounts). status_of_replay fails c.passed_over) counts,
    )
