-- What is printed of a history, what of that is expected, and what is printed where nothing is run.
use Rattle.std.specs.Prelude.{◌≡◌, ℕ, Bool, true, false, List, [], ◌++◌, length, Option, Some, None}
use Rattle.config_params.specs.declared.settings.Settings.{Settings}
use Rattle.config_params.specs.declared.warnings.Warnings.{Warnings}
use Rattle.descriptor.specs.Nodes.{Nodes}
use Rattle.plan_events.specs.declared.event.Event.{Event}
use Rattle.plan_events.specs.declared.outcome.Reply.{Reply}
use Rattle.plan_events.specs.Texts.{TextParts}
use Rattle.resource_locks.specs.Plans.{PlanParts}
use Rattle.scheduling.specs.declared.step.Step.{Step}
use Rattle.scheduling.specs.Runs.{opening}
use Rattle.scheduling.specs.State.{State}
use Rattle.sched_core.specs.Runs.{run, passed_over}
use Rattle.sched_core.specs.Texts.{AreTexts}
use Rattle.job_times.specs.Timings.{Times}
use Rattle.run_results.specs.declared.theme.Theme.{Theme}
use Rattle.run_results.specs.Counts.{counts_of as node_counts}
use Rattle.run_results.specs.Feed.{feed_of}
use Rattle.run_results.specs.SummaryTexts.{summary_of}
use Rattle.run_results.specs.TreeTexts.{tree_of}
use Rattle.reports.specs.Json.{timed_json_of}
use Rattle.junit_report.specs.Junit.{timed_junit_of}
use Rattle.reports.specs.Lists.{list_of}
use Rattle.reports.specs.PlanNodes.{plan_lines}
use Rattle.launch_options.specs.declared.details.Details.{Details}
use Rattle.run_outputs.specs.declared.exit_status.ExitStatus.{ExitStatus}
use Rattle.run_outputs.specs.ExitStatuses.{status_of_replay, status_of_run}
use Rattle.junit_report.specs.Expectations.{expected_tree, expected_xml, expected_counts, expected_tests, expects_failure}
use Rattle.launch_options.specs.declared.details.Details.TheVariants as details
use Rattle.run_outputs.specs.declared.replay.ReplayCounts.{ReplayCounts}
use Rattle.run_outputs.specs.ReplayTexts.{replay_line}
use Rattle.run_outputs.specs.WarningTexts.{head_of}
use Rattle.launch_options.specs.Asked.{Asked}

-- whether the plan is run: no steps are replayed, and more is asked for than its list or its nodes
abbrev pub is_run : Option (List Step) → Details → Bool
is_run (Some steps) kind = false
is_run None details.None = true
is_run None details.Summary = true
is_run None details.Tree = true
is_run None details.Testfeed = true
is_run None details.Json = true
is_run None details.Xml = true
is_run None details.List = false
is_run None details.Plan = false

-- what is printed of these events with these texts: nothing; the summary; the tree, and then the summary; the feed; the same as
-- JSON, or the report in XML, both with the times that are known; or, whatever they are, the list of what would be run, or the plan's nodes
abbrev pub details_of : Details → Theme → PlanParts → TextParts → Times → List Event → List ℕ
details_of details.None theme p texts times events = []
details_of details.Summary theme p texts times events = summary_of (node_counts p events)
details_of details.Tree theme p texts times events = tree_of theme p texts events ++ summary_of (node_counts p events)
details_of details.Testfeed theme p texts times events = feed_of p texts events
details_of details.Json theme p texts times events = timed_json_of p texts times.took events
details_of details.Xml theme p texts times events = timed_junit_of p texts times events
details_of details.List theme p texts times events = list_of p
details_of details.Plan theme p texts times events = plan_lines p

-- what is expected to be printed of a tree whose bodies answer so, where nothing fails fast; of a feed and of JSON nothing is, since
-- they tell in which order things happened, nor of XML that tells how long they took; of the list and the nodes, for which nothing is
-- run, nothing is said here
abbrev pub expected_details : Details → (times : Bool) → Theme → Nodes → (ℕ → Reply) → Option (List ℕ)
expected_details details.None times theme t reply = Some []
expected_details details.Summary times theme t reply = Some (summary_of (expected_counts t reply))
expected_details details.Tree times theme t reply = Some (expected_tree theme t reply ++ summary_of (expected_counts t reply))
expected_details details.Testfeed times theme t reply = None
expected_details details.Json times theme t reply = None
expected_details details.Xml true theme t reply = None
expected_details details.Xml false theme t reply = Some (expected_xml t reply)
expected_details details.List times theme t reply = None
expected_details details.Plan times theme t reply = None

-- the status that is expected
abbrev pub expected_status : Bool → Nodes → (ℕ → Reply) → ExitStatus
expected_status needs_tests t reply = status_of_run needs_tests (expected_tests t reply) (expects_failure t reply)

-- The text before the schedule, and the status, are those that are expected of the tree. Neither the workers nor the modes of the
-- nodes nor their locks are spoken of.
pub record IsExpectedOutput (asked : Asked) (settings : Settings) (t : Nodes) (reply : ℕ → Reply) (schedule text : List ℕ) (status : ExitStatus) : Type 0 where
  pub printed : (shown : List ℕ) → expected_details asked.details asked.times asked.theme t reply ≡ Some shown → text ≡ head_of asked.details settings.warnings ++ (shown ++ schedule)
  pub exits : status ≡ expected_status asked.fail_if_no_tests t reply

-- the state in which a replay of these steps by so many workers ends
abbrev pub replayed : ℕ → PlanParts → List (ℕ × Reply) → List Step → State
replayed workers p answers steps = run p answers (opening p workers) steps

-- what a replay that ends in this state counts
abbrev pub counts_of : List Step → State → ℕ → ReplayCounts
counts_of steps final missed = record { steps = length steps; passed_over = missed; published = length final.published; given = length final.given }

-- what a replay of these steps counts
abbrev pub replay_counts : ℕ → PlanParts → List (ℕ × Reply) → List Step → ReplayCounts
replay_counts workers p answers steps = counts_of steps (replayed workers p answers steps) (passed_over p answers (opening p workers) steps)

-- so many workers replay the steps: the feed of what they gave is printed, then the line of counts, and the status says whether steps were passed over
pub record IsReplayOutput (fails : Bool) (steps : List Step) (workers : ℕ) (p : PlanParts) (answers : List (ℕ × Reply)) (text : List ℕ) (status : ExitStatus) : Type 0 where
  pub texts : TextParts
  pub are : AreTexts p answers (replayed workers p answers steps).given texts
  pub printed : text ≡ feed_of p texts (replayed workers p answers steps).given ++ replay_line (replay_counts workers p answers steps)
  pub exits : status ≡ status_of_replay fails (replay_counts workers p answers steps).passed_over

-- nothing is run: what would be is listed, and the status is success, unless there had to be tests and nothing is listed
pub record IsListing (needs_tests : Bool) (p : PlanParts) (text : List ℕ) (status : ExitStatus) : Type 0 where
  pub listed : text ≡ list_of p
  pub exits : status ≡ status_of_run needs_tests (length text) false

-- nothing is run: a line for each warning, and the nodes of the plan; and the status is that of its list
pub record IsPlanned (needs_tests : Bool) (warnings : Warnings) (p : PlanParts) (text : List ℕ) (status : ExitStatus) : Type 0 where
  pub told : text ≡ head_of details.Plan warnings ++ plan_lines p
  pub exits : status ≡ status_of_run needs_tests (length (list_of p)) false
