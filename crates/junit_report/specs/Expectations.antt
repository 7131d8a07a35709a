-- What is told and printed of a tree where each job has one reply and nothing fails fast: by the result that is expected of each
-- node. No history, no order and no worker occurs here, no mode and no lock.
use Rattle.std.specs.Prelude.{◌≡◌, ℕ, ◌&&◌, ◌||◌, not, nat_lt, Bool, true, false, List, [], map, Option, Some, None}
use Rattle.std.specs.List.{list_any, range_with_len}
use Rattle.descriptor.specs.Kinds.{is_test}
use Rattle.descriptor.specs.Nodes.{Nodes, size, kind_of, is_spare_at, count_below}
use Rattle.event_history.specs.Expected.{Expected, Silent, Skips, Finishes, expected}
use Rattle.run_results.specs.declared.theme.Theme.{Theme}
use Rattle.run_results.specs.declared.told.NodeEvents.{NodeEvents}
use Rattle.run_results.specs.Counts.{outline_of, counts_in, counts_of}
use Rattle.run_results.specs.Results.{tests_found, has_failed}
use Rattle.run_results.specs.Told.{nothing, ended}
use Rattle.run_results.specs.TreeTexts.{lines_below, tree_of}
use Rattle.plan_events.specs.declared.event.Event.{Event}
use Rattle.plan_events.specs.declared.note.Note.{Note}
use Rattle.plan_events.specs.declared.note.Note.TheVariants.{Reason, Own}
use Rattle.plan_events.specs.declared.outcome.Reply.{Reply}
use Rattle.plan_events.specs.Statuses.{is_failed}
use Rattle.plan_events.specs.Texts.{TextParts, reasons_of}
use Rattle.junit_report.specs.Junit.{junit_of}
use Rattle.junit_report.specs.JunitBy.{junit_by}
use Rattle.resource_locks.specs.Plans.{PlanParts}

-- a plan on this tree; modes and locks say nothing of results
abbrev pub plan_on : Nodes → PlanParts
plan_on t = record { tree = t; modes = []; held = []; keys = []; limits = []; fail_fast = false; tolerated = 0 }

-- the result that is expected of node n
abbrev pub result_at : Nodes → (ℕ → Reply) → ℕ → Expected
result_at t reply n = expected (plan_on t) reply n

-- what is told of a node with this result: nothing; that it was skipped; that it started, and how it ended. A spare of which anything
-- is told was registered.
abbrev pub told_by : Bool → Expected → NodeEvents
told_by is_spare Silent = nothing
told_by is_spare Skips = record { started = false; skipped = true; registered = is_spare; status = None }
told_by is_spare (Finishes status text) = record { started = true; skipped = false; registered = is_spare; status = Some status }

-- what is told of node n
abbrev pub expected_told : Nodes → (ℕ → Reply) → ℕ → NodeEvents
expected_told t reply n = told_by (is_spare_at t n) (result_at t reply n)

-- what is told of each node, from node 0
abbrev pub all_expected : Nodes → (ℕ → Reply) → List NodeEvents
all_expected t reply = map (expected_told t reply) (range_with_len 0 (size t))

-- the note of a node with this result: its reason, the text of its result, or none
abbrev pub note_by : Expected → Option Note
note_by Silent = None
note_by Skips = Some Reason
note_by (Finishes status None) = None
note_by (Finishes status (Some text)) = Some (Own text)

-- the texts of the nodes
abbrev pub expected_texts : Nodes → (ℕ → Reply) → TextParts
expected_texts t reply = record { notes = map (λ n. note_by (result_at t reply n)) (range_with_len 0 (size t)); reasons = reasons_of t }

-- the tree that is printed
abbrev pub expected_tree : Theme → Nodes → (ℕ → Reply) → List ℕ
expected_tree theme t reply = lines_below (record { theme = theme; tree = t; texts = expected_texts t reply; told = expected_told t reply }) (size t) [] 0

-- the report in XML
abbrev pub expected_xml : Nodes → (ℕ → Reply) → List ℕ
expected_xml t reply = junit_by (plan_on t) (expected_texts t reply) (expected_told t reply)

-- the twelve counts
abbrev pub expected_counts : Nodes → (ℕ → Reply) → List ℕ
expected_counts t reply = counts_in (outline_of t) (all_expected t reply)

-- whether node n is found: it is no spare, or it was registered
abbrev pub is_expected_found : Nodes → (ℕ → Reply) → ℕ → Bool
is_expected_found t reply n = not (is_spare_at t n) || (expected_told t reply n).registered

-- how many tests are found
abbrev pub expected_tests : Nodes → (ℕ → Reply) → ℕ
expected_tests t reply = count_below (λ n. is_test (kind_of t n) && is_expected_found t reply n) (size t)

-- whether node n fails, as a container or a test; node 0 is neither
abbrev pub is_expected_failure : Nodes → (ℕ → Reply) → ℕ → Bool
is_expected_failure t reply n = nat_lt 0 n && ended is_failed (expected_told t reply n).status

-- whether a container or a test fails
abbrev pub expects_failure : Nodes → (ℕ → Reply) → Bool
expects_failure t reply = list_any (is_expected_failure t reply) (range_with_len 0 (size t))

-- what is printed of this history with these texts is what is expected of the tree and the replies
pub record IsPrintedAsExpected (p : PlanParts) (reply : ℕ → Reply) (h : List Event) (texts : TextParts) : Type 0 where
  pub tree : (theme : Theme) → tree_of theme p texts h ≡ expected_tree theme p.tree reply
  pub xml : junit_of p texts h ≡ expected_xml p.tree reply
  pub counts : counts_of p h ≡ expected_counts p.tree reply
  pub tests : tests_found p h ≡ expected_tests p.tree reply
  pub failure : has_failed p h ≡ expects_failure p.tree reply
