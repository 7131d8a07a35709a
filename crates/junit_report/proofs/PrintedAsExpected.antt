-- What is printed of a complete legal history, where nothing fails fast, is what is expected of the tree: every such history gives the
-- same tree, XML, counts, tests and failure.
use Rattle.std.proofs.Common.{◌≡◌, ℕ, ◌<◌, ◌&&◌, ◌||◌, not, nat_lt, false, List, [], length, ap, ◌∙◌, arith}
use Rattle.descriptor.specs.Kinds.{is_test}
use Rattle.descriptor.specs.Nodes.{IsTree, size, kind_of, is_spare_at}
use Rattle.plan_events.specs.declared.event.Event.{Event}
use Rattle.plan_events.specs.declared.outcome.Reply.{Reply}
use Rattle.plan_events.specs.Statuses.{is_failed}
use Rattle.plan_events.specs.Texts.{TextParts, text_at}
use Rattle.junit_report.specs.Junit.{junit_of}
use Rattle.junit_report.proofs.SameReports.{same_report}
use Rattle.resource_locks.specs.Plans.{PlanParts}
use Rattle.event_history.specs.Expected.{HasOneReply}
use Rattle.event_history.specs.History.{IsLegal, IsComplete, IsTextOf}
use Rattle.run_results.specs.declared.theme.Theme.{Theme}
use Rattle.run_results.specs.declared.told.NodeEvents.{NodeEvents}
use Rattle.run_results.specs.Counts.{outline_of, counts_in, counts_of, was_found}
use Rattle.run_results.specs.Results.{is_failure, tests_found, has_failed}
use Rattle.run_results.specs.Told.{ended, told_of, all_told}
use Rattle.run_results.specs.TreeTexts.{tree_of}
use Rattle.run_results.proofs.Places.{places_len}
use Rattle.junit_report.specs.Expectations.{expected_told, all_expected, expected_texts, expected_tree, expected_xml, expected_counts, is_expected_found, expected_tests, is_expected_failure, expects_failure, IsPrintedAsExpected}
use Rattle.junit_report.proofs.Alike.{same_map, same_any, same_count, same_lines}
use Rattle.junit_report.proofs.ToldAsExpected.{told_is, text_is}

module _ (p : PlanParts) (tree : IsTree p.tree) (reply : ℕ → Reply) (replies : ℕ → List Reply) (one : HasOneReply reply replies) (calm : p.fail_fast ≡ false) (workers : ℕ) (h : List Event)
    (legal : IsLegal p replies workers h) (complete : IsComplete p h) where
  told_so : (n : ℕ) → n < size p.tree → told_of h n ≡ expected_told p.tree reply n
  told_so n inside = told_is p tree reply replies one calm workers h legal complete n inside

  all_so : all_told (length (outline_of p.tree)) h ≡ all_expected p.tree reply
  all_so = ap (λ (nodes : ℕ). all_told nodes h) (places_len p.tree tree) ∙ same_map (told_of h) (expected_told p.tree reply) 0 (size p.tree) (λ k low high. told_so k (omega (arith, high)))

  -- the tree, with texts that are those of the history
  pub tree_as_expected : (theme : Theme) (texts : TextParts) → ((n : ℕ) → n < size p.tree → IsTextOf p replies h n (text_at texts n)) → tree_of theme p texts h ≡ expected_tree theme p.tree reply
  tree_as_expected theme texts are =
      same_lines theme p.tree texts (expected_texts p.tree reply) (told_of h) (expected_told p.tree reply) told_so (λ n inside. text_is p tree reply replies one calm workers h legal complete texts n inside (are n inside)) (size p.tree) [] 0

  -- the report in XML
  pub xml_as_expected : (texts : TextParts) → ((n : ℕ) → n < size p.tree → IsTextOf p replies h n (text_at texts n)) → junit_of p texts h ≡ expected_xml p.tree reply
  xml_as_expected texts are =
      same_report p tree [] [] [] [] false 0 texts (expected_texts p.tree reply) (λ n inside. text_is p tree reply replies one calm workers h legal complete texts n inside (are n inside)) h (expected_told p.tree reply) told_so

  -- the twelve counts
  pub counts_as_expected : counts_of p h ≡ expected_counts p.tree reply
  counts_as_expected = ap (counts_in (outline_of p.tree)) all_so

  -- the tests that are found
  pub tests_as_expected : tests_found p h ≡ expected_tests p.tree reply
  tests_as_expected =
      same_count (λ n. is_test (kind_of p.tree n) && was_found p.tree h n) (λ n. is_test (kind_of p.tree n) && is_expected_found p.tree reply n) (size p.tree)
      (λ n inside. ap (λ (x : NodeEvents). is_test (kind_of p.tree n) && (not (is_spare_at p.tree n) || x.registered)) (told_so n inside))

  -- whether a container or a test failed
  pub failure_as_expected : has_failed p h ≡ expects_failure p.tree reply
  failure_as_expected =
      same_any (is_failure h) (is_expected_failure p.tree reply) 0 (size p.tree) (λ n low high. ap (λ (x : NodeEvents). nat_lt 0 n && ended is_failed x.status) (told_so n (omega (arith, high))))

  -- All of it.
  pub printed_as_expected : (texts : TextParts) → ((n : ℕ) → n < size p.tree → IsTextOf p replies h n (text_at texts n)) → IsPrintedAsExpected p reply h texts
  printed_as_expected texts are = record { tree = λ theme. tree_as_expected theme texts are; xml = xml_as_expected texts are; counts = counts_as_expected; tests = tests_as_expected; failure = failure_as_expected }
