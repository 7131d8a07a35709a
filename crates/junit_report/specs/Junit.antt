-- The report that build servers read: JUnit's XML. A suite for each node that has cases, and in it an element for each case.
use Rattle.std.specs.Prelude.{ℕ, ◌==◌, Bool, cond, List, [], ◌++◌, length, codes, Option, Some, None}
use Rattle.std.specs.List.{flat_map, count_by, range_with_len}
use Rattle.descriptor.specs.Nodes.{size}
use Rattle.job_times.specs.Timings.{Took, Times, no_times}
use Rattle.resource_locks.specs.Plans.{PlanParts}
use Rattle.plan_events.specs.Texts.{TextParts, text_at}
use Rattle.plan_events.specs.declared.event.Event.{Event}
use Rattle.run_results.specs.Feed.{id_at, text_or}
use Rattle.run_results.specs.Told.{all_told}
use Rattle.run_results.specs.TreeTexts.{name_at}
use Rattle.run_results.specs.declared.told.NodeEvents.{NodeEvents}
use Rattle.junit_report.specs.Cases.{cases_of, has_error, has_failed, is_left_out}
use Rattle.junit_report.specs.ClassNames.{class_name, reported_name}
use Rattle.junit_report.specs.CaseTimes.{time_text, time_of_cases}
use Rattle.junit_report.specs.XmlStrings.{attribute, attribute_of, number_attribute, element, empty_element, escaped}
use Rattle.junit_report.specs.declared.cases.Case.{Case}
use Rattle.junit_report.specs.declared.told.NodeEnd.{NodeEnd}
use Rattle.junit_report.specs.declared.told.NodeEnd.TheVariants.{Passed, Failed, Aborted, Skipped, NotRun}
use Rattle.reports.specs.TimeTexts.{time_or_none}

-- an element that says why, with these words before the text, and of which type that is
abbrev pub reason_element : List ℕ → List ℕ → List ℕ → List ℕ → List ℕ
reason_element name words text kind =
    empty_element name (attribute_of (codes "message") (words ++ escaped text) ++ attribute_of (codes "type") kind)

-- a case that failed itself is a failure, one below a node that failed an error
abbrev pub failure_name : Bool → List ℕ
failure_name own = cond own (codes "failure") (codes "error")

-- what stands before the text of a skipped or aborted node, in a case of its own and in one below it
abbrev pub words_above : Bool → List ℕ → List ℕ
words_above own words = cond own [] words

-- what is told of a case, of its own node or of one that it is below, with this text; nothing where it passed
abbrev pub end_elements : Bool → NodeEnd → List ℕ → List ℕ
end_elements own Passed text = []
end_elements own Failed text = reason_element (failure_name own) [] text (codes "FAILED")
end_elements own Aborted text = reason_element (codes "skipped") (words_above own (codes "parent was aborted: ")) text (codes "ABORTED")
end_elements own Skipped text = reason_element (codes "skipped") (words_above own (codes "parent was skipped: ")) text (codes "SKIPPED")
end_elements own NotRun text = reason_element (codes "skipped") (codes "not run") [] (codes "NOT_RUN")

-- what a case says of its node besides: its unique id and its name, a line each
abbrev pub output_element : PlanParts → ℕ → List ℕ
output_element plan n =
    codes "<system-out>unique-id: " ++ (escaped (id_at plan n) ++ (codes "&#10;display-name: " ++ (escaped (name_at plan.tree n) ++ codes "</system-out>")))

-- what stands in a case
abbrev pub case_content : PlanParts → TextParts → Case → List ℕ
case_content plan texts c =
    end_elements (c.cause.node == c.node) c.cause.end (text_or (text_at texts c.cause.node)) ++ output_element plan c.node

-- the name of a case and that of its class, and how long its node took
abbrev pub case_attributes : PlanParts → Took → List ℕ → ℕ → List ℕ
case_attributes plan took class n =
    attribute_of (codes "name") (reported_name plan.tree n)
    ++ (attribute (codes "classname") class
    ++ attribute_of (codes "time") (time_text (time_or_none took n)))

-- a case's line
abbrev pub case_line : PlanParts → TextParts → Took → List ℕ → Case → List ℕ
case_line plan texts took class c =
    codes "    " ++ (element (codes "testcase") (case_attributes plan took class c.node) (case_content plan texts c) ++ codes "\n")

-- the name of a suite and its counts: all cases, those that failed, those below a node that failed, and those that neither passed nor
-- failed; and how long the nodes of all cases took
abbrev pub count_attributes : Took → List ℕ → List Case → List ℕ
count_attributes took class cases =
    attribute (codes "name") class
    ++ (number_attribute (codes "tests") (length cases)
    ++ (number_attribute (codes "failures") (count_by has_failed cases)
    ++ (number_attribute (codes "errors") (count_by has_error cases)
    ++ (number_attribute (codes "skipped") (count_by is_left_out cases)
    ++ attribute_of (codes "time") (time_text (time_of_cases took cases))))))

-- an attribute whose value is a text, and nothing where that is not known
abbrev pub known_attribute : List ℕ → Option (List ℕ) → List ℕ
known_attribute name None = []
known_attribute name (Some value) = attribute name value

-- the name of the machine, and when the run began
abbrev pub stamp_attributes : Times → List ℕ
stamp_attributes times = known_attribute (codes "hostname") times.host ++ known_attribute (codes "timestamp") times.moment

-- all attributes of a suite
abbrev pub suite_attributes : Times → List ℕ → List Case → List ℕ
suite_attributes times class cases = count_attributes times.took class cases ++ stamp_attributes times

-- a suite of these cases, from a line of its own to the end of a line
abbrev pub suite_element : PlanParts → TextParts → Times → List ℕ → List Case → List ℕ
suite_element plan texts times class cases =
    codes "  " ++ (element (codes "testsuite") (suite_attributes times class cases) (codes "\n" ++ (flat_map (case_line plan texts times.took class) cases ++ codes "  ")) ++ codes "\n")

-- a suite, and nothing where there is no case
abbrev pub suite_with : PlanParts → TextParts → Times → List ℕ → List Case → List ℕ
suite_with plan texts times class cases = cond (length cases == 0) [] (suite_element plan texts times class cases)

-- the suite of node n, of whose nodes this was told
abbrev pub suite_of : PlanParts → TextParts → Times → List NodeEvents → ℕ → List ℕ
suite_of plan texts times told n = suite_with plan texts times (class_name plan.tree n) (cases_of plan.tree told n)

-- the element of all suites, in the plan's order
abbrev pub suites_element : PlanParts → TextParts → Times → List NodeEvents → List ℕ
suites_element plan texts times told =
    element (codes "testsuites") [] (codes "\n" ++ flat_map (suite_of plan texts times told) (range_with_len 0 (size plan.tree))) ++ codes "\n"

-- the whole text, from the line of the document's element
abbrev pub timed_junit_of : PlanParts → TextParts → Times → List Event → List ℕ
timed_junit_of plan texts times events = suites_element plan texts times (all_told (size plan.tree) events)

-- the whole text where no time is known
abbrev pub junit_of : PlanParts → TextParts → List Event → List ℕ
junit_of plan texts events = timed_junit_of plan texts no_times events
