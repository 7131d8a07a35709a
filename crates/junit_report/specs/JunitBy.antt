-- The report in XML by what is told of each node, whatever told it.
use Rattle.std.specs.Prelude.{ℕ, List, map}
use Rattle.std.specs.List.{range_with_len}
use Rattle.descriptor.specs.Nodes.{size}
use Rattle.job_times.specs.Timings.{no_times}
use Rattle.run_results.specs.declared.told.NodeEvents.{NodeEvents}
use Rattle.plan_events.specs.Texts.{TextParts}
use Rattle.junit_report.specs.Junit.{suites_element}
use Rattle.resource_locks.specs.Plans.{PlanParts}

-- the whole text, where no time is known
abbrev pub junit_by : PlanParts → TextParts → (ℕ → NodeEvents) → List ℕ
junit_by plan texts told = suites_element plan texts no_times (map told (range_with_len 0 (size plan.tree)))
