-- What became of a node, by what events tell of it.
use Rattle.std.specs.Prelude.{ℕ, Bool, true, false, cond, Option, Some, None}
use Rattle.plan_events.specs.declared.status.Status.{Status}
use Rattle.plan_events.specs.declared.status.Status.TheVariants as statuses
use Rattle.run_results.specs.declared.told.NodeEvents.{NodeEvents}
use Rattle.junit_report.specs.declared.told.NodeEnd.{NodeEnd}
use Rattle.junit_report.specs.declared.told.NodeEnd.TheVariants.{Passed, Failed, Aborted, Skipped, NotRun}

-- what became of a node that was not skipped: how it ended, if it did
abbrev pub end_by : Option Status → NodeEnd
end_by None = NotRun
end_by (Some statuses.Successful) = Passed
end_by (Some statuses.Aborted) = Aborted
end_by (Some statuses.Failed) = Failed

-- what became of a node of which this is told
abbrev pub end_of : NodeEvents → NodeEnd
end_of told = cond told.skipped Skipped (end_by told.status)

-- how bad that is: a failure is worse than a skip or an abortion, and these are worse than what passed or was not run
abbrev pub badness : NodeEnd → ℕ
badness Passed = 0
badness Failed = 2
badness Aborted = 1
badness Skipped = 1
badness NotRun = 0

-- whether it is a pass
abbrev pub is_pass : NodeEnd → Bool
is_pass Passed = true
is_pass _ = false

-- whether it is a failure
abbrev pub is_failure : NodeEnd → Bool
is_failure Failed = true
is_failure _ = false
