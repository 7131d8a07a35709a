-- How long the cases of a report took, as it is written: in seconds with three places.
use Rattle.std.specs.Prelude.{ℕ, ◌==◌, cond, List}
use Rattle.std.specs.Fmt.{decimal}
use Rattle.std.specs.List.{sum_by}
use Rattle.job_times.specs.Timings.{Took}
use Rattle.reports.specs.TimeTexts.{seconds_text, time_or_none}
use Rattle.junit_report.specs.declared.cases.Case.{Case}

-- so many microseconds in seconds, where no time is a mere 0
abbrev pub time_text : ℕ → List ℕ
time_text micros = cond (micros == 0) (decimal 0) (seconds_text micros)

-- the microseconds of the nodes of these cases
abbrev pub time_of_cases : Took → List Case → ℕ
time_of_cases took cases = sum_by (λ c. time_or_none took c.node) cases
