-- The statuses that the program ends with, their numbers, and when each comes.
use Rattle.std.specs.Prelude.{ℕ, ◌==◌, ◌&&◌, Bool, true, false, if◌then◌else◌, Result, Ok, Err}
use Rattle.run_outputs.specs.declared.exit_status.ExitStatus.{ExitStatus}
use Rattle.run_outputs.specs.declared.exit_status.ExitStatus.TheVariants.{Success, TestsFailed, NoTestsFound, StepsPassedOver, Refused}
use Rattle.launch_options.specs.declared.fault.LaunchFault.{LaunchFault}

-- the number that the system is told
abbrev pub number_of : ExitStatus → ℕ
number_of Success = 0
number_of TestsFailed = 1
number_of NoTestsFound = 2
number_of (StepsPassedOver true) = 1
number_of (StepsPassedOver false) = 0
number_of Refused = 255

-- the status of a run: where there have to be tests and none is there that is told first, and else whether a node failed
abbrev pub status_of_run : Bool → ℕ → Bool → ExitStatus
status_of_run needs_tests tests has_failure = if needs_tests && (tests == 0) then NoTestsFound else (if has_failure then TestsFailed else Success)

-- the status of a replay that passed so many steps over: success if it passed over none, and else that it did, which fails or not
abbrev pub status_of_replay : (fails : Bool) → (passed_over : ℕ) → ExitStatus
status_of_replay fails passed_over = if passed_over == 0 then Success else StepsPassedOver fails

-- the status that the program ends with: the run's own, or that of a refusal
abbrev pub status_after : Result ExitStatus LaunchFault → ExitStatus
status_after (Ok status) = status
status_after (Err fault) = Refused
