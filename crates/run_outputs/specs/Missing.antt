-- Where something had to be selected: what the status says then.
use Rattle.std.specs.Prelude.{◌≡◌, ◌&&◌, Bool, is_none, if◌then◌else◌, List, ℕ, Result, Ok, Err}
use Rattle.descriptor.specs.Nodes.{Nodes}
use Rattle.launch_options.specs.Asked.{Asked}
use Rattle.launch_options.specs.declared.fault.LaunchFault.{LaunchFault}
use Rattle.run_outputs.specs.declared.exit_status.ExitStatus.{ExitStatus}
use Rattle.run_outputs.specs.declared.exit_status.ExitStatus.TheVariants.{NoTestsFound}
use Rattle.selectors.specs.Selections.{selects_nothing}

-- whether something had to be selected, of which a shard is run, and nothing is; a replay does not ask
abbrev pub is_missing_by : Asked → Bool → Bool
is_missing_by asked nothing = asked.fail_if_nothing_selected && (is_none asked.replay && nothing)

-- whether the request had to select something of a tree, and selects nothing
abbrev pub is_missing : Asked → Nodes → Bool
is_missing asked t = is_missing_by asked (selects_nothing t asked.request)

-- the status of a run, and where something is missing that of a run without tests
abbrev pub status_unless : Bool → ExitStatus → ExitStatus
status_unless missing status = if missing then NoTestsFound else status

-- an answer with this status
abbrev pub answer_unless : Bool → Result ExitStatus LaunchFault → Result ExitStatus LaunchFault
answer_unless missing (Ok status) = Ok (status_unless missing status)
answer_unless missing (Err fault) = Err fault

-- such an output, with this status
pub record IsJudged (missing : Bool) (Output : List ℕ → ExitStatus → Type 0) (text : List ℕ) (status : ExitStatus) : Type 0 where
  pub told : ExitStatus
  pub output : Output text told
  pub exits : status ≡ status_unless missing told
