-- A program's tree and its configuration as a suite's, and why its jobs are not run.
use Rattle.std.specs.Prelude.{◌≡◌, ℕ, true, List, [], Option, Some, None}
use Rattle.std.specs.Option.{option_or}
use Rattle.config_params.specs.Parameters.{Parameters}
use Rattle.descriptor.specs.Nodes.{Nodes}
use Rattle.scheduling.specs.declared.step.Step.{Step}
use Rattle.suite_text.specs.Reading.Parts.{SuiteParts}
use Rattle.launch_options.specs.Asked.{Asked}
use Rattle.launch_options.specs.declared.fault.LaunchFault.{LaunchFault}
use Rattle.launch_options.specs.declared.fault.LaunchFault.TheVariants.{BadSettings, BadWords, NoMemory, NothingMatches, NoWorker, TooManyKeys, TooManyWorkers}
use Rattle.ready_runs.specs.Ready.{TakesMemory, run_refusal}
use Rattle.run_outputs.specs.Outputs.{is_run}

-- a program's tree and what it says of the configuration, as those of a suite without scripts
abbrev pub program_parts : Nodes → Parameters → SuiteParts
program_parts tree properties = record { tree = tree; scripts = []; properties = properties }

-- why options are refused that are for suites alone: steps that are to be replayed, or those of the fixed schedule, since nobody knows
-- beforehand what the jobs answer, and a number of nodes, since the program has built its tree before the words are read
abbrev pub suite_option_refusal : (replay : Option (List Step)) (drive most_nodes : Option ℕ) → Option LaunchFault
suite_option_refusal (Some steps) drive most_nodes = Some BadWords
suite_option_refusal None (Some workers) most_nodes = Some BadWords
suite_option_refusal None None (Some most) = Some BadWords
suite_option_refusal None None None = None

-- why a program is not run: what is for suites alone, and then what a suite is refused for
abbrev pub program_refusal : Asked → SuiteParts → Option LaunchFault
program_refusal asked parts = option_or (suite_option_refusal asked.replay asked.drive asked.most_nodes) (run_refusal asked parts)

-- a program is refused by its first refusal, and want of memory stands in place of none that is judged before; where nothing refuses
-- it there may be no thread to run it
abbrev pub FailsProgram : Asked → SuiteParts → LaunchFault → Type 0
FailsProgram asked parts NoMemory = (suite_option_refusal asked.replay asked.drive asked.most_nodes ≡ None) × TakesMemory asked parts
FailsProgram asked parts BadWords = program_refusal asked parts ≡ Some BadWords
FailsProgram asked parts (BadSettings fault) = program_refusal asked parts ≡ Some (BadSettings fault)
FailsProgram asked parts (NothingMatches number) = program_refusal asked parts ≡ Some (NothingMatches number)
FailsProgram asked parts TooManyKeys = program_refusal asked parts ≡ Some TooManyKeys
FailsProgram asked parts TooManyWorkers = program_refusal asked parts ≡ Some TooManyWorkers
FailsProgram asked parts NoWorker = (program_refusal asked parts ≡ None) × (is_run None asked.details ≡ true)
FailsProgram asked parts _ = ⊥
