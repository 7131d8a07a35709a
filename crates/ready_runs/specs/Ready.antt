-- The settings and the plan of a run, what a suite's bodies answer, and why it is not run.
use Rattle.std.specs.Prelude.{◌≡◌, ℕ, ◌≤◌, nat_lt, List, length, map, Bool, true, if◌then◌else◌, Option, Some, None, option_map, Result, Ok, Err}
use Rattle.std.specs.Option.{option_or}
use Rattle.config_params.specs.Settings.{settings_of}
use Rattle.config_params.specs.LockLimits.{limited_as_said, limits_refusal}
use Rattle.config_params.specs.Parameters.{Parameters, answer_over}
use Rattle.config_params.specs.declared.settings.Settings.{Settings}
use Rattle.config_params.specs.declared.settings_fault.SettingsFault.{SettingsFault}
use Rattle.descriptor.specs.Nodes.{Nodes}
use Rattle.config_params.specs.GivenModes.{given_modes}
use Rattle.plan_events.specs.declared.outcome.Reply.{Reply}
use Rattle.resource_locks.specs.Declarations.{declared_of}
use Rattle.resource_locks.specs.Held as hoisted
use Rattle.resource_locks.specs.Hoisted.{IsGuarded}
use Rattle.resource_locks.specs.Keys.{keys_of}
use Rattle.resource_locks.specs.Plans.{PlanParts}
use Rattle.resource_locks.specs.Spares.{HasBareSpares}
use Rattle.never_stuck.specs.Reaching.{NeverStuck}
use Rattle.launch_options.specs.declared.fault.LaunchFault.{LaunchFault}
use Rattle.launch_options.specs.declared.fault.LaunchFault.TheVariants.{NoMemory, BadSettings, NothingMatches, TooManyKeys, TooManyWorkers, NoWorker}
use Rattle.selectors.specs.declared.request.Request.{Request}
use Rattle.selectors.specs.declared.select_fault.SelectFault.{SelectFault}
use Rattle.selectors.specs.declared.select_fault.SelectFault.TheVariants as selections
use Rattle.selectors.specs.Selections.{answer, refusal}
use Rattle.suite_words.specs.declared.script.Script.{Script}
use Rattle.suite_text.specs.Reading.Parts.{SuiteParts}
use Rattle.launch_options.specs.Asked.{Asked}
use Rattle.launch_options.specs.Workers.{answer_with}
use Rattle.run_outputs.specs.Outputs.{is_run}

-- settings with so many workers in place of theirs, if a number is asked for
abbrev pub with_workers : Option ℕ → Settings → Settings
with_workers None settings = settings
with_workers (Some workers) settings = record settings { workers = workers }

-- the settings, if there are any, with so many workers in place of theirs, if a number is asked for
abbrev pub driven_by : Option ℕ → Result Settings SettingsFault → Result Settings SettingsFault
driven_by drive (Ok settings) = Ok (with_workers drive settings)
driven_by drive (Err fault) = Err fault

-- the settings of a run: what the options say of a key stands over what the suite says of it, and with `--workers` nodes are
-- concurrent where neither says what they are; with `--drive` there are as many workers as it asks for
abbrev pub settings_in : Asked → SuiteParts → Result Settings SettingsFault
settings_in asked suite = driven_by asked.drive (settings_of (answer_with asked.workers asked.params suite.properties) asked.processors)

-- the plan of a tree: each node has the mode that the settings give it, locks are held by the nodes that they are hoisted to,
-- and it fails fast, after more failures than these, or does not
abbrev pub plan_of : (fail_fast : Bool) (tolerated : ℕ) → Settings → Nodes → PlanParts
plan_of fail_fast tolerated settings tree = record (hoisted.plan_of tree (given_modes tree settings)) { fail_fast = fail_fast; tolerated = tolerated }

-- the plan of what is run of a tree where the properties are these: the plan of what the request selects, in which as many nodes hold a
-- lock at once as the options say, and as the properties say of what these leave open
abbrev pub plan_in : Asked → (tree : Nodes) (properties : Parameters) → Settings → PlanParts
plan_in asked tree properties settings = limited_as_said (answer_over asked.params properties) (plan_of asked.fail_fast asked.tolerated settings (answer tree asked.request))

-- what its bodies answer
abbrev pub answers_of : List Script → List (ℕ × Reply)
answers_of scripts = map (λ script. (script.body, script.reply)) scripts

-- why settings are refused
abbrev pub settings_refusal : Result Settings SettingsFault → Option LaunchFault
settings_refusal (Ok settings) = None
settings_refusal (Err fault) = Some (BadSettings fault)

-- the refusal of a selection
abbrev pub selection_fault : SelectFault → LaunchFault
selection_fault selections.NoMemory = NoMemory
selection_fault (selections.NothingMatches number) = NothingMatches number

-- why a request is refused: the first selector that covers nothing of the tree
abbrev pub selection_refusal : Nodes → Request → Option LaunchFault
selection_refusal tree request = option_map selection_fault (refusal tree request)

-- why a tree has no plan: its nodes declare too many keys
abbrev pub keys_refusal : Nodes → Option LaunchFault
keys_refusal tree = if nat_lt 256 (length (keys_of (declared_of tree))) then Some TooManyKeys else None

-- why limits of locks are refused, which are judged by the whole tree
abbrev pub limits_refused : Asked → Nodes → Parameters → Option LaunchFault
limits_refused asked tree properties = option_map BadSettings (limits_refusal asked.params properties tree)

-- why there is no plan of what a request selects of a tree where the properties are these
abbrev pub plan_refusal : Asked → Nodes → Parameters → Option LaunchFault
plan_refusal asked tree properties = option_or (selection_refusal tree asked.request) (option_or (limits_refused asked tree properties) (keys_refusal (answer tree asked.request)))

-- why a number of workers is refused: there are too many
abbrev pub workers_refusal : ℕ → Option LaunchFault
workers_refusal workers = if nat_lt 64 workers then Some TooManyWorkers else None

-- why the number of workers of these settings is refused, if there are settings
abbrev pub crowd_refusal : Result Settings SettingsFault → Option LaunchFault
crowd_refusal (Ok settings) = workers_refusal settings.workers
crowd_refusal (Err fault) = None

-- why a suite is not run: what its settings are refused for, a selector that covers nothing of it, limits of locks that are none, too
-- many keys of what is selected, and too many workers
abbrev pub run_refusal : Asked → SuiteParts → Option LaunchFault
run_refusal asked suite =
    option_or (settings_refusal (settings_in asked suite)) (
    option_or (plan_refusal asked suite.tree suite.properties) (
    crowd_refusal (settings_in asked suite)))

-- nothing refuses the suite that is judged before memory is taken: neither its settings nor a selector
pub record TakesMemory (asked : Asked) (suite : SuiteParts) : Type 0 where
  pub settings : settings_refusal (settings_in asked suite) ≡ None
  pub selection : selection_refusal suite.tree asked.request ≡ None

-- the output of a suite is refused by its first refusal, and want of memory stands in place of none that is judged before; where
-- nothing refuses the suite there may be no thread to run it
abbrev pub FailsSuite : Asked → SuiteParts → LaunchFault → Type 0
FailsSuite asked suite NoMemory = TakesMemory asked suite
FailsSuite asked suite (BadSettings fault) = run_refusal asked suite ≡ Some (BadSettings fault)
FailsSuite asked suite (NothingMatches number) = run_refusal asked suite ≡ Some (NothingMatches number)
FailsSuite asked suite TooManyKeys = run_refusal asked suite ≡ Some TooManyKeys
FailsSuite asked suite TooManyWorkers = run_refusal asked suite ≡ Some TooManyWorkers
FailsSuite asked suite NoWorker = (run_refusal asked suite ≡ None) × (is_run asked.replay asked.details ≡ true)
FailsSuite asked suite _ = ⊥

-- The suite is accepted: these are the settings of its run, its plan and what its bodies answer.
pub record IsReady (asked : Asked) (suite : SuiteParts) (settings : Settings) (plan : PlanParts) (answers : List (ℕ × Reply)) : Type 0 where
  pub accepted : run_refusal asked suite ≡ None
  pub are : settings_in asked suite ≡ Ok settings
  pub plan_is : plan ≡ plan_in asked suite.tree suite.properties settings
  pub replies_are : answers ≡ answers_of suite.scripts
  pub some : 1 ≤ settings.workers
  pub few : settings.workers ≤ 64
  pub guarded : IsGuarded (declared_of plan.tree) plan
  pub never_stuck : HasBareSpares suite.tree → NeverStuck plan
