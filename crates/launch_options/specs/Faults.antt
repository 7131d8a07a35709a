-- The numbers and places of a launch's refusals.
use Rattle.std.specs.Prelude.{◌≡◌, ℕ, List, [], ◌++◌, codes, Option, Some, None}
use Rattle.std.specs.Fmt.{decimal}
use Rattle.config_params.specs.Faults as params_faults
use Rattle.config_params.specs.SettingsFaults as settings_faults
use Rattle.config_params.specs.declared.limits_fault.LimitsFault.{LimitsFault}
use Rattle.config_params.specs.declared.limits_fault.LimitsFault.TheVariants as limits
use Rattle.resource_locks.specs.declared.fault.PlanFault.{PlanFault}
use Rattle.resource_locks.specs.declared.fault.PlanFault.TheVariants as plans
use Rattle.selectors.specs.Faults.{selector_number}
use Rattle.selectors.specs.declared.select_fault.SelectFault.{SelectFault}
use Rattle.selectors.specs.declared.select_fault.SelectFault.TheVariants as selections
use Rattle.suite_words.specs.Reading.Faults as suite_faults
use Rattle.suite_words.specs.declared.suite.fault.SuiteFault.{SuiteFault}
use Rattle.suite_words.specs.declared.suite.fault.SuiteFault.TheVariants as suites
use Rattle.step_text.specs.declared.steps.StepsFault.{StepsFault}
use Rattle.step_text.specs.declared.steps.StepsFault.TheVariants as steps
use Rattle.tag_expr.specs.Faults as tag_faults
use Rattle.tag_expr.specs.declared.fault.TagFault.{TagFault}
use Rattle.tag_expr.specs.declared.fault.TagFault.TheVariants as tags
use Rattle.launch_options.specs.declared.fault.CutCause.TheVariants.{Writer, Memory}
use Rattle.launch_options.specs.declared.fault.CutOutput.{CutOutput}
use Rattle.launch_options.specs.declared.fault.LaunchFault.{LaunchFault}
use Rattle.launch_options.specs.declared.fault.LaunchFault.TheVariants.{NoMemory, Suite, BadWords, BadStep, BadSelector, BadTags, BadPair, BadSettings, NothingMatches, TooManyKeys, TooManyWorkers, NoWorker, Reading, BadReport, CutReport, UnreadRun, BadSavedLine, UnreadWords, Writing}

-- the number that is printed behind `error`
abbrev pub number_of : LaunchFault → ℕ
number_of NoMemory = 0
number_of (Suite fault) = suite_faults.number_of fault
number_of BadWords = 105
number_of (BadStep number) = 104
number_of (BadSelector refused) = selector_number refused.fault
number_of (BadTags fault) = tag_faults.number fault
number_of (BadPair fault) = params_faults.number fault
number_of (BadSettings fault) = settings_faults.number fault
number_of (NothingMatches number) = 41
number_of TooManyKeys = 50
number_of TooManyWorkers = 61
number_of NoWorker = 90
number_of Reading = 106
number_of (BadReport number) = 107
number_of (CutReport number) = 82
number_of UnreadRun = 108
number_of (BadSavedLine number) = 109
number_of (UnreadWords number) = 110
number_of (Writing cut) = 81

-- the place that is printed behind `at`, if there is one
abbrev pub place_of : LaunchFault → Option ℕ
place_of (Suite fault) = suite_faults.place_of fault
place_of (BadStep number) = Some number
place_of (BadSelector refused) = Some refused.number
place_of (BadTags fault) = tag_faults.place fault
place_of (BadPair fault) = params_faults.place fault
place_of (NothingMatches number) = Some number
place_of (BadReport number) = Some number
place_of (CutReport number) = Some number
place_of (BadSavedLine number) = Some number
place_of (UnreadWords number) = Some number
place_of (Writing cut) = Some cut.sent
place_of _ = None

abbrev pub place_text : Option ℕ → List ℕ
place_text None = []
place_text (Some place) = codes " at " ++ decimal place

-- the line that the program ends with, without its line end
abbrev pub refusal_text : LaunchFault → List ℕ
refusal_text fault = codes "error " ++ decimal (number_of fault) ++ place_text (place_of fault)

-- want of memory is the launch's own, and any other refusal of a suite is one of a suite
abbrev pub IsSuiteFault : SuiteFault → LaunchFault → Type 0
IsSuiteFault suites.NoMemory fault = fault ≡ NoMemory
IsSuiteFault cause fault = fault ≡ Suite cause

-- want of memory is the launch's own, and a token that names no step keeps its number
abbrev pub IsStepsFault : StepsFault → LaunchFault → Type 0
IsStepsFault steps.NoMemory fault = fault ≡ NoMemory
IsStepsFault (steps.BadStep number) fault = fault ≡ BadStep number

-- want of memory is the launch's own, and any other fault is one of a tag expression
abbrev pub IsTagFault : TagFault → LaunchFault → Type 0
IsTagFault tags.NoMemory fault = fault ≡ NoMemory
IsTagFault cause fault = fault ≡ BadTags cause

-- want of memory is the launch's own, and limits that are none are settings that are none
abbrev pub IsLimitsFault : LimitsFault → LaunchFault → Type 0
IsLimitsFault limits.NoMemory fault = fault ≡ NoMemory
IsLimitsFault (limits.Refused cause) fault = fault ≡ BadSettings cause

-- want of memory is the launch's own, and so are too many keys
abbrev pub IsPlanFault : PlanFault → LaunchFault → Type 0
IsPlanFault plans.NoMemory fault = fault ≡ NoMemory
IsPlanFault plans.TooManyKeys fault = fault ≡ TooManyKeys

-- want of memory is the launch's own, and a selector that covers nothing keeps its number
abbrev pub IsSelectFault : SelectFault → LaunchFault → Type 0
IsSelectFault selections.NoMemory fault = fault ≡ NoMemory
IsSelectFault (selections.NothingMatches number) fault = fault ≡ NothingMatches number

-- the writer failed behind so many bytes
abbrev pub cut_by_writer : ℕ → CutOutput
cut_by_writer sent = record { sent = sent; cause = Writer }

-- so many bytes of a feed were printed, and there was no memory for the rest
abbrev pub cut_by_memory : ℕ → CutOutput
cut_by_memory sent = record { sent = sent; cause = Memory }
