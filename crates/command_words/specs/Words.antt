-- What the arguments of the command line ask for, and why they ask for nothing.
use Rattle.std.specs.Prelude.{◌≡◌, ◌≢◌, List, [], ◌∷◌, Option, Some, None, Result, Ok, Err}
use Rattle.std.specs.List.{filter_map}
use Rattle.clap.specs.Words.{Kinds, Text, fault_of, matches_of}
use Rattle.clap.specs.declared.error.kind.ErrorKind.{ErrorKind}
use Rattle.clap.specs.declared.error.kind.ErrorKind.TheVariants as kinds
use Rattle.launch_options.specs.Asked.{AreAsked, asked_by, refusal_of}
use Rattle.launch_options.specs.Given.{Values}
use Rattle.launch_options.specs.ReportTexts.{report_in}
use Rattle.launch_options.specs.declared.details.Details.{Details}
use Rattle.launch_options.specs.declared.asked.Options.{Options}
use Rattle.launch_options.specs.declared.fault.LaunchFault.{LaunchFault}
use Rattle.launch_options.specs.declared.fault.LaunchFault.TheVariants.{NoMemory, BadWords}
use Rattle.command_words.specs.Commands.{program}
use Rattle.command_words.specs.Found.{values_in}

-- want of memory is told apart; every other refusal of the arguments is one
abbrev pub IsWordsFault : ErrorKind → LaunchFault → Type 0
IsWordsFault kinds.OutOfMemory fault = fault ≡ NoMemory
IsWordsFault _ fault = fault ≡ BadWords

-- what clap refuses is refused, and else what there is to refuse
abbrev pub where_faultless : Kinds → Option LaunchFault → Option LaunchFault
where_faultless [] refusal = refusal
where_faultless (fault ∷ more) refusal = Some BadWords

-- what the arguments give the options, of which the first is the program's name
abbrev pub values_given : List Text → Values
values_given words = values_in (matches_of program words)

-- why the arguments are refused, if they are
abbrev pub words_refusal : List Text → Option LaunchFault
words_refusal words = where_faultless (fault_of program words) (refusal_of (values_given words))

-- the reports that the arguments ask for, each with its form and the name under which it is to stand
abbrev pub reports_wanted : List Text → List (Details × Text)
reports_wanted words = filter_map report_in (values_given words).reports

-- the file in which the suite is to be found, if the arguments name one
abbrev pub suite_wanted : List Text → Option Text
suite_wanted words = (values_given words).suite

-- what clap says of the arguments: the values of the options, or a refusal
abbrev pub CutsWords : List Text → Result Values LaunchFault → Type 0
CutsWords words (Ok values) = (values ≡ values_given words) × (fault_of program words ≡ [])
CutsWords words (Err fault) = fault ≢ NoMemory → (fault ≡ BadWords) × (fault_of program words ≢ [])

-- what these values ask for, or why they ask for nothing; want of memory stands in place of no refusal
pub record IsAsked (values : Values) (options : Options) : Type 0 where
  pub accepted : refusal_of values ≡ None
  pub asked : AreAsked values (asked_by options)

pub record IsNotAsked (values : Values) (fault : LaunchFault) : Type 0 where
  pub refused : fault ≢ NoMemory → refusal_of values ≡ Some fault
  pub no_memory : fault ≡ NoMemory → refusal_of values ≡ None

-- what the cut arguments ask for; what clap refuses is refused
abbrev pub AsksCut : Result Values LaunchFault → Result Options LaunchFault → Type 0
AsksCut (Ok values) (Ok options) = IsAsked values options
AsksCut (Ok values) (Err fault) = IsNotAsked values fault
AsksCut (Err fault) options = options ≡ Err fault

-- the arguments are cut by clap, and then judged: so want of memory is either clap's, or hides no refusal
pub record ReadsWords (words : List Text) (options : Result Options LaunchFault) : Type 0 where
  pub cut : Result Values LaunchFault
  pub cuts : CutsWords words cut
  pub asks : AsksCut cut options
