-- The arguments that the arguments of a command line stand for, of which some name saved runs.
use Rattle.std.specs.Prelude.{◌≡◌, ◌≢◌, ◌⊎◌, ℕ, ◌++◌, List, [], ◌∷◌, codes, Result, Ok, Err}
use Rattle.launch_options.specs.declared.fault.LaunchFault.{LaunchFault}
use Rattle.launch_options.specs.declared.fault.LaunchFault.TheVariants.{NoMemory, UnreadRun, BadSavedLine}
use Rattle.saved_runs.specs.Lines.{Tell, IsFirstBad, whole_lines}
use Rattle.saved_runs.specs.declared.told.Told.{Told}
use Rattle.word_files.specs.Expansions.{IsExpansion, IsUnread}
use Rattle.word_files.specs.Reading.{Text}
use Rattle.word_files.specs.declared.facts.Facts.{Facts}
use Rattle.command_words.specs.Roles.{Meaning, Itself, Naming, Saved, before_of, role_of}
use Rattle.command_words.specs.RerunWords.{words_of}
use Rattle.command_words.specs.declared.rerun_role.Before.{Before}
use Rattle.command_words.specs.declared.rerun_role.Before.TheVariants.{Nothing, RerunFailed, Other}

-- a text tells of a saved run, which stands for these arguments
pub record ArePieces (words : List Text) : Type 0 where
  pub text : Text
  pub told : List Told
  pub tell : Tell (whole_lines text) told
  pub are : words ≡ words_of told

-- what an argument stands for is these arguments: of a file, by some text of it
abbrev pub MeansWords : Meaning → List Text → Type 0
MeansWords (Itself word) words = words ≡ word ∷ []
MeansWords Naming words = words ≡ []
MeansWords (Saved file) words = ArePieces words

-- The arguments stand for all of these: of each argument, in their order, those that it stands for. What stands before the next argument is
-- kept besides.
pub data StandFor : (words : List Text) → Before → (all : List Text) → Type 0 where
  none_yet : StandFor [] Nothing []
  one_more : {words : List Text} {before : Before} {all : List Text} → StandFor words before all → (word : Text) (more : List Text) → MeansWords (role_of before word) more
      → StandFor (words ++ word ∷ []) (before_of before word) (all ++ more)

-- an option without its file stays, so that it is refused as any option without its value
abbrev pub with_last : Before → List Text → List Text
with_last Nothing all = all
with_last RerunFailed all = all ++ codes "--rerun-failed" ∷ []
with_last Other all = all

-- the arguments stand for others, by the saved runs that they name
pub record IsRerun (words expanded : List Text) : Type 0 where
  pub last : Before
  pub all : List Text
  pub stand : StandFor words last all
  pub are : expanded ≡ with_last last all

-- why a saved run is refused: its file cannot be read, or a line of its text is the first that is neither one of a feed nor one of its JSON
abbrev pub IsNoRun : LaunchFault → Type 0
IsNoRun fault = (fault ≡ UnreadRun) ⊎ ((text : Text) × (number : ℕ) × (fault ≡ BadSavedLine number) × IsFirstBad number (whole_lines text))

-- an argument names what is no saved run; the arguments before stand for others
pub record IsUnreadRun (words : List Text) (fault : LaunchFault) : Type 0 where
  pub front : List Text
  pub word : Text
  pub rest : List Text
  pub is : words ≡ front ++ word ∷ rest
  pub before : Before
  pub all : List Text
  pub stand : StandFor front before all
  pub file : Text
  pub names : role_of before word ≡ Saved file
  pub why : IsNoRun fault

-- the arguments stand for others by the files of arguments that they name and by what the system tells, and these by the saved runs that
-- they name
pub record IsWhole (facts : Facts) (words all : List Text) : Type 0 where
  pub between : List Text
  pub expansion : IsExpansion facts words between
  pub rerun : IsRerun between all

-- a file of arguments is refused, or a saved run that is named by what they stand for
abbrev pub IsUnreadFile : Facts → List Text → LaunchFault → Type 0
IsUnreadFile facts words fault = IsUnread words fault ⊎ ((between : List Text) × IsExpansion facts words between × IsUnreadRun between fault)

-- what the arguments stand for, or why they stand for nothing; want of memory may stand in place of either
abbrev pub StandsFor : Facts → List Text → Result (List Text) LaunchFault → Type 0
StandsFor facts words (Ok all) = IsWhole facts words all
StandsFor facts words (Err fault) = fault ≢ NoMemory → IsUnreadFile facts words fault
