-- What is done with the arguments that a program is given, whatever it launches.
use Rattle.std.specs.Prelude.{◌≡◌, ◌⊎◌, ℕ, Bool, List, Option, Result, Ok, Err}
use Rattle.command_words.specs.Expansions.{StandsFor}
use Rattle.command_words.specs.Infos.{AsksForNothing}
use Rattle.command_words.specs.Words.{ReadsWords, reports_wanted, suite_wanted}
use Rattle.launch_options.specs.Given.{Text}
use Rattle.launch_options.specs.declared.asked.Options.{Options}
use Rattle.launch_options.specs.declared.fault.LaunchFault.{LaunchFault}
use Rattle.launch_options.specs.declared.fault.LaunchFault.TheVariants.{BadWords}
use Rattle.messages.specs.Sentences.{Sentences}
use Rattle.report_files.specs.FiledReports.{Wanted}
use Rattle.word_files.specs.declared.facts.Facts.{Facts}
use Rattle.command_line.specs.Infos.{AnswersInfo}
use Rattle.command_line.specs.Runs.{Closes}
use Rattle.command_line.specs.declared.closing.Ending.{Ending}

-- of what is read, who watches, the two writers, and files
module _ {R V W E K : Type 0} (sentence : Sentences) (contents : W → Option (List ℕ)) (said : E → Option (List ℕ)) where
  -- what is refused before anything is launched: that is said, nothing is read or seen, and no file is touched
  pub record RefusesCommand (fault : LaunchFault) (before after : R) (begun ended : V) (old new : W) (first last : E) (was now : K) (ending : Ending) : Type 0 where
    pub unread : after ≡ before
    pub unseen : ended ≡ begun
    pub untouched : now ≡ was
    pub closes : Closes sentence contents said (Err fault) old new first last ending

  -- the arguments are a request for help or for the version: it is answered, and nothing else is touched
  pub record TellsOf (words : List Text) (before after : R) (begun ended : V) (old new : W) (first last : E) (was now : K) (ending : Ending) : Type 0 where
    pub unread : after ≡ before
    pub unseen : ended ≡ begun
    pub untouched : now ≡ was
    pub silent : last ≡ first
    pub answers : AnswersInfo contents words old new ending

  module _ (Conducts : Options → (suite : Option Text) → List Wanted → (before after : R) → (begun ended : V) → (old new : W) → (first last : E) → (was now : K) → Ending → Type 0) where
    -- what is done with what the arguments gave
    abbrev pub ConductsRead : Result Options LaunchFault → (suite : Option Text) → List Wanted → (before after : R) → (begun ended : V) → (old new : W) → (first last : E) → (was now : K) → Ending → Type 0
    ConductsRead (Ok options) suite wanted = Conducts options suite wanted
    ConductsRead (Err fault) suite wanted = RefusesCommand fault

    -- the arguments are read, and what that gave is conducted, with the reports that they ask for; arguments that are refused ask for no help
    pub record IsWordsRun (words : List Text) (before after : R) (begun ended : V) (old new : W) (first last : E) (was now : K) (ending : Ending) : Type 0 where
      pub options : Result Options LaunchFault
      pub reads : ReadsWords words options
      pub unasked : options ≡ Err BadWords → AsksForNothing words
      pub runs : ConductsRead options (suite_wanted words) (reports_wanted words) before after begun ended old new first last was now ending

    -- arguments that ask for help, or for the version, are told it; all others are run
    abbrev pub AnswersWords : List Text → (before after : R) → (begun ended : V) → (old new : W) → (first last : E) → (was now : K) → Ending → Type 0
    AnswersWords words before after begun ended old new first last was now ending =
        TellsOf words before after begun ended old new first last was now ending ⊎ IsWordsRun words before after begun ended old new first last was now ending

    -- what is done with the arguments that others stand for: they are answered; or a file of arguments, or a saved run, is refused
    abbrev pub RunsExpanded : Result (List Text) LaunchFault → (before after : R) → (begun ended : V) → (old new : W) → (first last : E) → (was now : K) → Ending → Type 0
    RunsExpanded (Ok words) = AnswersWords words
    RunsExpanded (Err fault) = RefusesCommand fault

    -- the program, whose arguments stand for others by the files that they name and by what the system tells
    pub record IsCommandRun (facts : Facts) (words : List Text) (before after : R) (begun ended : V) (old new : W) (first last : E) (was now : K) (ending : Ending) : Type 0 where
      pub expanded : Result (List Text) LaunchFault
      pub expands : StandsFor facts words expanded
      pub runs : RunsExpanded expanded before after begun ended old new first last was now ending
