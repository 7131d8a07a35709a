-- What is told to whoever asks for help, or for the version.
use Rattle.std.specs.Prelude.{◌≡◌, ◌⊎◌, ℕ, Bool, true, false, List, Option, Some, None, Err}
use Rattle.launch_options.specs.Given.{Text}
use Rattle.launch_options.specs.declared.fault.LaunchFault.{LaunchFault}
use Rattle.launch_options.specs.declared.fault.LaunchFault.TheVariants.{BadWords, NoMemory}
use Rattle.messages.specs.Sentences.{Sentences}
use Rattle.command_words.specs.Infos.{AsksFor, AsksForNothing}
use Rattle.command_words.specs.declared.info.InfoRequest.{InfoRequest}
use Rattle.command_line.specs.Runs.{Closes, WentOut}
use Rattle.command_line.specs.declared.closing.Ending.{Ending}

-- the status: 0, and 255 where not all of it went out
abbrev pub status_told : (all : Bool) → ℕ
status_told true = 0
status_told false = 255

-- what arguments that were refused for this reason ask for in place of a run, if they do
abbrev pub AsksAfter : LaunchFault → List Text → Option InfoRequest → Type 0
AsksAfter fault words None = fault ≡ BadWords → AsksForNothing words
AsksAfter fault words (Some request) = AsksFor words request

module _ {W : Type 0} (contents : W → Option (List ℕ)) where
  -- this text goes to the writer, and nothing is left to say
  pub record TellsInfo (text : List ℕ) (old new : W) (ending : Ending) : Type 0 where
    pub told : WentOut ending.is_printed (contents old) (contents new) text
    pub silent : ending.is_told ≡ true
    pub status : ending.status ≡ status_told ending.is_printed

  -- the arguments ask for this in place of a run, and are told a text
  pub record AnswersInfo (words : List Text) (old new : W) (ending : Ending) : Type 0 where
    pub request : InfoRequest
    pub asks : AsksFor words request
    pub text : List ℕ
    pub tells : TellsInfo text old new ending

module _ {W E : Type 0} (sentence : Sentences) (contents : W → Option (List ℕ)) (said : E → Option (List ℕ)) where
  -- this cause is said of arguments that ask for nothing else
  pub record RefusesWords (words : List Text) (cause : LaunchFault) (old new : W) (first last : E) (ending : Ending) : Type 0 where
    pub unasked : cause ≡ BadWords → AsksForNothing words
    pub closes : Closes sentence contents said (Err cause) old new first last ending

  -- arguments that were refused for this reason: those that ask for help, or for the version, are told it, and of all others the reason is
  -- said, or that there was not enough memory
  abbrev pub EndsUnread : List Text → LaunchFault → (old new : W) → (first last : E) → Ending → Type 0
  EndsUnread words fault old new first last ending =
      ((last ≡ first) × AnswersInfo contents words old new ending)
      ⊎ (RefusesWords words fault old new first last ending ⊎ RefusesWords words NoMemory old new first last ending)
