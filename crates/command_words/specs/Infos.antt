-- What arguments ask for in place of a run.
use Rattle.std.specs.Prelude.{◌≡◌, ◌⊎◌, List, [], Option, Some, None}
use Rattle.clap.specs.Words.{IsAmong, Text, fault_of}
use Rattle.clap.specs.declared.error.kind.ErrorKind.{ErrorKind}
use Rattle.clap.specs.declared.error.kind.ErrorKind.TheVariants as kinds
use Rattle.command_words.specs.Commands.{program}
use Rattle.command_words.specs.declared.info.InfoRequest.{InfoRequest}
use Rattle.command_words.specs.declared.info.InfoRequest.TheVariants.{Help, Version}

-- what is asked for, if it is that which keeps clap from reading arguments
abbrev pub request_of : ErrorKind → Option InfoRequest
request_of kinds.DisplayHelp = Some Help
request_of kinds.DisplayVersion = Some Version
request_of _ = None

-- the arguments ask for this: it keeps clap from reading them
abbrev pub AsksFor : List Text → InfoRequest → Type 0
AsksFor words request = (kind : ErrorKind) × IsAmong kind (fault_of program words) × (request_of kind ≡ Some request)

-- the arguments ask for neither: clap reads them, or something else keeps it from that
abbrev pub AsksForNothing : List Text → Type 0
AsksForNothing words = (fault_of program words ≡ []) ⊎ ((kind : ErrorKind) × IsAmong kind (fault_of program words) × (request_of kind ≡ None))

-- what the arguments ask for in place of a run, if they do
abbrev pub IsInfoAsked : List Text → Option InfoRequest → Type 0
IsInfoAsked words None = AsksForNothing words
IsInfoAsked words (Some request) = AsksFor words request
