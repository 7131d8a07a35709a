-- What is done with arguments that were refused.
use Rattle.std.proofs.Common.{List, Option, None, Some, IfOk, Result, Ok, Err, refl}
use Rattle.command_words.specs.Infos.{IsInfoAsked}
use Rattle.command_words.specs.Words.{ReadsWords}
use Rattle.command_words.specs.declared.info.InfoRequest.{InfoRequest}
use Rattle.launch_options.specs.Given.{Text}
use Rattle.launch_options.specs.declared.fault.LaunchFault.{LaunchFault}
use Rattle.launch_options.specs.declared.fault.LaunchFault.TheVariants.{NoMemory}
use Rattle.command_line.specs.Infos.{AsksAfter}

-- what clap says of the arguments is what they ask for
pub asked_after : {X E : Type 0} (request : X → Option InfoRequest) (result : Result X E) (fault : LaunchFault) (words : List Text) → IfOk result (λ x. IsInfoAsked words (request x)) → IfOk result (λ x. AsksAfter fault words (request x))
asked_after request (Ok x) fault words is = by (request x) is
  where
    by : (asked : Option InfoRequest) → IsInfoAsked words asked → AsksAfter fault words asked
    by None is = λ same. is
    by (Some info) is = is
asked_after request (Err error) fault words is = tt

-- want of memory is a reading of any arguments
pub reads_nothing : (words : List Text) → ReadsWords words (Err NoMemory)
reads_nothing words = record { cut = Err NoMemory; cuts = λ other. absurd (other refl); asks = refl }
