-- What the reading of a suite comes to, and what was taken from the reader.
use Rattle.std.specs.Prelude.{◌≡◌, ℕ, ◌+◌, ◌<◌, ◌≤◌, List, length, take, Option, Some, None, Result, Ok, Err}
use Rattle.std.specs.Io.KnownBytes.{Consumes, IsAtEnd}
use Rattle.launch_options.specs.declared.fault.LaunchFault.{LaunchFault}
use Rattle.launch_options.specs.declared.fault.LaunchFault.TheVariants.{NoMemory, Suite, BadWords, BadStep, BadReport, CutReport, UnreadRun, BadSavedLine, UnreadWords, BadSelector, BadTags, BadPair, BadSettings, NothingMatches, TooManyKeys, TooManyWorkers, NoWorker, Reading, Writing}
use Rattle.suite_words.specs.Limits.{byte_limit}
use Rattle.suite_words.specs.declared.suite.fault.SuiteFault.{SuiteFault}
use Rattle.suite_text.specs.Reading.Bytes.{suite_read}
use Rattle.suite_text.specs.Reading.Parts.{SuiteParts}
use Rattle.suite_text.specs.Suites.{suite_parts}
use Rattle.suite_text.specs.declared.suite.Suite as suites
use Rattle.ready_runs.specs.declared.bytes.ReadFault.{ReadFault}
use Rattle.ready_runs.specs.declared.bytes.ReadFault.TheVariants as reads

-- want of memory is the launch's own
abbrev pub IsReadFault : ReadFault → LaunchFault → Type 0
IsReadFault reads.NoMemory fault = fault ≡ NoMemory
IsReadFault reads.Failed fault = fault ≡ Reading

-- what the reading of a suite refuses: the suite's own refusal is the one that the definition gives
abbrev pub FailsToRead : Result SuiteParts SuiteFault → LaunchFault → Type 0
FailsToRead read NoMemory = Unit {0}
FailsToRead read (Suite fault) = read ≡ Err fault
FailsToRead read BadWords = ⊥
FailsToRead read (BadStep number) = ⊥
FailsToRead read (BadReport number) = ⊥
FailsToRead read (CutReport number) = ⊥
FailsToRead read UnreadRun = ⊥
FailsToRead read (BadSavedLine number) = ⊥
FailsToRead read (UnreadWords number) = ⊥
FailsToRead read (BadSelector number) = ⊥
FailsToRead read (BadTags fault) = ⊥
FailsToRead read (BadPair fault) = ⊥
FailsToRead read (BadSettings fault) = ⊥
FailsToRead read (NothingMatches number) = ⊥
FailsToRead read TooManyKeys = ⊥
FailsToRead read TooManyWorkers = ⊥
FailsToRead read NoWorker = ⊥
FailsToRead read Reading = Unit {0}
FailsToRead read (Writing fault) = ⊥

-- the reading gives the suite, or refuses it
abbrev pub ReadsSuite : Result SuiteParts SuiteFault → Result suites.Suite LaunchFault → Type 0
ReadsSuite read (Ok suite) = read ≡ Ok (suite_parts suite)
ReadsSuite read (Err fault) = FailsToRead read fault

-- the fault of an answer, if it is one
abbrev pub fault_in : {A : Type 0} → Result A LaunchFault → Option LaunchFault
fault_in (Ok a) = None
fault_in (Err fault) = Some fault

-- how many bytes of a suite are read at most, where so many nodes were asked for: one more than it may have tells that there are too many
abbrev pub most_read : Option ℕ → ℕ
most_read most = byte_limit most + 1

-- what bytes are as a suite of which only so many are read
abbrev pub front_read : Option ℕ → List ℕ → Result SuiteParts SuiteFault
front_read most bytes = suite_read most (take (most_read most) bytes)

-- how far a reader was read that gave so many bytes, where there may be so many at most: where it failed, or memory ran out, not to the end
-- of what may be read, so neither stands in place of a suite that is too large; else to that end or to its own
abbrev pub EndsAs : (limit : ℕ) → Option LaunchFault → ℕ → Option (List ℕ) → Type 0
EndsAs limit (Some Reading) count new = count < limit
EndsAs limit (Some NoMemory) count new = count < limit
EndsAs limit fault count new = count < limit → IsAtEnd new

-- some bytes were taken from the reader, at most so many, and these are what was judged
pub record TakesFrom (limit : ℕ) (old new : Option (List ℕ)) (fault : Option LaunchFault) (Judged : List ℕ → Type 0) : Type 0 where
  pub bytes : List ℕ
  pub consumed : Consumes old new bytes
  pub fits : length bytes ≤ limit
  pub ends : EndsAs limit fault (length bytes) new
  pub judged : Judged bytes
