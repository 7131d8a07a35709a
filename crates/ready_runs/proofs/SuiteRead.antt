-- From the bytes that were read to a suite or a refusal.
use Rattle.std.proofs.Common.{ℕ, List, Option, Some, None, IfSome, Result, Ok, Err}
use Rattle.std.specs.Result.{IsErrAnd}
use Rattle.suite_text.specs.declared.suite.Suite.{Suite}
use Rattle.suite_words.specs.declared.suite.fault.SuiteFault.{SuiteFault}
use Rattle.suite_words.specs.declared.suite.fault.SuiteFault.TheVariants.{NoMemory, BadLine, BadIndent, MissingVerdict, TooLarge, Refused, BadProperty}
use Rattle.launch_options.specs.declared.fault.LaunchFault.{LaunchFault}
use Rattle.launch_options.specs.Faults.{IsSuiteFault}
use Rattle.suite_words.specs.Reading.Faults.{Fails}
use Rattle.suite_text.specs.Reading.Parts.{SuiteParts}
use Rattle.ready_runs.specs.Reading.{FailsToRead, ReadsSuite}

-- a suite's refusal is one of the reading
pub suite_fails : (cause : SuiteFault) (fault : LaunchFault) (read : Result SuiteParts SuiteFault) → IsSuiteFault cause fault → Fails cause read → FailsToRead read fault
suite_fails NoMemory fault read is fails = rw is tt
suite_fails (BadLine line) fault read is fails = rw is (fails (λ same. cc))
suite_fails (BadIndent line) fault read is fails = rw is (fails (λ same. cc))
suite_fails (MissingVerdict line) fault read is fails = rw is (fails (λ same. cc))
suite_fails TooLarge fault read is fails = rw is (fails (λ same. cc))
suite_fails (Refused cause line) fault read is fails = rw is (fails (λ same. cc))
suite_fails (BadProperty cause) fault read is fails = rw is (fails (λ same. cc))

pub suite_refused : (cause : SuiteFault) (result : Result Suite LaunchFault) (read : Result SuiteParts SuiteFault) → IsErrAnd result (IsSuiteFault cause) → Fails cause read → ReadsSuite read result
suite_refused cause (Ok suite) read is fails = absurd is
suite_refused cause (Err fault) read is fails = suite_fails cause fault read is fails

-- a fact of the known bytes
pub if_known : {P Q : List ℕ → Type 0} (known : Option (List ℕ)) → ((bytes : List ℕ) → P bytes → Q bytes) → IfSome known P → IfSome known Q
if_known None f h = tt
if_known (Some bytes) f h = f bytes h
