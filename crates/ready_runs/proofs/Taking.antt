-- What was taken from a reader is what was judged.
use Rattle.std.proofs.Common.{◌≡◌, ◌≢◌, ℕ, ◌+◌, ◌<◌, ◌≤◌, List, length, Option, Some, None, Result, Ok, Err, refl, rules, arith}
use Rattle.std.specs.Prelude.{nat_lt, Bool, true, false, if◌then◌else◌}
use borrow.Author.Tests.{tests}
use Rattle.std.specs.Result.{IsErrAnd}
use Rattle.std.specs.Io.KnownBytes.{IsAtEnd}
use Rattle.suite_text.specs.Reading.Bytes.{suite_read}
use Rattle.suite_text.specs.Reading.Parts.{SuiteParts}
use Rattle.suite_text.specs.declared.suite.Suite.{Suite}
use Rattle.suite_words.specs.Limits.{byte_limit}
use Rattle.suite_words.specs.declared.suite.fault.SuiteFault.{SuiteFault}
use Rattle.suite_words.specs.declared.suite.fault.SuiteFault.TheVariants as causes
use Rattle.ready_runs.specs.Bytes.{ReadsFront, BreaksOff}
use Rattle.launch_options.specs.Faults.{IsSuiteFault}
use Rattle.ready_runs.specs.Reading.{IsReadFault}
use Rattle.ready_runs.specs.Reading.{EndsAs, ReadsSuite, TakesFrom, fault_in, most_read}
use Rattle.ready_runs.specs.declared.bytes.ReadFault.{ReadFault}
use Rattle.ready_runs.specs.declared.bytes.ReadFault.TheVariants as reads
use Rattle.launch_options.specs.declared.fault.LaunchFault.{LaunchFault}
use Rattle.launch_options.specs.declared.fault.LaunchFault.TheVariants.{NoMemory, Suite as OfSuite, BadWords, BadStep, BadReport, CutReport, UnreadRun, BadSavedLine, UnreadWords, BadSelector, BadTags, BadPair, BadSettings, NothingMatches, TooManyKeys, TooManyWorkers, NoWorker, Reading, Writing}

-- what was read to the end of what may be read, or to the reader's own, was so whatever is answered but that it failed
pub ends_whole : (limit : ℕ) (fault : Option LaunchFault) (count : ℕ) (new : Option (List ℕ)) → fault ≢ Some Reading → (fault ≡ Some NoMemory → count < limit) → (count < limit → IsAtEnd new) → EndsAs limit fault count new
ends_whole limit None count new other few end = end
ends_whole limit (Some NoMemory) count new other few end = few refl
ends_whole limit (Some (OfSuite f)) count new other few end = end
ends_whole limit (Some BadWords) count new other few end = end
ends_whole limit (Some (BadStep n)) count new other few end = end
ends_whole limit (Some (BadReport n)) count new other few end = end
ends_whole limit (Some (CutReport n)) count new other few end = end
ends_whole limit (Some UnreadRun) count new other few end = end
ends_whole limit (Some (BadSavedLine n)) count new other few end = end
ends_whole limit (Some (UnreadWords n)) count new other few end = end
ends_whole limit (Some (BadSelector n)) count new other few end = end
ends_whole limit (Some (BadTags f)) count new other few end = end
ends_whole limit (Some (BadPair f)) count new other few end = end
ends_whole limit (Some (BadSettings f)) count new other few end = end
ends_whole limit (Some (NothingMatches n)) count new other few end = end
ends_whole limit (Some TooManyKeys) count new other few end = end
ends_whole limit (Some TooManyWorkers) count new other few end = end
ends_whole limit (Some NoWorker) count new other few end = end
ends_whole limit (Some Reading) count new other few end = absurd (other refl)
ends_whole limit (Some (Writing f)) count new other few end = end

-- what is read as a suite is not too large
small_by : (limit count : ℕ) (b : Bool) (rest : Result SuiteParts SuiteFault) (suite : SuiteParts) → nat_lt limit count ≡ b → (if b then Err causes.TooLarge else rest) ≡ Ok suite → count < limit + 1
small_by limit count true rest suite is same = cc
small_by limit count false rest suite is same = search (rules, tests)

pub read_small : (most : Option ℕ) (bytes : List ℕ) (suite : SuiteParts) → suite_read most bytes ≡ Ok suite → length bytes < most_read most
read_small most bytes suite read = small_by (byte_limit most) (length bytes) (nat_lt (byte_limit most) (length bytes)) _ suite refl read

one_more : (count limit : ℕ) → count ≤ limit → count < limit + 1
one_more count limit few = omega (arith, few)

module _ (limit : ℕ) (old new : Option (List ℕ)) where
  -- what was read whole is judged
  pub takes_whole : (bytes : List ℕ) (fault : Option LaunchFault) (Judged : List ℕ → Type 0) → ReadsFront old new limit bytes → fault ≢ Some Reading → (fault ≡ Some NoMemory → length bytes < limit) → Judged bytes → TakesFrom limit old new fault Judged
  takes_whole bytes fault Judged front other few judged =
      record { bytes = bytes; consumed = front.consumed; fits = front.fits; ends = ends_whole limit fault (length bytes) new other few front.end; judged = judged }

  -- the same judgement, and what it comes to
  pub takes_as : (fault other : Option LaunchFault) (Judged Comes : List ℕ → Type 0) → ((bytes : List ℕ) → Judged bytes → Comes bytes) → ((bytes : List ℕ) → Judged bytes → EndsAs limit fault (length bytes) new → EndsAs limit other (length bytes) new) → TakesFrom limit old new fault Judged → TakesFrom limit old new other Comes
  takes_as fault other Judged Comes comes ends taken =
      record { bytes = taken.bytes; consumed = taken.consumed; fits = taken.fits; ends = ends taken.bytes taken.judged taken.ends; judged = comes taken.bytes taken.judged }

module _ (most : Option ℕ) (old new : Option (List ℕ)) where
  pub takes_broken : (cause : ReadFault) (result : Result Suite LaunchFault) → IsErrAnd result (IsReadFault cause) → BreaksOff old new (most_read most) → TakesFrom (most_read most) old new (fault_in result) (λ bytes. ReadsSuite (suite_read most bytes) result)
  takes_broken cause (Ok suite) is broken = absurd is
  takes_broken reads.NoMemory (Err fault) is broken = rw is (record { bytes = broken.bytes; consumed = broken.consumed; fits = omega (arith, broken.short); ends = broken.short; judged = tt })
  takes_broken reads.Failed (Err fault) is broken = rw is (record { bytes = broken.bytes; consumed = broken.consumed; fits = omega (arith, broken.short); ends = broken.short; judged = tt })

  -- a suite's refusal is not the reader's
  not_reading : (cause : SuiteFault) (fault : LaunchFault) → IsSuiteFault cause fault → Some fault ≢ Some Reading
  not_reading causes.NoMemory fault is same = cc
  not_reading (causes.BadLine n) fault is same = cc
  not_reading (causes.BadIndent n) fault is same = cc
  not_reading (causes.MissingVerdict n) fault is same = cc
  not_reading causes.TooLarge fault is same = cc
  not_reading (causes.Refused f n) fault is same = cc
  not_reading (causes.BadProperty f) fault is same = cc

  -- memory runs out in reading a suite only where the suite's reading says so
  out_of_memory : (bytes : List ℕ) (cause : SuiteFault) (fault : LaunchFault) → IsSuiteFault cause fault → (cause ≡ causes.NoMemory → length bytes ≤ byte_limit most) → Some fault ≡ Some NoMemory → length bytes < most_read most
  out_of_memory bytes causes.NoMemory fault is few same = one_more (length bytes) (byte_limit most) (few refl)
  out_of_memory bytes (causes.BadLine n) fault is few same = cc
  out_of_memory bytes (causes.BadIndent n) fault is few same = cc
  out_of_memory bytes (causes.MissingVerdict n) fault is few same = cc
  out_of_memory bytes causes.TooLarge fault is few same = cc
  out_of_memory bytes (causes.Refused f n) fault is few same = cc
  out_of_memory bytes (causes.BadProperty f) fault is few same = cc

  -- bytes that were read and are no suite
  pub takes_refused : (bytes : List ℕ) (cause : SuiteFault) (result : Result Suite LaunchFault) → IsErrAnd result (IsSuiteFault cause) → (cause ≡ causes.NoMemory → length bytes ≤ byte_limit most) → ReadsFront old new (most_read most) bytes → ReadsSuite (suite_read most bytes) result
      → TakesFrom (most_read most) old new (fault_in result) (λ read. ReadsSuite (suite_read most read) result)
  takes_refused bytes cause (Ok suite) is few front judged = absurd is
  takes_refused bytes cause (Err fault) is few front judged = takes_whole (most_read most) old new bytes (Some fault) (λ read. ReadsSuite (suite_read most read) (Err fault)) front (not_reading cause fault is) (out_of_memory bytes cause fault is few) judged
