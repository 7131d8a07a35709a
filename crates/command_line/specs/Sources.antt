-- What is left to read of a suite.
use Rattle.std.specs.Prelude.{ℕ, List, Option, Some}
use Rattle.command_line.specs.declared.kept.SuiteSource.{SuiteSource}
use Rattle.command_line.specs.declared.kept.SuiteSource.TheVariants.{Reader, File}

-- what the reader has left, or the bytes of the file that are left
abbrev pub source_remaining : {R : Type 0} → (R → Option (List ℕ)) → SuiteSource R → Option (List ℕ)
source_remaining remaining (Reader reader) = remaining reader.now
source_remaining remaining (File bytes) = Some bytes.now
