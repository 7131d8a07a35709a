-- The numbers of refusals.
use Rattle.std.specs.Prelude.{ℕ}
use Rattle.table_contents.specs.declared.fault.TableFault.{TableFault}
use Rattle.table_contents.specs.declared.fault.TableFault.TheVariants.{NoMemory, NoWorkers, TooManyWorkers, BadRing, JobsMissing}

-- the number of each refusal, and 0 for want of memory
abbrev pub number_of : TableFault → ℕ
number_of NoMemory = 0
number_of NoWorkers = 60
number_of TooManyWorkers = 61
number_of BadRing = 71
number_of (JobsMissing body) = 70
