-- The numbers and places of the refusals.
use Rattle.std.specs.Prelude.{ℕ, Option, Some, None}
use Rattle.saved_runs.specs.declared.fault.SavedFault.{SavedFault}
use Rattle.saved_runs.specs.declared.fault.SavedFault.TheVariants.{NoMemory, BadLine}

-- the number of a refusal, and 0 for want of memory
abbrev pub number_of : SavedFault → ℕ
number_of NoMemory = 0
number_of (BadLine number) = 109

-- the line that a refusal names
abbrev pub place_of : SavedFault → Option ℕ
place_of NoMemory = None
place_of (BadLine number) = Some number
