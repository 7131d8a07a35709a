-- The refusals of a suite text: their numbers and lines, and what it says of a call that it refused.
use Rattle.std.specs.Prelude.{◌≡◌, ◌≢◌, ℕ, Option, Some, None, Result, Err}
use Rattle.unique_id.specs.Answers as answers
use Rattle.suite_words.specs.declared.suite.fault.SuiteFault.{SuiteFault}
use Rattle.suite_words.specs.declared.suite.fault.SuiteFault.TheVariants.{NoMemory, BadLine, BadIndent, MissingVerdict, TooLarge, Refused, BadProperty}
use Rattle.config_params.specs.declared.fault.ParamsFault.{ParamsFault}
use Rattle.config_params.specs.declared.fault.ParamsFault.TheVariants as params_faults
use Rattle.config_params.specs.Faults as params
use Rattle.descriptor.specs.declared.fault.TreeFault.{TreeFault}
use Rattle.descriptor.specs.declared.fault.TreeFault.TheVariants as tree_faults
use Rattle.descriptor.specs.Refusals as trees

-- the number of a refusal
abbrev pub number_of : SuiteFault → ℕ
number_of NoMemory = 0
number_of (BadLine line) = 100
number_of (BadIndent line) = 101
number_of (MissingVerdict line) = 102
number_of TooLarge = 103
number_of (Refused fault line) = trees.number_of fault
number_of (BadProperty fault) = params.number fault

-- the line of a refusal
abbrev pub place_of : SuiteFault → Option ℕ
place_of NoMemory = None
place_of (BadLine line) = Some line
place_of (BadIndent line) = Some line
place_of (MissingVerdict line) = Some line
place_of TooLarge = None
place_of (Refused fault line) = Some line
place_of (BadProperty fault) = params.place fault

-- what a node's refusal is at this line; want of memory is about no line
abbrev pub at_line : ℕ → TreeFault → SuiteFault
at_line line tree_faults.NoMemory = NoMemory
at_line line fault = Refused fault line

-- what a property's refusal is
abbrev pub of_property : ParamsFault → SuiteFault
of_property params_faults.NoMemory = NoMemory
of_property fault = BadProperty fault

-- the refusal is the one that the definition gives, unless memory ran out
abbrev pub Fails : {Y : Type 0} → SuiteFault → Result Y SuiteFault → Type 0
Fails fault read = fault ≢ NoMemory → read ≡ Err fault

-- the answer, as `view` sees it, is the one that the definition gives, unless memory ran out
abbrev pub Gives : {X Y : Type 0} → (X → Y) → Result X SuiteFault → Result Y SuiteFault → Type 0
Gives view result read = answers.Gives NoMemory view result read
