-- The refusals of a text of steps: their numbers, and the step that they are about.
use Rattle.std.specs.Prelude.{ℕ, Option, Some, None}
use Rattle.step_text.specs.declared.steps.StepsFault.{StepsFault}
use Rattle.step_text.specs.declared.steps.StepsFault.TheVariants.{NoMemory, BadStep}

-- the number of a refusal
abbrev pub number_of : StepsFault → ℕ
number_of NoMemory = 0
number_of (BadStep step) = 104

-- the number of its step, from 1
abbrev pub place_of : StepsFault → Option ℕ
place_of NoMemory = None
place_of (BadStep step) = Some step
