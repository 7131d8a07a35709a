-- What a call that reads steps may answer.
use Rattle.std.specs.Prelude.{◌≡◌, ℕ, List, Result, Ok, Err, IsOk}
use Rattle.std.specs.Global.{Vec}
use Rattle.scheduling.specs.declared.step.Step.{Step}
use Rattle.step_text.specs.declared.steps.StepsFault.{StepsFault}
use Rattle.step_text.specs.declared.steps.StepsFault.TheVariants.{NoMemory, BadStep}

-- The answer is what the definition gives; memory can run out only where it gives steps
abbrev pub GivesSteps : Result (Vec Step) StepsFault → Result (List Step) ℕ → Type 0
GivesSteps (Ok steps) read = read ≡ Ok steps.items
GivesSteps (Err NoMemory) read = IsOk read
GivesSteps (Err (BadStep number)) read = read ≡ Err number
