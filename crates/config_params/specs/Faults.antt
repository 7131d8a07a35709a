-- The numbers and the places of the refusals of parameters.
use Rattle.std.specs.Prelude.{ℕ, Option, Some, None}
use Rattle.config_params.specs.declared.fault.ParamsFault.{ParamsFault}
use Rattle.config_params.specs.declared.fault.ParamsFault.TheVariants.{NoMemory, NoEquals, EmptyKey}

-- the number of a refusal, and 0 for want of memory
abbrev pub number : ParamsFault → ℕ
number NoMemory = 0
number (NoEquals at) = 30
number (EmptyKey at) = 31

-- the line or the argument that it is about, from 1
abbrev pub place : ParamsFault → Option ℕ
place NoMemory = None
place (NoEquals at) = Some at
place (EmptyKey at) = Some at
