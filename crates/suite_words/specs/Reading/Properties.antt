-- The line `property KEY=VALUE`, which says something of the configuration.
use Rattle.std.specs.Prelude.{ℕ, List, Bool, codes, Option, Some, None, Result, Ok, Err}
use Rattle.std.specs.Str.{bytes_eq}
use Rattle.config_params.specs.declared.fault.ParamsFault.{ParamsFault}
use Rattle.config_params.specs.declared.source.Source.TheVariants.{File}
use Rattle.config_params.specs.Pairs.{Pair, property_of}
use Rattle.config_params.specs.Parameters.{Parameters, with_value}
use Rattle.suite_words.specs.declared.suite.fault.SuiteFault.{SuiteFault}
use Rattle.suite_words.specs.Reading.Faults.{of_property}
use Rattle.suite_words.specs.Reading.Lines.{first_word, after_word}

-- whether a line begins with the keyword `property`
abbrev pub is_property : List ℕ → Bool
is_property line = bytes_eq (first_word line) (codes "property")

-- parameters with what a line of a text of properties says: nothing, or a pair of the file
abbrev pub with_said : Parameters → Result (Option Pair) ParamsFault → Result Parameters SuiteFault
with_said params (Ok None) = Ok params
with_said params (Ok (Some pair)) = Ok (with_value params File pair)
with_said params (Err fault) = Err (of_property fault)

-- with the rest of the line of this number, which is a line of a text of properties
abbrev pub with_property : ℕ → Parameters → List ℕ → Result Parameters SuiteFault
with_property number params line = with_said params (property_of number (after_word line))
