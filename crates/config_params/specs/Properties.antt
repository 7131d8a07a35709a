-- What a text of properties says: the pairs of its lines, or the fault of its first faulty line.
use Rattle.std.specs.Prelude.{ℕ, ◌+◌, List, [], ◌∷◌, Option, None, Some, option_to_list, Result, Ok, Err}
use Rattle.std.specs.List.{flat_map}
use Rattle.std.specs.Str.Lines.{lines}
use Rattle.config_params.specs.declared.fault.ParamsFault.{ParamsFault}
use Rattle.config_params.specs.Pairs.{Pair, property_of}

-- the fault of what was read, else the later one
abbrev pub fault_or : {X : Type 0} → Result X ParamsFault → Option ParamsFault → Option ParamsFault
fault_or (Ok x) later = later
fault_or (Err fault) later = Some fault

-- the fault of the first faulty line, where the first line has this number
abbrev pub fault_from : ℕ → List (List ℕ) → Option ParamsFault
fault_from number [] = None
fault_from number (line ∷ more) = fault_or (property_of number line) (fault_from (number + 1) more)

-- why a text of properties is refused
abbrev pub refusal_of : List ℕ → Option ParamsFault
refusal_of text = fault_from 1 (lines text)

-- what a line says, where it is not faulty
abbrev pub pairs_said : Result (Option Pair) ParamsFault → List Pair
pairs_said (Ok pair) = option_to_list pair
pairs_said (Err fault) = []

-- the pairs of lines
abbrev pub pairs_of_lines : List (List ℕ) → List Pair
pairs_of_lines texts = flat_map (λ line. pairs_said (property_of 1 line)) texts

-- the pairs of a text, line by line
abbrev pub pairs_of : List ℕ → List Pair
pairs_of text = pairs_of_lines (lines text)
