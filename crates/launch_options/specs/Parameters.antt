-- What `--processors`, `--ring` and `--drive` ask for, and why `--config` and `--system` ask for nothing.
use Rattle.std.specs.Prelude.{ℕ, ◌+◌, ◌==◌, List, [], ◌∷◌, length, map, if◌then◌else◌, Option, Some, None, option_map, unwrap_or, Result, Ok, Err}
use Rattle.std.specs.Option.{option_or}
use Rattle.config_params.specs.Pairs.{Pair, key_of, value_of, pair_of}
use Rattle.config_params.specs.declared.fault.ParamsFault.{ParamsFault}
use Rattle.table_rule.specs.Limits.{IsRightCount}
use Rattle.suite_words.specs.Numbers.{number_up_to}
use Rattle.launch_options.specs.declared.fault.LaunchFault.{LaunchFault}
use Rattle.launch_options.specs.declared.fault.LaunchFault.TheVariants.{BadPair}
use Rattle.launch_options.specs.Given.{Text, Values}

-- a text without the plus that it may begin with
abbrev pub without_plus : Text → Text
without_plus [] = []
without_plus (byte ∷ more) = if byte == 43 then more else byte ∷ more

-- a number that is not zero
abbrev pub unless_zero : Option ℕ → Option ℕ
unless_zero None = None
unless_zero (Some number) = if number == 0 then None else Some number

-- what an option asks for that is a number from 1 to this most, and this one where it is not given
abbrev pub number_named : (most otherwise : ℕ) → Option Text → Option ℕ
number_named most otherwise None = Some otherwise
number_named most otherwise (Some text) = unless_zero (number_up_to most (without_plus text))

-- what `--processors` asks for: 1 to 1,024, and 1 where it is not given
abbrev pub processors_named : Option Text → Option ℕ
processors_named text = number_named 1024 1 text

-- what `--ring` asks for: 1 to 16,384, and 1,024 where it is not given
abbrev pub ring_named : Option Text → Option ℕ
ring_named text = number_named 16384 1024 text

-- what `--drive` asks for: 1 to 64 workers, or, where it is not given, no number
abbrev pub drive_named : Option Text → Option (Option ℕ)
drive_named None = Some None
drive_named (Some text) = option_map Some (number_named 64 64 (Some text))

-- so many workers as there may be, as one is, where no number is asked for
abbrev pub IsRightDrive : Option ℕ → Type 0
IsRightDrive drive = IsRightCount (unwrap_or drive 1)

-- the pairs of arguments that are cut at their first equals sign
abbrev pub pairs_in : List Text → List Pair
pairs_in words = map (λ word. (key_of word, value_of word)) words

-- refused where an argument says no pair, and else where another does not
abbrev pub unless_pair : Result Pair ParamsFault → Option LaunchFault → Option LaunchFault
unless_pair (Ok pair) others = others
unless_pair (Err fault) others = Some (BadPair fault)

-- why arguments, of which the first has this number, are refused: the number of the first that says no pair
abbrev pub pairs_refusal : ℕ → List Text → Option LaunchFault
pairs_refusal number [] = None
pairs_refusal number (word ∷ words) = unless_pair (pair_of number word) (pairs_refusal (number + 1) words)

-- why the pairs are refused: each of `--config` is counted before each of `--system`
abbrev pub params_refusal : Values → Option LaunchFault
params_refusal given = option_or (pairs_refusal 1 given.config) (pairs_refusal (length given.config + 1) given.system)
