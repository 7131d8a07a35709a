-- What `--workers` asks for, and why it asks for nothing.
use Rattle.std.specs.Prelude.{◌≡◌, ℕ, ◌||◌, min, false, Bool, List, [], ◌∷◌, ◌++◌, codes, if◌then◌else◌, Option, Some, None, option_map, unwrap_or, Result, Ok, Err}
use Rattle.std.specs.Fmt.{decimal}
use Rattle.std.specs.List.{list_any}
use Rattle.std.specs.Option.{option_or}
use Rattle.std.specs.Str.{bytes_eq}
use Rattle.config_params.specs.Pairs.{Pair, pair_of}
use Rattle.config_params.specs.Parameters.{Parameters, answer, answer_over}
use Rattle.config_params.specs.Tables.{table_of}
use Rattle.config_params.specs.Settings.{enabled_key, strategy_key, parallelism_key, mode_key}
use Rattle.config_params.specs.declared.fault.ParamsFault.{ParamsFault}
use Rattle.launch_options.specs.declared.fault.LaunchFault.{LaunchFault}
use Rattle.launch_options.specs.declared.fault.LaunchFault.TheVariants.{BadWords}
use Rattle.launch_options.specs.Given.{Text, Values}
use Rattle.launch_options.specs.Parameters.{number_named, pairs_in, processors_named}

-- how many workers a text asks for where there are so many processors: a number from 1 to 64, or by `auto` one for each
-- processor, but 64 at most
abbrev pub crew_named : (processors : ℕ) → Text → Option ℕ
crew_named processors text = if bytes_eq text (codes "auto") then Some (min processors 64) else number_named 64 64 (Some text)

-- what `--workers` asks for: so many, or, where it is not given, no number
abbrev pub workers_named : (processors : ℕ) → Option Text → Option (Option ℕ)
workers_named processors None = Some None
workers_named processors (Some text) = option_map Some (crew_named processors text)

-- what is asked for by it, where there are as many processors as `--processors` says
abbrev pub workers_asked : Values → Option (Option ℕ)
workers_asked given = workers_named (unwrap_or (processors_named given.processors) 1) given.workers

-- the arguments of `--config` that so many workers stand for
abbrev pub long_words : ℕ → List Text
long_words number =
    codes "junit.jupiter.execution.parallel.enabled=true"
    ∷ codes "junit.jupiter.execution.parallel.config.strategy=fixed"
    ∷ (codes "junit.jupiter.execution.parallel.config.fixed.parallelism=" ++ decimal number)
    ∷ []

-- those that `--workers` stands for: none where it is not given
abbrev pub words_for : Option ℕ → List Text
words_for None = []
words_for (Some number) = long_words number

-- the keys of these arguments
abbrev pub is_long_key : List ℕ → Bool
is_long_key key = bytes_eq key enabled_key || (bytes_eq key strategy_key || bytes_eq key parallelism_key)

-- whether a pair has one of these keys
abbrev pub has_long_key : Result Pair ParamsFault → Bool
has_long_key (Ok pair) = is_long_key pair.0
has_long_key (Err fault) = false

-- whether one of these arguments says one of the keys
abbrev pub says_long_key : List Text → Bool
says_long_key words = list_any (λ word. has_long_key (pair_of 1 word)) words

-- refused where `--workers` is given and one of these arguments says one of its keys
abbrev pub unless_twice : Option Text → List Text → Option LaunchFault
unless_twice None words = None
unless_twice (Some text) words = if says_long_key words then Some BadWords else None

-- what nobody has to say: where `--workers` is given, that nodes are concurrent
abbrev pub usual_answer : Option ℕ → List ℕ → Option (List ℕ)
usual_answer None key = None
usual_answer (Some number) key = if bytes_eq key mode_key then Some (codes "concurrent") else None

-- the value of a key: what the options say of it stands over what the suite, or the program, says, and below both stands what nobody
-- has to say
abbrev pub answer_with : (workers : Option ℕ) → (params properties : Parameters) → List ℕ → Option (List ℕ)
answer_with workers params properties key = option_or (answer_over params properties key) (usual_answer workers key)

-- where there are such parameters, they answer what these answer, and below that what nobody has to say
abbrev pub IsSpread : Parameters → Option ℕ → Option Parameters → Type 0
IsSpread params workers spread = (key : List ℕ) → answer (unwrap_or spread params) key ≡ option_or (answer params key) (usual_answer workers key)

-- what the arguments say: those of `--config`, and behind them those that `--workers` stands for, for the request, and those of
-- `--system` for the system; of a key that one of the two has again the last value counts
abbrev pub params_said : (workers : Option ℕ) → Values → Parameters
params_said workers given = record { request = table_of (pairs_in (given.config ++ words_for workers)); system = table_of (pairs_in given.system); file = [] }

-- the values with these long arguments in place of `--workers`
abbrev pub in_long_words : ℕ → Values → Values
in_long_words number given = record given { workers = None; config = given.config ++ long_words number }
