-- The settings of a run, as a function of what the keys of the configuration have for values.
use Rattle.std.specs.Prelude.{ℕ, ◌*◌, ◌/◌, min, max, not, Bool, true, false, List, [], ◌∷◌, ◌++◌, map, codes, if◌then◌else◌, Option, None, Some, is_some, unwrap_or, Result, Ok, Err}
use Rattle.std.specs.Char.{to_ascii_lowercase}
use Rattle.std.specs.Str.{bytes_eq}
use Rattle.config_params.specs.declared.blanks.Blanks.TheVariants.{Spaces}
use Rattle.descriptor.specs.declared.mode.Mode.{Mode}
use Rattle.descriptor.specs.declared.mode.Mode.TheVariants.{SameThread, Concurrent}
use Rattle.config_params.specs.declared.settings.Settings.{Settings}
use Rattle.config_params.specs.declared.settings_fault.SettingsFault.{SettingsFault}
use Rattle.config_params.specs.declared.settings_fault.SettingsFault.TheVariants.{BadStrategy, BadParallelism, BadFactor, BadSlow}
use Rattle.config_params.specs.declared.strategy.Strategy.{Strategy}
use Rattle.config_params.specs.declared.strategy.Strategy.TheVariants.{Dynamic, Fixed}
use Rattle.config_params.specs.declared.warnings.Warnings.{Warnings}
use Rattle.config_params.specs.Blanks.{without_ends}
use Rattle.config_params.specs.Numbers.{parallelism_in, limit_in, factor_in}

-- what the keys have for values
abbrev pub Answers : Type 0
Answers = List ℕ → Option (List ℕ)

-- the keys
abbrev pub enabled_key : List ℕ
enabled_key = codes "junit.jupiter.execution.parallel.enabled"

abbrev pub mode_key : List ℕ
mode_key = codes "junit.jupiter.execution.parallel.mode.default"

abbrev pub classes_mode_key : List ℕ
classes_mode_key = codes "junit.jupiter.execution.parallel.mode.classes.default"

abbrev pub strategy_key : List ℕ
strategy_key = codes "junit.jupiter.execution.parallel.config.strategy"

abbrev pub parallelism_key : List ℕ
parallelism_key = codes "junit.jupiter.execution.parallel.config.fixed.parallelism"

abbrev pub factor_key : List ℕ
factor_key = codes "junit.jupiter.execution.parallel.config.dynamic.factor"

abbrev pub slow_key : List ℕ
slow_key = codes "nelborugy.slow.default"

-- whether two texts are one but for the case of ASCII letters
abbrev pub is_spelled : List ℕ → List ℕ → Bool
is_spelled word text = bytes_eq (map to_ascii_lowercase text) (map to_ascii_lowercase word)

-- whether parallel execution is enabled
abbrev pub is_enabled : Option (List ℕ) → Bool
is_enabled None = false
is_enabled (Some value) = is_spelled (codes "true") value

-- the mode that a text spells, without the spaces at its ends
abbrev pub mode_spelled : List ℕ → Option Mode
mode_spelled text =
    if is_spelled (codes "same_thread") text then Some SameThread
    else (if is_spelled (codes "concurrent") text then Some Concurrent else None)

abbrev pub mode_named : List ℕ → Option Mode
mode_named value = mode_spelled (without_ends Spaces value)

-- the mode that a key has; where it has none, or its value is no mode, this one
abbrev pub mode_or : Mode → Option (List ℕ) → Mode
mode_or default None = default
mode_or default (Some value) = unwrap_or (mode_named value) default

-- whether a key has a value that is no mode
abbrev pub is_no_mode : Option (List ℕ) → Bool
is_no_mode None = false
is_no_mode (Some value) = not (is_some (mode_named value))

-- the mode of nodes, and the mode of classes, which is that of nodes where nothing else is said
abbrev pub default_mode_of : Answers → Mode
default_mode_of answers = mode_or SameThread (answers mode_key)

abbrev pub classes_mode_of : Answers → Mode
classes_mode_of answers = mode_or (default_mode_of answers) (answers classes_mode_key)

-- which of the two keys have a value that is no mode
abbrev pub warnings_of : Answers → Warnings
warnings_of answers = record { default_mode = is_no_mode (answers mode_key); classes_mode = is_no_mode (answers classes_mode_key) }

-- the full keys of warnings, in order
abbrev pub keys_if : Bool → List ℕ → List (List ℕ)
keys_if true key = key ∷ []
keys_if false key = []

abbrev pub keys_of : Warnings → List (List ℕ)
keys_of warnings = keys_if warnings.default_mode mode_key ++ keys_if warnings.classes_mode classes_mode_key

-- the strategy that a text spells, without the spaces at its ends
abbrev pub strategy_spelled : List ℕ → Result Strategy SettingsFault
strategy_spelled text =
    if is_spelled (codes "dynamic") text then Ok Dynamic
    else (if is_spelled (codes "fixed") text then Ok Fixed else Err BadStrategy)

abbrev pub strategy_of : Option (List ℕ) → Result Strategy SettingsFault
strategy_of None = Ok Dynamic
strategy_of (Some value) = strategy_spelled (without_ends Spaces value)

-- a number that is there, else the refusal
abbrev pub or_fault : SettingsFault → Option ℕ → Result ℕ SettingsFault
or_fault fault None = Err fault
or_fault fault (Some n) = Ok n

-- the workers of the fixed strategy
abbrev pub fixed_workers : Option (List ℕ) → Result ℕ SettingsFault
fixed_workers None = Err BadParallelism
fixed_workers (Some value) = or_fault BadParallelism (parallelism_in value)

-- the factor of the dynamic strategy, in ten-thousandths
abbrev pub factor_of : Option (List ℕ) → Result ℕ SettingsFault
factor_of None = Ok 10000
factor_of (Some value) = or_fault BadFactor (factor_in value)

-- so many workers for each processor, cut to a whole number, at least 1 and at most 64
abbrev pub scaled : ℕ → ℕ → ℕ
scaled processors factor = max 1 (min 64 (processors * factor / 10000))

abbrev pub scaled_by : ℕ → Result ℕ SettingsFault → Result ℕ SettingsFault
scaled_by processors (Ok factor) = Ok (scaled processors factor)
scaled_by processors (Err fault) = Err fault

-- the workers that the chosen strategy gives; the number of the other one is not read
abbrev pub workers_by : Answers → ℕ → Result Strategy SettingsFault → Result ℕ SettingsFault
workers_by answers processors (Ok Dynamic) = scaled_by processors (factor_of (answers factor_key))
workers_by answers processors (Ok Fixed) = fixed_workers (answers parallelism_key)
workers_by answers processors (Err fault) = Err fault

abbrev pub workers_of : Answers → ℕ → Result ℕ SettingsFault
workers_of answers processors = workers_by answers processors (strategy_of (answers strategy_key))

-- milliseconds that are there, else the refusal
abbrev pub limit_or_fault : Option ℕ → Result (Option ℕ) SettingsFault
limit_or_fault None = Err BadSlow
limit_or_fault (Some limit) = Ok (Some limit)

-- from how many milliseconds on a test is slow whose own line does not say it, if some are given
abbrev pub slow_of : Option (List ℕ) → Result (Option ℕ) SettingsFault
slow_of None = Ok None
slow_of (Some value) = limit_or_fault (limit_in value)

-- where parallel execution is not enabled
abbrev pub settings_off : Answers → Option ℕ → Settings
settings_off answers slow = record { parallel = false; workers = 1; default_mode = SameThread; classes_mode = SameThread; slow = slow; warnings = warnings_of answers }

-- where it is enabled
abbrev pub settings_on : Answers → Option ℕ → Result ℕ SettingsFault → Result Settings SettingsFault
settings_on answers slow (Ok workers) =
    Ok (record { parallel = true; workers = workers; default_mode = default_mode_of answers; classes_mode = classes_mode_of answers; slow = slow; warnings = warnings_of answers })
settings_on answers slow (Err fault) = Err fault

-- with the milliseconds of slow tests, which are judged first
abbrev pub settings_with : Answers → ℕ → Result (Option ℕ) SettingsFault → Result Settings SettingsFault
settings_with answers processors (Ok slow) = if is_enabled (answers enabled_key) then settings_on answers slow (workers_of answers processors) else Ok (settings_off answers slow)
settings_with answers processors (Err fault) = Err fault

-- the settings
abbrev pub settings_of : Answers → ℕ → Result Settings SettingsFault
settings_of answers processors = settings_with answers processors (slow_of (answers slow_key))
