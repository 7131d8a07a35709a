-- The keys of the settings that a refusal is about.
use Rattle.std.specs.Prelude.{ℕ, List, Option, Some, None}
use Rattle.config_params.specs.Settings.{strategy_key, parallelism_key, factor_key, slow_key}
use Rattle.config_params.specs.declared.settings_fault.SettingsFault.{SettingsFault}
use Rattle.config_params.specs.declared.settings_fault.SettingsFault.TheVariants.{BadStrategy, BadParallelism, BadFactor, BadSlow, BadHolders, UnknownLock}

-- the key whose value is none, where that is one of all runs and not the key of a lock
abbrev pub key_judged : SettingsFault → Option (List ℕ)
key_judged BadStrategy = Some strategy_key
key_judged BadParallelism = Some parallelism_key
key_judged BadFactor = Some factor_key
key_judged BadSlow = Some slow_key
key_judged BadHolders = None
key_judged UnknownLock = None
