-- The numbers of the refusals of settings.
use Rattle.std.specs.Prelude.{ℕ}
use Rattle.config_params.specs.declared.settings_fault.SettingsFault.{SettingsFault}
use Rattle.config_params.specs.declared.settings_fault.SettingsFault.TheVariants.{BadStrategy, BadParallelism, BadFactor, BadSlow, BadHolders, UnknownLock}

-- the number of a refusal
abbrev pub number : SettingsFault → ℕ
number BadStrategy = 34
number BadParallelism = 32
number BadFactor = 33
number BadSlow = 37
number BadHolders = 35
number UnknownLock = 36
