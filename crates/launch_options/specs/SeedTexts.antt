-- What `--seed` asks for.
use Rattle.std.specs.Prelude.{ℕ, Option, Some, None, option_map}
use Rattle.suite_words.specs.Numbers.{number_up_to}
use Rattle.launch_options.specs.Given.{Text}

-- what `--seed` asks for: this number, below 2 ^ 64, or, where it is not given, none
abbrev pub seed_named : Option Text → Option (Option ℕ)
seed_named None = Some None
seed_named (Some text) = option_map Some (number_up_to 18446744073709551615 text)
