-- What `--most-nodes` asks for.
use Rattle.std.specs.Prelude.{ℕ, nat_lt, if◌then◌else◌, Option, Some, None, option_map}
use Rattle.suite_words.specs.Numbers.{number_up_to}
use Rattle.launch_options.specs.Given.{Text}

-- a number that is no less than this one
abbrev pub unless_less : ℕ → Option ℕ → Option ℕ
unless_less least None = None
unless_less least (Some number) = if nat_lt number least then None else Some number

-- how many nodes besides the plan a text names: 4,095, as many as there may be where nobody asks, to 16,383, as many as any tree may have,
-- in digits alone
abbrev pub nodes_in : Text → Option ℕ
nodes_in text = unless_less 4095 (number_up_to 16383 text)

-- what `--most-nodes` asks for, or, where it is not given, no number
abbrev pub most_nodes_named : Option Text → Option (Option ℕ)
most_nodes_named None = Some None
most_nodes_named (Some text) = option_map Some (nodes_in text)
