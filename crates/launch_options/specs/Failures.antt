-- What `--fail-fast` and `--max-fail` ask for.
use Rattle.std.specs.Prelude.{ℕ, ◌-◌, ◌||◌, Bool, true, false, Option, Some, None, option_map}
use Rattle.std.specs.Option.{is_some}
use Rattle.suite_words.specs.Numbers.{number_up_to}
use Rattle.launch_options.specs.declared.fault.LaunchFault.{LaunchFault}
use Rattle.launch_options.specs.declared.fault.LaunchFault.TheVariants.{BadWords}
use Rattle.launch_options.specs.Given.{Text, Values}
use Rattle.launch_options.specs.Parameters.{unless_zero}

-- what `--max-fail` asks for: a number of failures from 1 to 4,095, in digits alone, or, where it is not given, none
abbrev pub max_fail_named : Option Text → Option (Option ℕ)
max_fail_named None = Some None
max_fail_named (Some text) = option_map Some (unless_zero (number_up_to 4095 text))

-- whether failures are to end a run: one of the two is given
abbrev pub fails_fast : Values → Bool
fails_fast given = given.fail_fast || is_some given.max_fail

-- how many failures a run goes on after: one less than the number after which it is to stop, and none where no number is given
abbrev pub tolerated_by : Option ℕ → ℕ
tolerated_by None = 0
tolerated_by (Some most) = most - 1

-- how many the values ask for
abbrev pub tolerated_asked : Values → Option ℕ
tolerated_asked given = option_map tolerated_by (max_fail_named given.max_fail)

-- refused where both are given
abbrev pub unless_both : Bool → Option Text → Option LaunchFault
unless_both false most = None
unless_both true None = None
unless_both true (Some text) = Some BadWords

-- the values with `--max-fail` and this text in place of `--fail-fast`
abbrev pub with_max_fail : Text → Values → Values
with_max_fail text given = record given { fail_fast = false; max_fail = Some text }
