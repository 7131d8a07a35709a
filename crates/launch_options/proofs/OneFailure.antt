-- What is asked for by `--fail-fast` is asked for by `--max-fail` with one failure.
use Rattle.std.proofs.Common.{◌≡◌, ℕ, Bool, true, Option, Some, None, refl, sym, ap, ◌∙◌}
use Rattle.std.specs.Prelude.{◌||◌, option_map}
use Rattle.std.specs.Option.{is_some, option_or}
use Rattle.std.proofs.lemmas.Option.{none-some}
use Rattle.launch_options.specs.declared.fault.LaunchFault.{LaunchFault}
use Rattle.launch_options.specs.declared.fault.LaunchFault.TheVariants.{BadWords}
use Rattle.launch_options.specs.Asked.{Asked, AreAsked, failures_refusal, unless_named}
use Rattle.launch_options.specs.Failures.{max_fail_named, tolerated_by, unless_both, with_max_fail}
use Rattle.launch_options.specs.Given.{Text, Values}

free_of : (named : Option (Option ℕ)) (both : Option LaunchFault) → option_or (unless_named named) both ≡ None → both ≡ None
free_of None both is = absurd (none-some BadWords (sym is))
free_of (Some most) both is = is

not_both : (most : Option Text) → unless_both true most ≡ None → most ≡ None
not_both None is = refl
not_both (Some text) is = absurd (none-some BadWords (sym is))

-- where both options are refused, no number stands beside `--fail-fast`
alone : (given : Values) → failures_refusal given ≡ None → given.fail_fast ≡ true → given.max_fail ≡ None
alone given passed so =
    not_both given.max_fail (
    ap (λ (b : Bool). unless_both b given.max_fail) (sym so)
    ∙ free_of (max_fail_named given.max_fail) (unless_both given.fail_fast given.max_fail) passed)

pub in_a_number : (given : Values) (asked : Asked) → AreAsked given asked → failures_refusal given ≡ None → (one : Text) → max_fail_named (Some one) ≡ Some (Some 1) → given.fail_fast ≡ true → AreAsked (with_max_fail one given) asked
in_a_number given asked are passed one is so = record {
  details = are.details;
  theme = are.theme;
  processors = are.processors;
  workers = are.workers;
  ring = are.ring;
  most_nodes = are.most_nodes;
  tests = are.tests;
  selected = are.selected;
  fail_fast = are.fail_fast ∙ ap (λ (b : Bool). b || is_some given.max_fail) so;
  tolerated =
      ap (option_map tolerated_by) is
      ∙ (ap (λ (most : Option Text). option_map tolerated_by (max_fail_named most)) (sym (alone given passed so)) ∙ are.tolerated);
  schedule = are.schedule;
  times = are.times;
  replay = are.replay;
  passed_over = are.passed_over;
  drive = are.drive;
  selectors = are.selectors;
  names = are.names;
  exclusions = are.exclusions;
  rerun = are.rerun;
  include = are.include;
  exclude = are.exclude;
  shard = are.shard;
  seed = are.seed;
  params = are.params;
}
