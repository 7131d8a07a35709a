-- What is asked for by `--workers` is asked for by its long arguments.
use Rattle.std.proofs.Common.{◌≡◌, ℕ, List, [], ◌++◌, Some, None, refl, sym, ap, ◌∙◌}
use Rattle.std.proofs.lemmas.List.{append-nil}
use Rattle.config_params.specs.Parameters.{Parameters}
use Rattle.config_params.specs.Tables.{table_of}
use Rattle.launch_options.specs.Asked.{Asked, AreAsked}
use Rattle.launch_options.specs.Given.{Text, Values}
use Rattle.launch_options.specs.Parameters.{pairs_in}
use Rattle.launch_options.specs.Workers.{in_long_words, long_words, params_said}

abbrev said_of : List Text → List Text → Parameters
said_of request system = record { request = table_of (pairs_in request); system = table_of (pairs_in system); file = [] }

pub in_other_words : (given : Values) (asked : Asked) → AreAsked given asked → (number : ℕ) → asked.workers ≡ Some number → AreAsked (in_long_words number given) (record asked { workers = None })
in_other_words given asked are number is = record {
  details = are.details;
  theme = are.theme;
  processors = are.processors;
  workers = refl;
  ring = are.ring;
  most_nodes = are.most_nodes;
  tests = are.tests;
  selected = are.selected;
  fail_fast = are.fail_fast;
  tolerated = are.tolerated;
  schedule = are.schedule;
  times = are.times;
  replay = are.replay;
  passed_over = are.passed_over;
  drive = are.drive;
  selectors = are.selectors;
  names = are.names;
  exclusions = are.exclusions;
  rerun = are.rerun;
  include = are.include;
  exclude = are.exclude;
  shard = are.shard;
  seed = are.seed;
  params =
      are.params ∙ ap (λ workers. params_said workers given) is
      ∙ ap (λ request. said_of request given.system) (sym (append-nil (given.config ++ long_words number)));
}
