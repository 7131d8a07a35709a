-- What the arguments of a command line give the options, without where it lies in memory.
use Rattle.std.specs.Prelude.{ℕ, Bool, List, map, Option, option_map}
use Rattle.std.specs.Borrow.{Bor}
use Rattle.selectors.specs.declared.selector.SelectorKind.{SelectorKind}
use Rattle.launch_options.specs.declared.given.Given.{Given}

abbrev pub Text : Type 0
Text = List ℕ

-- what is given to the options: the texts of selectors, of names, of exclusions and of what is to be run again with their kinds, in the order of their numbers; all values of
-- another option that may be given again, in their order; and the value of any other, if it is given
pub record Values : Type 0 where
  pub selectors : List (SelectorKind × Text)
  pub names : List (SelectorKind × Text)
  pub exclusions : List (SelectorKind × Text)
  pub rerun : List (SelectorKind × Text)
  pub include_tags : List Text
  pub exclude_tags : List Text
  pub config : List Text
  pub system : List Text
  pub reports : List Text
  pub suite : Option Text
  pub processors : Option Text
  pub workers : Option Text
  pub ring : Option Text
  pub shard : Option Text
  pub seed : Option Text
  pub details : Option Text
  pub quiet : Bool
  pub theme : Option Text
  pub replay : Option Text
  pub fail_if_passed_over : Bool
  pub drive : Option Text
  pub fail_if_no_tests : Bool
  pub fail_fast : Bool
  pub max_fail : Option Text
  pub most_nodes : Option Text
  pub schedule : Bool
  pub times : Bool

-- the texts behind references
abbrev pub behind : List (Bor Text) → List Text
behind texts = map (λ text. text.now) texts

-- the text behind a reference, if there is one
abbrev pub maybe_behind : Option (Bor Text) → Option Text
maybe_behind text = option_map (λ text. text.now) text

-- texts with the kinds of their selectors
abbrev pub texts_of : List (SelectorKind × Bor Text) → List (SelectorKind × Text)
texts_of texts = map (λ text. (text.0, text.1.now)) texts

-- what is given, as it can be read
abbrev pub values_of : Given → Values
values_of given = record {
  selectors = texts_of given.selectors.items;
  names = texts_of given.names.items;
  exclusions = texts_of given.exclusions.items;
  rerun = texts_of given.rerun.items;
  include_tags = behind given.include_tags.items;
  exclude_tags = behind given.exclude_tags.items;
  config = behind given.config.items;
  system = behind given.system.items;
  reports = behind given.reports.items;
  suite = maybe_behind given.suite;
  processors = maybe_behind given.processors;
  workers = maybe_behind given.workers;
  ring = maybe_behind given.ring;
  shard = maybe_behind given.shard;
  seed = maybe_behind given.seed;
  details = maybe_behind given.details;
  quiet = given.quiet;
  theme = maybe_behind given.theme;
  replay = maybe_behind given.replay;
  fail_if_passed_over = given.fail_if_passed_over;
  drive = maybe_behind given.drive;
  fail_if_no_tests = given.fail_if_no_tests;
  fail_fast = given.fail_fast;
  max_fail = maybe_behind given.max_fail;
  most_nodes = maybe_behind given.most_nodes;
  schedule = given.schedule;
  times = given.times;
}
