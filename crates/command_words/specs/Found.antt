-- The values that clap finds for the options.
use Rattle.std.specs.Prelude.{ℕ, Bool, false, List, [], ◌++◌, map, codes, Option, Some, None}
use Rattle.std.specs.Str.{bytes_eq}
use Rattle.clap.specs.Words.{Row, Text, all_of, first_of}
use Rattle.launch_options.specs.Given.{Values}
use Rattle.selectors.specs.declared.selector.SelectorKind.{SelectorKind}
use Rattle.selectors.specs.declared.selector.SelectorKind.TheVariants as kinds

-- the values of an option that may be missing: none
abbrev pub texts_or_none : Option (List Text) → List Text
texts_or_none None = []
texts_or_none (Some texts) = texts

-- the values that clap found for an option
abbrev pub all_found : List ℕ → List Row → List Text
all_found name rows = texts_or_none (all_of name rows)

-- whether a text is `true`, which clap puts where a flag is given
abbrev pub says_true : Option Text → Bool
says_true None = false
says_true (Some text) = bytes_eq text (codes "true")

-- whether clap found a flag
abbrev pub is_found : List ℕ → List Row → Bool
is_found name rows = says_true (first_of name rows)

-- the values that clap found for an option that has selectors of this kind
abbrev pub of_kind : SelectorKind → List ℕ → List Row → List (SelectorKind × Text)
of_kind kind name rows = map (λ text. (kind, text)) (all_found name rows)

-- the texts of the selectors, each with its kind, in the order of their numbers
abbrev pub selectors_found : List Row → List (SelectorKind × Text)
selectors_found rows =
    of_kind kinds.UniqueId (codes "select-unique-id") rows
    ++ of_kind kinds.Class (codes "select-class") rows
    ++ of_kind kinds.Method (codes "select-method") rows
    ++ of_kind kinds.Package (codes "select-package") rows

-- the patterns of names, numbered behind these
abbrev pub names_found : List Row → List (SelectorKind × Text)
names_found rows = of_kind kinds.Name (codes "include-name") rows

-- the texts of what is left out, each with its kind, numbered behind these
abbrev pub exclusions_found : List Row → List (SelectorKind × Text)
exclusions_found rows =
    of_kind kinds.Name (codes "exclude-name") rows
    ++ of_kind kinds.UniqueId (codes "exclude-unique-id") rows
    ++ of_kind kinds.Class (codes "exclude-class") rows
    ++ of_kind kinds.Method (codes "exclude-method") rows
    ++ of_kind kinds.Package (codes "exclude-package") rows

-- the ids of what is to be run again, numbered behind these
abbrev pub rerun_found : List Row → List (SelectorKind × Text)
rerun_found rows = of_kind kinds.UniqueId (codes "rerun") rows

-- what clap finds for the options
abbrev pub values_in : List Row → Values
values_in rows = record {
  selectors = selectors_found rows;
  names = names_found rows;
  exclusions = exclusions_found rows;
  rerun = rerun_found rows;
  include_tags = all_found (codes "include-tag") rows;
  exclude_tags = all_found (codes "exclude-tag") rows;
  config = all_found (codes "config") rows;
  system = all_found (codes "system") rows;
  reports = all_found (codes "report") rows;
  suite = first_of (codes "suite") rows;
  processors = first_of (codes "processors") rows;
  workers = first_of (codes "workers") rows;
  ring = first_of (codes "ring") rows;
  shard = first_of (codes "shard") rows;
  seed = first_of (codes "seed") rows;
  details = first_of (codes "details") rows;
  quiet = is_found (codes "quiet") rows;
  theme = first_of (codes "details-theme") rows;
  replay = first_of (codes "replay") rows;
  fail_if_passed_over = is_found (codes "fail-if-passed-over") rows;
  drive = first_of (codes "drive") rows;
  fail_if_no_tests = is_found (codes "fail-if-no-tests") rows;
  fail_fast = is_found (codes "fail-fast") rows;
  max_fail = first_of (codes "max-fail") rows;
  most_nodes = first_of (codes "most-nodes") rows;
  schedule = is_found (codes "schedule") rows;
  times = is_found (codes "times") rows;
}

-- where no option is given
abbrev pub nothing_given : Values
nothing_given = record {
  selectors = [];
  names = [];
  exclusions = [];
  rerun = [];
  include_tags = [];
  exclude_tags = [];
  config = [];
  system = [];
  reports = [];
  suite = None;
  processors = None;
  workers = None;
  ring = None;
  shard = None;
  seed = None;
  details = None;
  quiet = false;
  theme = None;
  replay = None;
  fail_if_passed_over = false;
  drive = None;
  fail_if_no_tests = false;
  fail_fast = false;
  max_fail = None;
  most_nodes = None;
  schedule = false;
  times = false;
}
