-- What the values of the options ask for, and why they ask for nothing.
use Rattle.std.specs.Prelude.{◌≡◌, ℕ, ◌+◌, ◌&&◌, not, Bool, List, [], ◌∷◌, length, codes, map, if◌then◌else◌, Option, Some, None, option_map, Result, Ok, Err}
use Rattle.std.specs.List.{filter_map}
use Rattle.std.specs.Option.{is_some, option_or}
use Rattle.std.specs.Str.{bytes_eq}
use Rattle.config_params.specs.Parameters.{Parameters}
use Rattle.run_results.specs.declared.theme.Theme.{Theme}
use Rattle.run_results.specs.declared.theme.Theme.TheVariants as themes
use Rattle.scheduling.specs.declared.step.Step.{Step}
use Rattle.selectors.specs.declared.request.Request.{Request}
use Rattle.selectors.specs.declared.selector.Selector.{Selector}
use Rattle.selectors.specs.declared.selector.SelectorKind.{SelectorKind}
use Rattle.selectors.specs.Selectors.{fault_of, selector_of}
use Rattle.tag_expr.specs.Expressions.{Expression}
use Rattle.tag_expr.specs.Grammar.{or_phrase, Spells}
use Rattle.tag_expr.specs.Tokens.{tokens, token_of}
use Rattle.tag_expr.specs.ExpressionFaults.{expression_refusal}
use Rattle.launch_options.specs.declared.details.Details.{Details}
use Rattle.launch_options.specs.declared.asked.Options.{Options}
use Rattle.launch_options.specs.declared.fault.LaunchFault.{LaunchFault}
use Rattle.launch_options.specs.declared.fault.LaunchFault.TheVariants.{BadWords, BadStep, BadSelector, BadTags}
use Rattle.step_text.specs.StepTexts.{steps_of}
use Rattle.launch_options.specs.DetailsTexts.{details_asked}
use Rattle.launch_options.specs.Failures.{fails_fast, max_fail_named, tolerated_asked, unless_both}
use Rattle.launch_options.specs.Given.{Text, Values}
use Rattle.launch_options.specs.NodeLimits.{most_nodes_named}
use Rattle.launch_options.specs.Parameters.{processors_named, ring_named, drive_named, params_refusal}
use Rattle.launch_options.specs.ReportTexts.{reports_refusal}
use Rattle.launch_options.specs.SeedTexts.{seed_named}
use Rattle.launch_options.specs.ShardTexts.{shard_named}
use Rattle.launch_options.specs.Workers.{params_said, unless_twice, workers_asked}

-- what is asked for: what is to run, with which parameters and how many processors, how many workers `--workers` has said, if it
-- is given, how many events may be shown that are not told yet, how many nodes a suite may have besides the plan, if that is said, what is printed and how, whether there have to be tests, or, where a
-- shard is asked for, whether something has to be selected, whether nothing more is to start once nodes have failed, and after how many failures a run is to go on all the same, whether the steps of a run are to be printed,
-- whether it is to be told how long tests took, the steps that are to be replayed, if any are, whether a replay that passes one over is to have status 1, and how many workers are to take those of the fixed schedule, if any are
pub record Asked : Type 0 where
  pub request : Request
  pub params : Parameters
  pub processors : ℕ
  pub workers : Option ℕ
  pub ring : ℕ
  pub most_nodes : Option ℕ
  pub details : Details
  pub theme : Theme
  pub fail_if_no_tests : Bool
  pub fail_if_nothing_selected : Bool
  pub fail_fast : Bool
  pub tolerated : ℕ
  pub schedule : Bool
  pub times : Bool
  pub replay : Option (List Step)
  pub fail_if_passed_over : Bool
  pub drive : Option ℕ

-- options, without where they lie in memory
abbrev pub asked_by : Options → Asked
asked_by options = record {
  request = options.request;
  params = options.params;
  processors = options.processors;
  workers = options.workers;
  ring = options.ring;
  most_nodes = options.most_nodes;
  details = options.details;
  theme = options.theme;
  fail_if_no_tests = options.fail_if_no_tests;
  fail_if_nothing_selected = options.fail_if_nothing_selected;
  fail_fast = options.fail_fast;
  tolerated = options.tolerated;
  schedule = options.schedule;
  times = options.times;
  replay = option_map (λ steps. steps.items) options.replay;
  fail_if_passed_over = options.fail_if_passed_over;
  drive = options.drive;
}

-- what `--details-theme` asks for: there are two, and it is Unicode where it is not given
abbrev pub theme_named : Option Text → Option Theme
theme_named None = Some themes.Unicode
theme_named (Some name) =
    if bytes_eq name (codes "unicode") then Some themes.Unicode
    else (if bytes_eq name (codes "ascii") then Some themes.Ascii else None)

-- the name of a theme
abbrev pub theme_text : Theme → Text
theme_text themes.Unicode = codes "unicode"
theme_text themes.Ascii = codes "ascii"

-- all themes
abbrev pub all_themes : List Theme
all_themes = themes.Unicode ∷ themes.Ascii ∷ []

-- refused where the arguments name nothing
abbrev pub unless_named : {A : Type 0} → Option A → Option LaunchFault
unless_named None = Some BadWords
unless_named (Some named) = None

-- refused at the first token that names no step
abbrev pub unless_steps : Result (List Step) ℕ → Option LaunchFault
unless_steps (Ok steps) = None
unless_steps (Err number) = Some (BadStep number)

-- why the text of a replay is refused, if one is given
abbrev pub replay_refusal : Option Text → Option LaunchFault
replay_refusal None = None
replay_refusal (Some text) = unless_steps (steps_of text)

-- the steps that are to be replayed are those that the text names
abbrev pub IsReplay : Option Text → Option (List Step) → Type 0
IsReplay None steps = steps ≡ None
IsReplay (Some text) None = ⊥
IsReplay (Some text) (Some steps) = steps_of text ≡ Ok steps

-- the selector that such a text spells, if it spells one
abbrev pub spelled : SelectorKind × Text → Option Selector
spelled text = selector_of text.0 text.1

-- the refusal of a text of this kind and number that spells none
abbrev pub bad_selector : SelectorKind → ℕ → LaunchFault
bad_selector kind number = BadSelector (record { number = number; fault = fault_of kind })

-- refused so where a text spells no selector, and else where another is
abbrev pub unless_spelled : LaunchFault → Option Selector → Option LaunchFault → Option LaunchFault
unless_spelled fault None others = Some fault
unless_spelled fault (Some selector) others = others

-- why texts of selectors, of which the first has this number, are refused: the number of the first that spells none
abbrev pub selectors_refusal : ℕ → List (SelectorKind × Text) → Option LaunchFault
selectors_refusal number [] = None
selectors_refusal number (text ∷ texts) = unless_spelled (bad_selector text.0 number) (spelled text) (selectors_refusal (number + 1) texts)

-- why texts of tag expressions are refused: what is the matter with the first that is none
abbrev pub tags_refusal : List Text → Option LaunchFault
tags_refusal [] = None
tags_refusal (text ∷ texts) = option_or (option_map BadTags (expression_refusal text)) (tags_refusal texts)

-- a text spells an expression
abbrev pub IsExpression : Text → Expression → Type 0
IsExpression text e = Spells or_phrase (map token_of (tokens text)) e

-- each text spells the expression at its place, and there are no others
abbrev pub AreExpressions : List Text → List Expression → Type 0
AreExpressions [] [] = Unit {0}
AreExpressions (text ∷ texts) (e ∷ expressions) = IsExpression text e × AreExpressions texts expressions
AreExpressions texts expressions = ⊥

-- why texts of selectors are refused: those that select are counted before names, these before exclusions, and all of them before what
-- is to be run again
abbrev pub asked_refusal : Values → Option LaunchFault
asked_refusal given =
    option_or (selectors_refusal 1 given.selectors) (
    option_or (selectors_refusal (length given.selectors + 1) given.names) (
    option_or (selectors_refusal (length given.selectors + length given.names + 1) given.exclusions) (
    selectors_refusal (length given.selectors + length given.names + length given.exclusions + 1) given.rerun)))

-- why the texts that are read are refused: what names no step, what spells no selector, and what is the matter with a tag
-- expression
abbrev pub texts_refusal : Values → Option LaunchFault
texts_refusal given =
    option_or (replay_refusal given.replay) (
    option_or (asked_refusal given) (
    option_or (tags_refusal given.include_tags) (
    tags_refusal given.exclude_tags)))

-- why what is asked for by a name or by a number is refused: other details, other themes, what is no number of processors, what is
-- no size of the ring, and what is no number of workers of the fixed schedule
abbrev pub names_refusal : Values → Option LaunchFault
names_refusal given =
    option_or (unless_named (details_asked given.quiet given.details)) (
    option_or (unless_named (theme_named given.theme)) (
    option_or (unless_named (processors_named given.processors)) (
    option_or (unless_named (ring_named given.ring)) (
    unless_named (drive_named given.drive)))))

-- why `--shard` is refused: for what names no shard
abbrev pub shard_refusal : Values → Option LaunchFault
shard_refusal given = unless_named (shard_named given.shard)

-- why `--seed` is refused: for what is no number below 2 ^ 64
abbrev pub seed_refusal : Values → Option LaunchFault
seed_refusal given = unless_named (seed_named given.seed)

-- why `--workers` is refused: for what is no number of workers, and where `--config` says one of its keys too
abbrev pub workers_refusal : Values → Option LaunchFault
workers_refusal given = option_or (unless_named (workers_asked given)) (unless_twice given.workers given.config)

-- why `--max-fail` is refused: for what is no number of failures, and where `--fail-fast` is given too
abbrev pub failures_refusal : Values → Option LaunchFault
failures_refusal given = option_or (unless_named (max_fail_named given.max_fail)) (unless_both given.fail_fast given.max_fail)

-- why `--most-nodes` is refused: for what is no number of nodes that a suite may be allowed
abbrev pub nodes_refusal : Values → Option LaunchFault
nodes_refusal given = unless_named (most_nodes_named given.most_nodes)

-- why the values are refused: what is asked for by a name or by a number, then a number of workers, then a number of failures, then one of nodes, then a shard, then a seed, then reports, then
-- the texts that are read, and what says no pair
abbrev pub refusal_of : Values → Option LaunchFault
refusal_of given =
    option_or (names_refusal given) (
    option_or (workers_refusal given) (
    option_or (failures_refusal given) (
    option_or (nodes_refusal given) (
    option_or (shard_refusal given) (
    option_or (seed_refusal given) (
    option_or (reports_refusal given.reports given.replay (details_asked given.quiet given.details)) (
    option_or (texts_refusal given) (
    params_refusal given))))))))

-- the values ask for this
pub record AreAsked (given : Values) (asked : Asked) : Type 0 where
  pub details : details_asked given.quiet given.details ≡ Some asked.details
  pub theme : theme_named given.theme ≡ Some asked.theme
  pub processors : processors_named given.processors ≡ Some asked.processors
  pub workers : workers_asked given ≡ Some asked.workers
  pub ring : ring_named given.ring ≡ Some asked.ring
  pub most_nodes : most_nodes_named given.most_nodes ≡ Some asked.most_nodes
  -- where a shard is asked for, `--fail-if-no-tests` is about all that is selected, and not about the shard
  pub tests : asked.fail_if_no_tests ≡ (given.fail_if_no_tests && not (is_some asked.request.shard))
  pub selected : asked.fail_if_nothing_selected ≡ (given.fail_if_no_tests && is_some asked.request.shard)
  pub fail_fast : asked.fail_fast ≡ fails_fast given
  pub tolerated : tolerated_asked given ≡ Some asked.tolerated
  pub schedule : asked.schedule ≡ given.schedule
  pub times : asked.times ≡ given.times
  pub replay : IsReplay given.replay asked.replay
  pub passed_over : asked.fail_if_passed_over ≡ given.fail_if_passed_over
  pub drive : drive_named given.drive ≡ Some asked.drive
  pub selectors : asked.request.selectors.items ≡ filter_map spelled given.selectors
  pub names : asked.request.names.items ≡ filter_map spelled given.names
  pub exclusions : asked.request.exclusions.items ≡ filter_map spelled given.exclusions
  pub rerun : asked.request.rerun.items ≡ filter_map spelled given.rerun
  pub include : AreExpressions given.include_tags asked.request.include.items
  pub exclude : AreExpressions given.exclude_tags asked.request.exclude.items
  pub shard : shard_named given.shard ≡ Some asked.request.shard
  pub seed : seed_named given.seed ≡ Some asked.request.seed
  pub params : asked.params ≡ params_said asked.workers given
