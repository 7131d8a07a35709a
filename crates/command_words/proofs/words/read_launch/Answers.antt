-- Arguments that clap refuses are refused; others are judged as their values are.
use Rattle.std.proofs.Common.{map, string_bytes}
use Rattle.launch_options.specs.Given.{values_of}
use Rattle.command_words.proofs.Cutting.{launch_cut, launch_uncut, reports_of, suite_of}
use Rattle.command_words.proofs.words.read_launch.Goals as goal

pub returns-in_err-given-clause-read : goal.returns-in_err-given-clause-read
returns-in_err-given-clause-read c = launch_uncut (map string_bytes c.args.words.now) c.in_err-given.field-0.0 c.from_residual.result c.from_residual.ensures.1 c.in_err-given.ensures.refused

pub returns-clause-read : goal.returns-clause-read
returns-clause-read c =
    launch_cut (map string_bytes c.args.words.now) (values_of c.in_ok-given.given) c.launch_of.result (c.in_ok-given.ensures.given, c.in_ok-given.ensures.accepted) c.launch_of.ensures.asked c.launch_of.ensures.accepted c.launch_of.ensures.refused c.launch_of.ensures.no_memory

pub returns-clause-reports : goal.returns-clause-reports
returns-clause-reports c = reports_of (map string_bytes c.args.words.now) (values_of c.in_ok-given.given) c.launch_of.result c.in_ok-given.ensures.given c.launch_of.ensures.reports

pub returns-clause-suite : goal.returns-clause-suite
returns-clause-suite c = suite_of (map string_bytes c.args.words.now) (values_of c.in_ok-given.given) c.launch_of.result c.in_ok-given.ensures.given c.launch_of.ensures.suite
