-- Arguments that clap refuses are refused; others are judged as their values are.
use Rattle.std.proofs.Common.{map, string_bytes}
use Rattle.launch_options.specs.Given.{values_of}
use Rattle.command_words.proofs.ByClap.{refused}
use Rattle.command_words.proofs.Cutting.{accepted_of, asked_of, reads_cut, reads_uncut, refused_of}
use Rattle.command_words.proofs.words.read_options.Goals as goal

pub returns-in_err-given-clause-refused : goal.returns-in_err-given-clause-refused
returns-in_err-given-clause-refused c = refused (map string_bytes c.args.words.now) c.in_err-given.field-0.0 c.from_residual.result c.from_residual.ensures.1 c.in_err-given.ensures.refused

pub returns-in_err-given-clause-read : goal.returns-in_err-given-clause-read
returns-in_err-given-clause-read c = reads_uncut (map string_bytes c.args.words.now) c.in_err-given.field-0.0 c.from_residual.result c.from_residual.ensures.1 c.in_err-given.ensures.refused

pub returns-clause-read : goal.returns-clause-read
returns-clause-read c =
    reads_cut (map string_bytes c.args.words.now) (values_of c.in_ok-given.given) c.of.result (c.in_ok-given.ensures.given, c.in_ok-given.ensures.accepted) c.of.ensures.asked c.of.ensures.accepted c.of.ensures.refused c.of.ensures.no_memory

pub returns-clause-asked : goal.returns-clause-asked
returns-clause-asked c = asked_of (map string_bytes c.args.words.now) (values_of c.in_ok-given.given) c.of.result (c.in_ok-given.ensures.given, c.in_ok-given.ensures.accepted) c.of.ensures.asked

pub returns-clause-accepted : goal.returns-clause-accepted
returns-clause-accepted c = accepted_of (map string_bytes c.args.words.now) (values_of c.in_ok-given.given) c.of.result (c.in_ok-given.ensures.given, c.in_ok-given.ensures.accepted) c.of.ensures.accepted

pub returns-clause-refused : goal.returns-clause-refused
returns-clause-refused c = refused_of (map string_bytes c.args.words.now) (values_of c.in_ok-given.given) c.of.result (c.in_ok-given.ensures.given, c.in_ok-given.ensures.accepted) c.of.ensures.refused
