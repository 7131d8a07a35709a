-- What clap finds is what the arguments give, and what it refuses gives nothing.
use Rattle.std.proofs.Common.{map, string_bytes}
use Rattle.clap.specs.Words.{app_of, kind_of}
use Rattle.command_words.proofs.ByClap.{faultless, faulty, given_by}
use Rattle.command_words.proofs.words.matches_of.Goals as goal

pub returns-in-Ok-clause-found : goal.returns-in-Ok-clause-found
returns-in-Ok-clause-found c = given_by (app_of c.in_ok-command.field-0) (map string_bytes c.args.words.now) c.in-Ok.matches c.in_ok-command.ensures c.in-Ok.ensures.matches

pub returns-in-Ok-clause-accepted : goal.returns-in-Ok-clause-accepted
returns-in-Ok-clause-accepted c = faultless (app_of c.in_ok-command.field-0) (map string_bytes c.args.words.now) c.in_ok-command.ensures c.in-Ok.ensures.kinds

pub returns-in-Err-clause-refused : goal.returns-in-Err-clause-refused
returns-in-Err-clause-refused c =
    faulty (app_of c.in_ok-command.field-0) (map string_bytes c.args.words.now) (kind_of c.in-Err.error) c.words_fault.result c.in_ok-command.ensures c.in-Err.ensures.kinds c.words_fault.ensures
