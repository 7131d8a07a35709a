-- What clap reads asks for nothing else, and what it refuses asks for what it says.
use Rattle.std.proofs.Common.{map, string_bytes, inl}
use Rattle.std.specs.Prelude.{option_map}
use Rattle.clap.specs.Words.{app_of, kind_of}
use Rattle.command_words.proofs.ByClap.{asks_if, faultless}
use Rattle.command_words.proofs.info.info_asked.Goals as goal

pub returns-in-Ok : goal.returns-in-Ok
returns-in-Ok c = inl (faultless (app_of c.in_ok-command.field-0) (map string_bytes c.args.words.now) c.in_ok-command.ensures c.in-Ok.ensures.kinds)

pub returns : goal.returns
returns c =
    asks_if (option_map (λ i. i.request)) c.info_said.result (app_of c.in_ok-command.field-0) (map string_bytes c.args.words.now) (kind_of c.in-Err.said) c.in_ok-command.ensures c.in-Err.ensures.kinds c.info_said.ensures
