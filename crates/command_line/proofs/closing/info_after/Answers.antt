-- What clap says of arguments that it refuses is what they ask for.
use Rattle.std.proofs.Common.{map, string_bytes}
use Rattle.std.specs.Prelude.{option_map}
use Rattle.command_line.proofs.Unread.{asked_after}
use Rattle.command_line.proofs.closing.info_after.Goals as goal

pub returns-in-BadWords : goal.returns-in-BadWords
returns-in-BadWords c = asked_after (option_map (λ i. i.request)) c.info_asked.result c.args.fault (map string_bytes c.args.words.now) c.info_asked.ensures
