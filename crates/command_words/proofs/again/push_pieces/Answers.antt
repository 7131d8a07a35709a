-- A saved run that is refused was named.
use Rattle.std.proofs.Common.{ap}
use Rattle.command_words.specs.Roles.{meaning_of}
use Rattle.command_words.proofs.Standing.{names_saved}
use Rattle.command_words.proofs.again.push_pieces.Goals as goal

pub returns-in-Saved-clause-refused : goal.returns-in-Saved-clause-refused
returns-in-Saved-clause-refused g c = names_saved c.push_saved.result (meaning_of c.args.role) c.in-Saved.file.now (ap meaning_of c.in-Saved.is) c.push_saved.ensures.refused
