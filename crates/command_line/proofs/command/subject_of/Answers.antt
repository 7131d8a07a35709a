-- The sentences are those of what is launched.
use Rattle.std.proofs.Common.{ap, sym}
use Rattle.command_line.specs.Conducting.{sentences_of}
use Rattle.command_line.proofs.command.subject_of.Goals as goal

pub returns-in-Text : goal.returns-in-Text
returns-in-Text g c = ap sentences_of (sym c.in-Text.is)

pub returns-in-Program : goal.returns-in-Program
returns-in-Program g c = ap sentences_of (sym c.in-Program.is)
