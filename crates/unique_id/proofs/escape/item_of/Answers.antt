-- The search proves it. Written out, it spares a wrong body the printing of what is left to show.
use Rattle.std.proofs.Common.{rules}
use Rattle.unique_id.proofs.escape.item_of.Goals as goal

pub returns-in_ok-byte_of-in-37-clause-item : goal.returns-in_ok-byte_of-in-37-clause-item
returns-in_ok-byte_of-in-37-clause-item c = search rules
