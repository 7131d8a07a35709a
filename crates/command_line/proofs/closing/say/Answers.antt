-- The text stands there as far as the writer took it.
use Rattle.std.proofs.Common.{string_bytes, subst, sym}
use Rattle.std.specs.Prelude.{option_map}
use Rattle.command_line.specs.Runs.{SaysText}
use Rattle.command_line.proofs.Ended.{so_far}
use Rattle.command_line.proofs.closing.say.Goals as goal

pub returns-in-Some : goal.returns-in-Some
returns-in-Some g c =
    subst (λ t. SaysText (g.E.Write.contents) (option_map string_bytes t) c.args.errors.now c.print_to.new.writer) (sym c.in-Some.is)
    (so_far (g.E.Write.contents) _ _ (string_bytes c.in-Some.text) c.as_bytes.result.now c.print_to.result c.as_bytes.ensures.value c.print_to.ensures)
