-- The text stands there as far as the writer took it.
use Rattle.std.proofs.Common.{subst, sym}
use Rattle.launch_options.specs.Given.{maybe_behind}
use Rattle.command_line.specs.Runs.{SaysText}
use Rattle.command_line.proofs.Ended.{so_far}
use Rattle.command_line.proofs.closing.say_said.Goals as goal

pub returns-in-Some : goal.returns-in-Some
returns-in-Some g c =
    subst (λ t. SaysText (g.E.Write.contents) (maybe_behind t) c.args.errors.now c.print_to.new.writer) (sym c.in-Some.is)
    (so_far (g.E.Write.contents) _ _ c.in-Some.text.now c.as_bytes.result.now c.print_to.result c.as_bytes.ensures.value c.print_to.ensures)
