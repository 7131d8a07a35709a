-- What is kept is of the node.
use Rattle.plan_events.specs.Texts.{text_at}
use Rattle.live.proofs.Keeping.{noted}
use Rattle.live.proofs.failures.Failures.note.Goals as goal

pub returns-in-Ok : goal.returns-in-Ok
returns-in-Ok c =
    let is = c.in-Ok.ensures in
    noted c.args.plan.now c.args.node (text_at c.args.texts.now c.args.node) c.in-Ok.failure c.args.self.now c.keep.new.self (record { node = is.node; id = is.id; name = is.name; text_is = is.text; holds = is.holds }) c.keep.ensures
