-- The mode is added where no source before it has one.
use Rattle.std.proofs.Common.{Some, refl}
use Rattle.launch_options.specs.Given.{values_of}
use Rattle.launch_options.specs.Workers.{params_said}
use Rattle.launch_options.proofs.Usual.{spread_answers}
use Rattle.launch_options.proofs.workers.spread_of.Goals as goal

pub returns : goal.returns
returns c =
    spread_answers (params_said (Some c.args.number) (values_of c.args.given.now)) c.in_ok-spread.spread c.add.new.self c.args.number c.in_ok-spread.ensures.said refl c.in_ok-add.ensures.seen c.in_ok-add.ensures.others
