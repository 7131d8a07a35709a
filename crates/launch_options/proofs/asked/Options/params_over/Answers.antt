-- Nothing is usual, or the properties say a mode, or they say none.
use Rattle.std.proofs.Common.{subst, sym}
use Rattle.launch_options.specs.Workers.{IsSpread}
use Rattle.launch_options.proofs.Usual.{mode_said, mode_unsaid, nobody_asks}
use Rattle.launch_options.proofs.asked.Options.params_over.Goals as goal

pub returns-in-None : goal.returns-in-None
returns-in-None c =
    let options = c.args.self.now in
    nobody_asks options.params c.args.properties.now options.workers (subst (IsSpread options.params options.workers) c.in-None.is options.is_spread)

pub returns-in-Some-get : goal.returns-in-Some-get
returns-in-Some-get c = mode_said c.args.self.now.params c.args.properties.now c.args.self.now.workers c.in-Some-get.field-0.now (sym c.in-Some-get.ensures)

pub returns-in-None-get : goal.returns-in-None-get
returns-in-None-get c =
    let options = c.args.self.now in
    mode_unsaid options.params c.args.properties.now options.workers c.in-Some.spread (subst (IsSpread options.params options.workers) c.in-Some.is options.is_spread) (sym c.in-None-get.ensures)
