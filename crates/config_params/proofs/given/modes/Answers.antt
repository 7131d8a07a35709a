-- One more node; and what holds of the list of all.
use Rattle.std.proofs.Common.{arith}
use Rattle.std.proofs.lemmas.Grind.{common_steps}
use Rattle.config_params.specs.Nearest.{nearest_mode}
use Rattle.config_params.specs.GivenModes.{given_mode}
use Rattle.config_params.proofs.Lists.{one_more}
use Rattle.config_params.proofs.GivenModes.{right, own_mode, engines_same, one_each, all_same_thread}
use Rattle.config_params.proofs.given.modes.Goals as goal

pub loop-number-preserved : goal.loop-number-preserved
loop-number-preserved c = record {
  nearest = one_more (nearest_mode c.args.tree.now) c.loop-number.number c.loop-number.nearest.items _ c.nearest_mode-here.result c.loop-number.invariant.nearest (grind (arith, common_steps)) c.in_ok-push.ensures.items;
  modes = one_more (given_mode c.args.tree.now c.args.settings.now) c.loop-number.number c.loop-number.modes.items _ c.given_mode.result c.loop-number.invariant.modes (grind (arith, common_steps)) c.in_ok-push-2.ensures.items;
}

pub returns-clause-one_each : goal.returns-clause-one_each
returns-clause-one_each c = one_each c.args.tree.now c.args.settings.now c.loop-number.modes.items (grind (arith, common_steps))

pub returns-clause-right : goal.returns-clause-right
returns-clause-right c = right c.args.tree.now c.args.settings.now c.len-number-end.ensures.tree c.loop-number.modes.items (grind (arith, common_steps))

pub returns-clause-off : goal.returns-clause-off
returns-clause-off c = all_same_thread c.args.tree.now c.args.settings.now c.loop-number.modes.items (grind (arith, common_steps))

pub returns-clause-own : goal.returns-clause-own
returns-clause-own c = own_mode c.args.tree.now c.args.settings.now c.len-number-end.ensures.tree c.loop-number.modes.items (grind (arith, common_steps))

pub returns-clause-engines : goal.returns-clause-engines
returns-clause-engines c = engines_same c.args.tree.now c.args.settings.now c.len-number-end.ensures.tree c.loop-number.modes.items (grind (arith, common_steps))
