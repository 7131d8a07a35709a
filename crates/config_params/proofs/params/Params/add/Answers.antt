use Rattle.config_params.proofs.Laws.{seen_if_ok, others_if_ok}
use Rattle.config_params.proofs.params.Params.add.Goals as goal

pub returns-clause-seen : goal.returns-clause-seen
returns-clause-seen c = seen_if_ok c.args.self.now c.put.new.self c.args.source c.args.key.now c.args.value.now c.put.result c.put.ensures.ok

pub returns-clause-others : goal.returns-clause-others
returns-clause-others c = others_if_ok c.args.self.now c.put.new.self c.args.source c.args.key.now c.args.value.now c.put.result c.put.ensures.ok
