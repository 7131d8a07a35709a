-- The arguments of `--workers` come behind those of `--config`.
use Rattle.std.proofs.Common.{ap}
use Rattle.launch_options.specs.Given.{behind}
use Rattle.launch_options.specs.Workers.{words_for}
use Rattle.launch_options.proofs.Pairing.{more_added}
use Rattle.launch_options.proofs.parameters.add_request.Goals as goal

pub returns : goal.returns
returns c =
    record {
      said =
          more_added c.add_workers.result c.args.params.now _ c.add_workers.new.params _ _ (words_for c.args.workers) (ap behind c.as_slice.ensures.value) c.in_ok-add_pairs.ensures.said c.add_workers.ensures;
    }
