-- The arguments of the request and of the system make the tables of their sources.
use Rattle.std.proofs.Common.{List, Bor, ap, refl, ◌++◌}
use Rattle.launch_options.specs.Given.{Text, behind}
use Rattle.launch_options.specs.Parameters.{pairs_in}
use Rattle.launch_options.specs.Workers.{words_for}
use Rattle.launch_options.proofs.Pairing.{both_added}
use Rattle.launch_options.proofs.parameters.add_given.Goals as goal

pub returns : goal.returns
returns c =
    let pairs = λ (texts : List (Bor Text)). pairs_in (behind texts) in
    let request = pairs_in (behind c.args.given.now.config.items ++ words_for c.args.workers) in
    record {
      said =
          both_added c.add_pairs.result c.args.params.now _ c.add_pairs.new.params request request _ _ refl (ap pairs c.as_slice.ensures.value) c.requires.none c.in_ok-add_request.ensures.said c.add_pairs.ensures.said;
    }
