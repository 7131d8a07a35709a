-- The three arguments are those that the number stands for.
use Rattle.std.proofs.Common.{◌≡◌, ap, ◌∙◌, sym, List, OnOk, fold, subst, arith, codes, ◌++◌, string_bytes}
use Rattle.std.proofs.lemmas.Grind.{common_steps}
use Rattle.std.specs.Fmt.{decimal}
use Rattle.config_params.specs.Pairs.{Pair}
use Rattle.config_params.specs.Parameters.{Parameters, with_value}
use Rattle.config_params.specs.declared.source.Source.TheVariants.{Request}
use Rattle.launch_options.specs.Given.{Text, behind}
use Rattle.launch_options.specs.Parameters.{pairs_in}
use Rattle.launch_options.specs.Workers.{long_words, words_for}
use Rattle.launch_options.proofs.workers.add_workers.Goals as goal

pub returns : goal.returns
returns c =
    let last : string_bytes c.in_ok-has_workers.has_workers ≡ codes "junit.jupiter.execution.parallel.config.fixed.parallelism=" ++ decimal c.in-Some.number = grind (arith, common_steps) in
    let words : behind c.as_slice.result.now ≡ long_words c.in-Some.number = grind (arith, common_steps) in
    subst (λ (all : List Text). OnOk c.add_pairs.result (c.add_pairs.new.params ≡ fold (λ (said : Parameters) (pair : Pair). with_value said Request pair) c.args.params.now (pairs_in all))) (words ∙ sym (ap words_for c.in-Some.is)) c.add_pairs.ensures.said
