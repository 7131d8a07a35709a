-- The long arguments ask for the same, and so does `--max-fail` with one failure.
use Rattle.launch_options.specs.Asked.{asked_by}
use Rattle.launch_options.specs.Given.{values_of}
use Rattle.launch_options.proofs.LongWords.{in_other_words}
use Rattle.launch_options.proofs.OneFailure.{in_a_number}
use Rattle.launch_options.proofs.asked.Options.of.Goals as goal

pub returns-clause-workers : goal.returns-clause-workers
returns-clause-workers c = λ number is. in_other_words (values_of c.args.given.now) (asked_by c.in_ok-options_of.field-0) c.in_ok-options_of.ensures.asked number is

pub returns-clause-fail_fast : goal.returns-clause-fail_fast
returns-clause-fail_fast c = λ one is so.
    in_a_number (values_of c.args.given.now) (asked_by c.in_ok-options_of.field-0) c.in_ok-options_of.ensures.asked c.in_ok-tolerated.ensures.accepted one is so
