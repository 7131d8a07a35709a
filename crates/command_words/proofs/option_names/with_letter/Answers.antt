-- The letter stands in place of any other.
use Rattle.command_words.specs.Commands.{rule_by}
use Rattle.command_words.proofs.Growing.{lettered_again}
use Rattle.command_words.proofs.option_names.with_letter.Goals as goal

pub returns : goal.returns
returns c = lettered_again c.args.letter c.args.told.letter (rule_by c.args.told.name.now c.args.told.form)
