-- A value that ends in neither mode is a key as a whole.
use Rattle.suite_words.proofs.Reading.Locks.{plain_is}
use Rattle.suite_words.proofs.suite.locks.key_and_mode.Goals as goal

pub returns-in-None : goal.returns-in-None
returns-in-None c = plain_is c.args.value.now c.in_default.ensures.cases c.in-None.ensures.cases
