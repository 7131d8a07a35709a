-- Each one is listed.
use Rattle.suite_words.proofs.Grammar.{each_attribute}
use Rattle.suite_words.proofs.suite.attributes.Attribute.all.Goals as goal

pub returns-clause-every : goal.returns-clause-every
returns-clause-every c = each_attribute
