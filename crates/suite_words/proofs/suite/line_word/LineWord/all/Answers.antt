-- Each one is listed.
use Rattle.suite_words.proofs.Grammar.{each_line_word}
use Rattle.suite_words.proofs.suite.line_word.LineWord.all.Goals as goal

pub returns-clause-every : goal.returns-clause-every
returns-clause-every c = each_line_word
