-- Each one is listed.
use Rattle.suite_words.proofs.Grammar.{each_verdict}
use Rattle.suite_words.proofs.suite.verdicts.Verdict.all.Goals as goal

pub returns-clause-every : goal.returns-clause-every
returns-clause-every c = each_verdict
