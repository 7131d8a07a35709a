-- A text that may be written for a suite is read as that suite, and none is read as want of memory.
use Rattle.suite_text.proofs.Reading.Kinds.{suite_kinds, suite_bodies}
use Rattle.suite_text.proofs.Reading.Never.{never_no_memory}
use Rattle.suite_text.specs.Suites.{suite_of}
use Rattle.suite_text.proofs.Reading.Spares.{suite_bare, given_bare}
use Rattle.suite_text.proofs.Writing.Read.{given_written}
use Rattle.suite_text.proofs.Writing.Suites as written
use Rattle.suite_text.proofs.suite.Suite.parse.Goals as goal

pub returns-clause-reads_back : goal.returns-clause-reads_back
returns-clause-reads_back c = written.reads_back c.args.most _ c.args.text.now c.suite_in.ensures.exact

pub returns-clause-written : goal.returns-clause-written
returns-clause-written c = given_written c.args.most c.args.text.now _ c.suite_in.ensures.exact c.suite_in.ensures.tree c.suite_in.ensures.few

pub returns-clause-never : goal.returns-clause-never
returns-clause-never c = never_no_memory c.args.most c.args.text.now

pub returns-clause-kinds : goal.returns-clause-kinds
returns-clause-kinds c = suite_kinds c.args.most c.args.text.now _ c.suite_in.ensures.exact

pub returns-clause-bodies : goal.returns-clause-bodies
returns-clause-bodies c = suite_bodies c.args.most c.args.text.now _ c.suite_in.ensures.exact

pub returns-clause-bare : goal.returns-clause-bare
returns-clause-bare c = given_bare _ (suite_of c.args.most c.args.text.now) c.suite_in.ensures.exact (suite_bare c.args.most c.args.text.now)
