-- Bytes that may be written for a suite are read as that suite, and no spare of what is read declares a lock.
use Rattle.suite_text.specs.Reading.Bytes.{suite_read}
use Rattle.suite_text.proofs.Reading.Spares.{bytes_bare, given_bare}
use Rattle.suite_text.proofs.Writing.Read.{given_bytes_written}
use Rattle.suite_text.proofs.Writing.Suites.{reads_bytes_back}
use Rattle.suite_text.proofs.suite.Suite.read.Goals as goal

pub returns-clause-reads_back : goal.returns-clause-reads_back
returns-clause-reads_back c = reads_bytes_back c.args.most _ c.args.bytes.now c.suite_of_bytes.ensures.exact

pub returns-clause-written : goal.returns-clause-written
returns-clause-written c = given_bytes_written c.args.most c.args.bytes.now _ c.suite_of_bytes.ensures.exact c.suite_of_bytes.ensures.tree c.suite_of_bytes.ensures.few

pub returns-clause-bare : goal.returns-clause-bare
returns-clause-bare c = given_bare _ (suite_read c.args.most c.args.bytes.now) c.suite_of_bytes.ensures.exact (bytes_bare c.args.most c.args.bytes.now)
