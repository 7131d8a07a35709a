-- Arguments that are written by the grammar are those that are read.
use Rattle.std.proofs.Common.{◌∙◌}
use Rattle.word_files.proofs.Only.{maybe_written}
use Rattle.word_files.proofs.Texts.{if_read}
use Rattle.word_files.proofs.Written.{written_in}
use Rattle.word_files.specs.Reading.{texts_in}
use Rattle.word_files.proofs.reading.words_in.Goals as goal

pub returns-clause-written : goal.returns-clause-written
returns-clause-written c = if_read c.read_words.result c.read_words.ensures (λ words is items end are ends same. is ∙ written_in c.args.text.now items end are ends same)

pub returns-clause-only : goal.returns-clause-only
returns-clause-only c = if_read c.read_words.result c.read_words.ensures (λ words is. maybe_written c.args.text.now (texts_in words) is)
